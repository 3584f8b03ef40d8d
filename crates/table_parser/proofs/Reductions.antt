-- Reductions on a machine's stack.
use Rattle.std.proofs.Common.{◌≡◌, ◌↔◌, ⊎_elim, ℕ, ◌+◌, ◌-◌, ◌<◌, ◌≤◌, Bool, true, List, [], ◌∷◌, ◌++◌, length, take, drop, reverse, get_or, slice_get, Some, None, sym, ap, ap₂, subst, ◌∙◌, arith}
use Rattle.std.proofs.lemmas.Bool.{cases_lt}
use Rattle.std.proofs.lemmas.List.{length-map, length-reverse}
use Rattle.std.proofs.Math.ListN.{length-drop}
use Rattle.lalrpop_base.specs.Words.{Configuration, Contents, Ends, Goes, ReduceBy, action_on, goes_on, move, next_token, received, reduced}
use Rattle.lalrpop_grammar.specs.declared.repr.Production.{Production}
use Rattle.lalrpop_grammar.specs.declared.repr.TerminalString.{TerminalString}
use Rattle.table_parser.specs.Events.{Event, Reduced, starts, width}
use Rattle.table_parser.specs.Machines.{IsAt, numbers_below, starts_below}
use Rattle.table_parser.specs.Steps.{IsFinal, IsStep, reduces}
use Rattle.table_parser.specs.declared.machine.Machine.{Machine}
use Rattle.table_parser.proofs.Moves.{reduction_moves}
use Rattle.table_parser.proofs.Stacks.{left, pushed}
use Rattle.table_parser.proofs.Widths.{drop_past, length_starts, starts_below_of, width_reduced}

abbrev head_or : List ℕ → ℕ
head_or [] = 0
head_or (n ∷ ns) = n

abbrev tail_of : List ℕ → List ℕ
tail_of [] = []
tail_of (n ∷ ns) = ns

module _ (states : ℕ → Contents) (m : Machine) (c : Configuration) (p : Production) (at : IsAt m c) (acts : action_on (states c.state) (next_token c.rest) ≡ Some (ReduceBy p)) (rest : ℕ) (is : rest ≡ length m.below.items - length p.symbols) where
  -- the entry that the reduction uncovers
  abbrev pub uncovered : ℕ × ℕ
  uncovered = get_or m.below.items rest (m.state, m.position)

  within : rest ≤ length m.below.items
  within = omega (arith, is)

  trees_counted : length c.trees ≡ length m.below.items
  trees_counted = sym (length_starts c.trees) ∙ ap length (sym at.starts) ∙ length-map (reverse m.below.items) (λ (e : ℕ × ℕ). e.1) ∙ length-reverse m.below.items

  below_counted : length c.below ≡ length m.below.items
  below_counted = ap length (sym at.below) ∙ length-map (reverse m.below.items) (λ (e : ℕ × ℕ). e.0) ∙ length-reverse m.below.items

  -- as many trees are taken as there are
  same_left : drop (length m.below.items - rest) c.trees ≡ drop (length p.symbols) c.trees
  same_left = ⊎_elim
      (λ few. let k : length m.below.items - rest ≡ length p.symbols = omega (arith, is, few) in ap (λ n. drop n c.trees) k)
      (λ many.
      drop_past (length m.below.items - rest) c.trees (omega (arith, trees_counted, is, many))
      ∙ sym (drop_past (length p.symbols) c.trees (omega (arith, trees_counted, many))))
      (cases_lt (length p.symbols) (length m.below.items + 1))

  starts_left : width (drop (length p.symbols) c.trees) ∷ starts (drop (length p.symbols) c.trees) ≡ uncovered.1 ∷ starts_below (take rest m.below.items)
  starts_left =
      let k = length m.below.items - rest in
      ap (λ ts. width ts ∷ starts ts) (sym same_left)
      ∙ sym (starts_below_of k c.trees (omega (arith, trees_counted)))
      ∙ ap₂ (λ n ns. drop k (n ∷ ns)) (sym at.position) (sym at.starts)
      ∙ left (λ (e : ℕ × ℕ). e.1) m.below.items (m.state, m.position) rest within

  -- the position at which the node begins
  pub first_is : uncovered.1 ≡ width (drop (length p.symbols) c.trees)
  first_is = ap head_or (sym starts_left)

  starts_are : starts_below (take rest m.below.items) ≡ starts (drop (length p.symbols) c.trees)
  starts_are = ap tail_of (sym starts_left)

  -- the move is the reduction
  moves : move states c ≡ received states p (drop (length p.symbols) (c.state ∷ c.below)) (reduced p c.trees) c.rest
  moves = reduction_moves states c c.rest p acts

  numbers_left : length p.symbols ≤ length m.below.items → drop (length p.symbols) (c.state ∷ c.below) ≡ uncovered.0 ∷ numbers_below (take rest m.below.items)
  numbers_left few =
      let k : length p.symbols ≡ length m.below.items - rest = omega (arith, is, few) in
      ap₂ (λ n ns. drop (length p.symbols) (n ∷ ns)) (sym at.state) (sym at.below)
      ∙ ap (λ n. drop n (m.state ∷ numbers_below m.below.items)) k
      ∙ left (λ (e : ℕ × ℕ). e.0) m.below.items (m.state, m.position) rest within

  -- the configuration after a reduction with a goto
  abbrev pub after : ℕ → Configuration
  after target = record { state = target; below = uncovered.0 ∷ numbers_below (take rest m.below.items); trees = reduced p c.trees; rest = c.rest }

  pub goes : length p.symbols ≤ length m.below.items → (target : ℕ) → (states uncovered.0).goto p.nonterminal ≡ Some target → move states c ≡ Goes (after target)
  goes few target goto =
      moves ∙ ap (λ ns. received states p ns (reduced p c.trees) c.rest) (numbers_left few)
      ∙ ap (λ o. goes_on o uncovered.0 (numbers_below (take rest m.below.items)) (reduced p c.trees) c.rest) goto

  pub ends_without : length p.symbols ≤ length m.below.items → (states uncovered.0).goto p.nonterminal ≡ None → move states c ≡ Ends (reduced p c.trees)
  ends_without few goto =
      moves ∙ ap (λ ns. received states p ns (reduced p c.trees) c.rest) (numbers_left few)
      ∙ ap (λ o. goes_on o uncovered.0 (numbers_below (take rest m.below.items)) (reduced p c.trees) c.rest) goto

  pub ends_below : length m.below.items < length p.symbols → move states c ≡ Ends (reduced p c.trees)
  ends_below many =
      moves ∙ ap (λ ns. received states p ns (reduced p c.trees) c.rest)
      (drop_past (length p.symbols) (c.state ∷ c.below) (omega (arith, below_counted, many)))

  -- a machine with the entry on its stack, in the target
  pub at_after : (new : Machine) (target : ℕ) → new.state ≡ target → new.position ≡ m.position → new.below.items ≡ take rest m.below.items ++ uncovered ∷ [] → IsAt new (after target)
  at_after new target state position below = record {
    state = state;
    below = ap numbers_below below ∙ pushed (λ (e : ℕ × ℕ). e.0) (take rest m.below.items) uncovered;
    starts = ap starts_below below ∙ pushed (λ (e : ℕ × ℕ). e.1) (take rest m.below.items) uncovered ∙ ap₂ (λ n ns. n ∷ ns) first_is starts_are;
    position = position ∙ at.position ∙ sym (width_reduced p c.trees);
  }

  -- one tree is left exactly if nothing is below it
  pub is_alone : (alone : Bool) → (alone ≡ true) ↔ (rest ≡ 0) → (alone ≡ true) ↔ (length (reduced p c.trees) ≡ 1)
  is_alone alone both = (
    λ e. let none = both.0 e in let k = length-drop (length p.symbols) c.trees in omega (arith, none, k, is, trees_counted),
    λ one. let k = length-drop (length p.symbols) c.trees in both.1 (omega (arith, one, k, is, trees_counted)),
  )

  module _ {H : Type 0} (takes : H → Event → H → Type 0) (h i : H) (number len : ℕ) (entry : ℕ × ℕ) (long : len ≡ length p.symbols) (covers : entry ≡ uncovered) (taken : takes h (Reduced number len entry.1 m.position) i) where
    -- what the handler took is the event of the step
    event_taken : takes h (Reduced number (length p.symbols) (width (drop (length p.symbols) c.trees)) (width c.trees)) i
    event_taken = subst (λ (e : Event). takes h e i)
        (ap (λ n. Reduced number n entry.1 m.position) long
        ∙ ap (λ (e : ℕ × ℕ). Reduced number (length p.symbols) e.1 m.position) covers
        ∙ ap₂ (λ first end. Reduced number (length p.symbols) first end) first_is at.position)
        taken

    module _ (terminals : List TerminalString) (productions : List Production) (listed : slice_get productions number ≡ Some p) where
      pub final : move states c ≡ Ends (reduced p c.trees) → IsFinal terminals productions states takes c (reduced p c.trees) h i
      final e = record {
        event = Reduced number (length p.symbols) (width (drop (length p.symbols) c.trees)) (width c.trees);
        is = reduces p number acts listed;
        ends = e;
        taken = event_taken;
      }

      pub step : (d : Configuration) → move states c ≡ Goes d → IsStep terminals productions states takes c d h i
      step d e = record {
        event = Reduced number (length p.symbols) (width (drop (length p.symbols) c.trees)) (width c.trees);
        is = reduces p number acts listed;
        moves = e;
        taken = event_taken;
      }
