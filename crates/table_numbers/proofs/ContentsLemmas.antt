-- The contents of states by number are those of the states of the code.
use Rattle.std.proofs.Common.{◌≡◌, ⊎_elim, ℕ, Bool, true, false, cond, List, [], ◌∷◌, length, map, slice_get, Option, None, Some, option_map, refl, sym, ◌∙◌, ap, subst, arith}
use Rattle.std.proofs.Math.Path.{fun_ext}
use Rattle.std.specs.Borrow.{Bor}
use Rattle.std.specs.BTreeMap.{BTreeMap, get, is_at}
use Rattle.std.specs.List.{cons_option, filter_map}
use Rattle.std.specs.Map.{lookup}
use Rattle.std.specs.declared.cmp.Ordering.{Ordering}
use Rattle.std.proofs.lemmas.Option.{slice_get_cases, slice_get-map, slice_get_within}
use Rattle.lalrpop_base.specs.Words.{Bits, Contents, bits_of, contents_at, has-bits_of, has-rising, holds_token, name_cmp, number_of, reduction_of, rising, same_bits}
use Rattle.lalrpop_grammar.specs.states.States.{Reduction}
use Rattle.lalrpop_grammar.specs.contracts.repr.TerminalStringOrd.TheImpl as terminal_ord
use Rattle.lalrpop_grammar.specs.declared.repr.NonterminalString.{NonterminalString}
use Rattle.lalrpop_grammar.specs.declared.repr.Production.{Production}
use Rattle.lalrpop_grammar.specs.declared.repr.TerminalString.{TerminalString}
use Rattle.lalrpop_states.specs.declared.lr1_core.state.State.{State}
use Rattle.lalrpop_states.specs.declared.lr1_core.state.StateIndex.{StateIndex}
use Rattle.table_numbers.specs.Contents.{contents_if, numbered_reduction, reduction_on_set, state_contents, target_at}
use Rattle.table_numbers.specs.Lists.{Lists, named}
use Rattle.table_numbers.specs.Made.{AreMade, HasTargets, IsMade}
use Rattle.table_numbers.specs.Numbered.{AreNumbered, IsNumbered, named_target, reduction_at, reduction_parts}
use Rattle.table_numbers.specs.Numbers.{with_items}
use Rattle.table_numbers.specs.declared.tables.NumberedState.{NumberedState}

choose : (b : Bool) (x : StateIndex) (o : Option ℕ) (q : Option StateIndex) → o ≡ option_map number_of q → cond b (Some (number_of x)) o ≡ option_map number_of (cond b (Some x) q)
choose true x o q e = refl
choose false x o q e = e

-- the target of a name is the one at its entry
target_entries : {A : Type 0} (test : A → Bool) (es : List (A × StateIndex)) → target_at test (map named_target es) ≡ option_map number_of (lookup test es)
target_entries test [] = refl
target_entries test (e ∷ es) = choose (test e.0) e.1 _ _ (target_entries test es)

-- a map has the targets of its entries
has_entries : {K : Type 0} (cmp : K → K → Ordering) (m : BTreeMap K StateIndex) (pairs : List (Option K × ℕ)) → pairs ≡ map named_target m.entries → HasTargets cmp m pairs
has_entries cmp m pairs e q = sym (ap (target_at (is_at (cmp q))) e ∙ target_entries (is_at (cmp q)) m.entries)

-- the set of the tokens of a set is the set
set_of_rising : (s : Bits) → bits_of (rising s) ≡ s
set_of_rising s = same_bits _ _ (λ q. has-bits_of (rising s) q ∙ sym (has-rising s q))

-- so it is with each set of a list
pub sets_of_rising : (sets : List Bits) → map bits_of (map rising sets) ≡ sets
sets_of_rising [] = refl
sets_of_rising (s ∷ sets) = ap (λ x. x ∷ map bits_of (map rising sets)) (set_of_rising s) ∙ ap (λ xs. s ∷ xs) (sets_of_rising sets)

-- contents with equal parts are equal
same_contents : (f g : TerminalString → Option ℕ) (h k : NonterminalString → Option ℕ) (a b : List Reduction) → f ≡ g → h ≡ k → a ≡ b →
    ◌≡◌ {A = Contents} (record { items = []; shift = f; goto = h; reductions = a }) (record { items = []; shift = g; goto = k; reductions = b })
same_contents f g h k a b first second third =
    ap (λ (x : TerminalString → Option ℕ). let c : Contents = record { items = []; shift = x; goto = h; reductions = a } in c) first
    ∙ ap (λ (x : NonterminalString → Option ℕ). let c : Contents = record { items = []; shift = g; goto = x; reductions = a } in c) second
    ∙ ap (λ (x : List Reduction). let c : Contents = record { items = []; shift = g; goto = k; reductions = x } in c) third

pub some_not_none : {A : Type 0} (x : A) → Some x ≡ None → ⊥
some_not_none x e = cc

-- a list has no value at a number at which a list of the same length has none
pub there_not : {A B : Type 0} (xs : List A) (ys : List B) (n : ℕ) (x : A) → slice_get xs n ≡ Some x → slice_get ys n ≡ None → length ys ≡ length xs → ⊥
there_not xs ys n x at none same = ⊎_elim
    (λ there. some_not_none there.0 (sym there.2 ∙ none))
    (λ past. let l = past.0 in let within = slice_get_within xs n x at in omega (arith, l, within, same))
    (slice_get_cases ys n).1

module _ (lists : Lists) (listed : List (List ℕ)) where
  one_reduction : (r : ℕ × ℕ) (q : Bits × Bor Production) → reduction_at lists.productions (map bits_of listed) r ≡ reduction_parts q → numbered_reduction lists listed r ≡ Some (reduction_of (holds_token lists.terminals) q)
  one_reduction r q e = by (slice_get listed r.1) refl
    where
      first : slice_get lists.productions r.0 ≡ Some q.1.now
      first = ap (λ (x : Option Production × Option Bits). x.0) e

      there : option_map bits_of (slice_get listed r.1) ≡ Some q.0
      there = sym (slice_get-map bits_of listed r.1) ∙ ap (λ (x : Option Production × Option Bits). x.1) e

      by : (o : Option (List ℕ)) → slice_get listed r.1 ≡ o → numbered_reduction lists listed r ≡ Some (reduction_of (holds_token lists.terminals) q)
      by None f = absurd (some_not_none q.0 (sym there ∙ ap (option_map bits_of) f))
      by (Some tokens) f =
          let held : Some (bits_of tokens) ≡ Some q.0 = sym (ap (option_map bits_of) f) ∙ there in
          let same : bits_of tokens ≡ q.0 = cc in
          ap (λ o. reduction_on_set lists.terminals o (slice_get listed r.1)) first
          ∙ ap (reduction_on_set lists.terminals (Some q.1.now)) f
          ∙ ap (λ (b : Bits). Some (reduction_of (holds_token lists.terminals) (b, q.1))) same

  -- reductions by number are those of the code
  all_reductions : (rs : List (ℕ × ℕ)) (qs : List (Bits × Bor Production)) → map (reduction_at lists.productions (map bits_of listed)) rs ≡ map reduction_parts qs → filter_map (numbered_reduction lists listed) rs ≡ map (reduction_of (holds_token lists.terminals)) qs
  all_reductions [] [] e = refl
  all_reductions [] (q ∷ qs) e = cc
  all_reductions (r ∷ rs) [] e = cc
  all_reductions (r ∷ rs) (q ∷ qs) e =
      let first : reduction_at lists.productions (map bits_of listed) r ≡ reduction_parts q = cc in
      let others : map (reduction_at lists.productions (map bits_of listed)) rs ≡ map reduction_parts qs = cc in
      ap (λ o. cons_option o (filter_map (numbered_reduction lists listed) rs)) (one_reduction r q first)
      ∙ ap (λ xs. reduction_of (holds_token lists.terminals) q ∷ xs) (all_reductions rs qs others)

  -- targets and reductions of a state by number give its contents
  pub made_parts : (s : NumberedState) (shifts : BTreeMap TerminalString StateIndex) (gotos : BTreeMap NonterminalString StateIndex) (reductions : List (Bits × Bor Production)) → HasTargets terminal_ord.ghosts.cmp shifts (named lists.terminals s.shifts) → HasTargets name_cmp gotos (named lists.nonterminals s.gotos) →
      map (reduction_at lists.productions (map bits_of listed)) s.reductions ≡ map reduction_parts reductions →
      state_contents lists listed s ≡ record { items = []; shift = λ t. option_map number_of (get terminal_ord.ghosts.cmp shifts t); goto = λ name. option_map number_of (get name_cmp gotos name); reductions = map (reduction_of (holds_token lists.terminals)) reductions }
  made_parts s shifts gotos reductions has_shifts has_gotos same = same_contents _ _ _ _ _ _
      (fun_ext (λ (t : TerminalString). sym (has_shifts t)))
      (fun_ext (λ (name : NonterminalString). sym (has_gotos name)))
      (all_reductions s.reductions reductions same)

  -- the contents of all states
  pub all_made : (list : List NumberedState) (states : List (State Bits)) → AreMade lists listed list states → (n : ℕ) → contents_if lists listed (slice_get list n) ≡ with_items [] (contents_at (holds_token lists.terminals) (slice_get states n))
  all_made list states are n = by (slice_get states n) (slice_get list n) refl refl
    where
      by : (o : Option (State Bits)) (q : Option NumberedState) → slice_get states n ≡ o → slice_get list n ≡ q → contents_if lists listed q ≡ with_items [] (contents_at (holds_token lists.terminals) o)
      by None None e f = refl
      by None (Some s) e f = absurd (there_not list states n s f e are.counted)
      by (Some state) None e f = absurd (there_not states list n state e f (sym are.counted))
      by (Some state) (Some s) e f = are.each n state s e f

module _ (lists : Lists) (sets : List Bits) where
  numbered_state : (state : State Bits) (s : NumberedState) → IsNumbered lists sets state s → IsMade lists (map rising sets) s state
  numbered_state state s is = made_parts lists (map rising sets) s state.shifts state.gotos state.reductions.items
      (has_entries terminal_ord.ghosts.cmp state.shifts (named lists.terminals s.shifts) is.shifts)
      (has_entries name_cmp state.gotos (named lists.nonterminals s.gotos) is.gotos)
      (subst (λ (x : List Bits). map (reduction_at lists.productions x) s.reductions ≡ map reduction_parts state.reductions.items) (sym (sets_of_rising sets)) is.reductions)

  -- the contents of states by number are those of the states
  pub all_numbered : (states : List (State Bits)) (list : List NumberedState) → AreNumbered lists sets states list → (n : ℕ) → contents_if lists (map rising sets) (slice_get list n) ≡ with_items [] (contents_at (holds_token lists.terminals) (slice_get states n))
  all_numbered states list are = all_made lists (map rising sets) list states (record {
    counted = sym are.counted;
    each = λ n state s at_n at_s. numbered_state state s (are.each n state s at_n at_s);
  })
