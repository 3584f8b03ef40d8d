-- A turn by the numbers of tables is a move of the configuration.
use Rattle.std.proofs.Common.{◌≡◌, ℕ, suc, ◌-◌, ◌<◌, ◌≤◌, ◌==◌, Bool, true, false, cond, List, [], ◌∷◌, ◌++◌, length, take, drop, reverse, get_or, slice_get, slice_index, Option, None, Some, option_map, refl, sym, ◌∙◌, ap, subst, arith, eqb-true}
use Rattle.std.proofs.lemmas.Bool.{eqb-false}
use Rattle.std.proofs.lemmas.List.{get_or-reverse, get_or-take, length-drop, length-reverse, length-take-le}
use Rattle.std.proofs.lemmas.Option.{slice_get-get_or}
use Rattle.std.proofs.Math.ListN.{drop_of_length-le}
use Rattle.lalrpop_base.specs.Words.{CanStandNext, Configuration, Contents, Ends, Goes, IsBitOf, Node, ReduceBy, Stands, Tree, action_on, goes_on, move, next_token, received, reduced, reduces, trees_of}
use Rattle.lalrpop_grammar.specs.declared.repr.Production.{Production}
use Rattle.lalrpop_grammar.specs.declared.repr.TerminalString.{TerminalString}
use Rattle.lalrpop_parser.proofs.theory.runs.Popping.{reverse_more, without}
use Rattle.parse_calls.specs.Lookups.{action_at, goto_at, side_at}
use Rattle.parse_calls.specs.Turns.{action_turn, goto_turn, rest_turn, side_turn, top_turn, turn_at}
use Rattle.parse_calls.specs.declared.lookups.Found.{Found}
use Rattle.parse_calls.specs.declared.lookups.Found.TheVariants.{Fault, Nothing, Reduce, Shift}
use Rattle.parse_calls.specs.declared.lookups.Target.{Target}
use Rattle.parse_calls.specs.declared.lookups.Target.TheVariants.{Fault as NoTarget, Nothing as NoGoto, State}
use Rattle.parse_calls.specs.declared.turns.Turn.{Turn}
use Rattle.parse_calls.specs.declared.turns.Turn.TheVariants.{Ends as EndsRun, Faulty, Reduces, Shifts, Stuck}
use Rattle.table_numbers.specs.Words.{Lists, numbered_contents, numbers_of}
use Rattle.table_numbers.specs.declared.tables.NumberedTables.{NumberedTables}
use Rattle.table_parser.proofs.Moves.{none_stands, reduction_moves, shift_moves, shifted}
use Rattle.parse_call_laws.proofs.Found.{no_side_at, same_action, same_goto, same_side}
use Rattle.parse_call_laws.specs.Laws.{AreTableNumbers, entry_by, state_by}

-- the stack of a run is that of a configuration, over which there is a tree for each state but the
-- first
pub record IsAt (stack : List ℕ) (c : Configuration) : Type 0 where
  pub states : reverse stack ≡ c.state ∷ c.below
  pub trees : length c.trees ≡ length c.below

-- the move of a configuration is a turn
abbrev pub IsMove : (ℕ → Contents) → List ℕ → Configuration → Turn → Type 0
IsMove states stack c Faulty = Unit {0}
IsMove states stack c Stuck = move states c ≡ Stands
IsMove states stack c (Shifts target) = (x : TerminalString) × (rest : List TerminalString) × (c.rest ≡ x ∷ rest) × (move states c ≡ Goes (shifted c target x rest))
IsMove states stack c (Reduces production rest target) = (d : Configuration) × (move states c ≡ Goes d) × IsAt (take rest stack ++ target ∷ []) d × (d.rest ≡ c.rest)
IsMove states stack c (EndsRun production alone) = (trees : List Tree) × (move states c ≡ Ends trees) × ((alone ≡ true) → (t : Tree) × (trees ≡ t ∷ [])) × ((alone ≡ false) → (t : Tree) → trees ≡ t ∷ [] → ⊥)

-- the token after the tokens that were read can be next
can_be_next : (rest : List TerminalString) → CanStandNext (next_token rest)
can_be_next [] = tt
can_be_next (x ∷ rest) = tt

-- the newest element of a list
pub newest : (stack below : List ℕ) (s : ℕ) → reverse stack ≡ s ∷ below → (0 < length stack) × (get_or stack (length stack - 1) 0 ≡ s)
newest stack below s e =
    let long : length stack ≡ suc (length below) = sym (length-reverse stack) ∙ ap length e in
    let some : 0 < length stack = omega (arith, long) in
    let place : length stack - 1 - 0 ≡ length stack - 1 = omega arith in
    (some, ap (λ k. get_or stack k 0) (sym place) ∙ sym (get_or-reverse stack 0 0 some) ∙ ap (λ (l : List ℕ). get_or l 0 0) e)

-- the first of a list that is not empty
parts : (l : List ℕ) → 0 < length l → (s : ℕ) × (below : List ℕ) × (l ≡ s ∷ below)
parts [] e = absurd (omega (arith, e))
parts (s ∷ below) e = (s, below, refl)

-- one tree alone is left by a reduction exactly if none is below its node
one_alone : (p : Production) (trees : List Tree) → length trees ≤ length p.symbols → (t : Tree) × (reduced p trees ≡ t ∷ [])
one_alone p trees few =
    let node = Node p.nonterminal (trees_of (reverse (take (length p.symbols) trees))) in
    (node, ap (λ (l : List Tree). node ∷ l) (drop_of_length-le trees few))

no_other : (p : Production) (trees : List Tree) (t : Tree) → length p.symbols < length trees → reduced p trees ≡ t ∷ [] → ⊥
no_other p trees t many e =
    let left = length-drop (length p.symbols) trees in
    let one : suc (length (drop (length p.symbols) trees)) ≡ 1 = ap length e in
    omega (arith, left, one, many)

module _ (lists : Lists) (t : NumberedTables) (is : AreTableNumbers lists t (numbers_of t)) (stack : List ℕ) (c : Configuration) (at : IsAt stack c) where
  abbrev states : ℕ → Contents
  states = numbered_contents lists t

  abbrev numbers : List ℕ
  numbers = numbers_of t

  long : length stack ≡ suc (length c.below)
  long = sym (length-reverse stack) ∙ ap length at.states

  module _ (p : Production) (number name : ℕ) (here : slice_get lists.nonterminals name ≡ Some p.nonterminal) (moves : move states c ≡ reduces states c (Some p)) where
    abbrev len : ℕ
    len = length p.symbols

    abbrev rest : ℕ
    rest = length stack - len

    -- the stack that a reduction leaves
    kept : drop len (c.state ∷ c.below) ≡ drop len (reverse stack)
    kept = ap (drop len) (sym at.states)

    -- a reduction that takes all states is final
    empty : length stack ≤ len → IsMove states stack c (EndsRun number true)
    empty few =
        let none : drop len (c.state ∷ c.below) ≡ [] = kept ∙ drop_of_length-le (reverse stack) (let turned = length-reverse stack in let l : length (reverse stack) ≤ len = omega (arith, few, turned) in l) in
        (reduced p c.trees, moves ∙ ap (λ (l : List ℕ). received states p l (reduced p c.trees) c.rest) none, (λ e. one_alone p c.trees (let many = at.trees in let l = long in omega (arith, many, l, few))), (λ e. cc))

    module _ (some : len < length stack) where
      abbrev left : List ℕ
      left = take rest stack

      within : rest ≤ length stack
      within = omega arith

      length-left : length left ≡ rest
      length-left = length-take-le rest stack within

      turned : drop len (c.state ∷ c.below) ≡ reverse left
      turned =
          let few : len ≤ length stack = omega (arith, some) in
          kept ∙ without len stack few

      first : (s : ℕ) × (below : List ℕ) × (reverse left ≡ s ∷ below)
      first = parts (reverse left) (let e = length-reverse left in let l = length-left in omega (arith, e, l, some))

      abbrev s : ℕ
      s = first.0

      abbrev below : List ℕ
      below = first.1

      -- the state on top of what is left
      top : slice_index stack (rest - 1) ≡ s
      top =
          let there = newest left below s first.2 in
          let l = length-left in
          let one : rest - 1 < rest = omega (arith, some) in
          sym (get_or-take rest stack (rest - 1) 0 one) ∙ ap (λ k. get_or left (k - 1) 0) (sym l) ∙ there.1

      goes : move states c ≡ goes_on ((states s).goto p.nonterminal) s below (reduced p c.trees) c.rest
      goes = moves ∙ ap (λ (l : List ℕ). received states p l (reduced p c.trees) c.rest) (turned ∙ first.2)

      -- by the goto of that state
      by_goto : (g : Target) → state_by g ≡ (states s).goto p.nonterminal → IsMove states stack c (goto_turn number rest g)
      by_goto NoTarget e = tt
      by_goto NoGoto e = (
        reduced p c.trees,
        goes ∙ ap (λ o. goes_on o s below (reduced p c.trees) c.rest) (sym e),
        (λ one. let r = eqb-true rest 1 one in one_alone p c.trees (let many = at.trees in let l = long in omega (arith, many, l, r))),
        (λ several u. no_other p c.trees u (let r = eqb-false rest 1 several in let many = at.trees in let l = long in omega (arith, many, l, r, some))),
      )
      by_goto (State target) e = (
        record { state = target; below = s ∷ below; trees = reduced p c.trees; rest = c.rest },
        goes ∙ ap (λ o. goes_on o s below (reduced p c.trees) c.rest) (sym e),
        record { states = reverse_more left target ∙ ap (λ (l : List ℕ). target ∷ l) first.2; trees = counted },
        refl,
      )
        where
          counted : length (reduced p c.trees) ≡ length (s ∷ below)
          counted =
              let cut = length-drop len c.trees in
              let many = at.trees in
              let l = long in
              let back : suc (length below) ≡ length (reverse left) = sym (ap length first.2) in
              let e = length-reverse left in
              let k = length-left in
              omega (arith, cut, many, l, back, e, k, some)

    -- the turn by what a reduction leaves
    by_rest : IsMove states stack c (rest_turn numbers stack number name rest)
    by_rest = by (rest == 0) refl
      where
        by : (b : Bool) → (rest == 0) ≡ b → IsMove states stack c (cond b (EndsRun number true) (goto_turn number rest (goto_at numbers (slice_index stack (rest - 1)) name)))
        by true e = empty (let none = eqb-true rest 0 e in omega (arith, none))
        by false e =
            let some : len < length stack = let r = eqb-false rest 0 e in omega (arith, r) in
            subst (λ k. IsMove states stack c (goto_turn number rest (goto_at numbers k name))) (sym (top some))
            (by_goto some (goto_at numbers (s some) name) (same_goto lists t is.about is.nonterminals (s some) name p.nonterminal here))

  module _ (bit : ℕ) (next : IsBitOf lists.terminals (next_token c.rest) bit) where
    acts : entry_by lists.productions (action_at numbers c.state bit) ≡ action_on (states c.state) (next_token c.rest)
    acts = same_action lists t is.about bit is.terminals (next_token c.rest) (can_be_next c.rest) next c.state

    -- the turn by the action of the state on top
    by_action : (a : Found) → entry_by lists.productions a ≡ action_on (states c.state) (next_token c.rest) → IsMove states stack c (action_turn numbers stack a)
    by_action Fault e = tt
    by_action Nothing e = none_stands states c c.rest (sym e)
    by_action (Shift target) e =
        let made = shift_moves states c c.rest target (sym e) in
        (made.terminal, made.after, made.next, made.moves)
    by_action (Reduce number) e = by (slice_get lists.productions number) refl
      where
        by : (o : Option Production) → slice_get lists.productions number ≡ o → IsMove states stack c (side_turn numbers stack number (side_at numbers number))
        by None f = subst (λ o. IsMove states stack c (side_turn numbers stack number o)) (sym (no_side_at lists t is.about number f)) tt
        by (Some p) f =
            let side = same_side lists t is.about is.nonterminals number p f in
            let by_p : action_on (states c.state) (next_token c.rest) ≡ Some (ReduceBy p) = sym e ∙ ap (option_map ReduceBy) f in
            subst (λ o. IsMove states stack c (side_turn numbers stack number o)) (sym side.2)
            (subst (λ k. IsMove states stack c (rest_turn numbers stack number side.0 (length stack - k))) (sym side.4)
            (by_rest p number side.0 side.3 (reduction_moves states c c.rest p by_p)))

    -- the turn on a token
    pub is_move : IsMove states stack c (turn_at numbers stack bit)
    is_move =
        let there = newest stack c.below c.state at.states in
        let one : length stack - 1 < length stack = let some = there.0 in omega (arith, some) in
        let here : slice_get stack (length stack - 1) ≡ Some c.state = slice_get-get_or stack (length stack - 1) 0 one ∙ ap (λ (k : ℕ). Some k) there.1 in
        subst (λ o. IsMove states stack c (top_turn numbers stack bit o)) (sym here) (by_action (action_at numbers c.state bit) acts)
