-- The run over tokens has the outcome of the run of the states.
use Rattle.std.proofs.Common.{◌≡◌, ◌≢◌, ℕ, zero, suc, ◌+◌, ◌-◌, ◌<◌, ◌≤◌, ◌&&◌, Bool, true, false, cond, List, [], ◌∷◌, ◌++◌, length, map, take, slice_get, None, Some, refl, sym, ◌∙◌, ap, subst, arith, append_assoc, length-append, lt-ltb}
use Rattle.std.proofs.lemmas.Option.{slice_get_within}
use Rattle.lalrpop_base.specs.Words.{Configuration, Contents, Ends, Goes, HasOutcome, IsBitOf, Reaches, Refused as RefusedIn, Stands, Tree, begin, cut_off, further, here, move, next_token, other_end, parsed, stuck}
use Rattle.lalrpop_grammar.specs.declared.repr.TerminalString.{TerminalString}
use Rattle.lalrpop_parser.proofs.theory.runs.Popping.{reverse_more}
use Rattle.parse_calls.specs.Answers.{Parse, are_below, ended_by, finished_by, if_terminals, parse_answer, parse_with, stopped, top_of}
use Rattle.parse_calls.specs.Runs.{Run, after_step, events_after, halted, run, stack_after, step_of}
use Rattle.parse_calls.specs.Turns.{turn_at}
use Rattle.parse_calls.specs.declared.machine.Ending.{Ending}
use Rattle.parse_calls.specs.declared.machine.Ending.TheVariants.{AllShifted, CutOff, Faulty as FaultyEnd, Finished, Refused}
use Rattle.parse_calls.specs.declared.turns.Turn.{Turn}
use Rattle.parse_calls.specs.declared.turns.Turn.TheVariants.{Ends as EndsRun, Faulty, Reduces, Shifts, Stuck}
use Rattle.table_numbers.specs.Words.{Lists, numbered_contents, numbers_of}
use Rattle.table_numbers.specs.declared.tables.NumberedTables.{NumberedTables}
use Rattle.table_parser.specs.Words.{AreTerminals}
use Rattle.table_parser.proofs.Moves.{shifted}
use Rattle.parse_call_laws.proofs.TablePlaces.{counts, counts_right}
use Rattle.parse_call_laws.proofs.Turns.{IsAt, IsMove, is_move, newest}
use Rattle.parse_call_laws.specs.Laws.{AreTableNumbers, IsRightParse, at_fault, at_limit, at_refusal, at_tree}

-- one step more
one_more : {states : ℕ → Contents} {n : ℕ} {b c d : Configuration} → Reaches states n b c → move states c ≡ Goes d → Reaches states (suc n) b d
one_more here e = further e here
one_more (further f r) e = further f (one_more r e)

-- tokens by number are those of an input from here on, to its end
abbrev AreNext : List TerminalString → List ℕ → List TerminalString → Type 0
AreNext terminals [] rest = rest ≡ []
AreNext terminals (k ∷ ks) [] = ⊥
AreNext terminals (k ∷ ks) (x ∷ rest) = (slice_get terminals k ≡ Some x) × AreNext terminals ks rest

-- the next token has the first number
next_bit : (terminals : List TerminalString) (k : ℕ) (ks : List ℕ) (rest : List TerminalString) → AreNext terminals (k ∷ ks) rest → IsBitOf terminals (next_token rest) k
next_bit terminals k ks [] next = absurd next
next_bit terminals k ks (x ∷ rest) next = next.0

-- after a terminal the other tokens are next
others_next : (terminals : List TerminalString) (k : ℕ) (ks : List ℕ) (rest : List TerminalString) (x : TerminalString) (others : List TerminalString) → AreNext terminals (k ∷ ks) rest → rest ≡ x ∷ others → AreNext terminals ks others
others_next terminals k ks [] x others next e = absurd next
others_next terminals k ks (y ∷ rest) x others next e = let same : rest ≡ others = cc in subst (AreNext terminals ks) same next.1

-- terminals by number are next before them
named_next : (terminals : List TerminalString) (tokens : List ℕ) (w : List TerminalString) → AreTerminals terminals tokens w → AreNext terminals tokens w
named_next terminals [] [] e = refl
named_next terminals [] (x ∷ w) e = cc
named_next terminals (k ∷ ks) [] e = cc
named_next terminals (k ∷ ks) (x ∷ w) e =
    let first : slice_get terminals k ≡ Some x = cc in
    let others : map (slice_get terminals) ks ≡ map (λ (y : TerminalString). Some y) w = cc in
    (first, named_next terminals ks w others)

-- there are as many
named_long : (terminals : List TerminalString) (tokens : List ℕ) (w : List TerminalString) → AreNext terminals tokens w → length tokens ≡ length w
named_long terminals [] w e = sym (ap length e)
named_long terminals (k ∷ ks) [] e = absurd e
named_long terminals (k ∷ ks) (x ∷ w) e = let rest = named_long terminals ks w e.1 in omega (arith, rest)

-- and they are below the number of the end
all_below : (terminals : List TerminalString) (count : ℕ) → count ≡ length terminals → (tokens : List ℕ) (w : List TerminalString) → AreNext terminals tokens w → are_below count tokens ≡ true
all_below terminals count same [] w e = refl
all_below terminals count same (k ∷ ks) [] e = absurd e
all_below terminals count same (k ∷ ks) (x ∷ w) e =
    let within = slice_get_within terminals k x e.0 in
    ap (λ b. b && are_below count ks) (lt-ltb k count (omega (arith, within, same))) ∙ all_below terminals count same ks w e.1

goes_not : {d : Configuration} → Goes d ≡ Stands → ⊥
goes_not e = cc

ends_not : {trees : List Tree} → Ends trees ≡ Stands → ⊥
ends_not e = cc

-- a run after one turn
abbrev turned : List ℕ → ℕ → List ℕ → List ℕ → ℕ → List ℕ → Turn → Run
turned numbers left stack events k ks turn =
    after_step (step_of turn) (run numbers left (stack_after turn stack) (events_after turn k events) ks)
    (run numbers left (stack_after turn stack) (events_after turn k events) (k ∷ ks))
    (λ ending. record { ending = ending; stack = stack_after turn stack; events = events_after turn k events; left = left; unread = k ∷ ks })

module _ (lists : Lists) (t : NumberedTables) (is : AreTableNumbers lists t (numbers_of t)) (w : List TerminalString) (limit all : ℕ) where
  abbrev states : ℕ → Contents
  states = numbered_contents lists t

  abbrev numbers : List ℕ
  numbers = numbers_of t

  -- a run is at a configuration after so many steps
  record IsThere (n : ℕ) (stack : List ℕ) (c : Configuration) : Type 0 where
    reached : Reaches states n (begin w) c
    at : IsAt stack c
    before : List TerminalString
    whole : w ≡ before ++ c.rest

  -- a run is there, and the other tokens are next
  record IsBefore (n : ℕ) (stack tokens : List ℕ) (c : Configuration) : Type 0 where
    there : IsThere n stack c
    next : AreNext lists.terminals tokens c.rest
    counted : length there.before + length tokens ≡ all

  -- the trees that a final step leaves, and whether they are one alone
  abbrev LeavesTrees : Configuration → Bool → Type 0
  LeavesTrees c alone = (trees : List Tree) × (move states c ≡ Ends trees) × ((alone ≡ true) → (u : Tree) × (trees ≡ u ∷ [])) × ((alone ≡ false) → (u : Tree) → trees ≡ u ∷ [] → ⊥)

  -- how a run over terminals ends
  abbrev HasEnded : Run → Ending → Type 0
  HasEnded r AllShifted = (n : ℕ) × (c : Configuration) × (n + r.left ≡ limit) × (r.unread ≡ []) × IsBefore n r.stack [] c
  HasEnded r Refused = (n : ℕ) × (c : Configuration) × (n ≤ limit) × (move states c ≡ Stands) × IsBefore n r.stack r.unread c
  HasEnded r (Finished alone) = (n : ℕ) × (c : Configuration) × (n < limit) × LeavesTrees c alone × ((x : TerminalString) × (rest : List TerminalString) × (c.rest ≡ x ∷ rest)) × IsBefore n r.stack r.unread c
  HasEnded r CutOff = (c : Configuration) × (move states c ≢ Stands) × IsBefore limit r.stack r.unread c
  HasEnded r FaultyEnd = Unit {0}

  -- the first of the next tokens
  has_first : (k : ℕ) (ks : List ℕ) (rest : List TerminalString) → AreNext lists.terminals (k ∷ ks) rest → (x : TerminalString) × (others : List TerminalString) × (rest ≡ x ∷ others)
  has_first k ks [] next = absurd next
  has_first k ks (x ∷ rest) next = (x, rest, refl)

  module _ (n : ℕ) (stack : List ℕ) (k : ℕ) (ks : List ℕ) (c : Configuration) (b : IsBefore n stack (k ∷ ks) c) where
    -- after a shift
    after_shift : (target : ℕ) (x : TerminalString) (rest : List TerminalString) → c.rest ≡ x ∷ rest → move states c ≡ Goes (shifted c target x rest) → IsBefore (suc n) (stack ++ target ∷ []) ks (shifted c target x rest)
    after_shift target x rest e moves = record {
      there = record {
        reached = one_more b.there.reached moves;
        at = record { states = reverse_more stack target ∙ ap (λ (l : List ℕ). target ∷ l) b.there.at.states; trees = let many = b.there.at.trees in omega (arith, many) };
        before = b.there.before ++ x ∷ [];
        whole = b.there.whole ∙ ap (λ (l : List TerminalString). b.there.before ++ l) e ∙ sym (append_assoc b.there.before (x ∷ []) rest);
      };
      next = others_next lists.terminals k ks c.rest x rest b.next e;
      counted = let long = length-append b.there.before (x ∷ []) in let count = b.counted in omega (arith, long, count);
    }

    -- after a reduction
    after_reduction : (now : List ℕ) (d : Configuration) → move states c ≡ Goes d → IsAt now d → d.rest ≡ c.rest → IsBefore (suc n) now (k ∷ ks) d
    after_reduction now d moves at same = record {
      there = record {
        reached = one_more b.there.reached moves;
        at = at;
        before = b.there.before;
        whole = b.there.whole ∙ ap (λ (l : List TerminalString). b.there.before ++ l) (sym same);
      };
      next = subst (AreNext lists.terminals (k ∷ ks)) (sym same) b.next;
      counted = b.counted;
    }

    -- without a step that is left
    halts : (events : List ℕ) (turn : Turn) → IsMove states stack c turn → n ≡ limit → HasEnded (record { ending = halted turn; stack = stack; events = events; left = 0; unread = k ∷ ks }) (halted turn)
    halts events Faulty m same = tt
    halts events Stuck m same = (n, c, omega (arith, same), m, b)
    halts events (Shifts target) m same = (c, (λ stands. goes_not (sym m.3 ∙ stands)), subst (λ j. IsBefore j stack (k ∷ ks) c) same b)
    halts events (Reduces production rest target) m same = (c, (λ stands. goes_not (sym m.1 ∙ stands)), subst (λ j. IsBefore j stack (k ∷ ks) c) same b)
    halts events (EndsRun production alone) m same = (c, (λ stands. ends_not (sym m.1 ∙ stands)), subst (λ j. IsBefore j stack (k ∷ ks) c) same b)

    -- with a step that is left
    turns : (left : ℕ) (events : List ℕ) → suc n + left ≡ limit →
        ((tokens now events : List ℕ) (d : Configuration) → IsBefore (suc n) now tokens d → HasEnded (run numbers left now events tokens) (run numbers left now events tokens).ending) →
        (turn : Turn) → IsMove states stack c turn → HasEnded (turned numbers left stack events k ks turn) (turned numbers left stack events k ks turn).ending
    turns left events counted later Faulty m = tt
    turns left events counted later Stuck m = (n, c, omega (arith, counted), m, b)
    turns left events counted later (Shifts target) m = later ks (stack ++ target ∷ []) (events ++ 0 ∷ k ∷ []) (shifted c target m.0 m.1) (after_shift target m.0 m.1 m.2 m.3)
    turns left events counted later (Reduces production rest target) m = later (k ∷ ks) (take rest stack ++ target ∷ []) (events ++ 1 ∷ production ∷ []) m.0 (after_reduction (take rest stack ++ target ∷ []) m.0 m.1 m.2 m.3)
    turns left events counted later (EndsRun production alone) m = (n, c, omega (arith, counted), m, has_first k ks c.rest b.next, b)

  -- the run over terminals
  over_tokens : (left n : ℕ) (tokens stack events : List ℕ) (c : Configuration) → n + left ≡ limit → IsBefore n stack tokens c → HasEnded (run numbers left stack events tokens) (run numbers left stack events tokens).ending
  over_tokens left n [] stack events c counted b = (n, c, counted, refl, b)
  over_tokens zero n (k ∷ ks) stack events c counted b = halts n stack k ks c b events (turn_at numbers stack k) (is_move lists t is stack c b.there.at k (next_bit lists.terminals k ks c.rest b.next)) (omega (arith, counted))
  over_tokens (suc left) n (k ∷ ks) stack events c counted b =
      turns n stack k ks c b left events (omega (arith, counted)) (λ tokens now more d e. over_tokens left (suc n) tokens now more d (omega (arith, counted)) e)
      (turn_at numbers stack k) (is_move lists t is stack c b.there.at k (next_bit lists.terminals k ks c.rest b.next))

  -- how the run on the end of the input ends
  abbrev EndsAtEnd : Run → Ending → Type 0
  EndsAtEnd r AllShifted = ⊥
  EndsAtEnd r Refused = (n : ℕ) × (c : Configuration) × (n ≤ limit) × (move states c ≡ Stands) × (c.rest ≡ []) × IsThere n r.stack c
  EndsAtEnd r (Finished alone) = (n : ℕ) × (c : Configuration) × (n < limit) × LeavesTrees c alone × (c.rest ≡ []) × IsThere n r.stack c
  EndsAtEnd r CutOff = (c : Configuration) × (move states c ≢ Stands) × (c.rest ≡ []) × IsThere limit r.stack c
  EndsAtEnd r FaultyEnd = Unit {0}

  -- nothing is shifted at the end
  no_terminal : (rest : List TerminalString) (x : TerminalString) (others : List TerminalString) → rest ≡ [] → rest ≡ x ∷ others → ⊥
  no_terminal rest x others e f = cc

  module _ (n : ℕ) (stack : List ℕ) (c : Configuration) (b : IsThere n stack c) (at_end : c.rest ≡ []) where
    -- the end has the number of terminals
    end_bit : IsBitOf lists.terminals (next_token c.rest) t.terminals
    end_bit = subst (λ l. IsBitOf lists.terminals (next_token l) t.terminals) (sym at_end) is.about.terminals

    -- without a step that is left
    halts_at_end : (events : List ℕ) (turn : Turn) → IsMove states stack c turn → n ≡ limit → EndsAtEnd (record { ending = halted turn; stack = stack; events = events; left = 0; unread = t.terminals ∷ [] }) (halted turn)
    halts_at_end events Faulty m same = tt
    halts_at_end events Stuck m same = (n, c, omega (arith, same), m, at_end, b)
    halts_at_end events (Shifts target) m same = absurd (no_terminal c.rest m.0 m.1 at_end m.2)
    halts_at_end events (Reduces production rest target) m same = (c, (λ stands. goes_not (sym m.1 ∙ stands)), at_end, subst (λ j. IsThere j stack c) same b)
    halts_at_end events (EndsRun production alone) m same = (c, (λ stands. ends_not (sym m.1 ∙ stands)), at_end, subst (λ j. IsThere j stack c) same b)

    -- with a step that is left
    turns_at_end : (left : ℕ) (events : List ℕ) → suc n + left ≡ limit →
        ((now events : List ℕ) (d : Configuration) → IsThere (suc n) now d → d.rest ≡ [] → EndsAtEnd (run numbers left now events (t.terminals ∷ [])) (run numbers left now events (t.terminals ∷ [])).ending) →
        (turn : Turn) → IsMove states stack c turn → EndsAtEnd (turned numbers left stack events t.terminals [] turn) (turned numbers left stack events t.terminals [] turn).ending
    turns_at_end left events counted later Faulty m = tt
    turns_at_end left events counted later Stuck m = (n, c, omega (arith, counted), m, at_end, b)
    turns_at_end left events counted later (Shifts target) m = absurd (no_terminal c.rest m.0 m.1 at_end m.2)
    turns_at_end left events counted later (Reduces production rest target) m =
        later (take rest stack ++ target ∷ []) (events ++ 1 ∷ production ∷ []) m.0
        (record { reached = one_more b.reached m.1; at = m.2; before = b.before; whole = b.whole ∙ ap (λ (l : List TerminalString). b.before ++ l) (sym m.3) })
        (m.3 ∙ at_end)
    turns_at_end left events counted later (EndsRun production alone) m = (n, c, omega (arith, counted), m, at_end, b)

  -- the run on the end of the input
  over_end : (left n : ℕ) (stack events : List ℕ) (c : Configuration) → n + left ≡ limit → IsThere n stack c → c.rest ≡ [] → EndsAtEnd (run numbers left stack events (t.terminals ∷ [])) (run numbers left stack events (t.terminals ∷ [])).ending
  over_end zero n stack events c counted b at_end = halts_at_end n stack c b at_end events (turn_at numbers stack t.terminals) (is_move lists t is stack c b.at t.terminals (end_bit n stack c b at_end)) (omega (arith, counted))
  over_end (suc left) n stack events c counted b at_end =
      turns_at_end n stack c b at_end left events (omega (arith, counted)) (λ now more d there rest. over_end left (suc n) now more d (omega (arith, counted)) there rest)
      (turn_at numbers stack t.terminals) (is_move lists t is stack c b.at t.terminals (end_bit n stack c b at_end))

  -- the state on top of the stack
  top_is : (n : ℕ) (stack : List ℕ) (c : Configuration) → IsThere n stack c → top_of stack ≡ c.state
  top_is n stack c b = (newest stack c.below c.state b.at.states).1

  -- a run that stopped by a refusal
  refused : (n read : ℕ) (stack events : List ℕ) (c : Configuration) (b : IsThere n stack c) → read ≡ length b.before → HasOutcome states w limit (RefusedIn c.state (next_token c.rest)) → IsRightParse states w limit (stopped 2 stack events read)
  refused n read stack events c b same outcome = at_refusal events c.state b.before c.rest refl (ap (λ s. events ++ 2 ∷ s ∷ []) (top_is n stack c b)) same b.whole outcome

  -- a run that stopped at the limit
  limited : (read : ℕ) (stack events : List ℕ) (c : Configuration) (b : IsThere limit stack c) → read ≡ length b.before → move states c ≢ Stands → IsRightParse states w limit (stopped 3 stack events read)
  limited read stack events c b same another = at_limit events c.state b.before c.rest refl (ap (λ s. events ++ 3 ∷ s ∷ []) (top_is limit stack c b)) same b.whole (cut_off c b.reached another)

  -- all of the input was read before its end
  read_all : (n : ℕ) (stack : List ℕ) (c : Configuration) (b : IsThere n stack c) → c.rest ≡ [] → length w ≡ length b.before
  read_all n stack c b at_end =
      let whole = ap length b.whole in
      let long = length-append b.before c.rest in
      let none : length c.rest ≡ 0 = ap length at_end in
      omega (arith, whole, long, none)

  -- the answer by how the run on the end of the input ends
  right_at_end : (e : Ending) (r : Run) → EndsAtEnd r e → IsRightParse states w limit (finished_by e (length w) r.stack r.events)
  right_at_end AllShifted r m = absurd m
  right_at_end Refused r m = refused m.0 (length w) r.stack r.events m.1 m.5 (read_all m.0 r.stack m.1 m.5 m.4) (stuck m.0 m.1 m.2 m.5.reached m.3)
  right_at_end (Finished true) r m =
      let trees = m.3 in
      let one = trees.2 refl in
      at_tree one.0 refl refl (parsed m.0 m.1 trees.0 one.0 m.2 m.5.reached trees.1 (one.1, m.4))
  right_at_end (Finished false) r m =
      let trees = m.3 in
      refused m.0 (length w) r.stack r.events m.1 m.5 (read_all m.0 r.stack m.1 m.5 m.4) (other_end m.0 m.1 trees.0 m.2 m.5.reached trees.1 (λ u p. trees.3 refl u p.0))
  right_at_end CutOff r m = limited (length w) r.stack r.events m.0 m.3 (read_all limit r.stack m.0 m.3 m.2) m.1
  right_at_end FaultyEnd r m = at_fault refl

  -- how many tokens were read
  read_before : (n : ℕ) (stack unread : List ℕ) (c : Configuration) (b : IsBefore n stack unread c) → all - length unread ≡ length b.there.before
  read_before n stack unread c b = let count = b.counted in omega (arith, count)

  some_left : (rest : List TerminalString) (x : TerminalString) (others : List TerminalString) → rest ≡ x ∷ others → rest ≡ [] → ⊥
  some_left rest x others e f = cc

  -- the answer by how the run over the terminals ends
  right_after : length w ≡ all → (e : Ending) (r : Run) → HasEnded r e → IsRightParse states w limit (ended_by e numbers t.terminals (all - length r.unread) r.left r.stack r.events)
  right_after long AllShifted r m =
      let r2 = run numbers r.left r.stack r.events (t.terminals ∷ []) in
      let none : length r.unread ≡ 0 = ap length m.3 in
      let same : length w ≡ all - length r.unread = omega (arith, long, none) in
      subst (λ k. IsRightParse states w limit (finished_by r2.ending k r2.stack r2.events)) same
      (right_at_end r2.ending r2 (over_end r.left m.0 r.stack r.events m.1 m.2 m.4.there m.4.next))
  right_after long Refused r m =
      let b = m.4 in
      refused m.0 (all - length r.unread) r.stack r.events m.1 b.there (read_before m.0 r.stack r.unread m.1 b) (stuck m.0 m.1 m.2 b.there.reached m.3)
  right_after long (Finished alone) r m =
      let trees = m.3 in
      let some = m.4 in
      let b = m.5 in
      refused m.0 (all - length r.unread) r.stack r.events m.1 b.there (read_before m.0 r.stack r.unread m.1 b)
      (other_end m.0 m.1 trees.0 m.2 b.there.reached trees.1 (λ u p. some_left m.1.rest some.0 some.1 some.2 p.1))
  right_after long CutOff r m = limited (all - length r.unread) r.stack r.events m.0 m.2.there (read_before limit r.stack r.unread m.0 m.2) m.1
  right_after long FaultyEnd r m = at_fault refl

-- the answer for a parse has the outcome of the run
pub right_parse : (lists : Lists) (t : NumberedTables) → AreTableNumbers lists t (numbers_of t) → (w : List TerminalString) (tokens : List ℕ) (limit : ℕ) → AreTerminals lists.terminals tokens w → IsRightParse (numbered_contents lists t) w limit (parse_answer (numbers_of t) tokens limit)
right_parse lists t is w tokens limit named =
    let next = named_next lists.terminals tokens w named in
    let numbers = numbers_of t in
    let r = run numbers limit (0 ∷ []) [] tokens in
    let right : Parse → Type 0 = IsRightParse (numbered_contents lists t) w limit in
    let below = all_below lists.terminals t.terminals is.about.terminals tokens w next in
    let first : IsBefore lists t is w limit (length tokens) 0 (0 ∷ []) tokens (begin w) = record {
      there = record { reached = here; at = record { states = refl; trees = refl }; before = []; whole = refl };
      next = next;
      counted = omega arith;
    } in
    subst (λ o. right (parse_with numbers tokens limit o)) (sym (ap (if_terminals tokens) (counts_right t) ∙ ap (λ b. cond b (Some (counts t)) None) below))
    (right_after lists t is w limit (length tokens) (sym (named_long lists.terminals tokens w next)) r.ending r
    (over_tokens lists t is w limit (length tokens) limit 0 tokens (0 ∷ []) [] (begin w) (omega arith) first))
