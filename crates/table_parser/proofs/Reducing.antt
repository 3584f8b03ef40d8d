-- Reductions on one token, one after the other.
use Rattle.std.proofs.Common.{◌≡◌, ◌≢◌, ℕ, zero, suc, ◌<◌, ◌≤◌, List, [], ◌∷◌, drop, length, slice_get, Some, None, option_map, refl, sym, ap, subst, ◌∙◌, arith, Bor}
use Rattle.std.proofs.lemmas.Option.{slice_get_past}
use Rattle.lalrpop_base.specs.Words.{CanStandNext, Configuration, Contents, IsBitOf, ReduceBy, Stands, action_on, move, next_token, reduced}
use Rattle.lalrpop_grammar.specs.declared.lookahead.token.Token.{Token}
use Rattle.lalrpop_grammar.specs.declared.repr.Production.{Production}
use Rattle.lalrpop_grammar.specs.declared.repr.TerminalString.{TerminalString}
use Rattle.parse_tables.specs.Actions.{entry_by}
use Rattle.parse_tables.specs.Tables.{IsTableOf}
use Rattle.parse_tables.specs.declared.table.ParseTable.{ParseTable}
use Rattle.parse_tables.specs.declared.table.TableAction.{TableAction}
use Rattle.parse_tables.specs.declared.table.TableAction.TheVariants.{Reduce}
use Rattle.table_parser.specs.Events.{Event}
use Rattle.table_parser.specs.Errors.{IfLimit}
use Rattle.table_parser.specs.Machines.{HasReduced, IsAt, IsReduction}
use Rattle.table_parser.specs.Steps.{IsStep, nothing, once_more}
use Rattle.table_parser.specs.declared.error.TableParseError.{TableParseError}
use Rattle.table_parser.specs.declared.error.TableParseError.TheVariants.{Limit, Memory, Refused, Stopped, TooLong, Unknown}
use Rattle.table_parser.specs.declared.machine.Machine.{Machine}
use Rattle.table_parser.specs.declared.machine.Reduced.{Reduced}
use Rattle.table_parser.proofs.Moves.{reduction_moves, received_moves}

-- the next token can be next
pub stands_next : (rest : List TerminalString) → CanStandNext (next_token rest)
stands_next [] = tt
stands_next (t ∷ rest) = tt

-- what an action of the machine says of a configuration that the machine is at
pub acts : (old m : Machine) → m.table ≡ old.table → (states : ℕ → Contents) → IsTableOf old.table.now states → (c d : Configuration) → IsAt m d → d.rest ≡ c.rest → (bit : ℕ) → IsBitOf old.table.now.terminals (next_token c.rest) bit → (action : TableAction) →
    ((states : ℕ → Contents) → IsTableOf m.table.now states → (token : Token) → CanStandNext token → IsBitOf m.table.now.terminals token bit → entry_by m.table.now.productions action ≡ action_on (states m.state) token) →
    entry_by old.table.now.productions action ≡ action_on (states d.state) (next_token d.rest)
acts old m same states is c d at rest bit has action says =
    let token = next_token d.rest in
    let here : IsBitOf m.table.now.terminals token bit = subst (λ (t : Bor ParseTable). IsBitOf t.now.terminals token bit) (sym same) (subst (λ (ts : List TerminalString). IsBitOf old.table.now.terminals (next_token ts) bit) (sym rest) has) in
    ap (λ (t : Bor ParseTable). entry_by t.now.productions action) (sym same)
    ∙ says states (subst (λ (t : Bor ParseTable). IsTableOf t.now states) (sym same) is) token (stands_next d.rest) here
    ∙ ap (λ n. action_on (states n) token) at.state

-- the element with a number below their count
pub listed : {A : Type 0} (xs : List A) (number : ℕ) → number < length xs → (x : A) × (slice_get xs number ≡ Some x)
listed [] number l = absurd (omega (arith, l))
listed (x ∷ xs) zero l = (x, refl)
listed (x ∷ xs) (suc number) l = listed xs number (omega (arith, l))

-- there is no production past the end
pub no_production : (productions : List Production) (number : ℕ) → length productions ≤ number → option_map ReduceBy (slice_get productions number) ≡ None
no_production productions number l = ap (option_map ReduceBy) (slice_get_past productions number l)

-- a reduction is a step
pub reduction_is_a_move : (states : ℕ → Contents) (c : Configuration) (p : Production) → action_on (states c.state) (next_token c.rest) ≡ Some (ReduceBy p) → move states c ≢ Stands
reduction_is_a_move states c p e stands =
    received_moves states p (drop (length p.symbols) (c.state ∷ c.below)) (reduced p c.trees) c.rest (sym (reduction_moves states c c.rest p e) ∙ stands)

-- if the error is the limit, what follows from the property holds
pub if_limit : {S : Type 0} {P Q : Type 0} → (P → Q) → (e : TableParseError S) → IfLimit P e → IfLimit Q e
if_limit f (Refused refusal) h = tt
if_limit f (Unknown position bit) h = tt
if_limit f (Stopped reason) h = tt
if_limit f Limit h = f h
if_limit f TooLong h = tt
if_limit f Memory h = tt

-- the reduction that the action of the machine says, by the table that the machine had at first
module _ (old m : Machine) (same : m.table ≡ old.table) (states : ℕ → Contents) (is : IsTableOf old.table.now states) (c d : Configuration) (at : IsAt m d) (rest : d.rest ≡ c.rest) (bit : ℕ) (has : IsBitOf old.table.now.terminals (next_token c.rest) bit) (number : ℕ) (within : number < length m.table.now.productions)
    (says : (states : ℕ → Contents) → IsTableOf m.table.now states → (token : Token) → CanStandNext token → IsBitOf m.table.now.terminals token bit → entry_by m.table.now.productions (Reduce number) ≡ action_on (states m.state) token) where
  abbrev pub production : Production
  production = (listed m.table.now.productions number within).0

  acts_by : action_on (states d.state) (next_token d.rest) ≡ Some (ReduceBy production)
  acts_by =
      sym (acts old m same states is c d at rest bit has (Reduce number) says)
      ∙ ap (λ (t : Bor ParseTable). option_map ReduceBy (slice_get t.now.productions number)) (sym same)
      ∙ ap (option_map ReduceBy) (listed m.table.now.productions number within).1

  pub another : move states d ≢ Stands
  another = reduction_is_a_move states d production acts_by

  pub reduction_made : {H : Type 0} (takes : H → Event → H → Type 0) (new : Machine) (h i : H) (name len : ℕ) (progress : Reduced) →
      ((p : Production) → slice_get m.table.now.productions number ≡ Some p → (slice_get m.table.now.nonterminals name ≡ Some p.nonterminal) × (len ≡ length p.symbols)) →
      ((states : ℕ → Contents) (c : Configuration) (p : Production) → IsTableOf m.table.now states → IsAt m c → action_on (states c.state) (next_token c.rest) ≡ Some (ReduceBy p) → slice_get m.table.now.productions number ≡ Some p → slice_get m.table.now.nonterminals name ≡ Some p.nonterminal → len ≡ length p.symbols →
      IsReduction m.table.now.terminals m.table.now.productions states takes c m h new i progress) →
      IsReduction old.table.now.terminals old.table.now.productions states takes d m h new i progress
  reduction_made takes new h i name len progress found reduces =
      let there = (listed m.table.now.productions number within).1 in
      let side = found production there in
      subst (λ (t : Bor ParseTable). IsReduction t.now.terminals t.now.productions states takes d m h new i progress) same
      (reduces states d production (subst (λ (t : Bor ParseTable). IsTableOf t.now states) (sym same) is) at acts_by there side.0 side.1)

module _ (terminals : List TerminalString) (productions : List Production) (states : ℕ → Contents) {H : Type 0} (takes : H → Event → H → Type 0) where
  -- no step was made yet
  pub none_made : (c : Configuration) (m : Machine) (h : H) → HasReduced terminals productions states takes c m h m.left c h
  none_made c m h = record { steps = 0; handled = nothing; rest = refl; counted = omega arith }

  -- one more step was made
  pub one_more : (c d e : Configuration) (old : Machine) (h i j : H) (left less : ℕ) → HasReduced terminals productions states takes c old h left d i → IsStep terminals productions states takes d e i j → e.rest ≡ d.rest → suc less ≡ left → HasReduced terminals productions states takes c old h less e j
  one_more c d e old h i j left less made step rest spent =
      let counted = made.counted in
      record {
        steps = suc made.steps;
        handled = once_more made.handled step;
        rest = rest ∙ made.rest;
        counted = omega (arith, counted, spent);
      }

  -- the count of steps that are left, known by another form
  pub left_as : (c d : Configuration) (old : Machine) (h i : H) (left less : ℕ) → left ≡ less → HasReduced terminals productions states takes c old h left d i → HasReduced terminals productions states takes c old h less d i
  left_as c d old h i left less e made = subst (λ n. HasReduced terminals productions states takes c old h n d i) e made
