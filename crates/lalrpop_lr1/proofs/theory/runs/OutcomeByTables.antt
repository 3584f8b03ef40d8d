-- What a result says of the tables that a construction made of a grammar.
use Rattle.std.proofs.Common.{◌≡◌, ℕ, ◌≤◌, List, sym, subst}
use Rattle.std.specs.Prelude.{Result, Ok, Err, IfOk, IfErr}
use Rattle.lalrpop_base.specs.Words.{Bits, contents, IsOnNoRightSide, Outcome, HasOutcome, IsFirstWrong, beside, no_trees, leaves, nodes, productions}
use Rattle.lalrpop_lr1.proofs.Types.{Grammar, NonterminalString, State, TerminalString, Token}
use Rattle.lalrpop_tables.specs.Words.{Collapses, AreTablesOf}
use Rattle.lalrpop_construction.specs.declared.options.Options.{Options}
use Rattle.lalrpop_lr1.proofs.theory.runs.ByTables.{made_states}
use Rattle.lalrpop_parser.specs.Words.{ReportsOutcome, IsTreeWithin, IsCutOff, IsCutOffByTables, IsOutcomeFor, AnswersTrees, IfRefused, IfLimit}
use Rattle.lalrpop_lr1.specs.Words.{IsAccepted, IsOutcomeByTables, HadTablesWhere, IfRefusedAt, IfParseLimit, ReportsParseOutcome, TellsTrees, parse_result}
use Rattle.lalrpop_parser.specs.Words.{tree_of}
use Rattle.lalrpop_lr1.specs.declared.headline.parse_error.ParseError.{ParseError}
use Rattle.lalrpop_parser.specs.declared.interpret.error.InterpretError.{InterpretError}
use Rattle.lalrpop_parser.specs.declared.interpret.error.InterpretError.TheVariants.{Refused as RefusedBy, Limit as LimitPassed, Memory as NoMemory}
use Rattle.lalrpop_parser.specs.declared.interpret.tree.ParseTree.{ParseTree}

-- ---- the same without the state of a refusal
outcome_told : (R : Outcome → Type 0) (states : List (State Bits)) (answer : Result ParseTree (InterpretError Bits)) → ReportsOutcome R states answer → ReportsParseOutcome R (parse_result answer)
outcome_told R states (Ok tree) h = h
outcome_told R states (Err (RefusedBy state token)) h = (h.0, h.2)
outcome_told R states (Err LimitPassed) h = h
outcome_told R states (Err NoMemory) h = tt

tree_told : (P : ParseTree → Type 0) (answer : Result ParseTree (InterpretError Bits)) → IfOk answer P → IfOk (parse_result answer) P
tree_told P (Ok tree) h = h
tree_told P (Err (RefusedBy state token)) h = tt
tree_told P (Err LimitPassed) h = tt
tree_told P (Err NoMemory) h = tt

limit_told : (P : Type 0) (answer : Result ParseTree (InterpretError Bits)) → IfErr answer (IfLimit P) → IfErr (parse_result answer) (IfParseLimit P)
limit_told P (Ok tree) h = tt
limit_told P (Err (RefusedBy state token)) h = tt
limit_told P (Err LimitPassed) h = h
limit_told P (Err NoMemory) h = tt

refusal_told : (P : Token → Type 0) (states : List (State Bits)) (answer : Result ParseTree (InterpretError Bits)) → IfErr answer (IfRefused (λ _ token. P token) states) → IfErr (parse_result answer) (IfRefusedAt P)
refusal_told P states (Ok tree) h = tt
refusal_told P states (Err (RefusedBy state token)) h = h.2
refusal_told P states (Err LimitPassed) h = tt
refusal_told P states (Err NoMemory) h = tt

had_tables : (P : Type 0) → P → (answer : Result ParseTree (InterpretError Bits)) → HadTablesWhere P (parse_result answer)
had_tables P p (Ok tree) = p
had_tables P p (Err (RefusedBy state token)) = p
had_tables P p (Err LimitPassed) = p
had_tables P p (Err NoMemory) = tt

-- ---- the same of the grammar of these tables, under the start symbol's own name
module _ (g : Grammar) (options : Options) (start name : NonterminalString) (named : name ≡ start) (tables states : List (State Bits)) (same : states ≡ tables) (made : AreTablesOf (Collapses g options) options.method options.max_copies g start tables) where
  here : AreTablesOf (Collapses g options) options.method options.max_copies g start states
  here = made_states (Collapses g options) options.method options.max_copies g start name named tables states same made

  module _ (w : List TerminalString) (limit : ℕ) (answer : Result ParseTree (InterpretError Bits)) (told : Result ParseTree ParseError) (is : told ≡ parse_result answer) where
    pub decided : HadTablesWhere (IsAccepted (Collapses g options) g start) told
    decided = subst (HadTablesWhere (IsAccepted (Collapses g options) g start)) (sym is)
        (had_tables (IsAccepted (Collapses g options) g start) (record { lr1 = λ _. here.lr1; lalr1 = here.lalr1 }) answer)

    pub parsed : IfOk answer (λ tree. IsOnNoRightSide (productions g) name → IsTreeWithin limit w (tree_of tree) (productions g) name) →
        IfOk told (λ tree. IsOnNoRightSide (productions g) start → IsTreeWithin limit w (tree_of tree) (productions g) start)
    parsed h = subst (λ (t : Result ParseTree ParseError). IfOk t (λ tree. IsOnNoRightSide (productions g) start → IsTreeWithin limit w (tree_of tree) (productions g) start)) (sym is)
        (tree_told (λ tree. IsOnNoRightSide (productions g) start → IsTreeWithin limit w (tree_of tree) (productions g) start) answer
        (subst (λ (s : NonterminalString). IfOk answer (λ tree. IsOnNoRightSide (productions g) s → IsTreeWithin limit w (tree_of tree) (productions g) s)) named h))

    pub refused : IfErr answer (IfRefused (λ _ token. IsOnNoRightSide (productions g) name → IsFirstWrong (productions g) name w token) states) →
        IfErr told (IfRefusedAt (λ token. IsOnNoRightSide (productions g) start → IsFirstWrong (productions g) start w token))
    refused h = subst (λ (t : Result ParseTree ParseError). IfErr t (IfRefusedAt (λ token. IsOnNoRightSide (productions g) start → IsFirstWrong (productions g) start w token))) (sym is)
        (refusal_told (λ token. IsOnNoRightSide (productions g) start → IsFirstWrong (productions g) start w token) states answer
        (subst (λ (s : NonterminalString). IfErr answer (IfRefused (λ _ token. IsOnNoRightSide (productions g) s → IsFirstWrong (productions g) s w token) states)) named h))

    pub limited : IfErr answer (IfLimit (IsCutOff (contents g.terminals states) w limit)) → IfErr told (IfParseLimit (IsCutOffByTables (productions g) start w limit))
    limited h = subst (λ (t : Result ParseTree ParseError). IfErr t (IfParseLimit (IsCutOffByTables (productions g) start w limit))) (sym is) (go answer h)
      where
        go : (answer : Result ParseTree (InterpretError Bits)) → IfErr answer (IfLimit (IsCutOff (contents g.terminals states) w limit)) → IfErr (parse_result answer) (IfParseLimit (IsCutOffByTables (productions g) start w limit))
        go (Ok tree) h = tt
        go (Err (RefusedBy state token)) h = tt
        go (Err LimitPassed) h = record { states = contents g.terminals states; faithful = here.faithful; cut_off = h }
        go (Err NoMemory) h = tt

    pub trees_told : (IsOnNoRightSide (productions g) name → AnswersTrees limit w states answer (productions g) name) → IsOnNoRightSide (productions g) start → TellsTrees limit w told (productions g) start
    trees_told h = subst (λ (t : Result ParseTree ParseError). IsOnNoRightSide (productions g) start → TellsTrees limit w t (productions g) start) (sym is)
        (λ alone t parse. outcome_told (IsOutcomeFor t limit) states answer (subst (λ (s : NonterminalString). IsOnNoRightSide (productions g) s → AnswersTrees limit w states answer (productions g) s) named h alone t parse))

    pub run_told : ReportsOutcome (HasOutcome (contents g.terminals states) w limit) states answer → IfOk answer (λ tree. leaves (beside (tree_of tree) no_trees) ≡ w) → IfOk answer (λ tree. nodes (beside (tree_of tree) no_trees) ≤ limit) →
        IfErr answer (IfLimit (IsCutOff (contents g.terminals states) w limit)) → IsOutcomeByTables g options start w limit told
    run_told outcome of_list within cut_off = subst (IsOutcomeByTables g options start w limit) (sym is) (record {
      tables = states;
      made = here;
      told = outcome_told (HasOutcome (contents g.terminals states) w limit) states answer outcome;
      of_list = tree_told (λ tree. leaves (beside (tree_of tree) no_trees) ≡ w) answer of_list;
      within = tree_told (λ tree. nodes (beside (tree_of tree) no_trees) ≤ limit) answer within;
      cut_off = limit_told (IsCutOff (contents g.terminals states) w limit) answer cut_off;
    })
