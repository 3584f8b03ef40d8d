-- What a result by tables of a grammar says of that grammar.
use Rattle.std.proofs.Common.{◌≡◌, ℕ, ◌<◌, List, length, sym, subst}
use Rattle.std.specs.Prelude.{Result, Ok, Err, IfOk, IfErr}
use Rattle.lalrpop_base.specs.Words.{AreCoherent, AreFaithful, Bits, contents, Contents, IsFirstWrong, IsOnNoRightSide, productions}
use Rattle.lalrpop_lr1.proofs.Types.{Grammar, NonterminalString, Production, State, TerminalString}
use Rattle.lalrpop_tables.specs.Words.{AreTablesOf}
use Rattle.lalrpop_construction.specs.declared.options.Method.{Method}
use Rattle.lalrpop_parser.specs.Words.{ForEachGrammar, IfRefused, IsTreeWithin, tree_of}
use Rattle.lalrpop_parser.specs.declared.interpret.error.InterpretError.{InterpretError}
use Rattle.lalrpop_parser.specs.declared.interpret.error.InterpretError.TheVariants.{Refused, Limit, Memory}
use Rattle.lalrpop_parser.specs.declared.interpret.tree.ParseTree.{ParseTree}

-- ---- tables that a construction made are what the parser needs, also under other names of the
-- states and the start symbol
module _ (collapsed : Type 0) (method : Method) (copies : ℕ) (g : Grammar) (start name : NonterminalString) (named : name ≡ start) (tables states : List (State Bits)) (same : states ≡ tables)
    (made : AreTablesOf collapsed method copies g start tables) where
  pub made_states : AreTablesOf collapsed method copies g start states
  made_states = subst (AreTablesOf collapsed method copies g start) (sym same) made

  pub are_coherent : AreCoherent states
  are_coherent = made_states.coherent

  pub are_some : 0 < length states
  are_some = made_states.some

  pub are_faithful : AreFaithful (productions g) name (contents g.terminals states)
  are_faithful = subst (λ (s : NonterminalString). AreFaithful (productions g) s (contents g.terminals states)) (sym named) made_states.faithful

-- ---- for the one grammar to which the states are known to be faithful
module _ {L : Type 0} (g : List Production) (start : NonterminalString) (table : ℕ → Contents) (faithful : AreFaithful g start table) (states : List (State L)) (w : List TerminalString) where
  pub parsed_by : (limit : ℕ) (answer : Result ParseTree (InterpretError L)) → IfOk answer (λ tree. ForEachGrammar table (IsTreeWithin limit w (tree_of tree))) →
      IfOk answer (λ tree. IsOnNoRightSide g start → IsTreeWithin limit w (tree_of tree) g start)
  parsed_by limit (Ok tree) h = h g start faithful
  parsed_by limit (Err e) h = tt

  pub refused_by : (answer : Result ParseTree (InterpretError L)) → IfErr answer (IfRefused (λ _ token. ForEachGrammar table (λ g start. IsFirstWrong g start w token)) states) →
      IfErr answer (IfRefused (λ _ token. IsOnNoRightSide g start → IsFirstWrong g start w token) states)
  refused_by (Ok tree) h = tt
  refused_by (Err (Refused state token)) h = (h.0, h.1, h.2 g start faithful)
  refused_by (Err Limit) h = tt
  refused_by (Err Memory) h = tt
