-- The parse tree of an iterator's terminals, as nodes.
use Rattle.std.specs.Prelude.{ℕ, List, Option}
use Rattle.std.specs.Iterator.{Drains}
use Rattle.lalrpop_base.specs.Words.{Contents, HasOutcome, Parsed, Tree, beside, no_trees}
use Rattle.lalrpop_grammar.specs.declared.repr.TerminalString.{TerminalString}
use Rattle.lalrpop_parser.specs.Words.{ForEachGrammar, IsTreeWithin}
use Rattle.parse_tables.specs.Tables.{IsTableOf}
use Rattle.parse_tables.specs.declared.table.ParseTable.{ParseTable}
use Rattle.table_parser.specs.Words.{AreTerminals}
use Rattle.parse_nodes.specs.Nodes.{AreNodes}
use Rattle.parse_nodes.specs.declared.node.ParseNode.{ParseNode}

-- the iterator gave all its terminals, and the nodes are those of the tree to which the run parses
-- them. For a grammar to which the states are faithful it is the parse tree of the list
pub record HasBuiltTree {S : Type 0} (gives : S → Option ℕ → S → Type 0) (input : S) (table : ParseTable) (limit : ℕ) (nodes : List ParseNode) : Type 0 where
  pub bits : List ℕ
  pub drained : Drains gives input bits
  pub list : List TerminalString
  pub named : AreTerminals table.terminals bits list
  pub built : (states : ℕ → Contents) → IsTableOf table states → (tree : Tree) × HasOutcome states list limit (Parsed tree) × AreNodes table.terminals table.productions nodes 0 (beside tree no_trees) × ForEachGrammar states (IsTreeWithin limit list tree)
