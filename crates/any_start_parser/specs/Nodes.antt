-- The parse tree of an iterator's terminals, as nodes, for a start symbol that may be on a right
-- side.
use Rattle.std.specs.Prelude.{ℕ, List, Option}
use Rattle.std.specs.Iterator.{Drains}
use Rattle.lalrpop_base.specs.Words.{Contents, Tree, beside, no_trees}
use Rattle.lalrpop_grammar.specs.declared.repr.TerminalString.{TerminalString}
use Rattle.parse_nodes.specs.Words.{AreNodes}
use Rattle.parse_nodes.specs.declared.node.ParseNode.{ParseNode}
use Rattle.parse_tables.specs.Tables.{IsTableOf}
use Rattle.parse_tables.specs.declared.table.ParseTable.{ParseTable}
use Rattle.table_parser.specs.Words.{AreTerminals}
use Rattle.any_start_parser.specs.Augmented.{ForEachAugmented, IsOnlyOf, IsTreeBelow}

-- the iterator gave all its terminals. For each grammar to whose augmented grammar the states are
-- faithful, the nodes are those of the parse tree of the list from the old start symbol, if the
-- number is that of the only production of the new one
pub record HasBuiltFromAny {S : Type 0} (gives : S → Option ℕ → S → Type 0) (input : S) (table : ParseTable) (number limit : ℕ) (listed : List ParseNode) : Type 0 where
  pub bits : List ℕ
  pub drained : Drains gives input bits
  pub list : List TerminalString
  pub named : AreTerminals table.terminals bits list
  pub built : (states : ℕ → Contents) → IsTableOf table states → ForEachAugmented states (λ g start f. IsOnlyOf table.productions f number → (tree : Tree) × AreNodes table.terminals table.productions listed 0 (beside tree no_trees) × IsTreeBelow limit list tree g start)
