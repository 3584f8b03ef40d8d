use Rattle.std.proofs.Common.{◌≡◌, ◌++◌, List}
use Rattle.lalrpop_inline.proofs.Types.{NonterminalData, NonterminalString}
use Rattle.lalrpop_inline.proofs.theory.inlining.InlineMarks.{AreMarkedOf}
use Rattle.lalrpop_inline.specs.Words.{AreMarkedAmong}
use Rattle.lalrpop_inline.proofs.inline.graph.marked.Given as goal

-- the names so far are those of the marked entries so far
abbrev pub invariant-loop-name : goal.invariant-loop-name
invariant-loop-name l = (done : List (NonterminalString × NonterminalData)) × (done ++ l.name-iterator ≡ l.grammar.nonterminals.entries) × AreMarkedOf done l.names.items × AreMarkedAmong done l.names.items
