use Rattle.std.proofs.Common.{[], List}
use Rattle.std.specs.List.{flat_map}
use Rattle.lalrpop_numbers.proofs.Types.{NonterminalData, NonterminalString}
use Rattle.lalrpop_numbers.specs.Words.{AddsThose, IsStartOf}
use Rattle.lalrpop_collections.proofs.theory.lists.EachLemmas.{HoldsSoFar}
use Rattle.lalrpop_numbers.proofs.numbers.dotted.starts_of.Given as goal

abbrev pub invariant-loop-name : goal.invariant-loop-name
invariant-loop-name l = HoldsSoFar (λ (es : List (NonterminalString × NonterminalData)). AddsThose (IsStartOf (flat_map (λ (e : NonterminalString × NonterminalData). e.1.productions.items) es)) [] l.starts.keys) l._name-iterator l.grammar.nonterminals.entries
