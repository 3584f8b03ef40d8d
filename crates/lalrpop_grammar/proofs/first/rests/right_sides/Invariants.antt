use Rattle.std.proofs.Common.{◌≡◌, ◌++◌, map}
use Rattle.std.specs.List.{flat_map}
use Rattle.lalrpop_grammar.proofs.Types.{NonterminalData, NonterminalString}
use Rattle.lalrpop_grammar.specs.Words.{productions, right_side}
use Rattle.lalrpop_grammar.proofs.first.rests.right_sides.Given as goal

-- the right sides of the names so far and those of the names that are left are all
abbrev pub invariant-loop-name : goal.invariant-loop-name
invariant-loop-name l = l.rests.items ++ map (right_side l.names) (flat_map (λ (e : NonterminalString × NonterminalData). e.1.productions.items) l._name-iterator) ≡ map (right_side l.names) (productions l.grammar)
