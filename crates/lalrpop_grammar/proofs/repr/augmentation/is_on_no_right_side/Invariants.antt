use Rattle.std.proofs.Common.{◌↔◌}
use Rattle.std.specs.List.{flat_map}
use Rattle.lalrpop_grammar.specs.Words.{IsOnNoRightSide, productions}
use Rattle.lalrpop_grammar.proofs.Types.{NonterminalData, NonterminalString}
use Rattle.lalrpop_grammar.proofs.repr.augmentation.is_on_no_right_side.Given as goal

abbrev pub invariant-loop-name : goal.invariant-loop-name
invariant-loop-name l = IsOnNoRightSide (flat_map (λ (e : NonterminalString × NonterminalData). e.1.productions.items) l._name-iterator) l.name ↔ IsOnNoRightSide (productions l.grammar) l.name
