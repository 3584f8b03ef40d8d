use Rattle.std.proofs.Common.{◌≡◌, ◌++◌, map}
use Rattle.std.specs.Borrow.{Bor}
use Rattle.std.specs.List.{flat_map}
use Rattle.lalrpop_grammar.specs.Words.{productions}
use Rattle.lalrpop_useful.proofs.Types.{NonterminalData, NonterminalString, Production}
use Rattle.lalrpop_useful.proofs.names.all_productions.Given as goal

-- the productions of the names so far and those of the names that are left are all productions
abbrev pub invariant-loop-name : goal.invariant-loop-name
invariant-loop-name l =
    map (λ (p : Bor Production). p.now) l.all.items ++ flat_map (λ (e : NonterminalString × NonterminalData). e.1.productions.items) l._name-iterator ≡ productions l.grammar
