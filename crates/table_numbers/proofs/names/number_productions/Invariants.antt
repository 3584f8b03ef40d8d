use Rattle.std.proofs.Common.{◌≡◌, ◌++◌}
use Rattle.std.specs.List.{flat_map}
use Rattle.lalrpop_grammar.specs.declared.repr.NonterminalString.{NonterminalString}
use Rattle.lalrpop_grammar.specs.declared.repr.grammar.NonterminalData.{NonterminalData}
use Rattle.table_numbers.proofs.names.number_productions.Given as goal

abbrev pub invariant-loop-name : goal.invariant-loop-name
invariant-loop-name l =
    let listed = λ (e : NonterminalString × NonterminalData). e.1.productions.items in
    l.numbering ++ flat_map listed l._name-iterator ≡ flat_map listed l.grammar.nonterminals.entries
