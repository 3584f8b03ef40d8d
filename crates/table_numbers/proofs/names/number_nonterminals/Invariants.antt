use Rattle.std.proofs.Common.{◌≡◌, ◌++◌, map}
use Rattle.lalrpop_grammar.specs.declared.repr.NonterminalString.{NonterminalString}
use Rattle.lalrpop_grammar.specs.declared.repr.grammar.NonterminalData.{NonterminalData}
use Rattle.table_numbers.proofs.names.number_nonterminals.Given as goal

abbrev pub invariant-loop-name : goal.invariant-loop-name
invariant-loop-name l =
    let name_of = λ (e : NonterminalString × NonterminalData). e.0 in
    l.numbering ++ map name_of l.name-iterator ≡ map name_of l.grammar.nonterminals.entries
