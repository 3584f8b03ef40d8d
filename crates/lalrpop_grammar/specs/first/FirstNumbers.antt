-- Names by number.
use Rattle.std.specs.Prelude.{ℕ, List}
use Rattle.std.specs.List.{position_or_len}
use Rattle.std.specs.BTreeMap.{is_at}
use Rattle.lalrpop_grammar.specs.declared.repr.NonterminalString.{NonterminalString}
use Rattle.lalrpop_grammar.specs.grammars.WellFormed.{name_cmp}

-- the place of the name among the names, or the count of all if it is none of them
abbrev pub place : List NonterminalString → NonterminalString → ℕ
place names name = position_or_len (is_at (name_cmp name)) names
