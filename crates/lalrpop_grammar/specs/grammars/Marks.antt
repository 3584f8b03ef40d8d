-- The attributes of entries that this layer reads.
use Rattle.std.specs.Prelude.{codes}
use Rattle.lalrpop_grammar.specs.declared.repr.grammar.Attribute.{Attribute}

-- the attribute of a nonterminal that is to be inlined
abbrev pub inline_mark : Attribute
inline_mark = record { id = codes "inline" }
