-- The entries of the nonterminals of a grammar, and maps from nonterminals to sets of their users.
use Rattle.std.specs.Prelude.{List, [], Option, Some, None}
use Rattle.std.specs.BTreeSet.{BTreeSet}
use Rattle.lalrpop_collections.specs.lists.Multimaps.{collection_at}
use Rattle.lalrpop_grammar.specs.declared.repr.NonterminalString.{NonterminalString}
use Rattle.lalrpop_grammar.specs.declared.repr.Production.{Production}
use Rattle.lalrpop_grammar.specs.declared.repr.Span.{Span}
use Rattle.lalrpop_grammar.specs.declared.repr.grammar.Attribute.{Attribute}
use Rattle.lalrpop_grammar.specs.declared.repr.grammar.NonterminalData.{NonterminalData}
use Rattle.lalrpop_grammar.specs.grammars.WellFormed.{name_cmp}

-- the entry of a name: its productions, its marks and a span
pub record Entry : Type 0 where
  pub productions : List Production
  pub attributes : List Attribute
  pub span : Span

-- the entry that the data of a nonterminal have, with lists in the place of vectors
abbrev pub entry_view : NonterminalData → Entry
entry_view d = record { productions = d.productions.items; attributes = d.attributes.items; span = d.span }

-- ---- the users of a nonterminal
-- a map from nonterminals to sets of them
abbrev pub UserMap : Type 0
UserMap = List (NonterminalString × BTreeSet NonterminalString)

-- the names of a set, none if there is no set
abbrev pub listed_names : Option (BTreeSet NonterminalString) → List NonterminalString
listed_names None = []
listed_names (Some set) = set.keys

-- the users that a map has under a nonterminal
abbrev pub users_at : UserMap → NonterminalString → List NonterminalString
users_at users a = listed_names (collection_at name_cmp users a)
