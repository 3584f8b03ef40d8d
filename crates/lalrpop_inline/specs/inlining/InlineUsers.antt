-- The entries that mention a nonterminal, and these entries with the nonterminal inlined.
use Rattle.std.specs.Prelude.{cond, List, [], ◌∷◌, Contains}
use Rattle.std.specs.BTreeMap.{is_at}
use Rattle.std.specs.BTreeSet.{BTreeSet}
use Rattle.lalrpop_base.specs.Words.{name_cmp}
use Rattle.lalrpop_grammar.specs.declared.repr.NonterminalString.{NonterminalString}
use Rattle.lalrpop_grammar.specs.declared.repr.Production.{Production}
use Rattle.lalrpop_grammar.specs.declared.repr.grammar.ActionFnDefn.{ActionFnDefn}
use Rattle.lalrpop_grammar.specs.declared.repr.grammar.Grammar.{Grammar}
use Rattle.lalrpop_inline.specs.inlining.InlineOrder.{IsMarked, Mentions}
use Rattle.lalrpop_inline.specs.inlining.InlineSteps.{View, entry_with, entry_in_front, replaced_all}
use Rattle.lalrpop_grammar.specs.grammars.Entries.{users_at, Entry}

-- the right map has all users of the left one under the same names
abbrev pub KeepsUsers : List (NonterminalString × BTreeSet NonterminalString) → List (NonterminalString × BTreeSet NonterminalString) → Type 0
KeepsUsers old new = (c a : NonterminalString) → Contains (users_at old c) a → Contains (users_at new c) a

-- the map has under each marked nonterminal all nonterminals that mention it
abbrev pub HasUsersOfMarked : Grammar → List (NonterminalString × BTreeSet NonterminalString) → Type 0
HasUsersOfMarked g users = (a c : NonterminalString) → IsMarked g c → Mentions g a c → Contains (users_at users c) a

-- the entries with the productions of the first one replaced
abbrev pub first_replaced : NonterminalString → List Production → NonterminalString × Entry → List (NonterminalString × Entry) → List ActionFnDefn → View
first_replaced b alternatives e es defns =
    entry_in_front (entry_with e (replaced_all b alternatives e.1.productions defns).productions) (record { entries = es; defns = (replaced_all b alternatives e.1.productions defns).defns })

-- the entries with the productions under one name replaced, if it has an entry
abbrev pub replaced_at : NonterminalString → List Production → NonterminalString → List (NonterminalString × Entry) → List ActionFnDefn → View
replaced_at b alternatives a [] defns = record { entries = []; defns = defns }
replaced_at b alternatives a (e ∷ es) defns = cond (is_at (name_cmp a) e.0) (first_replaced b alternatives e es defns) (entry_in_front e (replaced_at b alternatives a es defns))

-- the view with the productions under several names replaced, name after name
abbrev pub replaced_places : NonterminalString → List Production → List NonterminalString → View → View
replaced_places b alternatives [] v = v
replaced_places b alternatives (a ∷ places) v = replaced_places b alternatives places (replaced_at b alternatives a v.entries v.defns)
