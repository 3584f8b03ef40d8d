-- Inlining of nonterminals, one after another: Aho, Sethi and Ullman, "Compilers", section 4.3,
-- where the alternatives of a nonterminal replace it. Here each new production has a new action,
-- whose definition has the parts of the production.
use Rattle.std.specs.Prelude.{◌≡◌, ◌||◌, ℕ, Bool, false, cond, List, [], ◌∷◌, ◌++◌, length, map, slice_get, Option, Some, None}
use Rattle.std.specs.List.{flat_map, list_any}
use Rattle.std.specs.BTreeMap.{is_at}
use Rattle.std.specs.Map.{lookup}
use Rattle.lalrpop_base.specs.Words.{name_cmp}
use Rattle.lalrpop_grammar.specs.declared.repr.NonterminalString.{NonterminalString}
use Rattle.lalrpop_grammar.specs.declared.repr.ActionFn.{ActionFn}
use Rattle.lalrpop_grammar.specs.declared.repr.Production.{Production}
use Rattle.lalrpop_grammar.specs.declared.repr.inlined.InlinedSymbol.{InlinedSymbol}
use Rattle.lalrpop_grammar.specs.declared.repr.inlined.InlinedSymbol.TheVariants.{Original, Inlined}
use Rattle.lalrpop_grammar.specs.declared.repr.grammar.ActionFnDefn.{ActionFnDefn}
use Rattle.lalrpop_grammar.specs.declared.repr.grammar.ActionFnDefnKind.TheVariants.{Inline}
use Rattle.lalrpop_grammar.specs.declared.repr.grammar.NonterminalData.{NonterminalData}
use Rattle.lalrpop_grammar.specs.declared.repr.grammar.Grammar.{Grammar}
use Rattle.lalrpop_inline.specs.inlining.InlineChoices.{mentions, choices, laid_out}
use Rattle.lalrpop_grammar.specs.grammars.Entries.{Entry}

-- whether a definition says that its action can fail; false if there is none
abbrev pub fallible_of : Option ActionFnDefn → Bool
fallible_of None = false
fallible_of (Some defn) = defn.fallible

-- whether an action can fail
abbrev pub is_fallible : List ActionFnDefn → ActionFn → Bool
is_fallible defns action = fallible_of (slice_get defns action.0)

-- the return type in a definition, empty if there is none
abbrev pub ret_type_of : Option ActionFnDefn → List ℕ
ret_type_of None = []
ret_type_of (Some defn) = defn.ret_type

-- whether a part can fail: an inlined alternative can if its action can
abbrev pub is_fallible_part : List ActionFnDefn → InlinedSymbol → Bool
is_fallible_part defns (Original x) = false
is_fallible_part defns (Inlined action symbols) = is_fallible defns action

-- the definition of the action of a choice. It can fail if the outer action or that of an inlined
-- alternative can, and it has the return type of the outer action
abbrev pub choice_defn : List ActionFnDefn → ActionFn → List InlinedSymbol → ActionFnDefn
choice_defn defns outer c = record {
  fallible = is_fallible defns outer || list_any (is_fallible_part defns) c;
  ret_type = ret_type_of (slice_get defns outer.0);
  kind = Inline (record { action = outer; symbols = c });
}

-- the production of a choice, with the action of that number
abbrev pub choice_production : ℕ → Production → List InlinedSymbol → Production
choice_production n p c = record { nonterminal = p.nonterminal; symbols = laid_out c; action = record { 0 = n }; span = p.span }

-- productions, and the definitions of all actions
pub record Made : Type 0 where
  pub productions : List Production
  pub defns : List ActionFnDefn

-- the productions with the definitions
abbrev pub made_of : List Production → List ActionFnDefn → Made
made_of ps defns = record { productions = ps; defns = defns }

-- the same with productions before the others
abbrev pub in_front : List Production → Made → Made
in_front ps m = made_of (ps ++ m.productions) m.defns

-- a production for each choice, each with a new action
abbrev pub chosen : Production → List (List InlinedSymbol) → List ActionFnDefn → Made
chosen p [] defns = made_of [] defns
chosen p (c ∷ cs) defns = in_front (choice_production (length defns) p c ∷ []) (chosen p cs (defns ++ choice_defn defns p.action c ∷ []))

-- the productions that replace one: itself if it does not mention the nonterminal, else a
-- production for each choice
abbrev pub replaced : NonterminalString → List Production → Production → List ActionFnDefn → Made
replaced b alternatives p defns = cond (mentions b p.symbols) (chosen p (choices b alternatives p.symbols) defns) (made_of (p ∷ []) defns)

-- the productions that replace each of several, in turn
abbrev pub replaced_all : NonterminalString → List Production → List Production → List ActionFnDefn → Made
replaced_all b alternatives [] defns = made_of [] defns
replaced_all b alternatives (p ∷ ps) defns = in_front (replaced b alternatives p defns).productions (replaced_all b alternatives ps (replaced b alternatives p defns).defns)

-- the entries by name, and the definitions of all actions
pub record View : Type 0 where
  pub entries : List (NonterminalString × Entry)
  pub defns : List ActionFnDefn

-- a name with its entry, without what inlining does not read
abbrev pub named_entry : NonterminalString × NonterminalData → NonterminalString × Entry
named_entry e = (e.0, record { productions = e.1.productions.items; attributes = e.1.attributes.items; span = e.1.span })

-- the entries and definitions, without what inlining does not read
abbrev pub view_with : List (NonterminalString × NonterminalData) → List ActionFnDefn → View
view_with entries defns = record { entries = map named_entry entries; defns = defns }

-- the view of a grammar
abbrev pub view_of : Grammar → View
view_of g = view_with g.nonterminals.entries g.action_fn_defns.items

-- the productions of an entry, none if there is no entry
abbrev pub productions_of_entry : Option Entry → List Production
productions_of_entry None = []
productions_of_entry (Some entry) = entry.productions

-- the alternatives of a name, none if it has no entry
abbrev pub alternatives_in : View → NonterminalString → List Production
alternatives_in v name = productions_of_entry (lookup (is_at (name_cmp name)) v.entries)

-- all productions, name by name
abbrev pub productions_of_view : View → List Production
productions_of_view v = flat_map (λ (e : NonterminalString × Entry). e.1.productions) v.entries

-- the entry with other productions
abbrev pub entry_with : NonterminalString × Entry → List Production → NonterminalString × Entry
entry_with e productions = (e.0, record { productions = productions; attributes = e.1.attributes; span = e.1.span })

-- the view with an entry before the others
abbrev pub entry_in_front : NonterminalString × Entry → View → View
entry_in_front e v = record { entries = e ∷ v.entries; defns = v.defns }

-- the entries with their productions replaced, in the order of their names
abbrev pub replaced_entries : NonterminalString → List Production → List (NonterminalString × Entry) → List ActionFnDefn → View
replaced_entries b alternatives [] defns = record { entries = []; defns = defns }
replaced_entries b alternatives (e ∷ es) defns =
    entry_in_front (entry_with e (replaced_all b alternatives e.1.productions defns).productions) (replaced_entries b alternatives es (replaced_all b alternatives e.1.productions defns).defns)

-- the new entry has its productions replaced, and the other parts of the old one
pub record IsEntryReplaced (b : NonterminalString) (alternatives : List Production) (old : NonterminalData) (defns : List ActionFnDefn) (new : NonterminalData) (all : List ActionFnDefn) : Type 0 where
  pub productions : made_of new.productions.items all ≡ replaced_all b alternatives old.productions.items defns
  pub attributes : new.attributes.items ≡ old.attributes.items
  pub span : new.span ≡ old.span

-- the view with a nonterminal inlined: each of its occurrences is replaced by its alternatives
abbrev pub inlined_of : NonterminalString → View → View
inlined_of b v = replaced_entries b (alternatives_in v b) v.entries v.defns

-- the view with nonterminals inlined, one after another
abbrev pub inlined_by : List NonterminalString → View → View
inlined_by [] v = v
inlined_by (b ∷ order) v = inlined_by order (inlined_of b v)
