-- The productions of a grammar, their terminals, and the tokens that may follow an item.
use Rattle.std.proofs.Common.{◌≡◌, ℕ, suc, ◌+◌, inl, inr, List, [], ◌∷◌, ◌++◌, drop, refl, sym, ◌∙◌, ap, subst, Bool, true, false, cond, Option, Some, None}
use Rattle.std.specs.Prelude.{Contains, slice_get}
use Rattle.std.specs.List.{flat_map}
use Rattle.std.specs.Map.{lookup}
use Rattle.std.specs.BTreeMap.{is_at, get, IsOrdered}
use Rattle.std.specs.Cmp.{Equal-is}
use Rattle.std.proofs.lemmas.Map.Entries.{place_from_lookup, btree_map_get_place}
use Rattle.std.proofs.lemmas.Map.Lookups.{exact_bytes}
use Rattle.std.proofs.lemmas.List.Elements.{Contains-append_left, Contains-append_right, Contains-append_cases}
use Rattle.lalrpop_grammar.specs.Words.{IsWellFormed, AreWellFormedEntries, IsWellFormedEntry, HasKnownTerminals, productions, productions_of, listed_productions}
use Rattle.lalrpop_grammar.specs.Words.{Rules, name_cmp, rules_of}
use Rattle.lalrpop_grammar.proofs.Types.{Grammar, NonterminalData, NonterminalString, Production, Symbol, TerminalString}
use Rattle.lalrpop_grammar.specs.declared.repr.Symbol.TheVariants.{Nonterminal}
use Rattle.lalrpop_grammar.proofs.theory.first.FirstNames.{name_total}
use Rattle.lalrpop_collections.proofs.theory.lists.Members.{Contains-none, place}
use Rattle.lalrpop_collections.proofs.theory.lists.Places.{slice_get-drop}

abbrev GrammarEntry : Type 0
GrammarEntry = NonterminalString × NonterminalData

abbrev listed : GrammarEntry → List Production
listed e = e.1.productions.items

-- ---- the productions of a name are those of the grammar
among_at : (test : NonterminalString → Bool) (b : Bool) (e : GrammarEntry) (es : List GrammarEntry) (p : Production) →
    Contains (listed_productions (cond b (Some e.1) (lookup test es))) p → (Contains (listed_productions (lookup test es)) p → Contains (flat_map listed es) p) → Contains (listed e ++ flat_map listed es) p
among_at test true e es p c later = Contains-append_left (listed e) (flat_map listed es) p c
among_at test false e es p c later = Contains-append_right (listed e) (flat_map listed es) p (later c)

among : (test : NonterminalString → Bool) (es : List GrammarEntry) (p : Production) → Contains (listed_productions (lookup test es)) p → Contains (flat_map listed es) p
among test [] p c = absurd (Contains-none p c)
among test (e ∷ es) p c = among_at test (test e.0) e es p c (among test es p)

pub productions_among : (g : Grammar) (name : NonterminalString) (p : Production) → Contains (productions_of g name) p → Contains (productions g) p
productions_among g name p c = among (is_at (name_cmp name)) g.nonterminals.entries p c

-- ---- the terminals of productions are known
entries_head : (terminals : List TerminalString) (actions : ℕ) (e : GrammarEntry) (es : List GrammarEntry) → AreWellFormedEntries terminals actions (e ∷ es) → IsWellFormedEntry terminals actions e.0 (listed e)
entries_head terminals actions e es w = w 0 e.0 e.1 refl

entries_tail : (terminals : List TerminalString) (actions : ℕ) (e : GrammarEntry) (es : List GrammarEntry) → AreWellFormedEntries terminals actions (e ∷ es) → AreWellFormedEntries terminals actions es
entries_tail terminals actions e es w k name entry h = w (suc k) name entry h

known_in : (terminals : List TerminalString) (actions : ℕ) (es : List GrammarEntry) (p : Production) → AreWellFormedEntries terminals actions es → Contains (flat_map listed es) p → HasKnownTerminals terminals p.symbols
known_in terminals actions [] p w c = absurd (Contains-none p c)
known_in terminals actions (e ∷ es) p w c = elim (Contains-append_cases (listed e) (flat_map listed es) p c) [
  | inl here ↦ let at = place (listed e) p here in ((entries_head terminals actions e es w).each at.0 p at.2).known
  | inr later ↦ known_in terminals actions es p (entries_tail terminals actions e es w) later
]

pub known_symbols : (g : Grammar) (p : Production) → IsWellFormed g → Contains (productions g) p → HasKnownTerminals g.terminals p.symbols
known_symbols g p w c = known_in g.terminals _ g.nonterminals.entries p w c

-- the terminals of a production are known by rules that are those of a well-formed grammar
pub known_by_rules : (g : Grammar) (rules : Rules) → rules_of g ≡ rules → IsWellFormed g → (p : Production) → Contains rules.productions p → HasKnownTerminals rules.terminals p.symbols
known_by_rules g rules is well p among =
    subst (λ (r : Rules). HasKnownTerminals r.terminals p.symbols) is (known_symbols g p well (subst (λ (r : Rules). Contains r.productions p) (sym is) among))

pub known_rest : (terminals : List TerminalString) (n : ℕ) (symbols rest : List Symbol) → HasKnownTerminals terminals symbols → rest ≡ drop n symbols → HasKnownTerminals terminals rest
known_rest terminals n symbols rest h e k t at = h (n + k) t (sym (slice_get-drop n symbols k) ∙ ap (λ (xs : List Symbol). slice_get xs k) (sym e) ∙ at)

-- ---- a name has exactly its own productions
same_name : (a b : NonterminalString) → a.text ≡ b.text → a ≡ b
same_name a b e = let make : List ℕ → NonterminalString = λ t. record { text = t } in ap make e

-- the nonterminals at the front of equal lists are equal
pub same_front : (a b : NonterminalString) (v w : List Symbol) → Nonterminal a ∷ v ≡ Nonterminal b ∷ w → a ≡ b
same_front a b v w e = cc

-- the symbols after the nonterminals at the front of equal lists are equal
pub same_after : (a b : NonterminalString) (v w : List Symbol) → Nonterminal a ∷ v ≡ Nonterminal b ∷ w → v ≡ w
same_after a b v w e = cc

module _ (g : Grammar) (w : IsWellFormed g) where
  named_at : (name : NonterminalString) (o : Option NonterminalData) → lookup (is_at (name_cmp name)) g.nonterminals.entries ≡ o → (p : Production) → Contains (listed_productions o) p → p.nonterminal ≡ name
  named_at name None e p c = absurd (Contains-none p c)
  named_at name (Some entry) e p c =
      let at = place_from_lookup (is_at (name_cmp name)) g.nonterminals.entries entry e in
      let k = place entry.productions.items p c in
      let named = ((w at.0 at.1 entry at.2).each k.0 p k.2).named in
      let same : name ≡ at.1 = same_name name at.1 (exact_bytes name.text at.1.text ((Equal-is (name_cmp name at.1)).0 at.3)) in
      named ∙ sym same

  pub productions_named : (name : NonterminalString) (p : Production) → Contains (productions_of g name) p → p.nonterminal ≡ name
  productions_named name p c = named_at name (lookup (is_at (name_cmp name)) g.nonterminals.entries) refl p c

  own_at : (k : ℕ) (e : GrammarEntry) → IsOrdered name_cmp g.nonterminals → slice_get g.nonterminals.entries k ≡ Some e → (p : Production) → Contains (listed e) p → Contains (productions_of g p.nonterminal) p
  own_at k e ordered at p c =
      let j = place (listed e) p c in
      let named = ((w k e.0 e.1 at).each j.0 p j.2).named in
      let found : get name_cmp g.nonterminals e.0 ≡ Some e.1 = btree_map_get_place name_total g.nonterminals k e.0 e.1 ordered at in
      let here : Contains (productions_of g e.0) p = subst (λ (o : Option NonterminalData). Contains (listed_productions o) p) (sym found) c in
      subst (λ (n : NonterminalString). Contains (productions_of g n) p) (sym named) here

  entry_at : (es : List GrammarEntry) (p : Production) → Contains (flat_map listed es) p → (k : ℕ) × (e : GrammarEntry) × (slice_get es k ≡ Some e) × Contains (listed e) p
  entry_at [] p c = absurd (Contains-none p c)
  entry_at (e ∷ es) p c = elim (Contains-append_cases (listed e) (flat_map listed es) p c) [
    | inl here ↦ (0, e, refl, here)
    | inr later ↦ let r = entry_at es p later in (suc r.0, r.1, r.2, r.3)
  ]

  -- each production of the grammar is among those of its name
  pub productions_own : IsOrdered name_cmp g.nonterminals → (p : Production) → Contains (productions g) p → Contains (productions_of g p.nonterminal) p
  productions_own ordered p c = let r = entry_at g.nonterminals.entries p c in own_at r.0 r.1 ordered r.2 p r.3
