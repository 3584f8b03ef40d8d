-- Names by their places.
use Rattle.std.proofs.Common.{◌≡◌, ℕ, ◌<◌, ◌≤◌, inl, inr, List, length, sym, ap, subst, ◌∙◌, arith, Some, true, false, not, get_or}
use Rattle.std.specs.Prelude.{slice_get, Contains}
use Rattle.std.specs.Ordering.{is_eq, ordering_reverse}
use Rattle.std.specs.List.Sorted.{IsStrictlySortedBy}
use Rattle.std.specs.BTreeMap.{is_at}
use Rattle.std.specs.Map.{keys_of}
use Rattle.std.proofs.lemmas.Bool.{false≢true, cases_Bool, cases_lt}
use Rattle.std.proofs.lemmas.List.Sums.{position_or_len_is, passes_at_first, fails_before_first, prefix_len-le-length}
use Rattle.std.proofs.lemmas.Map.Keys.{Less-from_sorted}
use Rattle.std.proofs.lemmas.Option.{slice_get_within, get_or_from_slice_get}
use Rattle.lalrpop_grammar.proofs.Types.{Grammar, NonterminalData, NonterminalString, Production}
use Rattle.lalrpop_grammar.specs.Words.{name_cmp, productions, IsWellFormed, HasKnownTerminals, place}
use Rattle.lalrpop_grammar.proofs.theory.first.FirstNames.{name_same, name_self, name_total}
use Rattle.lalrpop_collections.proofs.theory.lists.Lists.{contains_map, contains_place}
use Rattle.lalrpop_collections.proofs.theory.lists.Members.{of_flat}

-- the place of a name in ordered names
pub place_at : (names : List NonterminalString) → IsStrictlySortedBy name_cmp names → (k : ℕ) (a : NonterminalString) → slice_get names k ≡ Some a → k ≡ place names a
place_at names sorted k a at =
    let within : k < length names = slice_get_within names k a at in
    let is : get_or names k a ≡ a = get_or_from_slice_get names k a a at in
    sym (position_or_len_is (is_at (name_cmp a)) names k a (omega arith)
    (λ j l. ap is_eq (ap (λ (b : NonterminalString). name_cmp b (get_or names j a)) (sym is) ∙ name_total.antisymm (get_or names k a) (get_or names j a) ∙ ap ordering_reverse (Less-from_sorted name_cmp names j k a sorted l within)))
    (λ l. ap (λ (b : NonterminalString). is_at (name_cmp a) b) is ∙ name_self a))

-- a name that is none of the names
pub place_none : (names : List NonterminalString) (a : NonterminalString) → ¬ Contains names a → length names ≡ place names a
place_none names a none = sym (position_or_len_is (is_at (name_cmp a)) names (length names) a (omega arith)
    (λ j l. elim (cases_Bool (is_at (name_cmp a) (get_or names j a))) [ inl t ↦ absurd (none (j, l, sym (name_same a (get_or names j a) t))) | inr f ↦ f ])
    (λ l. absurd (omega arith)))

-- a name is the only one at its place
pub place_same : (names : List NonterminalString) (a b : NonterminalString) → place names a < length names → place names b ≡ place names a → a ≡ b
place_same names a b l e =
    let there : is_at (name_cmp b) (get_or names (place names b) a) ≡ true = passes_at_first (is_at (name_cmp b)) names a (omega arith) in
    name_same a (get_or names (place names a) a) (passes_at_first (is_at (name_cmp a)) names a l) ∙ ap (λ k. get_or names k a) (sym e) ∙ sym (name_same b (get_or names (place names b) a) there)

-- no place is above the number of the names
pub place_most : (names : List NonterminalString) (a : NonterminalString) → place names a ≤ length names
place_most names a = prefix_len-le-length (λ b. not (is_at (name_cmp a) b)) names

-- the place of a name among the names is below their number
place_within : (names : List NonterminalString) (a : NonterminalString) → Contains names a → place names a < length names
place_within names a c = elim (cases_lt c.0 (place names a)) [
  | inl before ↦ absurd (false≢true (sym (fails_before_first (is_at (name_cmp a)) names c.0 a before) ∙ ap (λ (b : NonterminalString). is_at (name_cmp a) b) c.2 ∙ name_self a))
  | inr past ↦ let within : c.0 < length names = c.1 in omega arith
]

-- the terminals of a production are known, and its name has a place
pub record IsReady (g : Grammar) (p : Production) : Type 0 where
  pub known : HasKnownTerminals g.terminals p.symbols
  pub named : place (keys_of g.nonterminals.entries) p.nonterminal < length (keys_of g.nonterminals.entries)

pub Ready-all : (g : Grammar) → IsWellFormed g → (p : Production) → Contains (productions g) p → IsReady g p
Ready-all g well p c =
    let (e, in_grammar, in_entry) = of_flat (λ (e : NonterminalString × NonterminalData). e.1.productions.items) g.nonterminals.entries p c in
    let (k, at) = contains_place g.nonterminals.entries e in_grammar in
    let (j, there) = contains_place e.1.productions.items p in_entry in
    let good = (well k e.0 e.1 at).each j p there in
    record {
      known = good.known;
      named = place_within (keys_of g.nonterminals.entries) p.nonterminal (subst (λ (a : NonterminalString). Contains (keys_of g.nonterminals.entries) a) (sym good.named) (contains_map (λ (e : NonterminalString × NonterminalData). e.0) g.nonterminals.entries e in_grammar));
    }
