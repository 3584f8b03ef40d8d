-- The graph of FIRST sets, and the sets that spread over it.
use Rattle.std.proofs.Common.{◌≡◌, ◌≢◌, ℕ, suc, ◌+◌, ◌<◌, ◌⊎◌, ◌↔◌, inl, inr, Bool, true, false, ◌==◌, ◌||◌, List, [], ◌∷◌, ◌++◌, length, refl, sym, ap, ap₂, subst, ◌∙◌, Some, set, get_or, length-set, get_or-set_same, get_or-set_other, eqb-true, eq-eqb}
use Rattle.std.specs.Prelude.{slice_get, Contains}
use Rattle.std.specs.declared.alloc.Global.{Global}
use Rattle.std.specs.declared.vec.Vec.{Vec}
use Rattle.std.proofs.lemmas.Bool.{cases_eq, true≢false, or_cases, or_left, or_right}
use Rattle.std.proofs.lemmas.List.Elements.{Contains-append_left, Contains-append_right, Contains-append_cases, Contains-push, Contains-push_cases}
use Rattle.std.proofs.lemmas.Option.{slice_get-get_or}
use mathlib.Core.List.{head-eq_of_cons-eq, nil≢cons}
use Rattle.lalrpop_collections.specs.Words.{Bits, has, no_bits, with_bit, has-no_bits, has-with_bit, HoldsBit, edge_ends, IsSpread, held, sent_on}
use Rattle.lalrpop_collections.specs.lists.Spreading.{set_at, listed_ends}
use Rattle.lalrpop_grammar.proofs.Types.{NonterminalString, Production, Symbol, TerminalString}
use Rattle.lalrpop_grammar.specs.declared.first.graph.Graph.{Graph}
use Rattle.lalrpop_grammar.specs.declared.repr.Symbol.TheVariants.{Nonterminal, Terminal}
use Rattle.lalrpop_grammar.specs.Words.{Rules, IsFirst, NullableBy, FirstBy, AreFirstSets, IsFirstOfName, HasKnownTerminals, place, AreRests, Rest, BeginsWithTerminal, BeginsWithName, IsSized, IsFlagged, IsGraph, IsAdded}
use Rattle.lalrpop_grammar.specs.first.First.{IsFirstBit}
use Rattle.lalrpop_grammar.proofs.theory.grammars.Derivations.{Derives-trans}
use Rattle.lalrpop_grammar.proofs.theory.grammars.Forests.{first-cons}
use Rattle.lalrpop_grammar.proofs.theory.grammars.SymbolLists.{same_terminal, same_nonterminal, not_both}
use Rattle.lalrpop_grammar.proofs.theory.first.FirstSets.{nullable_by, first_by}
use Rattle.lalrpop_grammar.proofs.theory.lists.ListEnds.{only_one}
use Rattle.lalrpop_collections.proofs.theory.lists.Lists.{same_some, contains_head, contains_place, place_contains}
use Rattle.lalrpop_collections.proofs.theory.lists.Members.{Contains-none}
use Rattle.lalrpop_collections.proofs.theory.lists.Places.{put_other}

-- ---- one change
-- a bit is written into the set of a number
module _ (sets : List Bits) (k b : ℕ) (within : k < length sets) where
  abbrev written : List Bits
  written = set sets k (with_bit (set_at sets k) b)

  has_written : (q : ℕ) → has (set_at written k) q ≡ ((q == b) || has (set_at sets k) q)
  has_written q = ap (λ s. has s q) (get_or-set_same sets k (with_bit (set_at sets k) b) no_bits within) ∙ has-with_bit (set_at sets k) b q

  has_other : (n bit : ℕ) → n ≢ k → has (set_at written n) bit ≡ has (set_at sets n) bit
  has_other n bit apart = ap (λ s. has s bit) (get_or-set_other sets k n (with_bit (set_at sets k) b) no_bits apart)

  pub holds_with : (n bit : ℕ) → HoldsBit written n bit ↔ (HoldsBit sets n bit ⊎ ((n ≡ k) × (bit ≡ b)))
  holds_with n bit = elim (cases_eq n k) [
    | inl e ↦ (
      λ h. elim (or_cases (bit == b) (has (set_at sets k) bit) (sym (has_written bit) ∙ subst (λ j. HoldsBit written j bit) e h)) [ inl t ↦ inr (e, eqb-true bit b t) | inr o ↦ inl (subst (λ j. HoldsBit sets j bit) (sym e) o) ],
      λ r. subst (λ j. HoldsBit written j bit) (sym e) (has_written bit ∙ elim r [ inl o ↦ or_right (bit == b) (has (set_at sets k) bit) (subst (λ j. HoldsBit sets j bit) e o) | inr same ↦ or_left (bit == b) (has (set_at sets k) bit) (eq-eqb bit b same.1) ]),
    )
    | inr apart ↦ (λ h. inl (sym (has_other n bit apart) ∙ h), λ r. elim r [ inl o ↦ has_other n bit apart ∙ o | inr same ↦ absurd (apart same.0) ])
  ]

-- a number is pushed to the ends of the edges from a number
pub ends_with : (edges : List (Vec ℕ Global)) (k end : ℕ) (v : Vec ℕ Global) → k < length edges → v.items ≡ edge_ends edges k ++ end ∷ [] → (m n : ℕ) → Contains (edge_ends (set edges k v) m) n ↔ (Contains (edge_ends edges m) n ⊎ ((m ≡ k) × (n ≡ end)))
ends_with edges k end v within pushed m n = elim (cases_eq m k) [
  | inl e ↦
      let there : edge_ends (set edges k v) m ≡ edge_ends edges m ++ end ∷ [] = ap (edge_ends (set edges k v)) e ∙ ap listed_ends (slice_get-get_or (set edges k v) k v (subst (λ j. k < j) (sym (length-set edges k v)) within) ∙ ap Some (get_or-set_same edges k v v within)) ∙ pushed ∙ ap (λ j. edge_ends edges j ++ end ∷ []) (sym e) in (
        λ c. elim (Contains-push_cases (edge_ends edges m) end n (subst (λ (xs : List ℕ). Contains xs n) there c)) [ inl old ↦ inl old | inr same ↦ inr (e, sym same) ],
        λ r. subst (λ (xs : List ℕ). Contains xs n) (sym there) (elim r [ inl old ↦ Contains-append_left (edge_ends edges m) (end ∷ []) n old | inr same ↦ subst (Contains (edge_ends edges m ++ end ∷ [])) (sym same.1) (Contains-push (edge_ends edges m) end) ]),
      )
  | inr apart ↦
      let same : edge_ends (set edges k v) m ≡ edge_ends edges m = ap listed_ends (put_other edges k m v apart) in
      (λ c. inl (subst (λ (xs : List ℕ). Contains xs n) same c), λ r. elim r [ inl old ↦ subst (λ (xs : List ℕ). Contains xs n) (sym same) old | inr e ↦ absurd (apart e.0) ])
]

-- ---- one rest more
module _ (terminals : List TerminalString) (names : List NonterminalString) where
  pub Graph-none : (graph : Graph) → IsSized (length names + 1) graph → ((n : ℕ) → set_at graph.sets.items n ≡ no_bits) → ((m : ℕ) → edge_ends graph.edges.items m ≡ []) → ((n : ℕ) → get_or graph.nullable.items n false ≡ false) → IsGraph terminals names [] graph
  Graph-none graph sized none empty never = record {
    sized = sized;
    begins = λ n bit. (λ h. absurd (true≢false (sym h ∙ ap (λ s. has s bit) (none n) ∙ has-no_bits bit)), λ b. absurd (Contains-none (n, Terminal b.0 ∷ b.1) b.3));
    leads = λ m n. (λ c. absurd (Contains-none n (subst (λ (xs : List ℕ). Contains xs n) (empty m) c)), λ b. absurd (Contains-none (n, Nonterminal b.0 ∷ b.1) b.3));
    told = λ n. (λ t. absurd (true≢false (sym t ∙ never n)), λ c. absurd (Contains-none (n, []) c));
  }

  pub Graph-more : (before : List Rest) (rest : Rest) (old new : Graph) → IsGraph terminals names before old → IsAdded terminals names rest old new → IsGraph terminals names (before ++ rest ∷ []) new
  Graph-more before rest old new h s = record {
    sized = s.sized (length names + 1) h.sized;
    begins = λ n bit. (
      λ k. elim ((s.begins n bit).0 k) [
        | inl there ↦ let b = (h.begins n bit).0 there in (b.0, b.1, b.2, Contains-append_left before (rest ∷ []) (n, Terminal b.0 ∷ b.1) b.3)
        | inr b ↦ (b.0, b.1, b.2, Contains-append_right before (rest ∷ []) (n, Terminal b.0 ∷ b.1) b.3)
      ],
      λ b. (s.begins n bit).1 (elim (Contains-append_cases before (rest ∷ []) (n, Terminal b.0 ∷ b.1) b.3) [
        | inl there ↦ inl ((h.begins n bit).1 (b.0, b.1, b.2, there))
        | inr last ↦ inr (b.0, b.1, b.2, last)
      ]),
    );
    leads = λ m n. (
      λ k. elim ((s.leads m n).0 k) [
        | inl there ↦ let b = (h.leads m n).0 there in (b.0, b.1, b.2, Contains-append_left before (rest ∷ []) (n, Nonterminal b.0 ∷ b.1) b.3)
        | inr b ↦ (b.0, b.1, b.2, Contains-append_right before (rest ∷ []) (n, Nonterminal b.0 ∷ b.1) b.3)
      ],
      λ b. (s.leads m n).1 (elim (Contains-append_cases before (rest ∷ []) (n, Nonterminal b.0 ∷ b.1) b.3) [
        | inl there ↦ inl ((h.leads m n).1 (b.0, b.1, b.2, there))
        | inr last ↦ inr (b.0, b.1, b.2, last)
      ]),
    );
    told = λ n. (
      λ t. elim ((s.told n).0 t) [ inl there ↦ Contains-append_left before (rest ∷ []) (n, []) ((h.told n).0 there) | inr c ↦ Contains-append_right before (rest ∷ []) (n, []) c ],
      λ c. (s.told n).1 (elim (Contains-append_cases before (rest ∷ []) (n, []) c) [ inl there ↦ inl ((h.told n).1 there) | inr last ↦ inr last ]),
    );
  }

  -- ---- the rest that is added
  module _ (k : ℕ) (symbols : List Symbol) (old new : Graph) where
    only : (n : ℕ) (l : List Symbol) → Contains {X = Rest} ((k, symbols) ∷ []) (n, l) → (k ≡ n) × (symbols ≡ l)
    only n l c = let e = only_one (k, symbols) (n, l) c in (ap (λ (r : Rest). r.0) e, ap (λ (r : Rest). r.1) e)

    there : (n : ℕ) (l : List Symbol) → k ≡ n → symbols ≡ l → Contains {X = Rest} ((k, symbols) ∷ []) (n, l)
    there n l d e = subst (λ (r : Rest). Contains {X = Rest} ((k, symbols) ∷ []) r) (ap₂ (λ (a : ℕ) (b : List Symbol). (a, b)) d e) (contains_head (k, symbols) [])

    same_begins : new.sets.items ≡ old.sets.items → ((t : TerminalString) (l : List Symbol) → symbols ≡ Terminal t ∷ l → Contains terminals t → ⊥) → (n bit : ℕ) → HoldsBit new.sets.items n bit ↔ (HoldsBit old.sets.items n bit ⊎ BeginsWithTerminal terminals ((k, symbols) ∷ []) n bit)
    same_begins e never n bit = (
      λ h. inl (subst (λ (xs : List Bits). HoldsBit xs n bit) e h),
      λ r. elim r [ inl h ↦ subst (λ (xs : List Bits). HoldsBit xs n bit) (sym e) h | inr b ↦ absurd (never b.0 b.1 (only n (Terminal b.0 ∷ b.1) b.3).1 (place_contains terminals bit b.0 b.2)) ],
    )

    same_leads : new.edges.items ≡ old.edges.items → ((b : NonterminalString) (l : List Symbol) → symbols ≡ Nonterminal b ∷ l → ⊥) → (m n : ℕ) → Contains (edge_ends new.edges.items m) n ↔ (Contains (edge_ends old.edges.items m) n ⊎ BeginsWithName names ((k, symbols) ∷ []) n m)
    same_leads e never m n = (
      λ c. inl (subst (λ (xs : List (Vec ℕ Global)). Contains (edge_ends xs m) n) e c),
      λ r. elim r [ inl c ↦ subst (λ (xs : List (Vec ℕ Global)). Contains (edge_ends xs m) n) (sym e) c | inr b ↦ absurd (never b.0 b.1 (only n (Nonterminal b.0 ∷ b.1) b.3).1) ],
    )

    same_told : new.nullable.items ≡ old.nullable.items → (symbols ≡ [] → ⊥) → (n : ℕ) → IsFlagged new n ↔ (IsFlagged old n ⊎ Contains {X = Rest} ((k, symbols) ∷ []) (n, []))
    same_told e never n = (
      λ t. inl (subst (λ (xs : List Bool). get_or xs n false ≡ true) e t),
      λ r. elim r [ inl t ↦ subst (λ (xs : List Bool). get_or xs n false ≡ true) (sym e) t | inr c ↦ absurd (never (only n [] c).1) ],
    )

    same_size : length new.sets.items ≡ length old.sets.items → length new.edges.items ≡ length old.edges.items → length new.nullable.items ≡ length old.nullable.items → (count : ℕ) → IsSized count old → IsSized count new
    same_size d e f count h = record { sets = d ∙ h.sets; edges = e ∙ h.edges; flags = f ∙ h.flags }

    -- it begins with an unknown terminal
    pub Added-unknown : (t : TerminalString) (l : List Symbol) → symbols ≡ Terminal t ∷ l → ¬ Contains terminals t → new ≡ old → IsAdded terminals names (k, symbols) old new
    Added-unknown t l e unknown same = record {
      sized = same_size (ap (λ (g : Graph). length g.sets.items) same) (ap (λ (g : Graph). length g.edges.items) same) (ap (λ (g : Graph). length g.nullable.items) same);
      begins = same_begins (ap (λ (g : Graph). g.sets.items) same) (λ u m f c. unknown (subst (Contains terminals) (same_terminal (head-eq_of_cons-eq (sym f ∙ e))) c));
      leads = same_leads (ap (λ (g : Graph). g.edges.items) same) (λ b m f. not_both (head-eq_of_cons-eq (sym f ∙ e)));
      told = same_told (ap (λ (g : Graph). g.nullable.items) same) (λ f. nil≢cons (sym f ∙ e));
    }

    pub Added-terminal : (t : TerminalString) (l : List Symbol) (b : ℕ) → symbols ≡ Terminal t ∷ l → k < length old.sets.items → slice_get terminals b ≡ Some t → ((bit : ℕ) → slice_get terminals bit ≡ Some t → b ≡ bit) → new.sets.items ≡ set old.sets.items k (with_bit (set_at old.sets.items k) b) → new.edges.items ≡ old.edges.items → new.nullable.items ≡ old.nullable.items → IsAdded terminals names (k, symbols) old new
    Added-terminal t l b e within at one is edges flags = record {
      sized = same_size (ap length is ∙ length-set old.sets.items k (with_bit (set_at old.sets.items k) b)) (ap length edges) (ap length flags);
      begins = λ n bit. (
        λ h. elim ((holds_with old.sets.items k b within n bit).0 (subst (λ (xs : List Bits). HoldsBit xs n bit) is h)) [
          | inl o ↦ inl o
          | inr r ↦ inr (t, l, ap (slice_get terminals) r.1 ∙ at, there n (Terminal t ∷ l) (sym r.0) e)
        ],
        λ r. subst (λ (xs : List Bits). HoldsBit xs n bit) (sym is) ((holds_with old.sets.items k b within n bit).1 (elim r [
          | inl o ↦ inl o
          | inr x ↦ let same : Terminal x.0 ≡ Terminal t = head-eq_of_cons-eq (sym (only n (Terminal x.0 ∷ x.1) x.3).1 ∙ e) in inr (sym (only n (Terminal x.0 ∷ x.1) x.3).0, sym (one bit (x.2 ∙ ap Some (same_terminal same))))
        ])),
      );
      leads = same_leads edges (λ a m f. not_both (head-eq_of_cons-eq (sym f ∙ e)));
      told = same_told flags (λ f. nil≢cons (sym f ∙ e));
    }

    pub Added-name : (a : NonterminalString) (l : List Symbol) (m : ℕ) (v : Vec ℕ Global) → symbols ≡ Nonterminal a ∷ l → m ≡ place names a → m < length old.edges.items → v.items ≡ edge_ends old.edges.items m ++ k ∷ [] → new.sets.items ≡ old.sets.items → new.edges.items ≡ set old.edges.items m v → new.nullable.items ≡ old.nullable.items → IsAdded terminals names (k, symbols) old new
    Added-name a l m v e at within pushed sets is flags = record {
      sized = same_size (ap length sets) (ap length is ∙ length-set old.edges.items m v) (ap length flags);
      begins = same_begins sets (λ t r f c. not_both (head-eq_of_cons-eq (sym e ∙ f)));
      leads = λ j n. (
        λ c. elim ((ends_with old.edges.items m k v within pushed j n).0 (subst (λ (xs : List (Vec ℕ Global)). Contains (edge_ends xs j) n) is c)) [
          | inl o ↦ inl o
          | inr r ↦ inr (a, l, sym (r.0 ∙ at), there n (Nonterminal a ∷ l) (sym r.1) e)
        ],
        λ r. subst (λ (xs : List (Vec ℕ Global)). Contains (edge_ends xs j) n) (sym is) ((ends_with old.edges.items m k v within pushed j n).1 (elim r [
          | inl o ↦ inl o
          | inr x ↦ let same : Nonterminal x.0 ≡ Nonterminal a = head-eq_of_cons-eq (sym (only n (Nonterminal x.0 ∷ x.1) x.3).1 ∙ e) in inr (sym x.2 ∙ ap (place names) (same_nonterminal same) ∙ sym at, sym (only n (Nonterminal x.0 ∷ x.1) x.3).0)
        ])),
      );
      told = same_told flags (λ f. nil≢cons (sym f ∙ e));
    }

    pub Added-empty : symbols ≡ [] → k < length old.nullable.items → new.sets.items ≡ old.sets.items → new.edges.items ≡ old.edges.items → new.nullable.items ≡ set old.nullable.items k true → IsAdded terminals names (k, symbols) old new
    Added-empty e within sets edges is = record {
      sized = same_size (ap length sets) (ap length edges) (ap length is ∙ length-set old.nullable.items k true);
      begins = same_begins sets (λ t l f c. nil≢cons (sym e ∙ f));
      leads = same_leads edges (λ a l f. nil≢cons (sym e ∙ f));
      told = λ n. elim (cases_eq n k) [
        | inl same ↦ (λ t. inr (there n [] (sym same) e), λ r. ap (λ (xs : List Bool). get_or xs n false) is ∙ ap (λ j. get_or (set old.nullable.items k true) j false) same ∙ get_or-set_same old.nullable.items k true false within)
        | inr apart ↦
            let other : get_or new.nullable.items n false ≡ get_or old.nullable.items n false = ap (λ (xs : List Bool). get_or xs n false) is ∙ get_or-set_other old.nullable.items k n true false apart in
            (λ t. inl (sym other ∙ t), λ r. elim r [ inl t ↦ other ∙ t | inr c ↦ absurd (apart (sym (only n [] c).0)) ])
      ];
    }

-- ---- what the least sets are
module _ (g : Rules) (names : List NonterminalString) (rests : List Rest) (graph : Graph) (known : (p : Production) → Contains g.productions p → HasKnownTerminals g.terminals p.symbols) (are : AreRests g.productions names rests) (is : IsGraph g.terminals names rests graph) where
  abbrev Spreads : ℕ → ℕ → Type 0
  Spreads n bit = IsSpread graph.sets.items graph.edges.items n bit

  -- edges lead to names
  pub Graph-named : (from to : ℕ) → Contains (edge_ends graph.edges.items from) to → to < length names
  Graph-named from to edge = let b = (is.leads from to).0 edge in are.named to (Nonterminal b.0 ∷ b.1) b.3

  -- the bits that spread are those of terminals in FIRST
  spread_first : {n bit : ℕ} → Spreads n bit → (a : NonterminalString) → place names a ≡ n → IsFirstBit g (Nonterminal a ∷ []) bit
  spread_first (held n bit h) a e = let b = (is.begins n bit).0 h in (b.0, b.2, (b.1, are.right n (Terminal b.0 ∷ b.1) a b.3 e))
  spread_first (sent_on from to bit edge s) a e =
      let b = (is.leads from to).0 edge in
      let f = spread_first s b.0 b.2 in
      let h = (first-cons (Nonterminal b.0) b.1 f.0).1 (inl f.2) in
      (f.0, f.1, (h.0, Derives-trans (are.right to (Nonterminal b.0 ∷ b.1) a b.3 e) h.1))

  -- ---- all terminals in FIRST spread
  abbrev null : NonterminalString → Type 0
  null a = Contains rests (place names a, [])

  abbrev first : ℕ → TerminalString → Type 0
  first n t = Contains g.terminals t × ((bit : ℕ) → slice_get g.terminals bit ≡ Some t → Spreads n bit)

  rest_null : (n : ℕ) (l : List Symbol) → Contains rests (n, l) → NullableBy null l → Contains rests (n, [])
  rest_null n [] r d = r
  rest_null n (Terminal t ∷ l) r d = absurd d
  rest_null n (Nonterminal b ∷ l) r d = rest_null n l (are.onward n b l r d.0) d.1

  rest_first : (n : ℕ) (l : List Symbol) (t : TerminalString) → HasKnownTerminals g.terminals l → Contains rests (n, l) → FirstBy null (λ a. first (place names a)) l t → first n t
  rest_first n [] t k r f = absurd f
  rest_first n (Terminal u ∷ l) t k r f = (k 0 t (ap (λ v. Some (Terminal v)) (sym f)), λ bit at. held n bit ((is.begins n bit).1 (t, l, at, subst (λ (v : TerminalString). Contains rests (n, Terminal v ∷ l)) (sym f) r)))
  rest_first n (Nonterminal b ∷ l) t k r (inl f) = (f.0, λ bit at. sent_on (place names b) n bit ((is.leads (place names b) n).1 (b, l, refl, r)) (f.1 bit at))
  rest_first n (Nonterminal b ∷ l) t k r (inr f) = rest_first n l t (λ i. k (suc i)) (are.onward n b l r f.0) f.1

  are_first : AreFirstSets g.productions null (λ a. first (place names a))
  are_first = record {
    null_closed = λ p c d. rest_null (place names p.nonterminal) p.symbols (are.sides p c) d;
    first_closed = λ p t c f. rest_first (place names p.nonterminal) p.symbols t (known p c) (are.sides p c) f;
    null_right = λ a r. are.right (place names a) [] a r refl;
    first_right = λ a t f. let (bit, at) = contains_place g.terminals t f.0 in let b = spread_first (f.1 bit at) a refl in subst (λ (u : TerminalString). IsFirst g.productions (Nonterminal a ∷ []) u) (same_some (sym b.1 ∙ at)) b.2;
  }

  pub Graph-first : (sets : List Bits) → ((n bit : ℕ) → HoldsBit sets n bit ↔ Spreads n bit) → (a : NonterminalString) → IsFirstOfName g a (get_or graph.nullable.items (place names a) false) (set_at sets (place names a))
  Graph-first sets least a = record {
    begins = λ bit. (
      λ h. spread_first ((least (place names a) bit).0 h) a refl,
      λ b. elim ((first_by g.productions null (λ c. first (place names c)) are_first (Nonterminal a ∷ []) b.0).1 b.2) [ inl f ↦ (least (place names a) bit).1 (f.1 bit b.1) | inr f ↦ absurd f.1 ],
    );
    told = (
      λ t. are.right (place names a) [] a ((is.told (place names a)).0 t) refl,
      λ d. (is.told (place names a)).1 ((nullable_by g.productions null (λ c. first (place names c)) are_first (Nonterminal a ∷ [])).1 d).0,
    );
  }
