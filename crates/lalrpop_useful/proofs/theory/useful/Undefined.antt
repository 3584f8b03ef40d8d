-- Undefined nonterminals: their first uses, one symbol and one production at a time.
use Rattle.std.proofs.Common.{◌≡◌, ◌==◌, inl, inr, arith, Bool, true, false, not, length, List, [], ◌∷◌, ◌++◌, refl, sym, subst, ap, ◌∙◌, append_assoc}
use Rattle.std.specs.Prelude.{Contains, ◌↔◌}
use Rattle.std.proofs.lemmas.Bool.{false≢true, ne_eqb}
use Rattle.std.proofs.lemmas.List.{map-append}
use Rattle.std.proofs.lemmas.List.Elements.{Contains-append_left, Contains-append_right, Contains-append_cases, Contains-push, Contains-push_cases}
use Rattle.lalrpop_collections.specs.Words.{AllDiffer}
use Rattle.lalrpop_collections.proofs.theory.lists.Members.{Contains-none, contains_head, contains-cons, contains_map}
use Rattle.lalrpop_collections.proofs.theory.lists.Lists.{contains_of_map}
use Rattle.lalrpop_collections.proofs.theory.lists.Places.{contains_at, differ_push}
use Rattle.lalrpop_grammar.specs.Words.{IsWellFormed, productions, productions_of}
use Rattle.lalrpop_grammar.proofs.theory.grammars.Grammars.{productions_among, productions_named}
use Rattle.lalrpop_grammar.proofs.theory.grammars.SymbolLists.{same_nonterminal}
use Rattle.lalrpop_grammar.specs.declared.repr.Symbol.TheVariants.{Nonterminal}
use Rattle.lalrpop_useful.proofs.Types.{Grammar, NonterminalString, Production, Symbol}
use Rattle.lalrpop_useful.specs.Words.{AddsUndefined, HasProduction, IsFirstUse, IsNewUse, IsOnRightSide, IsUndefined, names_of}

abbrev pub Use : Type 0
Use = NonterminalString × Production

-- ---- whether a nonterminal has a production
pub production_of : (g : Grammar) (a : NonterminalString) → IsWellFormed g → (p : Production) (ps : List Production) → productions_of g a ≡ p ∷ ps → HasProduction (productions g) a
production_of g a well p ps e =
    let there : Contains (productions_of g a) p = subst (λ (qs : List Production). Contains qs p) (sym e) (contains_head p ps) in
    (p, productions_among g a p there, productions_named g well a p there)

pub no_production : (g : Grammar) (a : NonterminalString) → ((p : Production) → Contains (productions g) p → Contains (productions_of g p.nonterminal) p) → productions_of g a ≡ [] → HasProduction (productions g) a → ⊥
no_production g a own none h =
    Contains-none h.0 (subst (λ (qs : List Production). Contains qs h.0) (ap (productions_of g) h.2 ∙ none) (own h.0 h.1))

-- whether some productions are all of a nonterminal, of which there are none
pub has_test : (g : Grammar) (a : NonterminalString) → IsWellFormed g → ((p : Production) → Contains (productions g) p → Contains (productions_of g p.nonterminal) p) → (ps : List Production) (b : Bool) → ps ≡ productions_of g a → b ≡ (length ps == 0) → (not b ≡ true) ↔ HasProduction (productions g) a
has_test g a well own [] b same e =
    let yes : b ≡ true = e in
    (λ t. absurd (false≢true (sym (ap not yes) ∙ t)), λ h. absurd (no_production g a own (sym same) h))
has_test g a well own (p ∷ ps) b same e =
    let no : b ≡ false = e ∙ ne_eqb (length (p ∷ ps)) 0 (λ z. omega (arith, z)) in
    (λ t. production_of g a well p ps (sym same), λ h. ap not no)

-- ---- one symbol
names_push : (uses : List Use) (u : Use) → names_of (uses ++ u ∷ []) ≡ names_of uses ++ u.0 ∷ []
names_push uses u = map-append (λ (v : Use). v.0) uses (u ∷ [])

module _ (g : List Production) (p : Production) where
  pub Adds-none : (uses : List Use) → AddsUndefined g p [] uses uses
  Adds-none uses = record {
    kept = λ u c. c;
    from = λ u c. inl c;
    all = λ a none c. absurd (Contains-none (Nonterminal a) c);
    differ = λ d. d;
  }

  -- one that adds a use
  pub Adds-one : (symbol : Symbol) (a : NonterminalString) (uses : List Use) → symbol ≡ Nonterminal a → (HasProduction g a → ⊥) → (Contains (names_of uses) a → ⊥) → AddsUndefined g p (symbol ∷ []) uses (uses ++ (a, p) ∷ [])
  Adds-one symbol a uses is none new = record {
    kept = λ u c. Contains-append_left uses ((a, p) ∷ []) u c;
    from = λ u c. elim (Contains-push_cases uses (a, p) u c) [
      | inl o ↦ inl o
      | inr e ↦ inr (subst (IsNewUse g p (symbol ∷ []) uses) e (record { by = refl; on = subst (Contains (symbol ∷ [])) is (contains_head symbol []); none = none; new = new }))
    ];
    all = λ b missing c. elim (contains-cons symbol [] (Nonterminal b) c) [
      | inl e ↦ subst (Contains (names_of (uses ++ (a, p) ∷ []))) (same_nonterminal (sym is ∙ e)) (contains_map (λ (v : Use). v.0) (uses ++ (a, p) ∷ []) (a, p) (Contains-push uses (a, p)))
      | inr n ↦ absurd (Contains-none (Nonterminal b) n)
    ];
    differ = λ d. subst AllDiffer (sym (names_push uses (a, p))) (differ_push (names_of uses) a d new);
  }

  -- names that are kept
  names_kept : (old new : List Use) → ((u : Use) → Contains old u → Contains new u) → (a : NonterminalString) → Contains (names_of old) a → Contains (names_of new) a
  names_kept old new kept a c =
      let r = contains_of_map (λ (v : Use). v.0) old a c in
      subst (Contains (names_of new)) r.2 (contains_map (λ (v : Use). v.0) new r.0 (kept r.0 r.1))

  pub Adds-more : (symbols : List Symbol) (symbol : Symbol) (a b c : List Use) → AddsUndefined g p symbols a b → AddsUndefined g p (symbol ∷ []) b c → AddsUndefined g p (symbols ++ symbol ∷ []) a c
  Adds-more symbols symbol a b c x y = record {
    kept = λ u h. y.kept u (x.kept u h);
    from = λ u h. elim (y.from u h) [
      | inl m ↦ elim (x.from u m) [
        | inl o ↦ inl o
        | inr n ↦ inr (record { by = n.by; on = Contains-append_left symbols (symbol ∷ []) (Nonterminal u.0) n.on; none = n.none; new = n.new })
      ]
      | inr n ↦ inr (record { by = n.by; on = Contains-append_right symbols (symbol ∷ []) (Nonterminal u.0) n.on; none = n.none; new = λ d. n.new (names_kept a b x.kept u.0 d) })
    ];
    all = λ d none h. elim (Contains-append_cases symbols (symbol ∷ []) (Nonterminal d) h) [
      | inl f ↦ names_kept b c y.kept d (x.all d none f)
      | inr l ↦ y.all d none l
    ];
    differ = λ d. y.differ (x.differ d);
  }

-- ---- the productions so far
pub record IsListing (g done : List Production) (uses : List Use) : Type 0 where
  pub first : (u : Use) → Contains uses u → IsFirstUse done u.0 u.1
  pub none : (u : Use) → Contains uses u → HasProduction g u.0 → ⊥
  pub all : (a : NonterminalString) → (HasProduction g a → ⊥) → IsOnRightSide done a → Contains (names_of uses) a
  pub differ : AllDiffer (names_of uses)

pub Listing-start : (g : List Production) (uses : List Use) → uses ≡ [] → IsListing g [] uses
Listing-start g uses e = subst (IsListing g []) (sym e) (record {
  first = λ u c. absurd (Contains-none u c);
  none = λ u c. absurd (Contains-none u c);
  all = λ a none h. absurd (Contains-none h.0 h.1);
  differ = λ i j x l at other. Contains-none x (contains_at [] x i at);
})

pub Listing-more : (g done : List Production) (p : Production) (old new : List Use) → IsListing g done old → AddsUndefined g p p.symbols old new → IsListing g (done ++ p ∷ []) new
Listing-more g done p old new h x = record {
  first = λ u c. elim (x.from u c) [
    | inl o ↦
        let f = h.first u o in
        record { before = f.before; after = f.after ++ p ∷ []; whole = ap (λ (qs : List Production). qs ++ p ∷ []) f.whole ∙ append_assoc f.before (u.1 ∷ f.after) (p ∷ []); uses = f.uses; earlier = f.earlier }
    | inr n ↦ record {
      before = done;
      after = [];
      whole = ap (λ (q : Production). done ++ q ∷ []) (sym n.by);
      uses = subst (λ (q : Production). Contains q.symbols (Nonterminal u.0)) (sym n.by) n.on;
      earlier = λ side. n.new (h.all u.0 n.none side);
    }
  ];
  none = λ u c. elim (x.from u c) [ inl o ↦ h.none u o | inr n ↦ n.none ];
  all = λ a none side. elim (Contains-push_cases done p side.0 side.1) [
    | inl d ↦
        let r = contains_of_map (λ (v : Use). v.0) old a (h.all a none (side.0, d, side.2)) in
        subst (Contains (names_of new)) r.2 (contains_map (λ (v : Use). v.0) new r.0 (x.kept r.0 r.1))
    | inr e ↦ x.all a none (subst (λ (q : Production). Contains q.symbols (Nonterminal a)) (sym e) side.2)
  ];
  differ = x.differ h.differ;
}

module _ (g : List Production) (uses : List Use) (h : IsListing g g uses) where
  pub Listing-first : (a : NonterminalString) (p : Production) → Contains uses (a, p) → IsFirstUse g a p
  Listing-first a p c = h.first (a, p) c

  pub Listing-undefined : (a : NonterminalString) → Contains (names_of uses) a ↔ IsUndefined g a
  Listing-undefined a = (
    λ c.
        let r = contains_of_map (λ (v : Use). v.0) uses a c in
        let f = h.first r.0 r.1 in
        let there : Contains g r.0.1 = subst (λ (qs : List Production). Contains qs r.0.1) (sym f.whole) (Contains-append_right f.before (r.0.1 ∷ f.after) r.0.1 (contains_head r.0.1 f.after)) in
        subst (IsUndefined g) r.2 ((r.0.1, there, f.uses), h.none r.0 r.1),
    λ u. h.all a u.1 u.0,
  )
