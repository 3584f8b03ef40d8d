-- The nearest name that is found is one that may be meant.
use Rattle.std.proofs.Common.{◌≡◌, ◌≤◌, ◌<◌, ℕ, ◌+◌, Bool, true, false, ◌&&◌, List, [], ◌∷◌, Option, None, Some, cond, inl, inr, ◌⊎◌, refl, sym, ap, subst, ◌∙◌, arith}
use Rattle.std.specs.Prelude.{Contains, nat_lt}
use Rattle.std.proofs.lemmas.Bool.Decides.{nat_tests}
use Rattle.lalrpop_collections.proofs.theory.lists.Members.{Contains-none, contains_head, contains_tail, contains-cons}
use Rattle.lalrpop_grammar.specs.declared.repr.NonterminalString.{NonterminalString}
use Rattle.lalrpop_grammar.specs.declared.repr.grammar.NonterminalData.{NonterminalData}
use Rattle.lalrpop_grammar.specs.declared.repr.grammar.Grammar.{Grammar}
use Rattle.lalrpop_grammar.specs.Words.{IsWellFormed, productions}
use Rattle.lalrpop_useful.specs.Words.{HasProduction}
use Rattle.grammar_diagnostics.specs.Warnings.{is_defined}
use Rattle.grammar_diagnostics.specs.Nearest.{IsNearestName, IsNearestResult, Near, name_distance, name_reach, nearest_from, nearest_name}
use Rattle.grammar_diagnostics.proofs.Uses.{defined_has, has_defined}

abbrev Entry : Type 0
Entry = NonterminalString × NonterminalData

clash : (t : Bool) → t ≡ true → t ≡ false → ⊥
clash true h k = cc
clash false h k = cc

nat_less : (m n : ℕ) → nat_lt m n ≡ true → m < n
nat_less m n h = grind (arith, nat_tests)

nat_not_less : (m n : ℕ) → nat_lt m n ≡ false → n ≤ m
nat_not_less m n h = grind (arith, nat_tests)

module _ (a : NonterminalString) where
  abbrev far : Entry → ℕ
  far e = name_distance a e.0

  abbrev of_entry : Entry → Near
  of_entry e = record { limit = far e; name = Some e.0 }

  -- what was found is that of one of the entries, which has a production and is below a limit
  record IsFrom (es : List Entry) (limit : ℕ) (near : Near) : Type 0 where
    entry : Entry
    there : Contains es entry
    defined : is_defined entry.1 ≡ true
    same : near ≡ of_entry entry
    below : far entry < limit

  -- what is found in some entries after something else
  record IsFound (es : List Entry) (old new : Near) : Type 0 where
    limit : new.limit ≤ old.limit
    least : (e : Entry) → Contains es e → is_defined e.1 ≡ true → new.limit ≤ far e
    from : (new ≡ old) ⊎ IsFrom es old.limit new

  more : (e : Entry) (es : List Entry) (limit least : ℕ) (near : Near) → limit ≤ least → IsFrom es limit near → IsFrom (e ∷ es) least near
  more e es limit least near h f = record { entry = f.entry; there = contains_tail e es f.entry f.there; defined = f.defined; same = f.same; below = omega (arith, h, f.below) }

  least_here : (e : Entry) (es : List Entry) (limit : ℕ) → (is_defined e.1 ≡ true → limit ≤ far e) → ((x : Entry) → Contains es x → is_defined x.1 ≡ true → limit ≤ far x) → (x : Entry) → Contains (e ∷ es) x → is_defined x.1 ≡ true → limit ≤ far x
  least_here e es limit here rest x c d = elim (contains-cons e es x c) [
    | inl same ↦ subst (λ (y : Entry). limit ≤ far y) same (here (subst (λ (y : Entry). is_defined y.1 ≡ true) (sym same) d))
    | inr later ↦ rest x later d
  ]

  step : (d t : Bool) (e : Entry) (es : List Entry) (old : Near) → is_defined e.1 ≡ d → nat_lt (far e) old.limit ≡ t → ((near : Near) → IsFound es near (nearest_from a near es)) → IsFound (e ∷ es) old (nearest_from a (cond (d && t) (of_entry e) old) es)
  step true true e es old h k rest =
      let r = rest (of_entry e) in
      let less : far e < old.limit = nat_less (far e) old.limit k in
      record {
        limit = omega (arith, r.limit, less);
        least = least_here e es _ (λ (x : is_defined e.1 ≡ true). r.limit) r.least;
        from = inr (elim r.from [
          | inl same ↦ record { entry = e; there = contains_head e es; defined = h; same = same; below = less }
          | inr f ↦ more e es (far e) old.limit _ (omega (arith, less)) f
        ]);
      }
  step true false e es old h k rest =
      let r = rest old in
      let least : old.limit ≤ far e = nat_not_less (far e) old.limit k in
      record {
        limit = r.limit;
        least = least_here e es _ (λ (x : is_defined e.1 ≡ true). omega (arith, r.limit, least)) r.least;
        from = elim r.from [ inl same ↦ inl same | inr f ↦ inr (more e es old.limit old.limit _ (omega arith) f) ];
      }
  step false t e es old h k rest =
      let r = rest old in
      record {
        limit = r.limit;
        least = least_here e es _ (λ (x : is_defined e.1 ≡ true). absurd (clash (is_defined e.1) x h)) r.least;
        from = elim r.from [ inl same ↦ inl same | inr f ↦ inr (more e es old.limit old.limit _ (omega arith) f) ];
      }

  found : (es : List Entry) (old : Near) → IsFound es old (nearest_from a old es)
  found [] old = record { limit = omega arith; least = λ (e : Entry) (c : Contains [] e). absurd (Contains-none e c); from = inl refl }
  found (e ∷ es) old = step (is_defined e.1) (nat_lt (far e) old.limit) e es old refl refl (found es)

  module _ (g : Grammar) (well : IsWellFormed g) where
    abbrev first : Near
    first = record { limit = name_reach a + 1; name = None }

    no_name : (near : Near) → near.name ≡ None → ((near ≡ first) ⊎ IsFrom g.nonterminals.entries (name_reach a + 1) near) → near.limit ≡ name_reach a + 1
    no_name near none (inl same) = ap (λ (n : Near). n.limit) same
    no_name near none (inr f) = let some : Some f.entry.0 ≡ None = sym (ap (λ (n : Near). n.name) f.same) ∙ none in cc

    nearest_of : (near : Near) (b : NonterminalString) → near.name ≡ Some b → IsFound g.nonterminals.entries first near → ((near ≡ first) ⊎ IsFrom g.nonterminals.entries (name_reach a + 1) near) → IsNearestName g a b
    nearest_of near b some r (inl same) = let none : None ≡ Some b = sym (ap (λ (n : Near). n.name) same) ∙ some in cc
    nearest_of near b some r (inr f) =
        let named : Some f.entry.0 ≡ Some b = sym (ap (λ (n : Near). n.name) f.same) ∙ some in
        let same : f.entry.0 ≡ b = cc in
        let limit : near.limit ≡ name_distance a b = ap (λ (n : Near). n.limit) f.same ∙ ap (name_distance a) same in
        let below : name_distance a b < name_reach a + 1 = subst (λ (n : NonterminalString). name_distance a n < name_reach a + 1) same f.below in
        record {
          defined = subst (HasProduction (productions g)) same (defined_has g well f.entry f.there f.defined);
          within = omega (arith, below);
          least = λ (c : NonterminalString) (h : HasProduction (productions g) c).
              let d = has_defined g well c h in
              subst (λ (n : NonterminalString). name_distance a b ≤ name_distance a n) d.named (subst (λ n. n ≤ far d.entry) limit (r.least d.entry d.there d.defined));
        }

    result : (near : Near) (o : Option NonterminalString) → near.name ≡ o → IsFound g.nonterminals.entries first near → IsNearestResult g a o
    result near None none r =
        λ (c : NonterminalString) (h : HasProduction (productions g) c).
        let d = has_defined g well c h in
        let least : name_reach a + 1 ≤ far d.entry = subst (λ n. n ≤ far d.entry) (no_name near none r.from) (r.least d.entry d.there d.defined) in
        subst (λ (n : NonterminalString). name_reach a < name_distance a n) d.named (omega (arith, least))
    result near (Some b) some r = nearest_of near b some r r.from

    -- the name that is found
    pub nearest_result : IsNearestResult g a (nearest_name g a)
    nearest_result = result (nearest_from a first g.nonterminals.entries) (nearest_name g a) refl (found g.nonterminals.entries first)
