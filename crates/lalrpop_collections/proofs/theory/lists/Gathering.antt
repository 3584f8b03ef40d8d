-- Tokens that are gathered by key: one part more, and no part.
use Rattle.std.proofs.Common.{◌≡◌, Bool, inl, inr, List, [], ◌∷◌, ◌++◌, sym, subst, append-nil, append_assoc, cond, refl}
use Rattle.std.specs.Prelude.{Contains}
use Rattle.std.specs.Map.{keys_of}
use Rattle.std.proofs.lemmas.List.Elements.{Contains-append_left, Contains-append_right, Contains-append_cases}
use Rattle.std.proofs.lemmas.List.{map-append}
use Rattle.lalrpop_collections.specs.Words.{Bits, AllDiffer, Adds, IsFound, IsJoinedAt}
use Rattle.lalrpop_collections.specs.lists.Entries.{Gathers, GathersMore}
use Rattle.lalrpop_collections.specs.lists.Entries.IsPut.{came}
use Rattle.lalrpop_collections.proofs.theory.lists.Growth.{Adds-one, entry_key, found_kept, key_entry}
use Rattle.lalrpop_collections.proofs.theory.lists.Members.{contains-cons, contains_head, Contains-none}

module _ {K : Type 0} where
  pub Gathers-none : Gathers {K = K} [] []
  Gathers-none = record {
    found = λ e c. absurd (Contains-none e c);
    keys = λ e c. absurd (Contains-none e c);
    bits = λ e bit c h. absurd (Contains-none e c);
    differ = λ i j x l at. cc;
  }

  keys_left : (a b : List (K × Bits)) (k : K) → Contains (keys_of a) k → Contains (keys_of (a ++ b)) k
  keys_left a b k c = subst (λ (ks : List K). Contains ks k) (sym (map-append (λ (e : K × Bits). e.0) a b)) (Contains-append_left (keys_of a) (keys_of b) k c)

  -- ---- one part more
  module _ (k : K) (tokens : Bits) (told : Bool) (list old new : List (K × Bits)) (before : Gathers list old) (joined : IsJoinedAt k tokens told old new) (differ : AllDiffer (keys_of new)) where
    abbrev queued : List K
    queued = cond told ([] ++ k ∷ []) []

    adds : Adds (λ j. k ≡ j) tokens old new [] queued
    adds = Adds-one k tokens old new [] queued (record { told = told; joined = joined; put = came refl; differ = differ })

    last : Contains (list ++ (k, tokens) ∷ []) (k, tokens)
    last = Contains-append_right list ((k, tokens) ∷ []) (k, tokens) (contains_head (k, tokens) [])

    pub Gathers-more : Gathers (list ++ (k, tokens) ∷ []) new
    Gathers-more = record {
      found = λ e c. elim (Contains-append_cases list ((k, tokens) ∷ []) e c) [
        | inl o ↦ found_kept old new adds.grows.kept e.0 e.1 (before.found e o)
        | inr l ↦ elim (contains-cons (k, tokens) [] e l) [
          | inl same ↦ subst (λ (x : K × Bits). IsFound new x.0 x.1) same (adds.there k refl)
          | inr none ↦ absurd (Contains-none e none)
        ]
      ];
      keys = λ e c. elim (adds.keys e c) [
        | inl o ↦ let h = key_entry old e.0 o in keys_left list ((k, tokens) ∷ []) e.0 (before.keys (e.0, h.0) h.1)
        | inr same ↦ subst (Contains (keys_of (list ++ (k, tokens) ∷ []))) same (entry_key (list ++ (k, tokens) ∷ []) (k, tokens) last)
      ];
      bits = λ e bit c h. elim (adds.bits e bit c h) [
        | inl f ↦ let b = before.bits (e.0, f.set) bit f.entry f.there in record { set = b.set; entry = Contains-append_left list ((k, tokens) ∷ []) (e.0, b.set) b.entry; there = b.there }
        | inr m ↦ record { set = tokens; entry = subst (λ (j : K). Contains (list ++ (k, tokens) ∷ []) (j, tokens)) m.0 last; there = m.1 }
      ];
      differ = differ;
    }

  -- ---- more parts
  pub More-none : (table : List (K × Bits)) → GathersMore [] table table
  More-none table list h = subst (λ (l : List (K × Bits)). Gathers l table) (sym (append-nil list)) h

  pub More-one : (k : K) (tokens : Bits) (told : Bool) (old new : List (K × Bits)) → IsJoinedAt k tokens told old new → AllDiffer (keys_of new) → GathersMore ((k, tokens) ∷ []) old new
  More-one k tokens told old new joined differ list h = Gathers-more k tokens told list old new h joined differ

  pub More-then : (xs ys : List (K × Bits)) (a b c : List (K × Bits)) → GathersMore xs a b → GathersMore ys b c → GathersMore (xs ++ ys) a c
  More-then xs ys a b c x y list h = subst (λ (l : List (K × Bits)). Gathers l c) (append_assoc list xs ys) (y (list ++ xs) (x list h))
