-- Lookaheads and their meanings: entries that are joined, and closures.
use Rattle.std.proofs.Common.{◌≡◌, ℕ, inl, inr, List, [], ◌∷◌, map, refl, sym, ◌∙◌, ap, subst, true}
use Rattle.std.specs.Prelude.{Contains}
use Rattle.lalrpop_base.specs.Words.{Bits, InClosure, holds_token, Dotted, AllDiffer, Rules}
use Rattle.lalrpop_construction.proofs.Types.{Production, Symbol, TerminalString, Token}
use Rattle.lalrpop_collections.proofs.theory.lists.Lists.{contains_of_map}
use Rattle.lalrpop_states.specs.closures.Closure.{itself}
use Rattle.lalrpop_states.specs.states.Items.{dotted_of}
use Rattle.lalrpop_base.specs.Words.{Ascend, meant, IsItemBy, AreItemsBy, AreItems, HasItemTokenBy, HasItemToken, IsClosureBy}
use Rattle.lalrpop_base.specs.Words.{InTokenClosureBy, own_token, from_rest, from_parent}
use Rattle.lalrpop_collections.proofs.theory.lists.Members.{contains_map}

module _ {L : Type 0} (meaning : L → Bits) where
  -- ---- items
  pub dotted_meant : (items : List (Dotted L)) → map dotted_of (map (meant meaning) items) ≡ map dotted_of items
  dotted_meant [] = refl
  dotted_meant (i ∷ items) = ap (λ (ds : List (Production × ℕ)). (i.production, i.index) ∷ ds) (dotted_meant items)

  meant_in : (items : List (Dotted L)) (i : Dotted L) → Contains items i → Contains (map (meant meaning) items) (meant meaning i)
  meant_in items i c = contains_map (meant meaning) items i c

  pub items_meant : (g : Rules) (items : List (Dotted L)) → AreItemsBy meaning g items → AreItems g (map (meant meaning) items)
  items_meant g items a = record {
    each = λ i c.
        let j = contains_of_map (meant meaning) items i c in
        let of = a.each j.0 j.1 in
        subst (IsItemBy itself g) j.2 (record { production = of.production; dot = of.dot; tokens = of.tokens });
    differ = subst AllDiffer (sym (dotted_meant items)) a.differ;
  }

  meant_items : (g : Rules) (items : List (Dotted L)) → AreItems g (map (meant meaning) items) → AreItemsBy meaning g items
  meant_items g items a = record {
    each = λ i c. let of = a.each (meant meaning i) (meant_in items i c) in record { production = of.production; dot = of.dot; tokens = of.tokens };
    differ = subst AllDiffer (dotted_meant items) a.differ;
  }

  token_meant : (terminals : List TerminalString) (items : List (Dotted L)) (p : Production) (dot : ℕ) (t : Token) → HasItemTokenBy meaning terminals items p dot t → HasItemToken terminals (map (meant meaning) items) p dot t
  token_meant terminals items p dot t h = record { item = meant meaning h.item; there = meant_in items h.item h.there; is = h.is; holds = h.holds }

  meant_token : (terminals : List TerminalString) (items : List (Dotted L)) (p : Production) (dot : ℕ) (t : Token) → HasItemToken terminals (map (meant meaning) items) p dot t → HasItemTokenBy meaning terminals items p dot t
  meant_token terminals items p dot t h =
      let j = contains_of_map (meant meaning) items h.item h.there in
      record {
        item = j.0;
        there = j.1;
        is = ap (λ (i : Dotted Bits). dotted_of i) j.2 ∙ h.is;
        holds = subst (λ (i : Dotted Bits). holds_token terminals i.lookahead t ≡ true) (sym j.2) h.holds;
      }

  -- ---- closures
  module _ (begins : List Symbol → Token → Type 0) (passes : List Symbol → Type 0) (g : List Production) (items : Production → ℕ → Type 0) (A B : Production → ℕ → Token → Type 0) (each : (p : Production) (dot : ℕ) (t : Token) → A p dot t → B p dot t) where
    closure_more : {p : Production} {dot : ℕ} {t : Token} → InTokenClosureBy begins passes g items A p dot t → InTokenClosureBy begins passes g items B p dot t
    closure_more {p} {dot} {t} (own_token k) = own_token (each p dot t k)
    closure_more (from_rest q after i behind among b) = from_rest q after i behind among b
    closure_more (from_parent q after c behind among n) = from_parent q after (closure_more c) behind among n

  module _ (begins : Rules → List Symbol → Token → Type 0) (passes : Rules → List Symbol → Type 0) (g : Rules) (kernel items : List (Dotted L)) where
    abbrev Within : List (Production × ℕ) → (Production → ℕ → Token → Type 0) → Production → ℕ → Token → Type 0
    Within ds = InTokenClosureBy (begins g) (passes g) g.productions (λ q n. Contains ds (q, n))

    abbrev Reached : List (Production × ℕ) → Production → ℕ → Type 0
    Reached ds = InClosure g.productions (λ q n. Contains ds (q, n))

    -- a closure with the meanings of lookaheads is one with the lookaheads
    pub Meant-closure : Ascend items → IsClosureBy itself begins passes g (map (meant meaning) kernel) (map (meant meaning) items) → IsClosureBy meaning begins passes g kernel items
    Meant-closure ascend c =
        let ds = dotted_meant items in
        let ks = dotted_meant kernel in
        record {
          are_items = meant_items g items c.are_items;
          ascend = ascend;
          begun = λ i h. elim (c.begun (meant meaning i) (meant_in items i h)) [
            | inl z ↦ inl z
            | inr k ↦ inr (subst (λ (xs : List (Production × ℕ)). Contains xs (i.production, i.index)) ks k)
          ];
          exact = λ p dot. (
            λ h. subst (λ (xs : List (Production × ℕ)). Reached xs p dot) ks ((c.exact p dot).0 (subst (λ (xs : List (Production × ℕ)). Contains xs (p, dot)) (sym ds) h)),
            λ h. subst (λ (xs : List (Production × ℕ)). Contains xs (p, dot)) ds ((c.exact p dot).1 (subst (λ (xs : List (Production × ℕ)). Reached xs p dot) (sym ks) h)),
          );
          tokens = λ p dot t. (
            λ h. subst (λ (xs : List (Production × ℕ)). Within xs (HasItemTokenBy meaning g.terminals kernel) p dot t) ds
                (closure_more (begins g) (passes g) g.productions (λ q n. Contains (map dotted_of (map (meant meaning) items)) (q, n)) (HasItemToken g.terminals (map (meant meaning) kernel)) (HasItemTokenBy meaning g.terminals kernel) (λ q n u k. meant_token g.terminals kernel q n u k) ((c.tokens p dot t).0 (token_meant g.terminals items p dot t h))),
            λ h. meant_token g.terminals items p dot t ((c.tokens p dot t).1
                (closure_more (begins g) (passes g) g.productions (λ q n. Contains (map dotted_of (map (meant meaning) items)) (q, n)) (HasItemTokenBy meaning g.terminals kernel) (HasItemToken g.terminals (map (meant meaning) kernel)) (λ q n u k. token_meant g.terminals kernel q n u k) (subst (λ (xs : List (Production × ℕ)). Within xs (HasItemTokenBy meaning g.terminals kernel) p dot t) (sym ds) h))),
          );
        }
