-- Faithful states stay faithful under other numbers, by the definition of a renumbering.
use Rattle.std.proofs.Common.{◌≡◌, ◌↔◌, ℕ, List, [], ◌∷◌, sym, subst, refl, ap, ◌∙◌, length, Option, Some, None}
use Rattle.std.specs.Prelude.{Contains}
use Rattle.lr1_theory.proofs.Types.{NonterminalString, Production, Symbol, Token}
use Rattle.lalrpop_grammar.specs.declared.repr.Symbol.TheVariants.{Terminal}
use Rattle.lalrpop_grammar.specs.Words.{Action, Shift, Reduce, Contents, leads, onward, state_from, Allows, IsBehindDot, HasNoRepeat, ReducesFinished, IsRightFor}
use Rattle.lalrpop_grammar.specs.Words.{AreFaithful, renumbered, IsRenumbering}
use Rattle.lalrpop_collections.proofs.theory.lists.Lists.{some≢none}

module _ (new old : ℕ → ℕ) (before after : ℕ → Contents) (r : IsRenumbering new old before after) where
  -- a list of symbols leads to the new number of the state to which it led
  state_from-renumbered : (u : List Symbol) (n : ℕ) → state_from after (new n) u ≡ renumbered new (state_from before n u)
  state_from-renumbered [] n = refl
  state_from-renumbered (x ∷ u) n = ap (λ o. onward o (λ m. state_from after m u)) (r.commutes n x) ∙ go (leads (before n) x) (state_from-renumbered u)
    where
      go : (o : Option ℕ) → ((m : ℕ) → state_from after (new m) u ≡ renumbered new (state_from before m u)) → onward (renumbered new o) (λ m. state_from after m u) ≡ renumbered new (onward o (λ m. state_from before m u))
      go None more = refl
      go (Some m) more = more m

  -- the same symbols lead from a state
  leads-same : (n : ℕ) (x : Symbol) → ((m : ℕ) × (leads (after (new n)) x ≡ Some m)) ↔ ((m : ℕ) × (leads (before n) x ≡ Some m))
  leads-same n x = (
    λ h. go (leads (before n) x) h.0 (sym (r.commutes n x) ∙ h.1),
    λ h. (new h.0, r.commutes n x ∙ ap (renumbered new) h.1),
  )
    where
      go : (o : Option ℕ) (m : ℕ) → renumbered new o ≡ Some m → (k : ℕ) × (o ≡ Some k)
      go None m e = absurd (some≢none (sym e))
      go (Some k) m e = (k, refl)

  -- the same actions are allowed
  allows-same : (n : ℕ) (t : Token) (a : Action) → Allows (after (new n)) t a ↔ Allows (before n) t a
  allows-same n t (Shift x) = (λ h. (h.0, (leads-same n (Terminal x)).0 h.1), λ h. (h.0, (leads-same n (Terminal x)).1 h.1))
  allows-same n t (Reduce p) = (
    λ h. (h.0, subst (λ rs. Contains rs h.0) (r.reductions n) h.1, h.2, h.3),
    λ h. (h.0, subst (λ rs. Contains rs h.0) (sym (r.reductions n)) h.1, h.2, h.3),
  )

  -- the symbols after the dots are the same
  behind-same : (n : ℕ) (x : Symbol) → IsBehindDot (after (new n)) x ↔ IsBehindDot (before n) x
  behind-same n x = (
    λ b. record { production = b.production; dot = b.dot; after = b.after; item = subst (λ is. Contains is (b.production, b.dot)) (r.items n) b.item; behind = b.behind },
    λ b. record { production = b.production; dot = b.dot; after = b.after; item = subst (λ is. Contains is (b.production, b.dot)) (sym (r.items n)) b.item; behind = b.behind },
  )

  -- reductions are the finished dotted productions if they were so before
  reduces-renumbered : (n : ℕ) → ReducesFinished (before n) → ReducesFinished (after (new n))
  reduces-renumbered n h = record {
    finished = λ p. (
      λ c. subst (λ is. Contains is (p, length p.symbols)) (sym (r.items n)) ((h.finished p).0 (c.0, subst (λ rs. Contains rs c.0) (r.reductions n) c.1, c.2)),
      λ i. let c = (h.finished p).1 (subst (λ is. Contains is (p, length p.symbols)) (r.items n) i) in (c.0, subst (λ rs. Contains rs c.0) (sym (r.reductions n)) c.1, c.2),
    );
    once = subst HasNoRepeat (sym (r.reductions n)) h.once;
  }

  -- a state is right for a prefix if it was so before
  right-renumbered : (g : List Production) (start : NonterminalString) (u : List Symbol) (n : ℕ) → IsRightFor g start u (before n) → IsRightFor g start u (after (new n))
  right-renumbered g start u n h = record {
    contents = record {
      items = λ p dot. (
        λ c. (h.contents.items p dot).0 (subst (λ is. Contains is (p, dot)) (r.items n) c),
        λ v. subst (λ is. Contains is (p, dot)) (sym (r.items n)) ((h.contents.items p dot).1 v),
      );
      edges = λ x. (λ c. (behind-same n x).1 ((h.contents.edges x).0 ((leads-same n x).0 c)), λ b. (leads-same n x).1 ((h.contents.edges x).1 ((behind-same n x).0 b)));
      reductions = reduces-renumbered n h.contents.reductions;
    };
    every = λ t a v. (allows-same n t a).1 (h.every t a v);
    one = λ t stands a b c d. h.one t stands a b ((allows-same n t a).0 c) ((allows-same n t b).0 d);
  }

  -- faithful states stay faithful
  pub faithful-renumbered : (g : List Production) (start : NonterminalString) → AreFaithful g start before → AreFaithful g start after
  faithful-renumbered g start f u live =
      let s = f u live in
      record {
        number = new s.number;
        after = ap (λ n. state_from after n u) (sym r.fixes) ∙ state_from-renumbered u 0 ∙ ap (renumbered new) s.after;
        right = right-renumbered g start u s.number s.right;
      }
