-- Copies of closed states are closed, since closures and edges depend on dotted productions alone.
-- So copies have the right dotted productions.
use Rattle.std.proofs.Common.{◌↔◌, ℕ, List, sym, subst}
use Rattle.lr1_theory.proofs.Types.{NonterminalString, Production, Symbol}
use Rattle.lalrpop_grammar.specs.Words.{Contents, IsBehindDot, InClosure, in_kernel, expanded, IsMoved, items_of, AreClosed, IsCopying}
use Rattle.lr1_theory.proofs.theory.closures.LeastClosures.{closure_within}

-- a larger kernel has a larger closure
pub closure_grows : {g : List Production} {small large : Production → ℕ → Type 0} → ((p : Production) (dot : ℕ) → small p dot → large p dot) → {p : Production} {dot : ℕ} → InClosure g small p dot → InClosure g large p dot
closure_grows {g} {large = large} f c = closure_within (InClosure g large) (λ p dot k. in_kernel (f p dot k)) (λ p q dot after d e h. expanded q after d e h) c

module _ (g : List Production) (start : NonterminalString) (original : ℕ → ℕ) (states copies : ℕ → Contents) (copying : IsCopying original states copies) where
  -- the items that are moved over a symbol from a copy are those that are moved from its original
  moved_alike : (n : ℕ) (x : Symbol) (p : Production) (dot : ℕ) → IsMoved (items_of copies n) x p dot ↔ IsMoved (items_of states (original n)) x p dot
  moved_alike n x p dot = (
    λ m. record { before = m.before; after = m.after; moved = m.moved; item = (copying.items n p m.before).0 m.item; behind = m.behind },
    λ m. record { before = m.before; after = m.after; moved = m.moved; item = (copying.items n p m.before).1 m.item; behind = m.behind },
  )

  -- the symbols after the dots of a copy are those of its original
  behind_alike : (n : ℕ) (x : Symbol) → IsBehindDot (copies n) x ↔ IsBehindDot (states (original n)) x
  behind_alike n x = (
    λ b. record { production = b.production; dot = b.dot; after = b.after; item = (copying.items n b.production b.dot).0 b.item; behind = b.behind },
    λ b. record { production = b.production; dot = b.dot; after = b.after; item = (copying.items n b.production b.dot).1 b.item; behind = b.behind },
  )

  -- copies of closed states are closed
  pub copies_closed : AreClosed g start states → AreClosed g start copies
  copies_closed closed = record {
    first = λ p dot. (
      λ i. (closed.first p dot).0 (subst (λ k. items_of states k p dot) copying.first ((copying.items 0 p dot).0 i)),
      λ c. (copying.items 0 p dot).1 (subst (λ k. items_of states k p dot) (sym copying.first) ((closed.first p dot).1 c)),
    );
    next = λ n m x e p dot.
        let t = closed.next (original n) (original m) x (copying.edges n m x e) p dot in (
          λ i. closure_grows (λ q d k. (moved_alike n x q d).1 k) (t.0 ((copying.items m p dot).0 i)),
          λ c. (copying.items m p dot).1 (t.1 (closure_grows (λ q d k. (moved_alike n x q d).0 k) c)),
        );
    edges = λ n x. (
      λ h. (behind_alike n x).1 ((closed.edges (original n) x).0 (original h.0, copying.edges n h.0 x h.1)),
      λ b. let e = (closed.edges (original n) x).1 ((behind_alike n x).0 b) in copying.each n e.0 x e.1,
    );
  }
