-- Closed states whose kernels do not repeat are LR(0) states, since the dotted productions of a
-- state determine its kernel: a closure adds only dotted productions with the dot at the start.
use Rattle.std.proofs.Common.{◌≡◌, ◌↔◌, ℕ, suc, List, sym, subst, refl, ◌∙◌, Some, arith}
use Rattle.lr1_theory.proofs.Types.{NonterminalString, Production, Symbol, Token}
use Rattle.lalrpop_grammar.specs.Words.{Valid, ValidToken, HaveSameItems, HaveSameTokens, Contents, leads, state_after, ReducesFinished, AreLr0, InClosure}
use Rattle.lalrpop_grammar.specs.Words.{in_kernel, expanded, IsAtStart, items_of, AreClosed, IsReached, AreCanonical, KernelsDiffer, TokenKernelsDiffer}
use Rattle.lalrpop_collections.proofs.theory.lists.Lists.{Grown, from_nothing, more, grown, same_some}
use Rattle.lr1_theory.proofs.theory.closures.Closures.{state_from-last, items_valid, have_right_items, reached_live}
use Rattle.lr1_theory.proofs.theory.closures.Canonical.{tokens_exact}

-- no number is both 0 and greater than 0
zero≢suc : {n : ℕ} → 0 ≡ suc n → ⊥
zero≢suc e = omega (arith, e)

module _ (g : List Production) (start : NonterminalString) (states : ℕ → Contents) (closed : AreClosed g start states) where
  -- all dots of state 0 are at the start
  starts_at_zero : {p : Production} {dot : ℕ} → InClosure g (IsAtStart g start) p dot → dot ≡ 0
  starts_at_zero (in_kernel k) = k.0
  starts_at_zero (expanded q after c e h) = refl

  -- a target has a dotted production whose dot is past the start
  pub target_moved : (n m : ℕ) (x : Symbol) → leads (states n) x ≡ Some m → (p : Production) × (dot : ℕ) × items_of states m p (suc dot)
  target_moved n m x e =
      let b = (closed.edges n x).0 (m, e) in
      (b.production, b.dot, (closed.next n m x e b.production (suc b.dot)).1 (in_kernel (record { before = b.dot; after = b.after; moved = refl; item = b.item; behind = b.behind })))

  -- a state is state 0, or the target of an edge
  pub data IsEntered (n : ℕ) : Type 0 where
    at_first : n ≡ 0 → IsEntered n
    as_target : (m : ℕ) (x : Symbol) → leads (states m) x ≡ Some n → IsEntered n

  -- each state after a prefix is state 0, or the target of an edge
  pub entered : (u : List Symbol) (n : ℕ) → state_after states u ≡ Some n → IsEntered n
  entered u n at = go (grown u) at
    where
      go : {v : List Symbol} → Grown v → state_after states v ≡ Some n → IsEntered n
      go from_nothing e = at_first (same_some (sym e))
      go (more {l = v} x k) e = let m = state_from-last states 0 v x n e in as_target m.0 x m.2

  -- state 0 lacks some dotted production of each target
  first_or_target : (n m : ℕ) → n ≡ 0 → (k : ℕ) (x : Symbol) → leads (states k) x ≡ Some m → ((p : Production) (dot : ℕ) → items_of states m p dot → items_of states n p dot) → ⊥
  first_or_target n m z k x e same =
      let t = target_moved k m x e in
      let i : items_of states 0 t.0 (suc t.1) = subst (λ j. items_of states j t.0 (suc t.1)) z (same t.0 (suc t.1) t.2) in
      zero≢suc (sym (starts_at_zero ((closed.first t.0 (suc t.1)).0 i)))

  -- states with the same dotted productions are the same, if targets with the same ones are
  pub same_items_one : (n m : ℕ) → IsEntered n → IsEntered m → ((p : Production) (dot : ℕ) → items_of states n p dot ↔ items_of states m p dot) → ((k l : ℕ) (x y : Symbol) → leads (states k) x ≡ Some n → leads (states l) y ≡ Some m → n ≡ m) → n ≡ m
  same_items_one n m (at_first z) (at_first w) same targets = z ∙ sym w
  same_items_one n m (at_first z) (as_target l y f) same targets = absurd (first_or_target n m z l y f (λ p dot. (same p dot).1))
  same_items_one n m (as_target k x e) (at_first w) same targets = absurd (first_or_target m n w k x e (λ p dot. (same p dot).0))
  same_items_one n m (as_target k x e) (as_target l y f) same targets = targets k l x y e f

  -- prefixes with the same valid dotted productions lead to states with the same ones
  pub held_alike : (u v : List Symbol) (n m : ℕ) → state_after states u ≡ Some n → state_after states v ≡ Some m → HaveSameItems g start u v → (p : Production) (dot : ℕ) → items_of states n p dot ↔ items_of states m p dot
  held_alike u v n m e f same p dot = (
    λ i. (items_valid g start states closed v m f p dot).1 ((same p dot).0 ((items_valid g start states closed u n e p dot).0 i)),
    λ i. (items_valid g start states closed u n e p dot).1 ((same p dot).1 ((items_valid g start states closed v m f p dot).0 i)),
  )

  -- closed states whose kernels do not repeat are LR(0) states, if each state with an edge is
  -- reached
  pub closed_lr0 : ((n : ℕ) → ReducesFinished (states n)) → KernelsDiffer states → ((n m : ℕ) (x : Symbol) → leads (states n) x ≡ Some m → IsReached states n) → AreLr0 g start states
  closed_lr0 reductions differ reached = record {
    each = have_right_items g start states closed reductions;
    shared = λ u v n m lu lv same e f.
        let alike = held_alike u v n m e f same in
        same_items_one n m (entered u n e) (entered v m f) alike (λ k l x y i j. differ k l n m x y i j (λ p dot. alike p (suc dot)));
    only = λ n m x e. reached_live g start states closed (reached n m x e);
  }

-- canonical states whose kernels do not repeat are the same exactly if their prefixes have the same
-- valid dotted productions and tokens
pub canonical_one :
    (g : List Production) (start : NonterminalString) (states : ℕ → Contents) (tokens : ℕ → Production → ℕ → Token → Type 0) → AreCanonical g start states tokens → TokenKernelsDiffer states tokens →
    (u v : List Symbol) (n m : ℕ) → state_after states u ≡ Some n → state_after states v ≡ Some m → (n ≡ m) ↔ (HaveSameItems g start u v × HaveSameTokens g start u v)
canonical_one g start states tokens canonical differ u v n m e f = (to, from)
  where
    items_u : (p : Production) (dot : ℕ) → items_of states n p dot ↔ Valid g start u p dot
    items_u = items_valid g start states canonical.closed u n e

    items_v : (p : Production) (dot : ℕ) → items_of states m p dot ↔ Valid g start v p dot
    items_v = items_valid g start states canonical.closed v m f

    tokens_u : (p : Production) (dot : ℕ) (t : Token) → tokens n p dot t ↔ ValidToken g start u p dot t
    tokens_u = tokens_exact g start states tokens canonical u n e

    tokens_v : (p : Production) (dot : ℕ) (t : Token) → tokens m p dot t ↔ ValidToken g start v p dot t
    tokens_v = tokens_exact g start states tokens canonical v m f

    to : n ≡ m → HaveSameItems g start u v × HaveSameTokens g start u v
    to s = (
      λ p dot. (
        λ h. (items_v p dot).0 (subst (λ k. items_of states k p dot) s ((items_u p dot).1 h)),
        λ h. (items_u p dot).0 (subst (λ k. items_of states k p dot) (sym s) ((items_v p dot).1 h)),
      ),
      λ p dot t. (
        λ h. (tokens_v p dot t).0 (subst (λ k. tokens k p dot t) s ((tokens_u p dot t).1 h)),
        λ h. (tokens_u p dot t).0 (subst (λ k. tokens k p dot t) (sym s) ((tokens_v p dot t).1 h)),
      ),
    )

    from : HaveSameItems g start u v × HaveSameTokens g start u v → n ≡ m
    from h =
        let alike = held_alike g start states canonical.closed u v n m e f h.0 in
        same_items_one g start states canonical.closed n m (entered g start states canonical.closed u n e) (entered g start states canonical.closed v m f) alike (λ k l x y i j.
        differ k l n m x y i j (λ p dot. alike p (suc dot)) (λ p dot t. (
          λ i. (tokens_v p (suc dot) t).1 ((h.1 p (suc dot) t).0 ((tokens_u p (suc dot) t).0 i)),
          λ i. (tokens_u p (suc dot) t).1 ((h.1 p (suc dot) t).1 ((tokens_v p (suc dot) t).0 i)),
        )))
