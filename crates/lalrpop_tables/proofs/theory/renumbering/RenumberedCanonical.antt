-- Canonical states stay canonical under other numbers.
use Rattle.std.proofs.Common.{◌≡◌, ◌↔◌, ℕ, suc, ◌<◌, inl, inr, Bool, true, List, length, refl, sym, ◌∙◌, ap, subst, arith, Option, Some, None}
use Rattle.std.specs.Prelude.{Contains, slice_get}
use Rattle.std.specs.List.{list_any}
use Rattle.std.proofs.lemmas.Bool.{cases_lt}
use Rattle.std.proofs.lemmas.Option.{slice_get_past, slice_get_cases}
use Rattle.lalrpop_base.specs.Words.{Bits, InClosure, InTokenClosure, IsAtStart, IsAtStartWith, IsMoved, IsMovedWith, AreClosed, IsReached, at_zero}
use Rattle.lalrpop_base.specs.Words.{TokenKernelsDiffer, contents, holds_token, AreCanonicalWith, AllDiffer, renumbered, IsRenumbering, Contents, leads}
use Rattle.lalrpop_base.specs.Words.{IsBehindDot, LeadsOverDots, HasNoRepeat, ReducesFinished, Rules, AreRenumbered}
use Rattle.lalrpop_construction.specs.Words.{is_with_token, tokens_of, AreCanonicalStates}
use Rattle.lalrpop_grammar.specs.closures.Closures.{over_edge}
use Rattle.lalrpop_grammar.specs.states.States.{Reduction}
use Rattle.lalrpop_tables.proofs.Types.{NonterminalString, Production, State, Symbol, Token}
use Rattle.lalrpop_construction.specs.states.Canonical.{item_has_token}

-- tests of the tokens of dotted productions
abbrev TokenTests : Type 0
TokenTests = Production → ℕ → Token → Bool

module _ (new old : ℕ → ℕ) (before after : ℕ → Contents) (r : IsRenumbering new old before after) where
  -- ---- a state under a new number is the one under its old number
  items_at : (n : ℕ) → (after n).items ≡ (before (old n)).items
  items_at n = ap (λ (k : ℕ). (after k).items) (sym (r.back n)) ∙ r.items (old n)

  items_to : (n m : ℕ) → new n ≡ m → (after m).items ≡ (before n).items
  items_to n m e = ap (λ (k : ℕ). (after k).items) (sym e) ∙ r.items n

  reductions_at : (n : ℕ) → (after n).reductions ≡ (before (old n)).reductions
  reductions_at n = ap (λ (k : ℕ). (after k).reductions) (sym (r.back n)) ∙ r.reductions (old n)

  leads_at : (n : ℕ) (x : Symbol) → leads (after n) x ≡ renumbered new (leads (before (old n)) x)
  leads_at n x = ap (λ (k : ℕ). leads (after k) x) (sym (r.back n)) ∙ r.commutes (old n) x

  old_of : (o : Option ℕ) (m : ℕ) → renumbered new o ≡ Some m → (l : ℕ) × (o ≡ Some l) × (new l ≡ m)
  old_of None m e = cc
  old_of (Some l) m e = let same : new l ≡ m = cc in (l, refl, same)

  -- an edge between new numbers is one between the old ones
  edge_before : (n : ℕ) (x : Symbol) (m : ℕ) → leads (after n) x ≡ Some m → (l : ℕ) × (leads (before (old n)) x ≡ Some l) × (new l ≡ m)
  edge_before n x m e = old_of (leads (before (old n)) x) m (sym (leads_at n x) ∙ e)

  behind_before : (n : ℕ) (x : Symbol) → IsBehindDot (after n) x → IsBehindDot (before (old n)) x
  behind_before n x b = record { production = b.production; dot = b.dot; after = b.after; item = subst (λ is. Contains is (b.production, b.dot)) (items_at n) b.item; behind = b.behind }

  behind_after : (n : ℕ) (x : Symbol) → IsBehindDot (before (old n)) x → IsBehindDot (after n) x
  behind_after n x b = record { production = b.production; dot = b.dot; after = b.after; item = subst (λ is. Contains is (b.production, b.dot)) (sym (items_at n)) b.item; behind = b.behind }

  edges_after : (n : ℕ) → LeadsOverDots (before (old n)) → LeadsOverDots (after n)
  edges_after n h x = (
    λ k. let e = edge_before n x k.0 k.1 in behind_after n x ((h x).0 (e.0, e.1)),
    λ b. let k = (h x).1 (behind_before n x b) in (new k.0, leads_at n x ∙ ap (renumbered new) k.1),
  )

  reduces_after : (n : ℕ) → ReducesFinished (before (old n)) → ReducesFinished (after n)
  reduces_after n h = record {
    finished = λ p.
        subst (λ (rs : List Reduction). ((q : Reduction) × Contains rs q × (q.production ≡ p)) ↔ Contains (after n).items (p, length p.symbols)) (sym (reductions_at n))
        (subst (λ is. ((q : Reduction) × Contains (before (old n)).reductions q × (q.production ≡ p)) ↔ Contains is (p, length p.symbols)) (sym (items_at n)) (h.finished p));
    once = subst HasNoRepeat (sym (reductions_at n)) h.once;
  }

  -- a state that was reached is reached under its new number
  pub reached_after : {n : ℕ} → IsReached before n → IsReached after (new n)
  reached_after at_zero = subst (IsReached after) (sym r.fixes) at_zero
  reached_after (over_edge {n} m x h e) = over_edge (new m) x (reached_after h) (r.commutes n x ∙ ap (renumbered new) e)

  module _ (g : List Production) (start : NonterminalString) (tests others : ℕ → TokenTests) (same : (n : ℕ) → others (new n) ≡ tests n) where
    tests_at : (n : ℕ) → others n ≡ tests (old n)
    tests_at n = ap others (sym (r.back n)) ∙ same (old n)

    tests_to : (n m : ℕ) → new n ≡ m → others m ≡ tests n
    tests_to n m e = ap others (sym e) ∙ same n

    closed_after : AreClosed g start before → AreClosed g start after
    closed_after c = record {
      first = λ p dot. subst (λ is. Contains is (p, dot) ↔ InClosure g (IsAtStart g start) p dot) (sym (items_to 0 0 r.fixes)) (c.first p dot);
      next = λ n m x e p dot.
          let k = edge_before n x m e in
          subst (λ is. Contains is (p, dot) ↔ InClosure g (IsMoved (λ q d. Contains (after n).items (q, d)) x) p dot) (sym (items_to k.0 m k.2))
          (subst (λ is. Contains (before k.0).items (p, dot) ↔ InClosure g (IsMoved (λ q d. Contains is (q, d)) x) p dot) (sym (items_at n)) (c.next (old n) k.0 x k.1 p dot));
      edges = λ n. edges_after n (c.edges (old n));
    }

    pub canonical_after : AreCanonicalWith g start before tests → AreCanonicalWith g start after others
    canonical_after c = record {
      closed = closed_after c.closed;
      reductions = λ n. reduces_after n (c.reductions (old n));
      first = λ p dot t.
          subst (λ (f : TokenTests). (f p dot t ≡ true) ↔ InTokenClosure g (λ q d. Contains (after 0).items (q, d)) (IsAtStartWith g start) p dot t) (sym (tests_to 0 0 r.fixes))
          (subst (λ is. (tests 0 p dot t ≡ true) ↔ InTokenClosure g (λ q d. Contains is (q, d)) (IsAtStartWith g start) p dot t) (sym (items_to 0 0 r.fixes)) (c.first p dot t));
      next = λ n m x e p dot t.
          let k = edge_before n x m e in
          subst (λ (f : TokenTests). (f p dot t ≡ true) ↔ InTokenClosure g (λ q d. Contains (after m).items (q, d)) (IsMovedWith (λ q d u. others n q d u ≡ true) x) p dot t) (sym (tests_to k.0 m k.2))
          (subst (λ is. (tests k.0 p dot t ≡ true) ↔ InTokenClosure g (λ q d. Contains is (q, d)) (IsMovedWith (λ q d u. others n q d u ≡ true) x) p dot t) (sym (items_to k.0 m k.2))
          (subst (λ (f : TokenTests). (tests k.0 p dot t ≡ true) ↔ InTokenClosure g (λ q d. Contains (before k.0).items (q, d)) (IsMovedWith (λ q d u. f q d u ≡ true) x) p dot t) (sym (tests_at n)) (c.next (old n) k.0 x k.1 p dot t)));
      holds = λ n q t i.
          subst (λ (f : TokenTests). (q.holds t ≡ true) ↔ (f q.production (length (q.production).symbols) t ≡ true)) (sym (tests_at n))
          (c.holds (old n) q t (subst (λ (rs : List Reduction). Contains rs q) (reductions_at n) i));
    }

    pub differ_after : TokenKernelsDiffer before (λ n p dot t. tests n p dot t ≡ true) → TokenKernelsDiffer after (λ n p dot t. others n p dot t ≡ true)
    differ_after h k l n m x y e f items tokens =
        let a = edge_before k x n e in
        let b = edge_before l y m f in
        let alike = λ (p : Production) (dot : ℕ).
        subst (λ is. Contains is (p, suc dot) ↔ Contains (before b.0).items (p, suc dot)) (items_to a.0 n a.2) (subst (λ is. Contains (after n).items (p, suc dot) ↔ Contains is (p, suc dot)) (items_to b.0 m b.2) (items p dot)) in
        let held = λ (p : Production) (dot : ℕ) (t : Token).
        subst (λ (i : TokenTests). (i p (suc dot) t ≡ true) ↔ (tests b.0 p (suc dot) t ≡ true)) (tests_to a.0 n a.2) (subst (λ (i : TokenTests). (others n p (suc dot) t ≡ true) ↔ (i p (suc dot) t ≡ true)) (tests_to b.0 m b.2) (tokens p dot t)) in
        sym a.2 ∙ ap new (h (old k) (old l) a.0 b.0 x y a.1 b.1 alike held) ∙ b.2

-- ---- the code's states
module _ (g : Rules) (before after : List (State Bits)) (r : AreRenumbered g.terminals before after) where
  abbrev here : ℕ → Contents
  here = contents g.terminals before

  abbrev there : ℕ → Contents
  there = contents g.terminals after

  abbrev at_option : Option (State Bits) → TokenTests
  at_option o = item_has_token (holds_token g.terminals) o

  same_tokens : (n : ℕ) → tokens_of g.terminals after (r.new n) ≡ tokens_of g.terminals before n
  same_tokens n = elim ((slice_get_cases before n).1) [
    | inl at ↦
        let t = r.each n at.0 at.2 in
        ap at_option t.1 ∙ ap (λ is p dot u. list_any (is_with_token (holds_token g.terminals) p dot u) is.vec.items) t.2.items ∙ ap at_option (sym at.2)
    | inr past ↦
        let gone : slice_get after (r.new n) ≡ None = slice_get_past after (r.new n) (let c = r.counted in let o = r.outside n past.0 in let l = past.0 in omega arith) in
        ap at_option gone ∙ ap at_option (sym past.1)
  ]

  old_within : (n : ℕ) → n < length after → r.old n < length before
  old_within n l = elim (cases_lt (r.old n) (length before)) [
    | inl inside ↦ inside
    | inr past ↦ absurd (let o = r.outside (r.old n) past in let b = r.renumbering.back n in let c = r.counted in omega arith)
  ]

  pub Canonical-renumbered : (start : NonterminalString) → AreCanonicalStates g start before → AreCanonicalStates g start after
  Canonical-renumbered start c = record {
    canonical = canonical_after r.new r.old here there r.renumbering g.productions start (tokens_of g.terminals before) (tokens_of g.terminals after) same_tokens c.canonical;
    once = λ n. subst AllDiffer (sym (items_at r.new r.old here there r.renumbering n)) (c.once (r.old n));
    differ = differ_after r.new r.old here there r.renumbering g.productions start (tokens_of g.terminals before) (tokens_of g.terminals after) same_tokens c.differ;
    reached = λ n l. subst (IsReached there) (r.renumbering.back n) (reached_after r.new r.old here there r.renumbering (c.reached (r.old n) (old_within n l)));
    ascend = λ n i j p q l at_i at_j.
        let e = reductions_at r.new r.old here there r.renumbering n in
        c.ascend (r.old n) i j p q l (ap (λ (rs : List Reduction). slice_get rs i) (sym e) ∙ at_i) (ap (λ (rs : List Reduction). slice_get rs j) (sym e) ∙ at_j);
  }
