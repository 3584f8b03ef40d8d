-- A grammar is LR(1) exactly if no live prefix has a canonical conflict. A prefix has exactly one
-- list of canonical conflicts, which is that of the canonical state after it.
-- The proofs use the orders of terminals and productions.
use Rattle.std.proofs.Common.{◌≡◌, ◌↔◌, inl, inr, ℕ, true, List, [], sym, subst, refl, ap, ◌∙◌, Some}
use Rattle.std.specs.Prelude.{Contains, slice_get}
use Rattle.std.specs.declared.cmp.Ordering.{Ordering}
use Rattle.std.specs.declared.cmp.Ordering.TheVariants.{Less, Equal, Greater}
use Rattle.std.proofs.lemmas.Bool.{cases_order}
use Rattle.lr1_theory.proofs.Types.{NonterminalString, Production, Symbol, TerminalString, Token}
use Rattle.lalrpop_grammar.specs.declared.lookahead.token.Token.TheVariants.{Terminal as TokenOf}
use Rattle.lalrpop_grammar.specs.Words.{Action, Shift, Reduce, IsValidAction, IsLR1, Contents, HasNoRepeat, state_after, Allows, AreCanonical, IsInConflict}
use Rattle.lalrpop_grammar.specs.Words.{ConflictContents, IsConflict, ActionPrecedes, AreConflicts, IsLess, IsOrder, StandsBefore, AreConflictsOf}
use Rattle.lalrpop_grammar.specs.Words.{AreCanonicalConflicts, ReducesInOrder, HasNoCanonicalConflict}
use Rattle.lalrpop_grammar.specs.states.States.{Reduction}
use Rattle.lalrpop_grammar.specs.conflicts.Conflicts.{HasNoConflict}
use Rattle.lalrpop_collections.proofs.theory.lists.Lists.{same_some, some≢none, contains-nil, contains_place, place_contains}
use Rattle.lalrpop_grammar.proofs.theory.closures.Valid.{action_live}
use Rattle.lalrpop_grammar.proofs.theory.states.RightStates.{terminal_in}
use Rattle.lalrpop_collections.proofs.theory.lists.Ascending.{ascending_same}
use Rattle.lr1_theory.proofs.theory.closures.Canonical.{allows_valid}
use Rattle.lalrpop_states.proofs.theory.states.HeldTokens.{same_test}

-- the ordering is Less
abbrev IsLessAnswer : Ordering → Type 0
IsLessAnswer Less = Unit {0}
IsLessAnswer Equal = ⊥
IsLessAnswer Greater = ⊥

-- if x is less than y, then y is not less than x
pub less_asymmetric : {X : Type 0} (order : X → X → Ordering) → IsOrder order → (x y : X) → IsLess order x y → IsLess order y x → ⊥
less_asymmetric order o x y l m = subst IsLessAnswer (sym m ∙ o.turned_back x y l) tt

-- the action is a reduction
abbrev IsReduce : Action → Type 0
IsReduce (Reduce q) = Unit {0}
IsReduce (Shift x) = ⊥

-- the production of the action if it is a reduction, and otherwise the given one
abbrev production_of : Production → Action → Production
production_of p (Reduce q) = q
production_of p (Shift x) = p

-- a grammar without a canonical conflict is LR(1)
pub no_conflict_lr1 : (order : Production → Production → Ordering) → IsOrder order → (g : List Production) (start : NonterminalString) → HasNoCanonicalConflict order g start → IsLR1 g start
no_conflict_lr1 order o g start none u t (Shift x) (Shift y) h k = ap (λ s. Shift (terminal_in x s)) (sym h.0 ∙ k.0)
no_conflict_lr1 order o g start none u t (Shift x) (Reduce p) h k = absurd (none u (action_live t (Reduce p) k) p (Shift x) t (h.0, h, k))
no_conflict_lr1 order o g start none u t (Reduce p) (Shift x) h k = absurd (none u (action_live t (Reduce p) h) p (Shift x) t (k.0, k, h))
no_conflict_lr1 order o g start none u t (Reduce p) (Reduce q) h k = go (order p q) refl
  where
    go : (s : Ordering) → order p q ≡ s → Reduce p ≡ Reduce q
    go Less e = absurd (none u (action_live t (Reduce p) h) p (Reduce q) t (e, h, k))
    go Equal e = ap Reduce (o.ties p q e)
    go Greater e = absurd (none u (action_live t (Reduce p) h) q (Reduce p) t (o.turned p q e, k, h))

-- an LR(1) grammar has no canonical conflict
pub lr1_no_conflict : (order : Production → Production → Ordering) → IsOrder order → (g : List Production) (start : NonterminalString) → IsLR1 g start → HasNoCanonicalConflict order g start
lr1_no_conflict order o g start lr u live p (Shift x) t h = subst IsReduce (lr u t (Reduce p) (Shift x) h.2 h.1) tt
lr1_no_conflict order o g start lr u live p (Reduce q) t h =
    let less : IsLess order p p = ap (order p) (ap (production_of p) (lr u t (Reduce p) (Reduce q) h.1 h.2)) ∙ h.0 in
    less_asymmetric order o p p less less

-- the reduction and the action of a conflict on a token are both taken on it
taken : (before : Production → Production → Type 0) (takes : Token → Action → Type 0) (p : Production) (a : Action) (t : Token) → IsInConflict before takes p a t → takes t (Reduce p) × takes t a
taken before takes p (Shift x) t h = (h.2, h.1)
taken before takes p (Reduce q) t h = (h.1, h.2)

module _ (below : TerminalString → TerminalString → Type 0) (before : Production → Production → Type 0) (takes : Token → Action → Type 0) where
  -- if a conflict precedes another, the other does not precede it
  precedes_asymmetric : ((x y : TerminalString) → below x y → below y x → ⊥) → ((p q : Production) → before p q → before q p → ⊥) → (p q : Production) (a b : Action) → ActionPrecedes below before p q a b → ActionPrecedes below before q p b a → ⊥
  precedes_asymmetric terminals productions p q (Shift x) (Shift y) (inl h) (inl k) = terminals x y h k
  precedes_asymmetric terminals productions p q (Shift x) (Shift y) (inl h) (inr k) = let l : below x x = subst (below x) k.0 h in terminals x x l l
  precedes_asymmetric terminals productions p q (Shift x) (Shift y) (inr h) (inl k) = let l : below y y = subst (below y) h.0 k in terminals y y l l
  precedes_asymmetric terminals productions p q (Shift x) (Shift y) (inr h) (inr k) = productions p q h.1 k.1
  precedes_asymmetric terminals productions p q (Shift x) (Reduce b) h k = k
  precedes_asymmetric terminals productions p q (Reduce a) (Shift y) h k = h
  precedes_asymmetric terminals productions p q (Reduce a) (Reduce b) (inl h) (inl k) = productions p q h k
  precedes_asymmetric terminals productions p q (Reduce a) (Reduce b) (inl h) (inr k) = let l : before p p = subst (before p) k.0 h in productions p p l l
  precedes_asymmetric terminals productions p q (Reduce a) (Reduce b) (inr h) (inl k) = let l : before q q = subst (before q) h.0 k in productions q q l l
  precedes_asymmetric terminals productions p q (Reduce a) (Reduce b) (inr h) (inr k) = productions a b h.1 k.1

  -- conflicts of the same production and the same action are the same
  same_conflict : (c d : ConflictContents) → IsConflict before takes c → IsConflict before takes d → c.production ≡ d.production → c.action ≡ d.action → c ≡ d
  same_conflict c d h k e f = λ i. record { production = e i; action = f i; lookahead = λ t. tests t i }
    where
      moved : (t : Token) → IsInConflict before takes c.production c.action t ↔ IsInConflict before takes d.production d.action t
      moved t = (
        λ x. subst (λ a. IsInConflict before takes d.production a t) f (subst (λ p. IsInConflict before takes p c.action t) e x),
        λ x. subst (λ a. IsInConflict before takes c.production a t) (sym f) (subst (λ p. IsInConflict before takes p d.action t) (sym e) x),
      )

      tests : (t : Token) → c.lookahead t ≡ d.lookahead t
      tests t = same_test (c.lookahead t) (d.lookahead t) (
        λ x. (k.exact t).1 ((moved t).0 ((h.exact t).0 x)),
        λ x. (h.exact t).1 ((moved t).1 ((k.exact t).0 x)),
      )

  -- a conflict in one list of all conflicts is in any other such list
  listed_in : (cs ds : List ConflictContents) → AreConflicts below before takes cs → AreConflicts below before takes ds → (c : ConflictContents) → Contains cs c → Contains ds c
  listed_in cs ds h k c i =
      let is = h.each c i in
      let d = k.all c.production c.action (is.some).0 ((is.exact (is.some).0).0 (is.some).1) in
      subst (Contains ds) (same_conflict d.0 c (k.each d.0 d.1) is d.2 d.3) d.1

  -- there is at most one list of all conflicts
  pub one_list : ((x y : TerminalString) → below x y → below y x → ⊥) → ((p q : Production) → before p q → before q p → ⊥) → (cs ds : List ConflictContents) → AreConflicts below before takes cs → AreConflicts below before takes ds → cs ≡ ds
  one_list terminals productions cs ds h k =
      ascending_same
      (λ (c d : ConflictContents). ActionPrecedes below before c.production d.production c.action d.action)
      (λ c d. precedes_asymmetric terminals productions c.production d.production c.action d.action)
      cs ds h.ascending k.ascending (listed_in cs ds h k) (listed_in ds cs k h)

-- two tables that take the same actions, and have the reductions that they take in the same order
module _ (below : TerminalString → TerminalString → Type 0) (before after : Production → Production → Type 0) (takes gives : Token → Action → Type 0) (alike : (t : Token) (a : Action) → takes t a ↔ gives t a)
    (ordered : (t s : Token) (p q : Production) → takes t (Reduce p) → takes s (Reduce q) → before p q ↔ after p q) where
  -- the same tokens are in conflict
  in_conflict : (p : Production) (a : Action) (t : Token) → IsInConflict before takes p a t ↔ IsInConflict after gives p a t
  in_conflict p (Shift x) t = (
    λ h. (h.0, (alike t (Shift x)).0 h.1, (alike t (Reduce p)).0 h.2),
    λ h. (h.0, (alike t (Shift x)).1 h.1, (alike t (Reduce p)).1 h.2),
  )
  in_conflict p (Reduce q) t = (
    λ h. ((ordered t t p q h.1 h.2).0 h.0, (alike t (Reduce p)).0 h.1, (alike t (Reduce q)).0 h.2),
    λ h. let i = (alike t (Reduce p)).1 h.1 in let j = (alike t (Reduce q)).1 h.2 in ((ordered t t p q i j).1 h.0, i, j),
  )

  -- conflicts precede one another in the same order
  precede_alike : (t s : Token) (p q : Production) (a b : Action) → takes t (Reduce p) × takes t a → takes s (Reduce q) × takes s b → ActionPrecedes below before p q a b → ActionPrecedes below after p q a b
  precede_alike t s p q (Shift x) (Shift y) h k (inl l) = inl l
  precede_alike t s p q (Shift x) (Shift y) h k (inr l) = inr (l.0, (ordered t s p q h.0 k.0).0 l.1)
  precede_alike t s p q (Shift x) (Reduce b) h k l = tt
  precede_alike t s p q (Reduce a) (Shift y) h k l = l
  precede_alike t s p q (Reduce a) (Reduce b) h k (inl l) = inl ((ordered t s p q h.0 k.0).0 l)
  precede_alike t s p q (Reduce a) (Reduce b) h k (inr l) = inr (l.0, (ordered t s a b h.1 k.1).0 l.1)

  -- both have the same list of conflicts
  pub conflicts_alike : (cs : List ConflictContents) → AreConflicts below before takes cs → AreConflicts below after gives cs
  conflicts_alike cs h = record {
    each = λ c i.
        let is = h.each c i in
        record {
          some = is.some;
          exact = λ t. (λ x. (in_conflict c.production c.action t).0 ((is.exact t).0 x), λ x. (is.exact t).1 ((in_conflict c.production c.action t).1 x));
        };
    all = λ p a t x. h.all p a t ((in_conflict p a t).1 x);
    ascending = λ i j c d l e f.
        let x = h.each c (place_contains cs i c e) in
        let y = h.each d (place_contains cs j d f) in
        precede_alike (x.some).0 (y.some).0 c.production d.production c.action d.action
        (taken before takes c.production c.action (x.some).0 ((x.exact (x.some).0).0 (x.some).1))
        (taken before takes d.production d.action (y.some).0 ((y.exact (y.some).0).0 (y.some).1))
        (h.ascending i j c d l e f);
  }

-- a prefix has at most one list of canonical conflicts
pub one_list_of_conflicts :
    (terminals : TerminalString → TerminalString → Ordering) (productions : Production → Production → Ordering) → IsOrder terminals → IsOrder productions → (g : List Production) (start : NonterminalString) (u : List Symbol) (cs ds : List ConflictContents) →
    AreCanonicalConflicts terminals productions g start u cs → AreCanonicalConflicts terminals productions g start u ds → cs ≡ ds
one_list_of_conflicts terminals productions o m g start u = one_list (IsLess terminals) (IsLess productions) (IsValidAction g start u) (less_asymmetric terminals o) (less_asymmetric productions m)

-- a reduction in an ascending list is before another exactly if its production is less
stands_less :
    (order : Production → Production → Ordering) → IsOrder order → (s : Contents) → ReducesInOrder order s → (t v : Token) (p q : Production) → Allows s t (Reduce p) → Allows s v (Reduce q) →
    StandsBefore s.reductions p q ↔ IsLess order p q
stands_less order o s ascends t v p q h k = (
  λ b. subst (λ x. IsLess order p x) b.by_q (subst (λ x. IsLess order x (b.s).production) b.by_p (ascends b.i b.j b.r b.s b.before b.first b.second)),
  λ l. elim (cases_order i.0 j.0) [
    | inl e ↦
        let same : p ≡ q = sym h.2 ∙ ap (λ (r : Reduction). r.production) (same_some (sym i.1 ∙ ap (slice_get s.reductions) e ∙ j.1)) ∙ k.2 in
        let less : IsLess order p p = subst (IsLess order p) (sym same) l in
        absurd (less_asymmetric order o p p less less)
    | inr c ↦ elim c [
      | inl less ↦ record { i = i.0; j = j.0; r = h.0; s = k.0; before = less; first = i.1; second = j.1; by_p = h.2; by_q = k.2 }
      | inr more ↦
          let back : IsLess order q p = subst (λ x. IsLess order q x) h.2 (subst (λ x. IsLess order x (h.0).production) k.2 (ascends j.0 i.0 k.0 h.0 more j.1 i.1)) in
          absurd (less_asymmetric order o p q l back)
    ]
  ],
)
  where
    i : (n : ℕ) × (slice_get s.reductions n ≡ Some h.0)
    i = contains_place s.reductions h.0 h.1

    j : (n : ℕ) × (slice_get s.reductions n ≡ Some k.0)
    j = contains_place s.reductions k.0 k.1

-- the conflicts of a canonical state are the canonical conflicts of each prefix that leads to it
pub state_conflicts :
    (terminals : TerminalString → TerminalString → Ordering) (productions : Production → Production → Ordering) → IsOrder productions → (g : List Production) (start : NonterminalString) (states : ℕ → Contents) (tokens : ℕ → Production → ℕ → Token → Type 0) →
    AreCanonical g start states tokens → (u : List Symbol) (n : ℕ) → state_after states u ≡ Some n → ReducesInOrder productions (states n) → (cs : List ConflictContents) →
    AreConflictsOf terminals (states n) cs ↔ AreCanonicalConflicts terminals productions g start u cs
state_conflicts terminals productions o g start states tokens canonical u n at ascends cs = (
  conflicts_alike (IsLess terminals) (StandsBefore (states n).reductions) (IsLess productions) (Allows (states n)) (IsValidAction g start u) alike (stands_less productions o (states n) ascends) cs,
  conflicts_alike (IsLess terminals) (IsLess productions) (StandsBefore (states n).reductions) (IsValidAction g start u) (Allows (states n)) (λ t a. ((alike t a).1, (alike t a).0))
      (λ t s p q h k. let e = stands_less productions o (states n) ascends t s p q ((alike t (Reduce p)).1 h) ((alike s (Reduce q)).1 k) in (e.1, e.0))
      cs,
)
  where
    alike : (t : Token) (a : Action) → Allows (states n) t a ↔ IsValidAction g start u t a
    alike = allows_valid g start states tokens canonical u n at

-- the list of conflicts of a state is empty exactly if the state has none
pub empty_list : (terminals : TerminalString → TerminalString → Ordering) (s : Contents) → HasNoRepeat s.reductions → AreConflictsOf terminals s [] ↔ HasNoConflict s
empty_list terminals s once = (to, from)
  where
    to : AreConflictsOf terminals s [] → HasNoConflict s
    to h = record {
      shifts = λ x n r e c k. contains-nil ((h.all r.production (Shift x) (TokenOf x) (refl, (refl, (n, e)), (r, c, refl, k))).1);
      reductions = λ i j r q t l e f k m.
          contains-nil ((h.all r.production (Reduce q.production) t (
            record { i = i; j = j; r = r; s = q; before = l; first = e; second = f; by_p = refl; by_q = refl },
            (r, place_contains s.reductions i r e, refl, k),
            (q, place_contains s.reductions j q f, refl, m),
          )).1);
    }

    -- reductions by the same production are the same
    same_place : (i j : ℕ) (r q : Reduction) → slice_get s.reductions i ≡ Some r → slice_get s.reductions j ≡ Some q → r.production ≡ q.production → r ≡ q
    same_place i j r q e f k = elim (cases_order i j) [
      | inl same ↦ same_some (sym e ∙ ap (slice_get s.reductions) same ∙ f)
      | inr l ↦ elim l [
        | inl less ↦ absurd (once i j r q less e f k)
        | inr more ↦ absurd (once j i q r more f e (sym k))
      ]
    ]

    -- a reduction at a place that is allowed on a token holds it
    holds_at : (i : ℕ) (r : Reduction) (p : Production) (t : Token) → slice_get s.reductions i ≡ Some r → r.production ≡ p → Allows s t (Reduce p) → r.holds t ≡ true
    holds_at i r p t e k a =
        let place = contains_place s.reductions a.0 a.1 in
        ap (λ (q : Reduction). q.holds t) (same_place i place.0 r a.0 e place.1 (k ∙ sym a.2)) ∙ a.3

    nothing : HasNoConflict s → (p : Production) (a : Action) (t : Token) → IsInConflict (StandsBefore s.reductions) (Allows s) p a t → ⊥
    nothing none p (Shift x) t h = none.shifts x h.1.1.0 h.2.0 h.1.1.1 h.2.1 (ap (h.2.0).holds (sym h.0) ∙ h.2.3)
    nothing none p (Reduce q) t h = none.reductions (h.0).i (h.0).j (h.0).r (h.0).s t (h.0).before (h.0).first (h.0).second (holds_at (h.0).i (h.0).r p t (h.0).first (h.0).by_p h.1) (holds_at (h.0).j (h.0).s q t (h.0).second (h.0).by_q h.2)

    from : HasNoConflict s → AreConflictsOf terminals s []
    from none = record { each = λ c i. absurd (contains-nil i); all = λ p a t h. absurd (nothing none p a t h); ascending = λ i j c d l e f. absurd (some≢none (sym e)) }
