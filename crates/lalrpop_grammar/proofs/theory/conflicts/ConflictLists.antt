-- A list that is made by going through the shifted terminals and the reductions of a state is the
-- list of its conflicts. The proof is from the order in which the list is made.
use Rattle.std.proofs.Common.{◌≡◌, ◌↔◌, ◌<◌, inl, inr, ℕ, zero, suc, true, List, [], ◌∷◌, ◌++◌, sym, subst, refl, ap, ◌∙◌, Some, arith}
use Rattle.std.specs.Prelude.{Contains, slice_get}
use Rattle.std.specs.declared.cmp.Ordering.{Ordering}
use Rattle.std.proofs.lemmas.Bool.{cases_order}
use Rattle.std.proofs.lemmas.List.Elements.{Contains-append_left, Contains-append_right, Contains-append_cases}
use Rattle.lalrpop_grammar.proofs.Types.{Production, TerminalString, Token}
use Rattle.lalrpop_grammar.specs.declared.lookahead.token.Token.TheVariants.{Terminal as TokenOf}
use Rattle.lalrpop_grammar.specs.Words.{Action, Shift, Reduce, Contents, HasNoRepeat, Allows, IsInConflict, ConflictContents, IsConflict, ActionPrecedes, IsLess}
use Rattle.lalrpop_grammar.specs.Words.{StandsBefore, AreConflictsOf, IsShiftConflict, ShiftPart, no_more, in_conflict, apart, ShiftParts, no_shifts}
use Rattle.lalrpop_collections.specs.Words.{Ordered}
use Rattle.lalrpop_grammar.specs.Words.{shift_first, IsReduceConflict, LaterPart, no_later, with_later, shares_none, ReduceParts, no_reductions, reduce_first}
use Rattle.lalrpop_grammar.specs.states.States.{Reduction}
use Rattle.lalrpop_collections.proofs.theory.lists.Lists.{same_some, some≢none, contains-cons, contains-nil, contains_head, contains_tail, contains_place, place_contains}

-- a list is ordered if its head precedes the others and these are ordered
pub ordered-cons : {A : Type 0} (precedes : A → A → Type 0) (x : A) (xs : List A) → ((y : A) → Contains xs y → precedes x y) → Ordered precedes xs → Ordered precedes (x ∷ xs)
ordered-cons precedes x xs h k i zero a b l e f = let z : ⊥ = omega (arith, l) in absurd z
ordered-cons precedes x xs h k zero (suc j) a b l e f = subst (λ z. precedes z b) (same_some e) (h b (place_contains xs j b f))
ordered-cons precedes x xs h k (suc i) (suc j) a b l e f = k i j a b (omega (arith, l)) e f

-- the head of an ordered list precedes the others
pub ordered-head : {A : Type 0} (precedes : A → A → Type 0) (x : A) (xs : List A) → Ordered precedes (x ∷ xs) → (y : A) → Contains xs y → precedes x y
ordered-head precedes x xs h y c = let k = contains_place xs y c in h zero (suc k.0) x y (omega arith) refl k.1

-- the tail of an ordered list is ordered
pub ordered-tail : {A : Type 0} (precedes : A → A → Type 0) (x : A) (xs : List A) → Ordered precedes (x ∷ xs) → Ordered precedes xs
ordered-tail precedes x xs h i j a b l e f = h (suc i) (suc j) a b (omega (arith, l)) e f

-- an empty list is ordered
pub ordered-nil : {A : Type 0} (precedes : A → A → Type 0) → Ordered precedes []
ordered-nil precedes i j a b l e f = absurd (some≢none (sym e))

-- two ordered lists, joined, are ordered if the elements of the first precede those of the second
pub ordered-append : {A : Type 0} (precedes : A → A → Type 0) (xs ys : List A) → Ordered precedes xs → Ordered precedes ys → ((x y : A) → Contains xs x → Contains ys y → precedes x y) → Ordered precedes (xs ++ ys)
ordered-append precedes [] ys h k c = k
ordered-append {A} precedes (x ∷ xs) ys h k c = ordered-cons precedes x (xs ++ ys) first (ordered-append precedes xs ys (ordered-tail precedes x xs h) k (λ a b i j. c a b (contains_tail x xs a i) j))
  where
    first : (y : A) → Contains (xs ++ ys) y → precedes x y
    first y i = elim (Contains-append_cases xs ys y i) [ inl j ↦ ordered-head precedes x xs h y j | inr j ↦ c x y (contains_head x xs) j ]

-- each conflict of a shift is with a reduction
pub shift_from : {t : TerminalString} {rs : List Reduction} {cs : List ConflictContents} → ShiftPart t rs cs → (c : ConflictContents) → Contains cs c → (r : Reduction) × Contains rs r × IsShiftConflict t r c
shift_from no_more c i = absurd (contains-nil i)
shift_from {t} (in_conflict {rs} {cs} r d h p) c i = elim (contains-cons d cs c i) [
  | inl e ↦ (r, contains_head r rs, subst (IsShiftConflict t r) e h)
  | inr k ↦ let x = shift_from p c k in (x.0, contains_tail r rs x.0 x.1, x.2)
]
shift_from (apart {rs} r n p) c i = let x = shift_from p c i in (x.0, contains_tail r rs x.0 x.1, x.2)

-- each reduction that holds the terminal has a conflict with its shift
pub shift_to : {t : TerminalString} {rs : List Reduction} {cs : List ConflictContents} → ShiftPart t rs cs → (r : Reduction) → Contains rs r → r.holds (TokenOf t) ≡ true → (c : ConflictContents) × Contains cs c × IsShiftConflict t r c
shift_to no_more r i h = absurd (contains-nil i)
shift_to {t} (in_conflict {rs} {cs} q c x p) r i h = elim (contains-cons q rs r i) [
  | inl e ↦ (c, contains_head c cs, subst (λ z. IsShiftConflict t z c) e x)
  | inr k ↦ let y = shift_to p r k h in (y.0, contains_tail c cs y.0 y.1, y.2)
]
shift_to {t} (apart {rs} q n p) r i h = elim (contains-cons q rs r i) [
  | inl e ↦ absurd (n (subst (λ (z : Reduction). z.holds (TokenOf t) ≡ true) (sym e) h))
  | inr k ↦ shift_to p r k h
]

-- each conflict of a list of shifted terminals is one of a terminal and a reduction
pub shifts_from : {rs : List Reduction} {ts : List TerminalString} {cs : List ConflictContents} → ShiftParts rs ts cs → (c : ConflictContents) → Contains cs c → (t : TerminalString) × Contains ts t × ((r : Reduction) × Contains rs r × IsShiftConflict t r c)
shifts_from no_shifts c i = absurd (contains-nil i)
shifts_from (shift_first {ts} {cs} {ds} t p ps) c i = elim (Contains-append_cases cs ds c i) [
  | inl k ↦ (t, contains_head t ts, shift_from p c k)
  | inr k ↦ let x = shifts_from ps c k in (x.0, contains_tail t ts x.0 x.1, x.2)
]

pub shifts_to : {rs : List Reduction} {ts : List TerminalString} {cs : List ConflictContents} → ShiftParts rs ts cs → (t : TerminalString) → Contains ts t → (r : Reduction) → Contains rs r → r.holds (TokenOf t) ≡ true → (c : ConflictContents) × Contains cs c × IsShiftConflict t r c
shifts_to no_shifts t j r i h = absurd (contains-nil j)
shifts_to {rs} (shift_first {ts} {cs} {ds} u p ps) t j r i h = elim (contains-cons u ts t j) [
  | inl e ↦ let x = shift_to (subst (λ z. ShiftPart z rs cs) e p) r i h in (x.0, Contains-append_left cs ds x.0 x.1, x.2)
  | inr k ↦ let x = shifts_to ps t k r i h in (x.0, Contains-append_right cs ds x.0 x.1, x.2)
]

-- each conflict of a reduction is with a later one
pub later_from : {r : Reduction} {rs : List Reduction} {cs : List ConflictContents} → LaterPart r rs cs → (c : ConflictContents) → Contains cs c → (q : Reduction) × Contains rs q × IsReduceConflict r q c
later_from no_later c i = absurd (contains-nil i)
later_from {r} (with_later {rs} {cs} q d h p) c i = elim (contains-cons d cs c i) [
  | inl e ↦ (q, contains_head q rs, subst (IsReduceConflict r q) e h)
  | inr k ↦ let x = later_from p c k in (x.0, contains_tail q rs x.0 x.1, x.2)
]
later_from (shares_none {rs} q n p) c i = let x = later_from p c i in (x.0, contains_tail q rs x.0 x.1, x.2)

-- each later reduction that shares a token with a reduction has a conflict with it
pub later_to : {r : Reduction} {rs : List Reduction} {cs : List ConflictContents} → LaterPart r rs cs → (q : Reduction) → Contains rs q → (t : Token) → r.holds t ≡ true → q.holds t ≡ true → (c : ConflictContents) × Contains cs c × IsReduceConflict r q c
later_to no_later q i t h k = absurd (contains-nil i)
later_to {r} (with_later {rs} {cs} z c x p) q i t h k = elim (contains-cons z rs q i) [
  | inl e ↦ (c, contains_head c cs, subst (λ y. IsReduceConflict r y c) e x)
  | inr j ↦ let y = later_to p q j t h k in (y.0, contains_tail c cs y.0 y.1, y.2)
]
later_to {r} (shares_none {rs} z n p) q i t h k = elim (contains-cons z rs q i) [
  | inl e ↦ absurd (n t h (subst (λ (y : Reduction). y.holds t ≡ true) (sym e) k))
  | inr j ↦ later_to p q j t h k
]

-- a reduction is before another in a list
pub record Stand (rs : List Reduction) (r q : Reduction) : Type 0 where
  pub i : ℕ
  pub j : ℕ
  pub less : i < j
  pub first : slice_get rs i ≡ Some r
  pub second : slice_get rs j ≡ Some q

stand-cons : (z : Reduction) (rs : List Reduction) (r q : Reduction) → Stand rs r q → Stand (z ∷ rs) r q
stand-cons z rs r q s = record { i = suc s.i; j = suc s.j; less = omega (arith, s.less); first = s.first; second = s.second }

-- each conflict of two reductions is one of a reduction and a later one
pub reduces_from : {rs : List Reduction} {cs : List ConflictContents} → ReduceParts rs cs → (c : ConflictContents) → Contains cs c → (r q : Reduction) × Stand rs r q × IsReduceConflict r q c
reduces_from no_reductions c i = absurd (contains-nil i)
reduces_from (reduce_first {rs} {cs} {ds} r p ps) c i = elim (Contains-append_cases cs ds c i) [
  | inl k ↦
      let x = later_from p c k in
      let place = contains_place rs x.0 x.1 in
      (r, x.0, record { i = 0; j = suc place.0; less = omega arith; first = refl; second = place.1 }, x.2)
  | inr k ↦ let x = reduces_from ps c k in (x.0, x.1, stand-cons r rs x.0 x.1 x.2, x.3)
]

-- each two reductions that share a token have a conflict
pub reduces_to : {rs : List Reduction} {cs : List ConflictContents} → ReduceParts rs cs → (i j : ℕ) (r q : Reduction) → i < j → slice_get rs i ≡ Some r → slice_get rs j ≡ Some q → (t : Token) → r.holds t ≡ true → q.holds t ≡ true → (c : ConflictContents) × Contains cs c × IsReduceConflict r q c
reduces_to no_reductions i j r q l e f t h k = absurd (some≢none (sym e))
reduces_to (reduce_first {rs} {cs} {ds} z p ps) i zero r q l e f t h k = let x : ⊥ = omega (arith, l) in absurd x
reduces_to (reduce_first {rs} {cs} {ds} z p ps) zero (suc j) r q l e f t h k =
    let same : z ≡ r = same_some e in
    let x = later_to (subst (λ y. LaterPart y rs cs) same p) q (place_contains rs j q f) t h k in
    (x.0, Contains-append_left cs ds x.0 x.1, x.2)
reduces_to (reduce_first {rs} {cs} {ds} z p ps) (suc i) (suc j) r q l e f t h k =
    let x = reduces_to ps i j r q (omega (arith, l)) e f t h k in
    (x.0, Contains-append_right cs ds x.0 x.1, x.2)

-- if reductions do not repeat, a reduction at a place holds each token on which its production can
-- be reduced by
holds_at : (s : Contents) → HasNoRepeat s.reductions → (i : ℕ) (r : Reduction) (t : Token) → slice_get s.reductions i ≡ Some r → Allows s t (Reduce r.production) → r.holds t ≡ true
holds_at s once i r t e a =
    let place = contains_place s.reductions a.0 a.1 in
    let same : r ≡ a.0 = elim (cases_order i place.0) [
      | inl z ↦ same_some (sym e ∙ ap (slice_get s.reductions) z ∙ place.1)
      | inr l ↦ elim l [
        | inl less ↦ absurd (once i place.0 r a.0 less e place.1 (sym a.2))
        | inr more ↦ absurd (once place.0 i a.0 r more place.1 e a.2)
      ]
    ] in
    ap (λ (q : Reduction). q.holds t) same ∙ a.3

module _ (terminals : TerminalString → TerminalString → Ordering) (s : Contents) where
  -- the order of conflicts
  abbrev Precedes : ConflictContents → ConflictContents → Type 0
  Precedes c d = ActionPrecedes (IsLess terminals) (StandsBefore s.reductions) c.production d.production c.action d.action

  -- the order of reductions
  abbrev Before : Reduction → Reduction → Type 0
  Before r q = StandsBefore s.reductions r.production q.production

  -- conflicts precede one another as their productions and actions do
  precede : (c d : ConflictContents) (p q : Production) (a b : Action) → c.production ≡ p → d.production ≡ q → c.action ≡ a → d.action ≡ b → ActionPrecedes (IsLess terminals) (StandsBefore s.reductions) p q a b → Precedes c d
  precede c d p q a b e f h k l =
      subst (λ z. ActionPrecedes (IsLess terminals) (StandsBefore s.reductions) c.production d.production c.action z) (sym k)
      (subst (λ z. ActionPrecedes (IsLess terminals) (StandsBefore s.reductions) c.production d.production z b) (sym h)
      (subst (λ z. ActionPrecedes (IsLess terminals) (StandsBefore s.reductions) c.production z a b) (sym f)
      (subst (λ z. ActionPrecedes (IsLess terminals) (StandsBefore s.reductions) z q a b) (sym e) l)))

  -- the conflicts of one shift are in order
  shift_ordered : {t : TerminalString} {rs : List Reduction} {cs : List ConflictContents} → ShiftPart t rs cs → Ordered Before rs → Ordered Precedes cs
  shift_ordered no_more o = ordered-nil Precedes
  shift_ordered {t} (in_conflict {rs} {cs} r c x p) o = ordered-cons Precedes c cs first (shift_ordered p (ordered-tail Before r rs o))
    where
      first : (d : ConflictContents) → Contains cs d → Precedes c d
      first d i =
          let y = shift_from p d i in
          precede c d r.production (y.0).production (Shift t) (Shift t) x.production (y.2).production x.action (y.2).action (inr (refl, ordered-head Before r rs o y.0 y.1))
  shift_ordered (apart {rs} r n p) o = shift_ordered p (ordered-tail Before r rs o)

  -- the conflicts of all shifts are in order
  shifts_ordered : {rs : List Reduction} {ts : List TerminalString} {cs : List ConflictContents} → ShiftParts rs ts cs → Ordered Before rs → Ordered (IsLess terminals) ts → Ordered Precedes cs
  shifts_ordered no_shifts o a = ordered-nil Precedes
  shifts_ordered {rs} (shift_first {ts} {cs} {ds} t p ps) o a = ordered-append Precedes cs ds (shift_ordered p o) (shifts_ordered ps o (ordered-tail (IsLess terminals) t ts a)) across
    where
      across : (c d : ConflictContents) → Contains cs c → Contains ds d → Precedes c d
      across c d i j =
          let x = shift_from p c i in
          let y = shifts_from ps d j in
          precede c d (x.0).production (y.2.0).production (Shift t) (Shift y.0) (x.2).production (y.2.2).production (x.2).action (y.2.2).action (inl (ordered-head (IsLess terminals) t ts a y.0 y.1))

  -- the conflicts of one reduction with later ones are in order
  later_ordered : {r : Reduction} {rs : List Reduction} {cs : List ConflictContents} → LaterPart r rs cs → Ordered Before rs → Ordered Precedes cs
  later_ordered no_later o = ordered-nil Precedes
  later_ordered {r} (with_later {rs} {cs} q c x p) o = ordered-cons Precedes c cs first (later_ordered p (ordered-tail Before q rs o))
    where
      first : (d : ConflictContents) → Contains cs d → Precedes c d
      first d i =
          let y = later_from p d i in
          precede c d r.production r.production (Reduce q.production) (Reduce (y.0).production) x.production (y.2).production x.action (y.2).action (inr (refl, ordered-head Before q rs o y.0 y.1))
  later_ordered (shares_none {rs} q n p) o = later_ordered p (ordered-tail Before q rs o)

  -- the conflicts of all reductions with later ones are in order
  reduces_ordered : {rs : List Reduction} {cs : List ConflictContents} → ReduceParts rs cs → Ordered Before rs → Ordered Precedes cs
  reduces_ordered no_reductions o = ordered-nil Precedes
  reduces_ordered (reduce_first {rs} {cs} {ds} r p ps) o = ordered-append Precedes cs ds (later_ordered p (ordered-tail Before r rs o)) (reduces_ordered ps (ordered-tail Before r rs o)) across
    where
      across : (c d : ConflictContents) → Contains cs c → Contains ds d → Precedes c d
      across c d i j =
          let x = later_from p c i in
          let y = reduces_from ps d j in
          precede c d r.production (y.0).production (Reduce (x.0).production) (Reduce (y.1).production) (x.2).production (y.3).production (x.2).action (y.3).action
          (inl (ordered-head Before r rs o y.0 (place_contains rs (y.2).i y.0 (y.2).first)))

  -- the reductions of the state are in their order
  in_order : Ordered Before s.reductions
  in_order i j r q l e f = record { i = i; j = j; r = r; s = q; before = l; first = e; second = f; by_p = refl; by_q = refl }

  -- the tokens on which the production and the action of a conflict are in conflict
  along : (c : ConflictContents) (p : Production) (a : Action) (t : Token) → c.production ≡ p → c.action ≡ a → IsInConflict (StandsBefore s.reductions) (Allows s) p a t ↔ IsInConflict (StandsBefore s.reductions) (Allows s) c.production c.action t
  along c p a t e f = (
    λ h. subst (λ z. IsInConflict (StandsBefore s.reductions) (Allows s) c.production z t) (sym f) (subst (λ z. IsInConflict (StandsBefore s.reductions) (Allows s) z a t) (sym e) h),
    λ h. subst (λ z. IsInConflict (StandsBefore s.reductions) (Allows s) z a t) e (subst (λ z. IsInConflict (StandsBefore s.reductions) (Allows s) c.production z t) f h),
  )

  -- each listed conflict of a shift is a conflict of the state
  shift_is : (t : TerminalString) → ((n : ℕ) × (s.shift t ≡ Some n)) → (r : Reduction) → Contains s.reductions r → (c : ConflictContents) → IsShiftConflict t r c → IsConflict (StandsBefore s.reductions) (Allows s) c
  shift_is t n r i c h = record {
    some = (TokenOf t, (h.exact (TokenOf t)).1 refl);
    exact = λ z. (
      λ k. let e = (h.exact z).0 k in (along c r.production (Shift t) z h.production h.action).0 (e, (e, n), (r, i, refl, ap r.holds e ∙ h.holds)),
      λ k. (h.exact z).1 ((along c r.production (Shift t) z h.production h.action).1 k).0,
    );
  }

  -- each listed conflict of two reductions is a conflict of the state
  reduce_is : HasNoRepeat s.reductions → (r q : Reduction) → Stand s.reductions r q → (c : ConflictContents) → IsReduceConflict r q c → IsConflict (StandsBefore s.reductions) (Allows s) c
  reduce_is once r q p c h = record {
    some = ((h.some).0, (h.exact (h.some).0).1 ((h.some).1, (h.some).2));
    exact = λ z. (
      λ k.
          let e = (h.exact z).0 k in
          (along c r.production (Reduce q.production) z h.production h.action).0 (
            in_order p.i p.j r q p.less p.first p.second,
            (r, place_contains s.reductions p.i r p.first, refl, e.0),
            (q, place_contains s.reductions p.j q p.second, refl, e.1),
          ),
      λ k.
          let e = (along c r.production (Reduce q.production) z h.production h.action).1 k in
          (h.exact z).1 (holds_at s once p.i r z p.first e.1, holds_at s once p.j q z p.second e.2),
    );
  }

  -- the list that is made of both parts is the list of the state's conflicts
  pub conflict_list : HasNoRepeat s.reductions → (ts : List TerminalString) → Ordered (IsLess terminals) ts → ((t : TerminalString) → Contains ts t ↔ ((n : ℕ) × (s.shift t ≡ Some n))) → (cs ds : List ConflictContents) → ShiftParts s.reductions ts cs → ReduceParts s.reductions ds → AreConflictsOf terminals s (cs ++ ds)
  conflict_list once ts ascending shifted cs ds p d = record {
    each = λ c i. elim (Contains-append_cases cs ds c i) [
      | inl k ↦ let x = shifts_from p c k in shift_is x.0 ((shifted x.0).0 x.1) x.2.0 x.2.1 c x.2.2
      | inr k ↦ let x = reduces_from d c k in reduce_is once x.0 x.1 x.2 c x.3
    ];
    all = all;
    ascending = ordered-append Precedes cs ds (shifts_ordered p in_order ascending) (reduces_ordered d in_order) (λ a b i j.
        let x = shifts_from p a i in
        let y = reduces_from d b j in
        precede a b (x.2.0).production (y.0).production (Shift x.0) (Reduce (y.1).production) (x.2.2).production (y.3).production (x.2.2).action (y.3).action tt);
  }
    where
      all : (p : Production) (a : Action) (t : Token) → IsInConflict (StandsBefore s.reductions) (Allows s) p a t → (c : ConflictContents) × Contains (cs ++ ds) c × (c.production ≡ p) × (c.action ≡ a)
      all q (Shift x) t h =
          let r : Reduction = h.2.0 in
          let y = shifts_to p x ((shifted x).1 h.1.1) r h.2.1 (ap r.holds (sym h.0) ∙ h.2.3) in
          (y.0, Contains-append_left cs ds y.0 y.1, (y.2).production ∙ h.2.2, (y.2).action)
      all q (Reduce b) t h =
          let z : StandsBefore s.reductions q b = h.0 in
          let first : (z.r).holds t ≡ true = holds_at s once z.i z.r t z.first (subst (λ k. Allows s t (Reduce k)) (sym z.by_p) h.1) in
          let second : (z.s).holds t ≡ true = holds_at s once z.j z.s t z.second (subst (λ k. Allows s t (Reduce k)) (sym z.by_q) h.2) in
          let y = reduces_to d z.i z.j z.r z.s z.before z.first z.second t first second in
          (y.0, Contains-append_right cs ds y.0 y.1, (y.2).production ∙ z.by_p, (y.2).action ∙ ap Reduce z.by_q)
