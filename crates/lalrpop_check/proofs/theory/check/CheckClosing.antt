-- The walk of a closure without tokens.
use Rattle.std.proofs.Common.{◌≡◌, ◌<◌, ◌+◌, ◌-◌, ℕ, suc, inl, inr, List, [], ◌∷◌, ◌++◌, length, map, drop, refl, sym, ◌∙◌, ap, subst, arith, Some}
use Rattle.std.specs.Prelude.{Contains, slice_get}
use Rattle.std.proofs.lemmas.List.Elements.{Contains-append_left, Contains-append_right, Contains-append_cases, Contains-push_cases, Contains-push}
use Rattle.lalrpop_base.specs.Words.{Bits, InClosure, in_kernel, expanded, IsAtStart, Dotted, IsWellFormed, productions, productions_of, IsOneAtStart, IsExpansionOf}
use Rattle.lalrpop_base.specs.Words.{IsMovedOf, AreClosure, AreOwn, lr0_at_start, AllWait, Visits}
use Rattle.lalrpop_check.proofs.Types.{Grammar, Nil, NonterminalString, Production, Symbol}
use Rattle.lalrpop_grammar.specs.declared.repr.Symbol.TheVariants.{Nonterminal}
use Rattle.lalrpop_states.specs.states.Items.{dots, dotted_of}
use Rattle.lalrpop_collections.specs.declared.collections.walk.Walk.{Walk}
use Rattle.lalrpop_construction.proofs.theory.canonical.Canonical.{InClosure-more}
use Rattle.lalrpop_states.proofs.theory.closures.Closing.{drop_split, split_drop}
use Rattle.lalrpop_grammar.proofs.theory.grammars.Grammars.{productions_among, productions_named}
use Rattle.lalrpop_collections.proofs.theory.lists.Members.{Contains-none, contains_head, contains-cons, contains_map}
use Rattle.lr1_theory.proofs.theory.grammars.Tables.{same_lr0}
use Rattle.lalrpop_collections.proofs.theory.collections.Walks.{IsTraversing, Traversing-end, Traversing-smaller, Traversing-start, Traversing-step, Visits-none, Visits-same, Visits-then, visited_such}
use Rattle.lr1_theory.proofs.theory.states.CheckStates.{dots_push}

abbrev Key : Type 0
Key = Dotted Nil

-- the productions of a list, one more
pub Begun-none : (walk : Walk Key) → Visits (IsOneAtStart []) walk walk
Begun-none walk = Visits-none (IsOneAtStart []) walk (λ k b. Contains-none k.production b.among)

pub Begun-more : (ps : List Production) (p : Production) (key : Key) (a b c : Walk Key) → key.production ≡ p → key.index ≡ 0 → Visits (IsOneAtStart ps) a b → Visits (λ k. key ≡ k) b c → Visits (IsOneAtStart (ps ++ p ∷ [])) a c
Begun-more ps p key a b c is at x y =
    Visits-then (IsOneAtStart ps) (λ k. key ≡ k) (IsOneAtStart (ps ++ p ∷ []))
    (λ k h. record { start = h.start; among = Contains-append_left ps (p ∷ []) k.production h.among })
    (λ k e. record { start = sym (ap (λ (d : Key). d.index) e) ∙ at; among = subst (Contains (ps ++ p ∷ [])) (sym is ∙ ap (λ (d : Key). d.production) e) (Contains-push ps p) })
    (λ k h. elim (Contains-push_cases ps p k.production h.among) [
      | inl f ↦ inl (record { start = h.start; among = f })
      | inr e ↦ inr (same_lr0 key k (is ∙ e) (at ∙ sym h.start))
    ])
    a b c x y

-- the productions of the nonterminal after a dot
pub Expansions-over : (g : Grammar) (item : Key) (name : NonterminalString) (a b : Walk Key) → slice_get item.production.symbols item.index ≡ Some (Nonterminal name) → Visits (IsOneAtStart (productions_of g name)) a b → Visits (IsExpansionOf g item) a b
Expansions-over g item name a b behind x =
    Visits-same (IsOneAtStart (productions_of g name)) (IsExpansionOf g item)
    (λ k h. record { name = name; behind = behind; begun = h })
    (λ k h.
    let both : Some (Nonterminal h.name) ≡ Some (Nonterminal name) = sym h.behind ∙ behind in
    let same : h.name ≡ name = cc in
    subst (λ (n : NonterminalString). IsOneAtStart (productions_of g n) k) same h.begun)
    a b x

pub Expansions-none : (g : Grammar) (item : Key) (walk : Walk Key) → ((name : NonterminalString) → slice_get item.production.symbols item.index ≡ Some (Nonterminal name) → ⊥) → Visits (IsExpansionOf g item) walk walk
Expansions-none g item walk none = Visits-none (IsExpansionOf g item) walk (λ k h. none h.name h.behind)

-- the items of a list whose dot moved, one more
pub Moved-none : (walk : Walk Key) → Visits (IsMovedOf []) walk walk
Moved-none walk = Visits-none (IsMovedOf []) walk (λ k b. Contains-none (k.production, k.index) b.1)

pub Moved-more : (items : List (Dotted Bits)) (i : Dotted Bits) (a b c : Walk Key) → Visits (IsMovedOf items) a b → Visits (IsMovedOf (i ∷ [])) b c → Visits (IsMovedOf (items ++ i ∷ [])) a c
Moved-more items i a b c x y =
    Visits-then (IsMovedOf items) (IsMovedOf (i ∷ [])) (IsMovedOf (items ++ i ∷ []))
    (λ k h. (h.0, subst (λ (ds : List (Production × ℕ)). Contains ds (k.production, k.index)) (sym (dots_push items i)) (Contains-append_left (dots items) (dotted_of i ∷ []) (k.production, k.index) h.1)))
    (λ k h. (h.0, subst (λ (ds : List (Production × ℕ)). Contains ds (k.production, k.index)) (sym (dots_push items i)) (Contains-append_right (dots items) (dotted_of i ∷ []) (k.production, k.index) h.1)))
    (λ k h. elim (Contains-append_cases (dots items) (dotted_of i ∷ []) (k.production, k.index) (subst (λ (ds : List (Production × ℕ)). Contains ds (k.production, k.index)) (dots_push items i) h.1)) [
      | inl l ↦ inl (h.0, l)
      | inr r ↦ inr (h.0, r)
    ])
    a b c x y

pub Moved-one : (i : Dotted Bits) (key : Key) (a b : Walk Key) → key.production ≡ i.production → key.index ≡ i.index → 0 < i.index → Visits (λ k. key ≡ k) a b → Visits (IsMovedOf (i ∷ [])) a b
Moved-one i key a b p d moved x =
    let same : dotted_of i ≡ (key.production, key.index) = ap (λ (q : Production). (q, i.index)) (sym p) ∙ ap (λ (n : ℕ). (key.production, n)) (sym d) in
    Visits-same (λ k. key ≡ k) (IsMovedOf (i ∷ []))
    (λ k e. (let n : key.index ≡ k.index = ap (λ (x : Key). x.index) e in omega arith, subst (λ (x : Key). Contains (dotted_of i ∷ []) (x.production, x.index)) e (subst (Contains (dotted_of i ∷ [])) same (contains_head (dotted_of i) []))))
    (λ k h. elim (contains-cons (dotted_of i) [] (k.production, k.index) h.1) [
      | inl e ↦ let f = sym same ∙ e in same_lr0 key k (ap (λ (x : Production × ℕ). x.0) f) (ap (λ (x : Production × ℕ). x.1) f)
      | inr none ↦ absurd (Contains-none (k.production, k.index) none)
    ])
    a b x

pub Moved-unmoved : (i : Dotted Bits) (walk : Walk Key) → i.index ≡ 0 → Visits (IsMovedOf (i ∷ [])) walk walk
Moved-unmoved i walk z = Visits-none (IsMovedOf (i ∷ [])) walk (λ k h. elim (contains-cons (dotted_of i) [] (k.production, k.index) h.1) [
  | inl e ↦ let n : i.index ≡ k.index = ap (λ (x : Production × ℕ). x.1) e in let m = h.0 in absurd (omega arith)
  | inr none ↦ absurd (Contains-none (k.production, k.index) none)
])

-- ---- the loop
abbrev pub lr0 : Production → ℕ → Key
lr0 p dot = record { production = p; index = dot; lookahead = record {} }

abbrev pub Found : List Key → Production → ℕ → Type 0
Found keys p dot = Contains keys (lr0 p dot)

module _ (g : Grammar) (base : List Key) where
  abbrev InClosureOf : Key → Type 0
  InClosureOf k = InClosure (productions g) (Found base) k.production k.index

  -- the items found so far, and those that are done
  pub record IsClosing (walk : Walk Key) : Type 0 where
    pub done : List Key
    pub at : IsTraversing (Contains base) (IsExpansionOf g) InClosureOf done walk

  pub room : List Key
  room = base ++ map lr0_at_start (productions g)

  expansion_sound : IsWellFormed g → (item k : Key) → InClosureOf item → IsExpansionOf g item k → InClosureOf k
  expansion_sound well item k c e =
      let among = productions_among g e.name k.production e.begun.among in
      let named = productions_named g well e.name k.production e.begun.among in
      let after : List Symbol = drop (suc item.index) item.production.symbols in
      let behind : drop item.index item.production.symbols ≡ Nonterminal k.production.nonterminal ∷ after = drop_split item.index item.production.symbols (Nonterminal e.name) e.behind ∙ ap (λ (a : NonterminalString). Nonterminal a ∷ after) (sym named) in
      subst (InClosure (productions g) (Found base) k.production) (sym e.begun.start) (expanded k.production after c behind among)

  in_room : (p : Production) (dot : ℕ) → InClosure (productions g) (Found base) p dot → Contains room (lr0 p dot)
  unfolding room
  in_room p dot (in_kernel h) = Contains-append_left base (map lr0_at_start (productions g)) (lr0 p dot) h
  in_room p dot (expanded q after c behind among) = Contains-append_right base (map lr0_at_start (productions g)) (lr0_at_start q) (contains_map lr0_at_start (productions g) q among)

  pub Closing-start : (walk : Walk Key) → walk.visited.keys ≡ base → AllWait walk → IsClosing walk
  Closing-start walk same all = record {
    done = [];
    at = Traversing-start (Contains base) (IsExpansionOf g) InClosureOf walk all (λ k c. subst (λ (ks : List Key). Contains ks k) (sym same) c) (λ k c. in_kernel (subst (λ (ks : List Key). Contains ks k) same c));
  }

  module _ (key : Key) (before popped after : Walk Key) (same : popped.visited.keys ≡ before.visited.keys) (taken : before.waiting.items ≡ key ∷ popped.waiting.items) (h : IsClosing before) (v : Visits (IsExpansionOf g key) popped after) where
    stepped : IsWellFormed g → IsTraversing (Contains base) (IsExpansionOf g) InClosureOf (h.done ++ key ∷ []) after
    stepped well = Traversing-step (Contains base) (IsExpansionOf g) InClosureOf h.done key before popped after same taken h.at v (expansion_sound well key)

    pub Closing-step : IsWellFormed g → IsClosing after
    Closing-step well = record { done = h.done ++ key ∷ []; at = stepped well }

    pub Closing-smaller : IsWellFormed g → length room + length after.waiting.items - length after.visited.keys < length room + length before.waiting.items - length before.visited.keys
    Closing-smaller well = Traversing-smaller (Contains base) (IsExpansionOf g) InClosureOf room (λ k c. in_room k.production k.index c) h.done (h.done ++ key ∷ []) key before popped after same taken h.at v (stepped well)

  -- if no item waits
  module _ (own : AreOwn g) (walk : Walk Key) (none : walk.waiting.items ≡ []) (h : IsClosing walk) where
    complete : {p : Production} {dot : ℕ} → InClosure (productions g) (Found base) p dot → Contains walk.visited.keys (lr0 p dot)
    complete {p} {dot} (in_kernel c) = h.at.begun (lr0 p dot) c
    complete (expanded {p} {dot} q after c behind among) =
        h.at.led (lr0 p dot) (lr0 q 0) (Traversing-end (Contains base) (IsExpansionOf g) InClosureOf h.done walk none h.at (lr0 p dot) (complete c))
        (record { name = q.nonterminal; behind = split_drop dot p.symbols (Nonterminal q.nonterminal) after behind; begun = record { start = refl; among = own q among } })

    pub Closing-end : AreClosure g (Found base) walk.visited.keys
    Closing-end k = (h.at.reached k, complete)

-- if exactly these items were visited at first, the closure is that of these
pub Closure-of : (g : Grammar) (Such : Production → ℕ → Type 0) (none walk : Walk Key) (closed : List Key) → none.visited.keys ≡ [] → none.waiting.items ≡ [] → Visits (λ k. Such k.production k.index) none walk → AreClosure g (Found walk.visited.keys) closed → AreClosure g Such closed
Closure-of g Such none walk closed no_visits no_waits v c k =
    let such = visited_such (λ i. Such i.production i.index) none walk no_visits no_waits v in (
      λ h. InClosure-more (productions g) (Found walk.visited.keys) Such (λ p dot f. such (lr0 p dot) f) ((c k).0 h),
      λ h. (c k).1 (InClosure-more (productions g) Such (Found walk.visited.keys) (λ p dot s. v.there (lr0 p dot) s) h),
    )

pub Begun-start : (g : Grammar) (start : NonterminalString) → IsWellFormed g → AreOwn g → (a b : Walk Key) → Visits (IsOneAtStart (productions_of g start)) a b → Visits (λ k. IsAtStart (productions g) start k.production k.index) a b
Begun-start g start well own a b v =
    Visits-same (IsOneAtStart (productions_of g start)) (λ k. IsAtStart (productions g) start k.production k.index)
    (λ k h. (h.start, productions_among g start k.production h.among, productions_named g well start k.production h.among))
    (λ k h. record { start = h.0; among = subst (λ (a : NonterminalString). Contains (productions_of g a) k.production) h.2 (own k.production h.1) })
    a b v
