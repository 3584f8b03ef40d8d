-- A walk visits a key, and many keys, until none waits.
use Rattle.std.proofs.Common.{◌≡◌, ◌+◌, ◌-◌, ◌<◌, ◌≤◌, ◌⊎◌, inl, inr, suc, List, [], ◌∷◌, ◌++◌, length, sym, ◌∙◌, ap, subst, arith, length-append, refl}
use Rattle.std.specs.Prelude.{Contains}
use Rattle.std.proofs.lemmas.List.Elements.{Contains-append_left, Contains-push_cases, Contains-push}
use Rattle.lalrpop_collections.specs.Words.{AllDiffer, AllWait, Visits}
use Rattle.lalrpop_collections.specs.lists.CheckSets.{IsAdded}
use Rattle.lalrpop_collections.specs.declared.collections.walk.Walk.{Walk}
use Rattle.lalrpop_collections.proofs.theory.lists.Members.{Contains-none, contains_head, contains_tail, contains-cons, pigeonhole}
use Rattle.lalrpop_collections.proofs.theory.lists.Places.{apart_from_differ, contains_at}

-- ---- one key
module _ {K : Type 0} (key : K) (old new : Walk K) (added : IsAdded key old.visited.keys new.visited.keys) (differ : AllDiffer new.visited.keys) where
  -- the key is new
  pub Visits-new : length new.visited.keys ≡ length old.visited.keys + 1 → new.waiting.items ≡ old.waiting.items ++ key ∷ [] → Visits (λ k. key ≡ k) old new
  Visits-new more pushed =
      let here : Contains new.waiting.items key = subst (λ (ks : List K). Contains ks key) (sym pushed) (Contains-push old.waiting.items key) in
      record {
        kept = added.kept;
        there = λ k e. subst (Contains new.visited.keys) e added.there;
        only = λ k c. elim (added.from k c) [ inl o ↦ inl o | inr e ↦ inr (e, subst (Contains new.waiting.items) e here) ];
        stays = λ k c. subst (λ (ks : List K). Contains ks k) (sym pushed) (Contains-append_left old.waiting.items (key ∷ []) k c);
        waits = λ k c. elim (Contains-push_cases old.waiting.items key k (subst (λ (ks : List K). Contains ks k) pushed c)) [
          | inl o ↦ inl o
          | inr e ↦ inr (subst (Contains new.visited.keys) e added.there)
        ];
        differ = λ _. differ;
        weighed = let l : length new.waiting.items ≡ length old.waiting.items + 1 = ap length pushed ∙ length-append old.waiting.items (key ∷ []) in omega arith;
      }

  -- the key was visited before
  pub Visits-known : Contains old.visited.keys key → length new.visited.keys ≡ length old.visited.keys → new.waiting ≡ old.waiting → Visits (λ k. key ≡ k) old new
  Visits-known before same waiting =
      let items : new.waiting.items ≡ old.waiting.items = ap (λ (q : _). q.items) waiting in
      record {
        kept = added.kept;
        there = λ k e. subst (Contains new.visited.keys) e added.there;
        only = λ k c. elim (added.from k c) [ inl o ↦ inl o | inr e ↦ inl (subst (Contains old.visited.keys) e before) ];
        stays = λ k c. subst (λ (ks : List K). Contains ks k) (sym items) c;
        waits = λ k c. inl (subst (λ (ks : List K). Contains ks k) items c);
        differ = λ _. differ;
        weighed = let l = ap length items in omega arith;
      }

-- ---- many
module _ {K : Type 0} where
  pub Visits-none : (Such : K → Type 0) (walk : Walk K) → ((k : K) → Such k → ⊥) → Visits Such walk walk
  Visits-none Such walk none = record {
    kept = λ k c. c;
    there = λ k s. absurd (none k s);
    only = λ k c. inl c;
    stays = λ k c. c;
    waits = λ k c. inl c;
    differ = λ d. d;
    weighed = refl;
  }

  pub Visits-then : (A B C : K → Type 0) → ((k : K) → A k → C k) → ((k : K) → B k → C k) → ((k : K) → C k → A k ⊎ B k) → (a b c : Walk K) → Visits A a b → Visits B b c → Visits C a c
  Visits-then A B C left right cases a b c x y = record {
    kept = λ k h. y.kept k (x.kept k h);
    there = λ k h. elim (cases k h) [ inl p ↦ y.kept k (x.there k p) | inr q ↦ y.there k q ];
    only = λ k h. elim (y.only k h) [
      | inl o ↦ elim (x.only k o) [ inl p ↦ inl p | inr q ↦ inr (left k q.0, y.stays k q.1) ]
      | inr n ↦ inr (right k n.0, n.1)
    ];
    stays = λ k h. y.stays k (x.stays k h);
    waits = λ k h. elim (y.waits k h) [ inl o ↦ elim (x.waits k o) [ inl p ↦ inl p | inr q ↦ inr (y.kept k q) ] | inr n ↦ inr n ];
    differ = λ d. y.differ (x.differ d);
    weighed = let l = x.weighed in let m = y.weighed in omega arith;
  }

  pub Visits-same : (A B : K → Type 0) → ((k : K) → A k → B k) → ((k : K) → B k → A k) → (a b : Walk K) → Visits A a b → Visits B a b
  Visits-same A B to from a b x = record {
    kept = x.kept;
    there = λ k h. x.there k (from k h);
    only = λ k h. elim (x.only k h) [ inl o ↦ inl o | inr n ↦ inr (to k n.0, n.1) ];
    stays = x.stays;
    waits = x.waits;
    differ = x.differ;
    weighed = x.weighed;
  }

  -- keys that were all visited are visited again
  pub Visits-again : (Such : K → Type 0) (a b c : Walk K) → Visits Such a b → ((k : K) → Contains b.visited.keys k → Contains c.visited.keys k) → Visits Such c c
  Visits-again Such a b c x kept = record {
    kept = λ k h. h;
    there = λ k h. kept k (x.there k h);
    only = λ k h. inl h;
    stays = λ k h. h;
    waits = λ k h. inl h;
    differ = λ d. d;
    weighed = refl;
  }

  -- a walk that begins with some keys
  module _ (Such : K → Type 0) (none walk : Walk K) (no_visits : none.visited.keys ≡ []) (no_waits : none.waiting.items ≡ []) (v : Visits Such none walk) where
    nowhere : (k : K) → Contains none.visited.keys k → ⊥
    nowhere k c = Contains-none k (subst (λ (ks : List K). Contains ks k) no_visits c)

    pub visited_such : (k : K) → Contains walk.visited.keys k → Such k
    visited_such k c = elim (v.only k c) [ inl o ↦ absurd (nowhere k o) | inr n ↦ n.0 ]

    pub All-wait : AllWait walk
    All-wait = record {
      waits = λ k c. elim (v.only k c) [ inl o ↦ absurd (nowhere k o) | inr n ↦ n.1 ];
      came = λ k c. elim (v.waits k c) [ inl o ↦ absurd (Contains-none k (subst (λ (ks : List K). Contains ks k) no_waits o)) | inr n ↦ n ];
      differ = v.differ (λ i j x l at other. nowhere x (contains_at none.visited.keys x i at));
    }

-- ---- the loop
-- the keys with which a walk begins, the keys to which a key leads, and the keys that can be
-- reached
module _ {K : Type 0} (Begun : K → Type 0) (Leads : K → K → Type 0) (Reach : K → Type 0) where
  -- each key that was visited is reached, and waits or is done. A key that is done leads only to
  -- keys that were visited
  pub record IsTraversing (done : List K) (walk : Walk K) : Type 0 where
    pub begun : (k : K) → Begun k → Contains walk.visited.keys k
    pub split : (k : K) → Contains walk.visited.keys k → Contains done k ⊎ Contains walk.waiting.items k
    pub came : (k : K) → Contains walk.waiting.items k → Contains walk.visited.keys k
    pub settled : (k : K) → Contains done k → Contains walk.visited.keys k
    pub reached : (k : K) → Contains walk.visited.keys k → Reach k
    pub led : (k e : K) → Contains done k → Leads k e → Contains walk.visited.keys e
    pub differ : AllDiffer walk.visited.keys

  pub Traversing-start : (walk : Walk K) → AllWait walk → ((k : K) → Begun k → Contains walk.visited.keys k) → ((k : K) → Contains walk.visited.keys k → Reach k) → IsTraversing [] walk
  Traversing-start walk all begun reached = record {
    begun = begun;
    split = λ k c. inr (all.waits k c);
    came = all.came;
    settled = λ k c. absurd (Contains-none k c);
    reached = reached;
    led = λ k e c l. absurd (Contains-none k c);
    differ = all.differ;
  }

  -- the next key is taken out and its keys are visited
  module _ (done : List K) (key : K) (before popped after : Walk K) (same : popped.visited.keys ≡ before.visited.keys) (taken : before.waiting.items ≡ key ∷ popped.waiting.items) (h : IsTraversing done before) where
    pub next_visited : Contains before.visited.keys key
    next_visited = h.came key (subst (λ (ks : List K). Contains ks key) (sym taken) (contains_head key popped.waiting.items))

    module _ (v : Visits (Leads key) popped after) where
      was : (k : K) → Contains popped.visited.keys k → Contains before.visited.keys k
      was k c = subst (λ (ks : List K). Contains ks k) same c

      stays : (k : K) → Contains before.visited.keys k → Contains after.visited.keys k
      stays k c = v.kept k (subst (λ (ks : List K). Contains ks k) (sym same) c)

      last : (k : K) → Contains (done ++ key ∷ []) k → Contains done k ⊎ (key ≡ k)
      last k c = elim (Contains-push_cases done key k c) [ inl d ↦ inl d | inr e ↦ inr e ]

      pub Traversing-step : ((e : K) → Reach key → Leads key e → Reach e) → IsTraversing (done ++ key ∷ []) after
      Traversing-step onward = record {
        begun = λ k b. stays k (h.begun k b);
        split = λ k c. elim (v.only k c) [
          | inl o ↦ elim (h.split k (was k o)) [
            | inl d ↦ inl (Contains-append_left done (key ∷ []) k d)
            | inr w ↦ elim (contains-cons key popped.waiting.items k (subst (λ (ks : List K). Contains ks k) taken w)) [
              | inl e ↦ inl (subst (Contains (done ++ key ∷ [])) e (Contains-push done key))
              | inr q ↦ inr (v.stays k q)
            ]
          ]
          | inr n ↦ inr n.1
        ];
        came = λ k c. elim (v.waits k c) [
          | inl o ↦ stays k (h.came k (subst (λ (ks : List K). Contains ks k) (sym taken) (contains_tail key popped.waiting.items k o)))
          | inr n ↦ n
        ];
        settled = λ k c. elim (last k c) [ inl d ↦ stays k (h.settled k d) | inr e ↦ subst (Contains after.visited.keys) e (stays key next_visited) ];
        reached = λ k c. elim (v.only k c) [ inl o ↦ h.reached k (was k o) | inr n ↦ onward k (h.reached key next_visited) n.0 ];
        led = λ k e c l. elim (last k c) [ inl d ↦ stays e (h.led k e d l) | inr s ↦ v.there e (subst (λ (x : K). Leads x e) (sym s) l) ];
        differ = v.differ (subst AllDiffer (sym same) h.differ);
      }

  -- all keys that can be reached are in a list
  module _ (room : List K) (within : (k : K) → Reach k → Contains room k) where
    few : (done : List K) (walk : Walk K) → IsTraversing done walk → length walk.visited.keys ≤ length room
    few done walk h = pigeonhole walk.visited.keys room (apart_from_differ walk.visited.keys h.differ) (λ k c. within k (h.reached k c))

    -- a measure falls with each key, so the walk ends
    pub Traversing-smaller : (done more : List K) (key : K) (before popped after : Walk K) → popped.visited.keys ≡ before.visited.keys → before.waiting.items ≡ key ∷ popped.waiting.items → IsTraversing done before → Visits (Leads key) popped after → IsTraversing more after →
        length room + length after.waiting.items - length after.visited.keys < length room + length before.waiting.items - length before.visited.keys
    Traversing-smaller done more key before popped after same taken h v g =
        let a = few done before h in
        let b = few more after g in
        let w = v.weighed in
        let s : length popped.visited.keys ≡ length before.visited.keys = ap length same in
        let t : length before.waiting.items ≡ suc (length popped.waiting.items) = ap length taken in
        omega arith

  -- if no key waits, all visited keys are done
  pub Traversing-end : (done : List K) (walk : Walk K) → walk.waiting.items ≡ [] → IsTraversing done walk → (k : K) → Contains walk.visited.keys k → Contains done k
  Traversing-end done walk none h k c = elim (h.split k c) [ inl d ↦ d | inr w ↦ absurd (Contains-none k (subst (λ (ks : List K). Contains ks k) none w)) ]
