-- The conditions on each state are the conditions of the definitions on all states.
use Rattle.std.proofs.Common.{◌≡◌, ◌↔◌, ◌<◌, ◌+◌, ℕ, zero, suc, ◌⊎◌, inl, inr, List, [], ◌∷◌, length, drop, refl, sym, ◌∙◌, ap, subst, arith, Bool, true, Option, Some, None, option_map}
use Rattle.std.specs.Prelude.{Contains, slice_get}
use Rattle.std.specs.Borrow.{Bor}
use Rattle.std.specs.BTreeSet.{BTreeSet}
use Rattle.std.proofs.lemmas.Option.{slice_get_within, slice_get-map}
use Rattle.lalrpop_base.specs.Words.{Bits, has, InClosure, in_kernel, expanded, IsMoved, items_of, AreClosed, AreCoherent, contents, contents_at, contents_of}
use Rattle.lalrpop_base.specs.Words.{no_contents, reduction_of, holds_token, Dotted, AllDiffer, Contents, leads, IsBehindDot, LeadsOverDots, HasNoRepeat}
use Rattle.lalrpop_base.specs.Words.{ReducesFinished, productions, AreAllConflictFree, IsMovedIn, with_dot, IsTarget, IsRightItem, IsRightTarget, IsRightState, AreRightStates}
use Rattle.lalrpop_grammar.specs.conflicts.Conflicts.{HasNoConflict as HoldsNoConflict}
use Rattle.lalrpop_states.specs.conflicts.StateConflicts.{IsConflictFree}
use Rattle.lalrpop_grammar.specs.states.States.{Reduction}
use Rattle.lalrpop_check.proofs.Types.{Grammar, Nil, NonterminalString, Production, State, Symbol, TerminalString, Token}
use Rattle.lalrpop_grammar.specs.declared.lookahead.token.Token.TheVariants.{Terminal as TokenOf}
use Rattle.lalrpop_grammar.specs.declared.repr.Symbol.TheVariants.{Terminal}
use Rattle.lalrpop_states.proofs.theory.states.ContentsViews.{LeadAsItemsSay, lead_as_items_say}
use Rattle.lalrpop_collections.proofs.theory.lists.Lists.{some_of_map, contains_of_map}
use Rattle.lalrpop_states.specs.states.Items.{dots, dotted_of}
use Rattle.lalrpop_states.specs.states.CheckStates.{productions_of_reductions, target_of, AreListed}
use Rattle.lalrpop_base.specs.Words.{target_from}
use Rattle.lalrpop_construction.proofs.theory.canonical.Canonical.{InClosure-more}
use Rattle.lalrpop_check.proofs.theory.check.CheckCarrying.{leads_in}
use Rattle.lalrpop_states.proofs.theory.closures.Closing.{drop_split, split_drop}
use Rattle.lalrpop_states.proofs.theory.grammars.KnownTerminals.{held_bit}
use Rattle.lalrpop_collections.proofs.theory.lists.Members.{Contains-none, contains_map, place}
use Rattle.lalrpop_collections.proofs.theory.lists.Places.{contains_at, same_some, filled}
use Rattle.lalrpop_construction.proofs.theory.conflicts.ConflictFree.{nowhere_conflict}
use Rattle.lalrpop_construction.proofs.theory.construction.StateEdges.{leads_transition, no_leads}

-- if a closure has an item, its kernel has one
kernel_of : (g : List Production) (K : Production → ℕ → Type 0) {p : Production} {dot : ℕ} → InClosure g K p dot → (q : Production) × (d : ℕ) × K q d
kernel_of g K {p} {dot} (in_kernel k) = (p, dot, k)
kernel_of g K (expanded q after c b a) = kernel_of g K c

-- a dotted production that is listed is one of the items
pub item_at : (items : List (Dotted Bits)) (p : Production) (dot : ℕ) → Contains (dots items) (p, dot) → (i : Dotted Bits) × Contains items i × (i.production ≡ p) × (i.index ≡ dot)
item_at items p dot c = let h = contains_of_map dotted_of items (p, dot) c in (h.0, h.1, ap (λ (d : Production × ℕ). d.0) h.2, ap (λ (d : Production × ℕ). d.1) h.2)

some_listed : {X : Type 0} (xs : List X) (x : X) → Contains xs x → 0 < length xs
some_listed xs x c = let l = c.1 in omega arith

dots_length : (items : List (Dotted Bits)) → length (dots items) ≡ length items
dots_length [] = refl
dots_length (i ∷ items) = ap suc (dots_length items)

-- ---- conflicts
module _ (terminals : List TerminalString) (s : State Bits) (free : IsConflictFree terminals s) where
  abbrev holds : Bits → Token → Bool
  holds = holds_token terminals

  pub free_state : HoldsNoConflict (contents_of holds s)
  free_state = record {
    shifts = λ x n r e c h.
        let edge = leads_transition holds s (Terminal x) n e in
        let at = place s.shifts.entries (x, edge.0) edge.2 in
        let q = contains_of_map (reduction_of holds) s.reductions.items r c in
        let there = place s.reductions.items q.0 q.1 in
        let b = held_bit terminals (q.0).0 (TokenOf x) (ap (λ (y : Reduction). y.holds (TokenOf x)) q.2 ∙ h) in
        free.shifts at.0 there.0 b.0 x edge.0 q.0 at.2 b.1 there.2 b.2;
    reductions = λ i j r q t l at_i at_j h k.
        let a = some_of_map (reduction_of holds) (slice_get s.reductions.items i) r (sym (slice_get-map (reduction_of holds) s.reductions.items i) ∙ at_i) in
        let b = some_of_map (reduction_of holds) (slice_get s.reductions.items j) q (sym (slice_get-map (reduction_of holds) s.reductions.items j) ∙ at_j) in
        let m = held_bit terminals (a.0).0 t (ap (λ (y : Reduction). y.holds t) a.2 ∙ h) in
        let n = held_bit terminals (b.0).0 t (ap (λ (y : Reduction). y.holds t) b.2 ∙ k) in
        let same : n.0 ≡ m.0 = same_some n.0 m.0 (sym n.1 ∙ m.1) in
        free.reductions i j m.0 a.0 b.0 l a.1 b.1 m.2 (subst (λ (bit : ℕ). has (b.0).0 bit ≡ true) same n.2);
  }

pub free_states : (terminals : List TerminalString) (states : List (State Bits)) → AreAllConflictFree terminals states → (n : ℕ) → HoldsNoConflict (contents terminals states n)
free_states terminals states free n = at (slice_get states n) refl
  where
    at : (o : Option (State Bits)) → slice_get states n ≡ o → HoldsNoConflict (contents_at (holds_token terminals) o)
    at None e = nowhere_conflict
    at (Some s) e = free_state terminals s (free n s e)

-- ---- closed states
module _ (g : Grammar) (start : NonterminalString) (states : List (State Bits)) (coherent : AreCoherent states) (listed : List (BTreeSet (Dotted Nil))) (lists : AreListed states listed) (targets : List ℕ) (are_targets : (m : ℕ) → Contains targets m ↔ IsTarget states m) where
  abbrev S : ℕ → Contents
  S = contents g.terminals states

  abbrev holds_of : Bits → Token → Bool
  holds_of = holds_token g.terminals

  say : LeadAsItemsSay S (length states)
  say = lead_as_items_say holds_of states coherent

  -- the state with a number, its contents and its set
  pub record IsHere (n : ℕ) : Type 0 where
    pub state : State Bits
    pub at : slice_get states n ≡ Some state
    pub set : BTreeSet (Dotted Nil)
    pub listed_at : slice_get listed n ≡ Some set

  here_at : (n : ℕ) (s : State Bits) → slice_get states n ≡ Some s → IsHere n
  here_at n s e =
      let w = slice_get_within states n s e in
      let c = lists.counted in
      let f = filled listed n (omega arith) in
      record { state = s; at = e; set = f.0; listed_at = f.1 }

  here_within : (n : ℕ) → n < length states → IsHere n
  here_within n l = let f = filled states n l in here_at n f.0 f.1

  contents_here : (n : ℕ) (h : IsHere n) → S n ≡ contents_of holds_of h.state
  contents_here n h = ap (contents_at holds_of) h.at

  items_here : (n : ℕ) (h : IsHere n) (p : Production) (dot : ℕ) → items_of S n p dot ↔ Contains (dots h.state.items.vec.items) (p, dot)
  items_here n h p dot = (
    λ c. subst (λ (x : Contents). Contains x.items (p, dot)) (contents_here n h) c,
    λ c. subst (λ (x : Contents). Contains x.items (p, dot)) (sym (contents_here n h)) c,
  )

  listed_here : (n : ℕ) (h : IsHere n) (p : Production) (dot : ℕ) → items_of S n p dot ↔ Contains h.set.keys (with_dot p dot)
  listed_here n h p dot =
      let l = lists.each n h.state h.set h.at h.listed_at (with_dot p dot) in
      (λ c. l.1 ((items_here n h p dot).0 c), λ c. (items_here n h p dot).1 (l.0 c))

  leads_here : (n : ℕ) (h : IsHere n) (x : Symbol) → leads (S n) x ≡ target_of h.state x
  leads_here n h x = leads_in g start states n x ∙ target_here (slice_get states n) h.at
    where
      target_here : (o : Option (State Bits)) → o ≡ Some h.state → target_from o x ≡ target_of h.state x
      target_here o e = ap (λ (q : Option (State Bits)). target_from q x) e

  abbrev numbered : ℕ → Type 0
  numbered n = IsHere n ⊎ (S n ≡ no_contents)

  number : (n : ℕ) → numbered n
  number n = at (slice_get states n) refl
    where
      at : (o : Option (State Bits)) → slice_get states n ≡ o → numbered n
      at None e = inr (ap (contents_at holds_of) e)
      at (Some s) e = inl (here_at n s e)

  from_here : (n m : ℕ) (x : Symbol) → leads (S n) x ≡ Some m → IsHere n
  from_here n m x e = elim (number n) [ inl h ↦ h | inr none ↦ absurd (no_leads x m (ap (λ (c : Contents). leads c x) (sym none) ∙ e)) ]

  item_here : (n : ℕ) (p : Production) (dot : ℕ) → items_of S n p dot → IsHere n
  item_here n p dot c = elim (number n) [ inl h ↦ h | inr none ↦ absurd (Contains-none (p, dot) (subst (λ (x : Contents). Contains x.items (p, dot)) none c)) ]

  to_here : (n m : ℕ) (x : Symbol) → leads (S n) x ≡ Some m → IsHere m
  to_here n m x e = here_within m (say.edges n m x e).within

  is_target : (n m : ℕ) (x : Symbol) → leads (S n) x ≡ Some m → Contains targets m
  is_target n m x e = let h = from_here n m x e in (are_targets m).1 (record { from = h.state; place = n; there = h.at; leads = (x, sym (leads_here n h x) ∙ e) })

  -- an item that moved into a target came over each of its edges
  moved_from : (n m : ℕ) (x : Symbol) → leads (S n) x ≡ Some m → (h : IsHere m) (p : Production) (dot : ℕ) → IsMovedIn (dots h.state.items.vec.items) p dot → IsMoved (items_of S n) x p dot
  moved_from n m x e h p zero c = let l = c.0 in absurd (omega arith)
  moved_from n m x e h p (suc dot) c =
      let edge = say.edges n m x e in
      let item = (items_here m h p (suc dot)).1 c.1 in
      record { before = dot; after = drop (suc dot) p.symbols; moved = refl; item = edge.origin p dot item; behind = drop_split dot p.symbols x (edge.over p dot item) }

  -- ---- from the conditions on each state
  module _ (right : AreRightStates g start listed targets states) where
    right_here : (n : ℕ) (h : IsHere n) → IsRightState g start listed targets n h.set.keys h.state
    right_here n h = right n h.state h.set h.at h.listed_at

    leads_moved : (n : ℕ) (h : IsHere n) (x : Symbol) (p : Production) (dot : ℕ) (after : List Symbol) → items_of S n p dot → drop dot p.symbols ≡ x ∷ after → (m : ℕ) × (leads (S n) x ≡ Some m) × items_of S m p (suc dot)
    leads_moved n h x p dot after c behind =
        let i = item_at h.state.items.vec.items p dot ((items_here n h p dot).0 c) in
        let at : slice_get (i.0).production.symbols (i.0).index ≡ Some x = subst (λ (q : Production). slice_get q.symbols (i.0).index ≡ Some x) (sym i.2) (subst (λ (k : ℕ). slice_get p.symbols k ≡ Some x) (sym i.3) (split_drop dot p.symbols x after behind)) in
        let o = ((right_here n h).items i.0 i.1).shifts x at in
        let edge : leads (S n) x ≡ Some o.to = leads_here n h x ∙ o.edge in
        let t = to_here n o.to x edge in
        let sets : o.moved.set ≡ t.set = same_some o.moved.set t.set (sym o.moved.there ∙ t.listed_at) in
        let key : Contains t.set.keys (with_dot (i.0).production ((i.0).index + 1)) = subst (λ (s : BTreeSet (Dotted Nil)). Contains s.keys (with_dot (i.0).production ((i.0).index + 1))) sets o.moved.has in
        let one : (i.0).index + 1 ≡ suc dot = (let d = i.3 in omega arith) in
        let found : Contains t.set.keys (with_dot p (suc dot)) = subst (λ (q : Production). Contains t.set.keys (with_dot q (suc dot))) i.2 (subst (λ (k : ℕ). Contains t.set.keys (with_dot (i.0).production k)) one key) in
        (o.to, edge, (listed_here o.to t p (suc dot)).1 found)

    moved_into : (n m : ℕ) (x : Symbol) → leads (S n) x ≡ Some m → (h : IsHere m) (p : Production) (dot : ℕ) → IsMoved (items_of S n) x p dot → IsMovedIn (dots h.state.items.vec.items) p dot
    moved_into n m x e h p dot v =
        let l = leads_moved n (from_here n m x e) x p v.before v.after v.item v.behind in
        let same : l.0 ≡ m = same_some l.0 m (sym l.1 ∙ e) in
        let there : items_of S m p (suc v.before) = subst (λ (k : ℕ). items_of S k p (suc v.before)) same l.2 in
        let moved = v.moved in
        (omega arith, subst (λ (d : ℕ). Contains (dots h.state.items.vec.items) (p, d)) (sym moved) ((items_here m h p (suc v.before)).0 there))

    edge_behind : (n m : ℕ) (x : Symbol) → leads (S n) x ≡ Some m → IsBehindDot (S n) x
    edge_behind n m x e =
        let t = to_here n m x e in
        let r = (right_here m t).target (is_target n m x e) in
        let first = filled t.state.items.vec.items 0 r.some in
        let i : Dotted Bits = first.0 in
        let listed_first = (lists.each m t.state t.set t.at t.listed_at (with_dot i.production i.index)).1 (contains_map dotted_of t.state.items.vec.items i (contains_at t.state.items.vec.items i 0 first.1)) in
        let k = kernel_of (productions g) (IsMovedIn (dots t.state.items.vec.items)) ((r.closed (with_dot i.production i.index)).0 listed_first) in
        let v = moved_from n m x e t k.0 k.1 k.2 in
        record { production = k.0; dot = v.before; after = v.after; item = v.item; behind = v.behind }

    closed_here : (n : ℕ) → LeadsOverDots (S n)
    closed_here n x = (
      λ h. edge_behind n h.0 x h.1,
      λ b. let l = leads_moved n (item_here n b.production b.dot b.item) x b.production b.dot b.after b.item b.behind in (l.0, l.1),
    )

    pub Right-closed : 0 < length states → AreClosed (productions g) start S
    Right-closed some = record {
      first = λ p dot.
          let h = here_within 0 some in
          let r = (right_here 0 h).first refl (with_dot p dot) in
          (λ c. r.0 ((listed_here 0 h p dot).0 c), λ c. (listed_here 0 h p dot).1 (r.1 c));
      next = λ n m x e p dot.
          let h = to_here n m x e in
          let r = ((right_here m h).target (is_target n m x e)).closed (with_dot p dot) in
          let K : Production → ℕ → Type 0 = IsMovedIn (dots h.state.items.vec.items) in
          let M : Production → ℕ → Type 0 = IsMoved (items_of S n) x in (
            λ c. InClosure-more (productions g) K M (moved_from n m x e h) (r.0 ((listed_here m h p dot).0 c)),
            λ c. (listed_here m h p dot).1 (r.1 (InClosure-more (productions g) M K (moved_into n m x e h) c)),
          );
      edges = closed_here;
    }

    once_here : (n : ℕ) (h : IsHere n) → HasNoRepeat (contents_of holds_of h.state).reductions
    once_here n h i j r q l at_i at_j same =
        let rs = h.state.reductions.items in
        let by : Bits × Bor Production → Production = λ x. x.1.now in
        let a = some_of_map (reduction_of holds_of) (slice_get rs i) r (sym (slice_get-map (reduction_of holds_of) rs i) ∙ at_i) in
        let b = some_of_map (reduction_of holds_of) (slice_get rs j) q (sym (slice_get-map (reduction_of holds_of) rs j) ∙ at_j) in
        let p : by a.0 ≡ by b.0 = ap (λ (x : Reduction). x.production) a.2 ∙ same ∙ ap (λ (x : Reduction). x.production) (sym b.2) in
        (right_here n h).once i j (by b.0) l (slice_get-map by rs i ∙ ap (option_map by) a.1 ∙ ap Some p) (slice_get-map by rs j ∙ ap (option_map by) b.1)

    reduces_here : (n : ℕ) (h : IsHere n) → ReducesFinished (contents_of holds_of h.state)
    reduces_here n h = record {
      finished = λ p. (
        λ r.
            let there = subst (λ (x : Contents). Contains x.reductions r.0) (sym (contents_here n h)) r.1 in
            subst (λ (q : Production). Contains (dots h.state.items.vec.items) (q, length q.symbols)) r.2 ((items_here n h (r.0).production (length (r.0).production.symbols)).0 (say.finished n r.0 there)),
        λ c.
            let i = item_at h.state.items.vec.items p (length p.symbols) c in
            let end : (i.0).index ≡ length (i.0).production.symbols = i.3 ∙ ap (λ (q : Production). length q.symbols) (sym i.2) in
            let red = ((right_here n h).items i.0 i.1).finished end in
            let r = contains_of_map (λ (x : Bits × Bor Production). x.1.now) h.state.reductions.items (i.0).production red in
            (reduction_of holds_of r.0, contains_map (reduction_of holds_of) h.state.reductions.items r.0 r.1, r.2 ∙ i.2),
      );
      once = once_here n h;
    }

    pub Right-reductions : (n : ℕ) → ReducesFinished (S n)
    Right-reductions n = elim (number n) [
      | inl h ↦ subst ReducesFinished (sym (contents_here n h)) (reduces_here n h)
      | inr none ↦ subst ReducesFinished (sym none) (record { finished = λ p. (λ r. absurd (Contains-none r.0 r.1), λ c. absurd (Contains-none (p, length p.symbols) c)); once = λ i j r q l at_i at_j same. cc })
    ]

    pub Right-free : AreAllConflictFree g.terminals states
    unfolding here_at
    Right-free n s e = (right_here n (here_at n s e)).free

  -- ---- to the conditions on each state
  module _ (closed : AreClosed (productions g) start S) (reductions : (n : ℕ) → ReducesFinished (S n)) (free : AreAllConflictFree g.terminals states) where
    right_target : (m : ℕ) (h : IsHere m) → Contains targets m → IsRightTarget g h.state.items.vec.items h.set.keys
    unfolding here_at
    right_target m h c =
        let t = (are_targets m).0 c in
        let from = here_at t.place t.from t.there in
        let x : Symbol = t.leads.0 in
        let e : leads (S t.place) x ≡ Some m = leads_here t.place from x ∙ t.leads.1 in
        let b = (closed.edges t.place x).0 (m, e) in
        let moved : IsMoved (items_of S t.place) x b.production (suc b.dot) = record { before = b.dot; after = b.after; moved = refl; item = b.item; behind = b.behind } in
        let item = (items_here m h b.production (suc b.dot)).0 ((closed.next t.place m x e b.production (suc b.dot)).1 (in_kernel moved)) in
        let K : Production → ℕ → Type 0 = IsMovedIn (dots h.state.items.vec.items) in
        let M : Production → ℕ → Type 0 = IsMoved (items_of S t.place) x in
        let into : (p : Production) (dot : ℕ) → M p dot → K p dot = λ p dot v.
        let moved = v.moved in
        (omega arith, (items_here m h p dot).0 ((closed.next t.place m x e p dot).1 (in_kernel v))) in
        record {
          some = let l = some_listed (dots h.state.items.vec.items) (b.production, suc b.dot) item in let n = dots_length h.state.items.vec.items in omega arith;
          closed = λ k. (
            λ d. InClosure-more (productions g) M K into ((closed.next t.place m x e k.production k.index).0 ((listed_here m h k.production k.index).1 d)),
            λ d. (listed_here m h k.production k.index).0 ((closed.next t.place m x e k.production k.index).1 (InClosure-more (productions g) K M (moved_from t.place m x e h) d)),
          );
        }

    right_item : (n : ℕ) (h : IsHere n) (i : Dotted Bits) → Contains h.state.items.vec.items i → IsRightItem listed h.state (productions_of_reductions h.state.reductions.items) i
    right_item n h i c =
        let item = (items_here n h i.production i.index).1 (contains_map dotted_of h.state.items.vec.items i c) in
        record {
          shifts = λ x at.
              let behind = drop_split i.index i.production.symbols x at in
              let e = (closed.edges n x).1 (record { production = i.production; dot = i.index; after = drop (suc i.index) i.production.symbols; item = item; behind = behind }) in
              let t = to_here n e.0 x e.1 in
              let there = (closed.next n e.0 x e.1 i.production (suc i.index)).1 (in_kernel (record { before = i.index; after = drop (suc i.index) i.production.symbols; moved = refl; item = item; behind = behind })) in
              let one : suc i.index ≡ i.index + 1 = omega arith in
              record {
                to = e.0;
                edge = sym (leads_here n h x) ∙ e.1;
                moved = record { set = t.set; there = t.listed_at; has = subst (λ (k : ℕ). Contains t.set.keys (with_dot i.production k)) one ((listed_here e.0 t i.production (suc i.index)).0 there) };
              };
          finished = λ end.
              let r = ((reductions n).finished i.production).1 (subst (λ (k : ℕ). items_of S n i.production k) end item) in
              let there = subst (λ (x : Contents). Contains x.reductions r.0) (contents_here n h) r.1 in
              let q = contains_of_map (reduction_of holds_of) h.state.reductions.items r.0 there in
              subst (Contains (productions_of_reductions h.state.reductions.items)) (ap (λ (x : Reduction). x.production) q.2 ∙ r.2) (contains_map (λ (x : Bits × Bor Production). x.1.now) h.state.reductions.items q.0 q.1);
        }

    once_reduced : (n : ℕ) (h : IsHere n) → AllDiffer (productions_of_reductions h.state.reductions.items)
    once_reduced n h i j p l at_i at_j =
        let rs = h.state.reductions.items in
        let by : Bits × Bor Production → Production = λ x. x.1.now in
        let once = subst (λ (x : Contents). HasNoRepeat x.reductions) (contents_here n h) (reductions n).once in
        let a = some_of_map by (slice_get rs i) p (sym (slice_get-map by rs i) ∙ at_i) in
        let b = some_of_map by (slice_get rs j) p (sym (slice_get-map by rs j) ∙ at_j) in
        once i j (reduction_of holds_of a.0) (reduction_of holds_of b.0) l (slice_get-map (reduction_of holds_of) rs i ∙ ap (option_map (reduction_of holds_of)) a.1) (slice_get-map (reduction_of holds_of) rs j ∙ ap (option_map (reduction_of holds_of)) b.1) (a.2 ∙ sym b.2)

    pub Closed-right : AreRightStates g start listed targets states
    Closed-right n s set at listed_at =
        let h : IsHere n = record { state = s; at = at; set = set; listed_at = listed_at } in
        record {
          first = λ z k.
              let c = closed.first k.production k.index in
              let l = listed_here n h k.production k.index in (
                λ d. c.0 (subst (λ (m : ℕ). items_of S m k.production k.index) z (l.1 d)),
                λ d. l.0 (subst (λ (m : ℕ). items_of S m k.production k.index) (sym z) (c.1 d)),
              );
          target = right_target n h;
          items = right_item n h;
          once = once_reduced n h;
          free = free n s at;
        }
