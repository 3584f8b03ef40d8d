-- If two lists of states differ in lookaheads alone, definitions that read only dotted productions
-- and edges say the same of both.
use Rattle.std.proofs.Common.{◌≡◌, ℕ, Bool, List, [], ◌∷◌, length, map, refl, sym, ◌∙◌, ap, subst, arith, Option, Some, None, option_map}
use Rattle.std.specs.Prelude.{Contains, slice_get}
use Rattle.std.specs.Borrow.{Bor}
use Rattle.std.proofs.lemmas.Option.{slice_get_within, slice_get-map}
use Rattle.lalrpop_base.specs.Words.{AreClosed, number_of, reduction_of, contents_of, contents_at, contents_in, IsCopying, AreLr0, LeadsBack, to_parent}
use Rattle.lalrpop_base.specs.Words.{behind_parent, of_start, IsTracedTo, itself, back, IsLaneToken, Contents, leads, onward, state_from, state_after}
use Rattle.lalrpop_base.specs.Words.{IsBehindDot, LeadsOverDots, HasNoRepeat, ReducesFinished, HasRightItems, name_cmp}
use Rattle.lalrpop_grammar.specs.lanes.Lanes.{over_edge, Gives}
use Rattle.lalrpop_grammar.specs.states.States.{Reduction}
use Rattle.lalrpop_follow_sets.proofs.Types.{NonterminalString, Production, State, StateIndex, Symbol, TerminalString, Token}
use Rattle.lalrpop_grammar.specs.declared.repr.Symbol.TheVariants.{Nonterminal, Terminal}
use Rattle.lalrpop_grammar.specs.contracts.repr.TerminalStringOrd.TheImpl as terminal_ord
use Rattle.std.specs.BTreeMap.{BTreeMap, get}
use Rattle.lalrpop_collections.proofs.theory.lists.Lists.{some_of_map, contains_of_map, contains_map}
use Rattle.lr1_theory.proofs.theory.states.Copies.{copies_closed}
use Rattle.lalrpop_construction.specs.Words.{by, HasSamePlace, HaveSamePlaces}
use Rattle.lalrpop_collections.proofs.theory.lists.Places.{filled, same_some}

abbrev pub produced : Reduction → Production
produced r = r.production

-- the same dotted productions, edges and reduced productions
pub record IsSamePlace (a b : Contents) : Type 0 where
  pub items : b.items ≡ a.items
  pub edges : (x : Symbol) → leads b x ≡ leads a x
  pub reduced : map produced b.reductions ≡ map produced a.reductions

abbrev pub AreSamePlaces : (ℕ → Contents) → (ℕ → Contents) → Type 0
AreSamePlaces a b = (n : ℕ) → IsSamePlace (a n) (b n)

pub same_turned : (a b : ℕ → Contents) → AreSamePlaces a b → AreSamePlaces b a
same_turned a b same n = record { items = sym (same n).items; edges = λ x. sym ((same n).edges x); reduced = sym (same n).reduced }

-- ---- lanes
module _ (g : List Production) (start : NonterminalString) (a b : ℕ → Contents) (same : AreSamePlaces a b) where
  item_there : (n : ℕ) (d : Production × ℕ) → Contains (a n).items d → Contains (b n).items d
  item_there n d = subst (λ (ds : List (Production × ℕ)). Contains ds d) (sym (same n).items)

  edge_there : (n m : ℕ) (x : Symbol) → leads (a n) x ≡ Some m → leads (b n) x ≡ Some m
  edge_there n m x e = (same n).edges x ∙ e

  back_there : {s r : ℕ} {p q : Production} {dot e : ℕ} → LeadsBack g a s p dot r q e → LeadsBack g b s p dot r q e
  back_there (over_edge r s p dot x after e h) = over_edge r s p dot x after (edge_there r s x e) h
  back_there (to_parent s p q dot after c e n) = to_parent s p q dot after (item_there s (q, dot) c) e n

  gives_there : {s : ℕ} {p : Production} {dot : ℕ} {t : Token} → Gives g start a s p dot t → Gives g start b s p dot t
  gives_there (behind_parent s p q dot after t c e f) = behind_parent s p q dot after t (item_there s (q, dot) c) e f
  gives_there (of_start s p e) = of_start s p e

  traced_there : {s n : ℕ} {p k : Production} {dot d : ℕ} → IsTracedTo g a s p dot n k d → IsTracedTo g b s p dot n k d
  traced_there itself = itself
  traced_there (back h t) = back (back_there h) (traced_there t)

  pub lane_there : (s : ℕ) (p : Production) (dot : ℕ) (t : Token) → IsLaneToken g start a s p dot t → IsLaneToken g start b s p dot t
  lane_there s p dot t k = (k.0, record { production = (k.1).production; index = (k.1).index; traced = traced_there (k.1).traced; gives = gives_there (k.1).gives })

-- ---- the states after a prefix
onward_same : (o : Option ℕ) (f h : ℕ → Option ℕ) → ((m : ℕ) → f m ≡ h m) → onward o f ≡ onward o h
onward_same None f h e = refl
onward_same (Some m) f h e = e m

module _ (a b : ℕ → Contents) (same : AreSamePlaces a b) where
  from_same : (n : ℕ) (u : List Symbol) → state_from b n u ≡ state_from a n u
  from_same n [] = refl
  from_same n (x ∷ u) = ap (λ (o : Option ℕ). onward o (λ m. state_from b m u)) ((same n).edges x) ∙ onward_same (leads (a n) x) (λ m. state_from b m u) (λ m. state_from a m u) (λ m. from_same m u)

  pub after_same : (u : List Symbol) → state_after b u ≡ state_after a u
  after_same u = from_same 0 u

-- ---- dots and reductions
module _ (a b : Contents) (same : IsSamePlace a b) where
  behind_there : (x : Symbol) → IsBehindDot a x → IsBehindDot b x
  behind_there x d = record { production = d.production; dot = d.dot; after = d.after; item = subst (λ (ds : List (Production × ℕ)). Contains ds (d.production, d.dot)) (sym same.items) d.item; behind = d.behind }

  reduction_there : (p : Production) → (r : Reduction) × Contains a.reductions r × (r.production ≡ p) → (r : Reduction) × Contains b.reductions r × (r.production ≡ p)
  reduction_there p h =
      let c : Contains (map produced b.reductions) p = subst (Contains (map produced b.reductions)) h.2 (subst (λ (ps : List Production). Contains ps (h.0).production) (sym same.reduced) (contains_map produced a.reductions h.0 h.1)) in
      contains_of_map produced b.reductions p c

  -- the reduction at a place has the same production in both
  stands_there : (k : ℕ) (r : Reduction) → slice_get b.reductions k ≡ Some r → (q : Reduction) × (slice_get a.reductions k ≡ Some q) × (q.production ≡ r.production)
  stands_there k r at = some_of_map produced (slice_get a.reductions k) r.production (sym (slice_get-map produced a.reductions k) ∙ ap (λ (ps : List Production). slice_get ps k) (sym same.reduced) ∙ slice_get-map produced b.reductions k ∙ ap (option_map produced) at)

  no_repeat_there : HasNoRepeat a.reductions → HasNoRepeat b.reductions
  no_repeat_there none i j r q l at_i at_j e =
      let x = stands_there i r at_i in
      let y = stands_there j q at_j in
      none i j x.0 y.0 l x.1 y.1 (x.2 ∙ e ∙ sym y.2)

is_turned : (a b : Contents) → IsSamePlace a b → IsSamePlace b a
is_turned a b same = record { items = sym same.items; edges = λ x. sym (same.edges x); reduced = sym same.reduced }

pub reduces_there : (a b : Contents) → IsSamePlace a b → ReducesFinished a → ReducesFinished b
reduces_there a b same h = record {
  finished = λ p. (
    λ r. subst (λ (ds : List (Production × ℕ)). Contains ds (p, length p.symbols)) (sym same.items) ((h.finished p).0 (reduction_there b a (is_turned a b same) p r)),
    λ c. reduction_there a b same p ((h.finished p).1 (subst (λ (ds : List (Production × ℕ)). Contains ds (p, length p.symbols)) same.items c)),
  );
  once = no_repeat_there a b same h.once;
}

over_dots_there : (a b : Contents) → IsSamePlace a b → LeadsOverDots a → LeadsOverDots b
over_dots_there a b same h x = (
  λ e. behind_there a b same x ((h x).0 (e.0, sym (same.edges x) ∙ e.1)),
  λ d. let e = (h x).1 (behind_there b a (is_turned a b same) x d) in (e.0, same.edges x ∙ e.1),
)

module _ (g : List Production) (start : NonterminalString) (a b : ℕ → Contents) (same : AreSamePlaces a b) where
  right_there : (u : List Symbol) (n : ℕ) → HasRightItems g start u (a n) → HasRightItems g start u (b n)
  right_there u n h = record {
    items = λ p dot. (
      λ c. (h.items p dot).0 (subst (λ (ds : List (Production × ℕ)). Contains ds (p, dot)) (same n).items c),
      λ v. subst (λ (ds : List (Production × ℕ)). Contains ds (p, dot)) (sym (same n).items) ((h.items p dot).1 v),
    );
    edges = over_dots_there (a n) (b n) (same n) h.edges;
    reductions = reduces_there (a n) (b n) (same n) h.reductions;
  }

  pub lr0_there : AreLr0 g start a → AreLr0 g start b
  lr0_there lr0 = record {
    each = λ u live. let s = lr0.each u live in record { number = s.number; after = after_same a b same u ∙ s.after; right = right_there u s.number s.right };
    shared = λ u v n m live_u live_v items at_u at_v. lr0.shared u v n m live_u live_v items (sym (after_same a b same u) ∙ at_u) (sym (after_same a b same v) ∙ at_v);
    only = λ n m x e. let o = lr0.only n m x (sym ((same n).edges x) ∙ e) in (o.0, o.1, after_same a b same o.0 ∙ o.2);
  }

  is_copying : IsCopying (λ n. n) a b
  is_copying = record {
    first = refl;
    items = λ n p dot. (
      λ c. subst (λ (ds : List (Production × ℕ)). Contains ds (p, dot)) (same n).items c,
      λ c. subst (λ (ds : List (Production × ℕ)). Contains ds (p, dot)) (sym (same n).items) c,
    );
    edges = λ n m x e. sym ((same n).edges x) ∙ e;
    each = λ n k x e. (k, (same n).edges x ∙ e);
  }

  pub closed_there : AreClosed g start a → AreClosed g start b
  closed_there closed = copies_closed g start (λ n. n) a b is_copying closed

-- ---- the code's states
module _ {L : Type 0} (holds : L → Token → Bool) where
  pub produced_by : (rs : List (L × Bor Production)) → map produced (map (reduction_of holds) rs) ≡ map by rs
  produced_by [] = refl
  produced_by (r ∷ rs) = ap (λ (ps : List Production). by r ∷ ps) (produced_by rs)

module _ {K L : Type 0} (old_holds : K → Token → Bool) (new_holds : L → Token → Bool) where
  edges_of_same : (old : State K) (new : State L) → HasSamePlace old new → (x : Symbol) → leads (contents_of new_holds new) x ≡ leads (contents_of old_holds old) x
  edges_of_same old new p (Terminal t) = ap (λ (m : BTreeMap TerminalString StateIndex). option_map number_of (get terminal_ord.ghosts.cmp m t)) p.shifts
  edges_of_same old new p (Nonterminal name) = ap (λ (m : BTreeMap NonterminalString StateIndex). option_map number_of (get name_cmp m name)) p.gotos

  place_of_same : (old : State K) (new : State L) → HasSamePlace old new → IsSamePlace (contents_of old_holds old) (contents_of new_holds new)
  place_of_same old new p = record {
    items = p.dots;
    edges = edges_of_same old new p;
    reduced = produced_by new_holds new.reductions.items ∙ p.reduced ∙ sym (produced_by old_holds old.reductions.items);
  }

  module _ (old : List (State K)) (new : List (State L)) (same : HaveSamePlaces old new) where
    place_at : (n : ℕ) (o : Option (State K)) (p : Option (State L)) → slice_get old n ≡ o → slice_get new n ≡ p → IsSamePlace (contents_at old_holds o) (contents_at new_holds p)
    place_at n None None at_old at_new = record { items = refl; edges = none_same; reduced = refl }
      where
        none_same : (x : Symbol) → leads (contents_at new_holds None) x ≡ leads (contents_at old_holds None) x
        none_same (Terminal t) = refl
        none_same (Nonterminal name) = refl
    place_at n None (Some s) at_old at_new =
        let within = slice_get_within new n s at_new in
        let counted = same.counted in
        let f = filled old n (omega arith) in
        cc
    place_at n (Some s) None at_old at_new =
        let within = slice_get_within old n s at_old in
        let counted = same.counted in
        let f = filled new n (omega arith) in
        cc
    place_at n (Some s) (Some z) at_old at_new = place_of_same s z (same.each n s z at_old at_new)

    pub places_same : AreSamePlaces (contents_in old_holds old) (contents_in new_holds new)
    places_same n = place_at n (slice_get old n) (slice_get new n) refl refl

-- states have the same places as themselves
pub place_itself : {L : Type 0} (states : List (State L)) → HaveSamePlaces states states
place_itself {L} states = record { counted = refl; each = λ n before after at_old at_new. let e : after ≡ before = same_some after before (sym at_new ∙ at_old) in subst (λ (s : State L). HasSamePlace s after) e (record { index = refl; dots = refl; shifts = refl; gotos = refl; reduced = refl }) }
