-- A walk with its frames. It passes over what is not pending, enters a nonterminal, leaves it, and
-- is at its end if no frame is left.
use Rattle.std.proofs.Common.{◌≡◌, ◌↔◌, ℕ, ◌+◌, ◌<◌, ◌⊎◌, inl, inr, true, false, List, [], ◌∷◌, ◌++◌, take, length, get_or, Option, None, Some, refl, sym, ◌∙◌, ap, subst}
use Rattle.std.specs.Prelude.{Contains}
use Rattle.std.specs.BTreeMap.{is_at}
use Rattle.std.specs.BTreeSet.{contains}
use Rattle.std.proofs.lemmas.Bool.{cases_Bool}
use Rattle.std.proofs.lemmas.List.{take_more}
use Rattle.std.proofs.lemmas.List.Elements.{Contains-append_left, Contains-push, Contains-push_cases}
use Rattle.std.proofs.lemmas.Option.{none-some, same_Some}
use mathlib.Core.Bool.{true≢false}
use Rattle.lalrpop_base.specs.Words.{name_cmp, productions_of}
use Rattle.lalrpop_inline.proofs.Types.{Grammar, NonterminalString}
use Rattle.lalrpop_collections.proofs.theory.lists.Lists.{contains-cons, contains-nil, contains_head, contains_tail}
use Rattle.lalrpop_inline.specs.declared.inline.graph.depth_first.Frame.{Frame}
use Rattle.lalrpop_inline.specs.declared.inline.graph.depth_first.Walk.{Walk}
use Rattle.lalrpop_inline.specs.Words.{IsMarked, Mentions, Leads, one, more, IsInlineOrder, mentioned_in, IsWalk, IsFrame, AreFrames, names_on, HasFrames, HasNext, IsWalked, LeadTo}
use Rattle.lalrpop_inline.proofs.theory.inlining.InlineWalks.{mentioned_names, names_mentioned, Sets, set_at, set_off, still_there, entered, left}
use Rattle.lalrpop_grammar.proofs.theory.first.FirstNames.{name_same, name_self}

module _ (g : Grammar) where
  -- a frame stays one if more nonterminals were left
  grown_frame : (order later : List NonterminalString) (next : Option NonterminalString) (f : Frame) → IsFrame g order next f → IsFrame g (order ++ later) next f
  grown_frame order later next f is = record {
    marked = is.marked;
    others = is.others;
    on = is.on;
    left = λ c m marked. grown c (is.left c m marked);
  }
    where
      grown : (c : NonterminalString) → Contains f.others.items c ⊎ (next ≡ Some c) ⊎ Contains order c → Contains f.others.items c ⊎ (next ≡ Some c) ⊎ Contains (order ++ later) c
      grown c (inl k) = inl k
      grown c (inr (inl e)) = inr (inl e)
      grown c (inr (inr k)) = inr (inr (Contains-append_left order later c k))

  grown_frames : (order later : List NonterminalString) (next : Option NonterminalString) (fs : List Frame) → AreFrames g order next fs → AreFrames g (order ++ later) next fs
  grown_frames order later next [] h = tt
  grown_frames order later next (f ∷ older) h = (grown_frame order later next f h.0, h.1, grown_frames order later (Some f.name) older h.2)

  -- a frame whose next nonterminal was left has no next one yet
  listed_frame : (order : List NonterminalString) (name : NonterminalString) (f : Frame) → IsFrame g order (Some name) f → IsFrame g (order ++ name ∷ []) None f
  listed_frame order name f is = record {
    marked = is.marked;
    others = is.others;
    on = λ c e. absurd (none-some c e);
    left = λ c m marked. listed c (is.left c m marked);
  }
    where
      listed : (c : NonterminalString) → Contains f.others.items c ⊎ (Some name ≡ Some c) ⊎ Contains order c → Contains f.others.items c ⊎ (None ≡ Some c) ⊎ Contains (order ++ name ∷ []) c
      listed c (inl k) = inl k
      listed c (inr (inl e)) = inr (inr (subst (Contains (order ++ name ∷ [])) (same_Some name c e) (Contains-push order name)))
      listed c (inr (inr k)) = inr (inr (Contains-append_left order (name ∷ []) c k))

  listed_frames : (order : List NonterminalString) (name : NonterminalString) (fs : List Frame) → AreFrames g order (Some name) fs → AreFrames g (order ++ name ∷ []) None fs
  listed_frames order name [] h = tt
  listed_frames order name (f ∷ older) h = (listed_frame order name f h.0, h.1, grown_frames order (name ∷ []) (Some f.name) older h.2)

  -- the nonterminals of frames lead to the next one of the newest frame
  leads_on : (order : List NonterminalString) (fs : List Frame) (a c : NonterminalString) → AreFrames g order (Some c) fs → Contains (names_on fs) a → Leads g a c
  leads_on order [] a c h k = absurd (contains-nil k)
  leads_on order (f ∷ older) a c h k = elim (contains-cons f.name (names_on older) a k) [
    | inl e ↦ subst (λ (b : NonterminalString). Leads g b c) e (one h.0.marked (h.0.on c refl))
    | inr l ↦ more (leads_on order older a f.name h.2 l) h.0.marked (h.0.on c refl)
  ]

  -- they lead to each one that the newest frame mentions and that is still to be visited
  pub lead_to : (w : Walk) (f : Frame) (older : List Frame) → HasFrames g w None (f ∷ older) → (c : NonterminalString) → Contains f.others.items c → LeadTo g w c
  lead_to w f older has c k a h =
      let is : IsFrame g w.order.items None f = has.frames.0 in
      let mentioned : Mentions g f.name c = is.others c k in
      elim (contains-cons f.name (names_on older) a ((has.visiting a).0 h)) [
        | inl e ↦ subst (λ (b : NonterminalString). Leads g b c) e (one is.marked mentioned)
        | inr l ↦ more (leads_on w.order.items older a f.name has.frames.2 l) is.marked mentioned
      ]

  -- a marked nonterminal that is not pending, and that the walk is not in, was left
  pub marked_left : (w : Walk) (c : NonterminalString) → IsWalk g w → contains name_cmp w.pending c ≡ false → contains name_cmp w.visiting c ≡ false → IsMarked g c → Contains w.order.items c
  marked_left w c is pending visiting marked = go ((is.marked c).0 marked)
    where
      go : (contains name_cmp w.pending c ≡ true) ⊎ (contains name_cmp w.visiting c ≡ true) ⊎ Contains w.order.items c → Contains w.order.items c
      go (inl h) = absurd (true≢false (sym h ∙ pending))
      go (inr (inl h)) = absurd (true≢false (sym h ∙ visiting))
      go (inr (inr k)) = k

  -- if one is taken from those to be visited, the others are still mentioned
  still_mentioned : (order : List NonterminalString) (f new : Frame) (c : NonterminalString) → IsFrame g order None f → new.name ≡ f.name → f.others.items ≡ new.others.items ++ c ∷ [] → (d : NonterminalString) → Contains new.others.items d → Mentions g new.name d
  still_mentioned order f new c is same parted d k = subst (λ (b : NonterminalString). Mentions g b d) (sym same) (is.others d (subst (λ (l : List NonterminalString). Contains l d) (sym parted) (Contains-append_left new.others.items (c ∷ []) d k)))

  -- a nonterminal that is not pending, and that the walk is not in, was visited
  pub visited : (w : Walk) (f new : Frame) (c : NonterminalString) → IsWalk g w → IsFrame g w.order.items None f → new.name ≡ f.name → f.others.items ≡ new.others.items ++ c ∷ []
      → contains name_cmp w.pending c ≡ false → contains name_cmp w.visiting c ≡ false → IsFrame g w.order.items None new
  visited w f new c walk is same parted pending visiting = record {
    marked = subst (IsMarked g) (sym same) is.marked;
    others = still_mentioned w.order.items f new c is same parted;
    on = λ d e. absurd (none-some d e);
    left = λ d m marked. go d marked (is.left d (subst (λ (b : NonterminalString). Mentions g b d) same m) marked);
  }
    where
      go : (d : NonterminalString) → IsMarked g d → Contains f.others.items d ⊎ (None ≡ Some d) ⊎ Contains w.order.items d → Contains new.others.items d ⊎ (None ≡ Some d) ⊎ Contains w.order.items d
      go d marked (inl k) = elim (Contains-push_cases new.others.items c d (subst (λ (l : List NonterminalString). Contains l d) parted k)) [
        | inl l ↦ inl l
        | inr e ↦ inr (inr (subst (Contains w.order.items) e (marked_left w c walk pending visiting (subst (IsMarked g) (sym e) marked))))
      ]
      go d marked (inr r) = inr r

  -- a pending nonterminal is the next one
  pub found : (w : Walk) (f new : Frame) (c : NonterminalString) → IsFrame g w.order.items None f → new.name ≡ f.name → f.others.items ≡ new.others.items ++ c ∷ [] → contains name_cmp w.pending c ≡ true → HasNext g w new (Some c)
  found w f new c is same parted pending = record {
    frame = record {
      marked = subst (IsMarked g) (sym same) is.marked;
      others = still_mentioned w.order.items f new c is same parted;
      on = λ d e. subst (λ (b : NonterminalString). Mentions g b d) (sym same) (is.others d (subst (λ (l : List NonterminalString). Contains l d) (sym parted) (subst (Contains (new.others.items ++ c ∷ [])) (same_Some c d e) (Contains-push new.others.items c))));
      left = λ d m marked. go d (is.left d (subst (λ (b : NonterminalString). Mentions g b d) same m) marked);
    };
    pending = λ d e. subst (λ (b : NonterminalString). contains name_cmp w.pending b ≡ true) (same_Some c d e) pending;
    none = λ e. absurd (none-some c (sym e));
  }
    where
      go : (d : NonterminalString) → Contains f.others.items d ⊎ (None ≡ Some d) ⊎ Contains w.order.items d → Contains new.others.items d ⊎ (Some c ≡ Some d) ⊎ Contains w.order.items d
      go d (inl k) = elim (Contains-push_cases new.others.items c d (subst (λ (l : List NonterminalString). Contains l d) parted k)) [
        | inl l ↦ inl l
        | inr e ↦ inr (inl (ap Some e))
      ]
      go d (inr (inl e)) = absurd (none-some d e)
      go d (inr (inr k)) = inr (inr k)

  -- the newest frame goes on to its next nonterminal
  pub gone_on : (w : Walk) (f new : Frame) (older : List Frame) (next : Option NonterminalString) → HasFrames g w None (f ∷ older) → new.name ≡ f.name → IsFrame g w.order.items next new → HasFrames g w next (new ∷ older)
  gone_on w f new older next has same is = record {
    frames = (
      is,
      λ k. has.frames.1 (subst (Contains (names_on older)) same k),
      subst (λ (b : NonterminalString). AreFrames g w.order.items (Some b) older) (sym same) has.frames.2,
    );
    visiting = λ a. subst (λ (b : NonterminalString). (contains name_cmp w.visiting a ≡ true) ↔ Contains (b ∷ names_on older) a) (sym same) (has.visiting a);
  }

  -- the walk enters a pending nonterminal
  pub entered_walk : (w m : Walk) (f : Frame) (fs : List Frame) → IsWalk g w → contains name_cmp w.pending f.name ≡ true → HasFrames g w (Some f.name) fs → Sets f.name false w.pending m.pending → Sets f.name true w.visiting m.visiting → m.order.items ≡ w.order.items
      → f.others.items ≡ mentioned_in (productions_of g f.name) → IsWalked g w m (f ∷ fs)
  entered_walk w m f fs is was has out into same all = record {
    walk = entered g w m f.name is was out into same;
    frames = record {
      frames = (
        record {
          marked = (is.marked f.name).1 (inl was);
          others = λ c k. mentioned_names (productions_of g f.name) c (subst (λ (l : List NonterminalString). Contains l c) all k);
          on = λ c e. absurd (none-some c e);
          left = λ c m marked. inl (subst (λ (l : List NonterminalString). Contains l c) (sym all) (names_mentioned (productions_of g f.name) c m.0 m.1 m.2));
        },
        λ k. true≢false (sym ((has.visiting f.name).1 k) ∙ (is.pending f.name was).0),
        subst (λ (l : List NonterminalString). AreFrames g l (Some f.name) fs) (sym same) has.frames,
      );
      visiting = λ a. (
        λ h. elim (cases_Bool (is_at (name_cmp f.name) a)) [
          | inl t ↦ subst (Contains (f.name ∷ names_on fs)) (name_same f.name a t) (contains_head f.name (names_on fs))
          | inr t ↦ contains_tail f.name (names_on fs) a ((has.visiting a).0 (sym (set_off true f.name a w.visiting m.visiting into t) ∙ h))
        ],
        λ k. elim (cases_Bool (is_at (name_cmp f.name) a)) [
          | inl t ↦ set_at true f.name a w.visiting m.visiting into t
          | inr t ↦ set_off true f.name a w.visiting m.visiting into t ∙ elim (contains-cons f.name (names_on fs) a k) [
            | inl e ↦ absurd (true≢false (sym (name_self f.name) ∙ ap (is_at (name_cmp f.name)) e ∙ t))
            | inr l ↦ (has.visiting a).1 l
          ]
        ],
      );
    };
    pending = λ a h. (still_there f.name a w.pending m.pending out h).0;
  }

  -- the walk leaves the nonterminal of a frame with none to be visited
  pub left_walk : (m n : Walk) (f : Frame) (fs : List Frame) → IsWalk g m → HasFrames g m None (f ∷ fs) → f.others.items ≡ [] → ((a : NonterminalString) → contains name_cmp n.pending a ≡ contains name_cmp m.pending a)
      → Sets f.name false m.visiting n.visiting → n.order.items ≡ m.order.items ++ f.name ∷ [] → IsWalked g m n fs
  left_walk m n f fs is has none same out grown = record {
    walk = left g m n f.name is ((has.visiting f.name).1 (contains_head f.name (names_on fs))) (λ c mentioned marked. go c (frame.left c mentioned marked)) same out grown;
    frames = record {
      frames = subst (λ (l : List NonterminalString). AreFrames g l None fs) (sym grown) (listed_frames m.order.items f.name fs has.frames.2);
      visiting = λ a. (
        λ h.
            let (before, other) = still_there f.name a m.visiting n.visiting out h in
            elim (contains-cons f.name (names_on fs) a ((has.visiting a).0 before)) [
              | inl e ↦ absurd (true≢false (sym (name_self f.name) ∙ ap (is_at (name_cmp f.name)) e ∙ other))
              | inr l ↦ l
            ],
        λ k. elim (cases_Bool (is_at (name_cmp f.name) a)) [
          | inl t ↦ absurd (has.frames.1 (subst (Contains (names_on fs)) (sym (name_same f.name a t)) k))
          | inr t ↦ set_off false f.name a m.visiting n.visiting out t ∙ (has.visiting a).1 (contains_tail f.name (names_on fs) a k)
        ],
      );
    };
    pending = λ a h. sym (same a) ∙ h;
  }
    where
      frame : IsFrame g m.order.items None f
      frame = has.frames.0

      go : (c : NonterminalString) → Contains f.others.items c ⊎ (None ≡ Some c) ⊎ Contains m.order.items c → Contains m.order.items c
      go c (inl k) = absurd (contains-nil (subst (λ (l : List NonterminalString). Contains l c) none k))
      go c (inr (inl e)) = absurd (none-some c e)
      go c (inr (inr k)) = k

  -- a nonterminal that is not pending does not become so
  pub still_taken : (old new : Walk) (fs : List Frame) (a : NonterminalString) → IsWalked g old new fs → contains name_cmp old.pending a ≡ false → contains name_cmp new.pending a ≡ false
  still_taken old new fs a step h = elim (cases_Bool (contains name_cmp new.pending a)) [
    | inl t ↦ absurd (true≢false (sym (step.pending a t) ∙ h))
    | inr t ↦ t
  ]

  -- the walk is in no nonterminal, and the names are not pending
  pub record HasLeft (w : Walk) (names : List NonterminalString) : Type 0 where
    pub walk : IsWalk g w
    pub outside : HasFrames g w None []
    pub taken : (a : NonterminalString) → Contains names a → contains name_cmp w.pending a ≡ false

  pub none_left : (w : Walk) → IsWalk g w → ((a : NonterminalString) → contains name_cmp w.visiting a ≡ false) → HasLeft w []
  none_left w is visiting = record {
    walk = is;
    outside = record { frames = tt; visiting = λ a. (λ h. absurd (true≢false (sym h ∙ visiting a)), λ k. absurd (contains-nil k)) };
    taken = λ a k. absurd (contains-nil k);
  }

  pub one_left : (w new : Walk) (all : List NonterminalString) (i : ℕ) (name : NonterminalString) → i < length all → name ≡ get_or all i name → HasLeft w (take i all) → IsWalked g w new [] → contains name_cmp new.pending name ≡ false → HasLeft new (take (i + 1) all)
  one_left w new all i name less is before step taken = record {
    walk = step.walk;
    outside = step.frames;
    taken = λ a k. elim (Contains-push_cases (take i all) name a (subst (λ (l : List NonterminalString). Contains l a) (take_more all i name less ∙ ap (λ (x : NonterminalString). take i all ++ x ∷ []) (sym is)) k)) [
      | inl d ↦ still_taken w new [] a step (before.taken a d)
      | inr e ↦ subst (λ (b : NonterminalString). contains name_cmp new.pending b ≡ false) e taken
    ];
  }

  -- all marked nonterminals were left
  pub all_left : (w : Walk) (names : List NonterminalString) → ((a : NonterminalString) → Contains names a ↔ IsMarked g a) → HasLeft w names → IsInlineOrder g w.order.items
  all_left w names marked is = record {
    marked = λ a. (λ k. (is.walk.marked a).1 (inr (inr k)), λ h. marked_left w a is.walk (is.taken a ((marked a).1 h)) (outside a) h);
    once = is.walk.once;
    behind = is.walk.behind;
  }
    where
      outside : (a : NonterminalString) → contains name_cmp w.visiting a ≡ false
      outside a = elim (cases_Bool (contains name_cmp w.visiting a)) [
        | inl t ↦ absurd (contains-nil ((is.outside.visiting a).0 t))
        | inr t ↦ t
      ]
