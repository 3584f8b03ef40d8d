-- If a walk comes back to a nonterminal after a step, it does so before the step.
use Rattle.std.proofs.Common.{ℕ, ◌≡◌, inl, inr, Bool, true, false, List, [], ◌∷◌, ◌++◌, reverse, sym, ◌∙◌, ap, subst, refl}
use Rattle.std.specs.Prelude.{Contains}
use Rattle.std.specs.BTreeSet.{contains}
use Rattle.std.proofs.lemmas.List.{reverse-append}
use mathlib.Core.Bool.{true≢false}
use Rattle.lalrpop_base.specs.Words.{name_cmp, inline_mark}
use Rattle.lalrpop_collections.proofs.theory.lists.Lists.{contains-nil}
use Rattle.lalrpop_grammar.specs.declared.repr.norm_error.NormError.{NormError}
use Rattle.lalrpop_grammar.specs.declared.repr.norm_error.NormError.TheVariants.{Cycle, TooManyActions, Memory}
use Rattle.lalrpop_inline.proofs.Types.{Grammar, NonterminalData, NonterminalString}
use Rattle.lalrpop_inline.specs.declared.inline.graph.depth_first.Frame.{Frame}
use Rattle.lalrpop_inline.specs.declared.inline.graph.depth_first.Walk.{Walk}
use Rattle.lalrpop_inline.specs.Words.{IsPastLast, IsWalk, names_on, AreMarkedAmong, ComesBack, ComesBackFrom, GoesPast, IsEntered, IsInside, IsNewest, IsPassed, ComesBackToAllOf, Leaves, NamesBy, through, here, inside, later, mentions_back, no_more, past_over, passing}
use Rattle.lalrpop_inline.proofs.theory.inlining.InlineFrames.{marked_left}

-- the last one of a list is the first one of the reversed list
pub turned : (others more : List NonterminalString) (c : NonterminalString) → others ≡ more ++ c ∷ [] → reverse others ≡ c ∷ reverse more
turned others more c parted = ap (λ (l : List NonterminalString). reverse l) parted ∙ reverse-append more (c ∷ [])

-- if one property implies the other, it does so of the name in an error
pub named_by : (P Q : NonterminalString → Type 0) (e : NormError) → ((a : NonterminalString) → P a → Q a) → NamesBy P e → NamesBy Q e
named_by P Q (Cycle span name) h k = h name k
named_by P Q TooManyActions h k = tt
named_by P Q Memory h k = tt

-- the error for too many actions has no name
pub past_named : (P : NonterminalString → Type 0) (actions : ℕ) (e : NormError) → IsPastLast actions e → NamesBy P e
past_named P actions (Cycle span name) h = absurd h
past_named P actions TooManyActions h = tt
past_named P actions Memory h = tt

module _ (g : Grammar) where
  -- the walk passes over a nonterminal that is not pending and that it is not in
  pub passed : (w : Walk) (path : List NonterminalString) (c : NonterminalString) → IsWalk g w → IsInside w path → contains name_cmp w.pending c ≡ false → contains name_cmp w.visiting c ≡ false → IsPassed g path w.order.items c
  passed w path c is within pending visiting = record {
    outside = λ k. true≢false (sym ((within c).1 k) ∙ visiting);
    done = λ marked. marked_left g w c is pending visiting marked;
  }

  -- the walk enters a pending nonterminal
  pub new : (w : Walk) (path : List NonterminalString) (c : NonterminalString) → IsWalk g w → IsInside w path → contains name_cmp w.pending c ≡ true → IsEntered g path w.order.items c
  new w path c is within pending = record {
    marked = (is.marked c).1 (inl pending);
    outside = λ k. true≢false (sym ((within c).1 k) ∙ (is.pending c pending).0);
    new = (is.pending c pending).1;
  }

  -- a walk that is in no nonterminal passes over one that is not pending
  pub passes_first : (w : Walk) (a : NonterminalString) (rest : List NonterminalString) (b : NonterminalString) → IsWalk g w → IsInside w [] → contains name_cmp w.pending a ≡ false → ComesBack g [] rest w.order.items b → ComesBack g [] (a ∷ rest) w.order.items b
  passes_first w a rest b is within pending h = passing (passed w [] a is within pending (outside (contains name_cmp w.visiting a) refl)) h
    where
      outside : (v : Bool) → contains name_cmp w.visiting a ≡ v → contains name_cmp w.visiting a ≡ false
      outside false e = e
      outside true e = absurd (contains-nil ((within a).0 e))

  pub past_none : (path left from : List NonterminalString) → GoesPast g path left from from
  past_none path left from = record { back = λ b h. h; leaves = λ after h. h }

  -- one nonterminal more is passed
  pub past_one : (path left from others more : List NonterminalString) (c : NonterminalString) → others ≡ more ++ c ∷ [] → IsPassed g path left c → GoesPast g path left from (reverse others) → GoesPast g path left from (reverse more)
  past_one path left from others more c parted is so_far = record {
    back = λ b h. so_far.back b (subst (λ (l : List NonterminalString). ComesBack g path l left b) (sym (turned others more c parted)) (passing is h));
    leaves = λ after h. so_far.leaves after (subst (λ (l : List NonterminalString). Leaves g path l left after) (sym (turned others more c parted)) (past_over is h));
  }

  -- one nonterminal more is the next
  pub past_next : (path left from others more : List NonterminalString) (c : NonterminalString) → others ≡ more ++ c ∷ [] → GoesPast g path left from (reverse others) → GoesPast g path left from (c ∷ reverse more)
  past_next path left from others more c parted so_far = subst (GoesPast g path left from) (turned others more c parted) so_far

  -- the walk comes back to a nonterminal that it is in
  pub back_to : (w : Walk) (path left from others more : List NonterminalString) (c copy : NonterminalString) → IsInside w path → others ≡ more ++ c ∷ [] → copy ≡ c → contains name_cmp w.visiting c ≡ true → GoesPast g path left from (reverse others) → ComesBack g path from left copy
  back_to w path left from others more c copy within parted same visiting so_far =
      subst (ComesBack g path from left) (sym same) (so_far.back c (subst (λ (l : List NonterminalString). ComesBack g path l left c) (sym (turned others more c parted)) (here ((within c).0 visiting))))

  -- a frame enters the next nonterminal
  pub back_into : (f on : Frame) (older gs : List Frame) (a : NonterminalString) (left : List NonterminalString) → on.name ≡ f.name → IsNewest g a (on ∷ older) gs → IsEntered g (f.name ∷ names_on older) left a
      → GoesPast g (f.name ∷ names_on older) left (reverse f.others.items) (a ∷ reverse on.others.items) → ComesBackToAllOf g (f ∷ older) left gs left
  back_into f on older gs a left same (x, pushed, named, all) is past rest b h = go (subst (λ (l : List Frame). ComesBackFrom g rest l left b) pushed h)
    where
      path : List NonterminalString
      path = f.name ∷ names_on older

      into : List NonterminalString → List NonterminalString → Type 0
      into p ms = ComesBack g p ms left b

      turned_all : reverse x.others.items ≡ mentions_back g a
      turned_all = ap (λ (l : List NonterminalString). reverse l) all

      same_path : (x.name ∷ on.name ∷ names_on older) ≡ (a ∷ path)
      same_path = ap (λ (y : NonterminalString). y ∷ on.name ∷ names_on older) named ∙ ap (λ (y : NonterminalString). a ∷ y ∷ names_on older) same

      come : ComesBack g (x.name ∷ on.name ∷ names_on older) (reverse x.others.items) left b → ComesBack g (a ∷ path) (mentions_back g a) left b
      come k = subst (λ (p : List NonterminalString). ComesBack g p (mentions_back g a) left b) same_path (subst (λ (ms : List NonterminalString). ComesBack g (x.name ∷ on.name ∷ names_on older) ms left b) turned_all k)

      leave : (after : List NonterminalString) → Leaves g (x.name ∷ on.name ∷ names_on older) (reverse x.others.items) left after → Leaves g (a ∷ path) (mentions_back g a) left after
      leave after k = subst (λ (p : List NonterminalString). Leaves g p (mentions_back g a) left after) same_path (subst (λ (ms : List NonterminalString). Leaves g (x.name ∷ on.name ∷ names_on older) ms left after) turned_all k)

      same_on : (on.name ∷ names_on older) ≡ path
      same_on = ap (λ (y : NonterminalString). y ∷ names_on older) same

      beyond : (within : List NonterminalString) → Leaves g (a ∷ path) (mentions_back g a) left within → ComesBackFrom g rest (on ∷ older) (within ++ x.name ∷ []) b → ComesBackFrom g rest (f ∷ older) left b
      beyond within lv (inl k) =
          inl (past.back b (later is lv (subst (λ (y : NonterminalString). ComesBack g path (reverse on.others.items) (within ++ y ∷ []) b) named (subst (λ (p : List NonterminalString). ComesBack g p (reverse on.others.items) (within ++ x.name ∷ []) b) same_on k))))
      beyond within lv (inr (after, m, k)) =
          inr (
            after,
            past.leaves after (through is lv (subst (λ (y : NonterminalString). Leaves g path (reverse on.others.items) (within ++ y ∷ []) after) named (subst (λ (p : List NonterminalString). Leaves g p (reverse on.others.items) (within ++ x.name ∷ []) after) same_on m))),
            subst (λ (y : NonterminalString). ComesBackFrom g rest older (after ++ y ∷ []) b) same k,
          )

      go : ComesBackFrom g rest (x ∷ on ∷ older) left b → ComesBackFrom g rest (f ∷ older) left b
      go (inl k) = inl (past.back b (inside is (come k)))
      go (inr (within, m, k)) = beyond within (leave within m) k

  -- the first frame enters a nonterminal
  pub back_first : (gs : List Frame) (a : NonterminalString) (rest left : List NonterminalString) (b : NonterminalString) → IsNewest g a [] gs → IsEntered g [] left a → ComesBackFrom g rest gs left b → ComesBack g [] (a ∷ rest) left b
  back_first gs a rest left b (x, pushed, named, all) is h = go (subst (λ (l : List Frame). ComesBackFrom g rest l left b) pushed h)
    where
      turned_all : reverse x.others.items ≡ mentions_back g a
      turned_all = ap (λ (l : List NonterminalString). reverse l) all

      same_path : (x.name ∷ []) ≡ (a ∷ [])
      same_path = ap (λ (y : NonterminalString). y ∷ []) named

      go : ComesBackFrom g rest (x ∷ []) left b → ComesBack g [] (a ∷ rest) left b
      go (inl k) = inside is (subst (λ (p : List NonterminalString). ComesBack g p (mentions_back g a) left b) same_path (subst (λ (ms : List NonterminalString). ComesBack g (x.name ∷ []) ms left b) turned_all k))
      go (inr (within, m, k)) =
          later is (subst (λ (p : List NonterminalString). Leaves g p (mentions_back g a) left within) same_path (subst (λ (ms : List NonterminalString). Leaves g (x.name ∷ []) ms left within) turned_all m))
          (subst (λ (y : NonterminalString). ComesBack g [] rest (within ++ y ∷ []) b) named k)

  -- a frame with none to be visited is left
  pub back_out : (f on : Frame) (older : List Frame) (left after : List NonterminalString) → on.name ≡ f.name → on.others.items ≡ [] → after ≡ left ++ on.name ∷ [] → GoesPast g (f.name ∷ names_on older) left (reverse f.others.items) (reverse on.others.items)
      → ComesBackToAllOf g (f ∷ older) left older after
  back_out f on older left after same none grown past rest b h =
      inr (
        left,
        past.leaves left (subst (λ (l : List NonterminalString). Leaves g (f.name ∷ names_on older) (reverse l) left left) (sym none) no_more),
        subst (λ (l : List NonterminalString). ComesBackFrom g rest older l b) (grown ∙ ap (λ (y : NonterminalString). left ++ y ∷ []) same) h,
      )

-- a marked entry more
pub among_more : (es : List (NonterminalString × NonterminalData)) (names grown : List NonterminalString) (a copy : NonterminalString) (d : NonterminalData) → AreMarkedAmong es names → Contains d.attributes.items inline_mark → copy ≡ a → grown ≡ names ++ copy ∷ [] → AreMarkedAmong (es ++ (a, d) ∷ []) grown
among_more [] names grown a copy d e marked same g = inl (marked, [], g ∙ ap (λ (l : List NonterminalString). l ++ copy ∷ []) e ∙ ap (λ (y : NonterminalString). y ∷ []) same, refl)
among_more (e ∷ es) names grown a copy d (inl (m, more, start, rest)) marked same g =
    inl (m, more ++ copy ∷ [], g ∙ ap (λ (l : List NonterminalString). l ++ copy ∷ []) start, among_more es more (more ++ copy ∷ []) a copy d rest marked same refl)
among_more (e ∷ es) names grown a copy d (inr (n, rest)) marked same g = inr (n, among_more es names grown a copy d rest marked same g)

-- an entry more that is not marked
pub among_same : (es : List (NonterminalString × NonterminalData)) (names : List NonterminalString) (a : NonterminalString) (d : NonterminalData) → AreMarkedAmong es names → (Contains d.attributes.items inline_mark → ⊥) → AreMarkedAmong (es ++ (a, d) ∷ []) names
among_same [] names a d e unmarked = inr (unmarked, e)
among_same (e ∷ es) names a d (inl (m, more, start, rest)) unmarked = inl (m, more, start, among_same es more a d rest unmarked)
among_same (e ∷ es) names a d (inr (n, rest)) unmarked = inr (n, among_same es names a d rest unmarked)
