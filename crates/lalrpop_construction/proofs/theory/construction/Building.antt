-- The loop that makes the states.
use Rattle.std.proofs.Common.{◌≡◌, ℕ, ◌+◌, ◌<◌, inl, inr, List, [], ◌∷◌, ◌++◌, length, sym, ◌∙◌, ap, subst, arith, ⊎_elim, length-append}
use Rattle.std.specs.Prelude.{Contains, slice_get, Some}
use Rattle.std.proofs.lemmas.List.Elements.{Contains-append_cases}
use Rattle.std.proofs.lemmas.Bool.{cases_lt}
use Rattle.std.proofs.lemmas.Option.{slice_get_within}
use Rattle.lalrpop_base.specs.Words.{Bits, Dotted, AllDiffer, Rules, Kernels, AreItemsBy, IsBuiltBy, IsBuiltOfBy, Extends, LeadsToAdded, IsLedTo, AreBuiltBy}
use Rattle.lalrpop_construction.specs.Words.{Building}
use Rattle.lalrpop_construction.proofs.Types.{State}
use Rattle.lalrpop_collections.proofs.theory.lists.Members.{Contains-none, contains-cons}
use Rattle.lalrpop_collections.proofs.theory.lists.Places.{slice_get-longer, slice_get-push_at, push_cases}

module _ {L : Type 0} where
  led_longer : (states : List (State L)) (state : State L) (n : ℕ) → IsLedTo states n → IsLedTo (states ++ state ∷ []) n
  led_longer states state n l = record {
    place = l.place;
    earlier = l.earlier;
    state = l.state;
    there = slice_get-longer states (state ∷ []) l.place l.state l.there;
    symbol = l.symbol;
    target = l.target;
    transition = l.transition;
    leads = l.leads;
  }

  module _ (meaning : L → Bits) (C : List (Dotted L) → List (Dotted L) → Type 0) (g : Rules) (first : List (Dotted L)) where
    pub Building-init : (kernels : Kernels (List (Dotted L))) (states : List (State L)) → kernels.list ≡ first ∷ [] → kernels.handed ≡ 0 → states ≡ [] → AreItemsBy meaning g first → AllDiffer kernels.list → Building meaning C g first kernels states
    Building-init kernels states l h s of differ =
        let none : length states ≡ 0 = ap length s in
        let one : length kernels.list ≡ 1 = ap length l in
        record {
          handed = h ∙ sym none;
          fewer = omega arith;
          differ = differ;
          of = λ k c. elim (contains-cons first [] k (subst (λ (ks : List (List (Dotted L))). Contains ks k) l c)) [ inl e ↦ subst (AreItemsBy meaning g) e of | inr n ↦ absurd (Contains-none k n) ];
          start = ap (λ (ks : List (List (Dotted L))). slice_get ks 0) l;
          each = λ n state at. let w : n < length states = slice_get_within states n state at in absurd (omega arith);
          led = λ n more within. absurd (omega arith);
        }

    built_longer : (old more new : List (List (Dotted L))) (n : ℕ) (state : State L) → new ≡ old ++ more → IsBuiltOfBy C old n state → IsBuiltOfBy C new n state
    built_longer old more new n state e b = record {
      kernel = b.kernel;
      numbered = longer b.kernel n b.numbered;
      built = record {
        index = b.built.index;
        closure = b.built.closure;
        leads = λ x t h. let l = b.built.leads x t h in record { kernel = l.kernel; behind = l.behind; shifts = l.shifts; numbered = longer l.kernel t.0 l.numbered };
        all = b.built.all;
        ascend = b.built.ascend;
        finished = b.built.finished;
      };
    }
      where
        longer : (k : List (Dotted L)) (n : ℕ) → slice_get old n ≡ Some k → slice_get new n ≡ Some k
        longer k n h = subst (λ (ks : List (List (Dotted L))). slice_get ks n ≡ Some k) (sym e) (slice_get-longer old more n k h)

    pub Building-step : (old middle new : Kernels (List (Dotted L))) (states : List (State L)) (kernel : List (Dotted L)) (state : State L) → Building meaning C g first old states → slice_get old.list old.handed ≡ Some kernel → middle.list ≡ old.list → middle.handed ≡ old.handed + 1 →
        Extends meaning g middle new → IsBuiltBy C new.list kernel (length states) state → LeadsToAdded middle new state → Building meaning C g first new (states ++ state ∷ [])
    Building-step old middle new states kernel state b at same handed x built led =
        let grown : new.list ≡ old.list ++ x.added = x.stay ∙ ap (λ ks. ks ++ x.added) same in
        let number = b.handed in
        let l = slice_get_within old.list old.handed kernel at in
        let numbered : slice_get new.list (length states) ≡ Some kernel = subst (λ (ks : List (List (Dotted L))). slice_get ks (length states) ≡ Some kernel) (sym grown) (slice_get-longer old.list x.added (length states) kernel (ap (slice_get old.list) (sym number) ∙ at)) in
        let more : length (states ++ state ∷ []) ≡ length states + 1 = length-append states (state ∷ []) in
        let longer : length new.list ≡ length old.list + length x.added = ap length grown ∙ length-append old.list x.added in
        let counted = x.handed in
        record {
          handed = omega arith;
          fewer = omega arith;
          differ = x.differ (subst AllDiffer (sym same) b.differ);
          of = λ k c. elim (Contains-append_cases old.list x.added k (subst (λ (ks : List (List (Dotted L))). Contains ks k) grown c)) [ inl d ↦ b.of k d | inr d ↦ x.of k d ];
          start = subst (λ (ks : List (List (Dotted L))). slice_get ks 0 ≡ Some first) (sym grown) (slice_get-longer old.list x.added 0 first b.start);
          each = λ n s at. ⊎_elim
              (λ had. built_longer old.list x.added new.list n s grown (b.each n s had))
              (λ is. subst (λ (m : ℕ). IsBuiltOfBy C new.list m s) (sym is.0) (subst (IsBuiltOfBy C new.list (length states)) is.1 (record { kernel = kernel; numbered = numbered; built = built })))
              (push_cases states state n s at);
          led = λ n more within. ⊎_elim
              (λ had. led_longer states state n (b.led n more had))
              (λ past.
              let before : length middle.list ≡ length old.list = ap length same in
              let to = led (subst AllDiffer (sym same) b.differ) n (omega arith) within in
              record {
                place = length states;
                earlier = omega arith;
                state = state;
                there = slice_get-push_at states state;
                symbol = to.0;
                target = to.1;
                transition = to.2;
                leads = to.3;
              })
              (cases_lt n (length old.list));
        }

    pub Building-all : (kernels : Kernels (List (Dotted L))) (states : List (State L)) → Building meaning C g first kernels states → kernels.handed ≡ length kernels.list → AreBuiltBy C first states
    Building-all kernels states b all = record {
      kernels = kernels.list;
      counted = sym all ∙ b.handed;
      differ = b.differ;
      start = b.start;
      each = b.each;
      led = λ n more within. let handed = b.handed in b.led n more (omega arith);
    }
