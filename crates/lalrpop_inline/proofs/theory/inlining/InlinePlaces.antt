-- Entries replaced at rising places, one after another. If the places are all that mention the
-- nonterminal, this is the same as replacing every entry.
use Rattle.std.proofs.Common.{◌≡◌, inl, inr, Bool, true, false, cond, List, [], ◌∷◌, map, length, None, Some, refl, sym, ◌∙◌, ap, ap₂, subst, arith}
use Rattle.std.specs.Prelude.{Contains}
use Rattle.std.specs.declared.cmp.Ordering.{Ordering}
use Rattle.std.specs.declared.cmp.Ordering.TheVariants.{Less, Equal, Greater}
use Rattle.std.specs.Ordering.{is_eq, ordering_reverse}
use Rattle.std.specs.List.{AllByRecursion}
use Rattle.std.specs.List.Sorted.{IsStrictlySortedBy}
use Rattle.std.specs.BTreeMap.{is_at}
use Rattle.std.specs.Map.{keys_of, lookup, set_value}
use Rattle.std.proofs.lemmas.Bool.{cases_Bool}
use Rattle.std.proofs.lemmas.Map.Keys.{sorted_head, sorted_tail}
use mathlib.Core.Bool.{true≢false}
use Rattle.lalrpop_base.specs.Words.{name_cmp}
use Rattle.lalrpop_grammar.specs.contracts.repr.NonterminalStringOrd.TheImpl.Laws as name_order
use Rattle.lalrpop_inline.proofs.Types.{NonterminalData, NonterminalString, Production}
use Rattle.lalrpop_grammar.specs.declared.repr.Span.{Span}
use Rattle.lalrpop_grammar.specs.declared.repr.grammar.Attribute.{Attribute}
use Rattle.lalrpop_grammar.specs.declared.repr.grammar.ActionFnDefn.{ActionFnDefn}
use Rattle.lalrpop_grammar.specs.declared.repr.norm_error.NormError.{NormError}
use Rattle.lalrpop_collections.proofs.theory.lists.Lists.{contains-cons, contains-nil, contains_head, contains_tail}
use Rattle.lalrpop_inline.specs.Words.{choices, mentions, Made, made_of, in_front, replaced, replaced_all, Entry, View, named_entry, entry_with, replaced_entries}
use Rattle.lalrpop_inline.specs.Words.{IsEntryReplaced, IsPastLast, first_replaced, replaced_at, replaced_places}
use Rattle.lalrpop_inline.specs.inlining.InlineSteps.{chosen, entry_in_front, view_with}
use Rattle.lalrpop_inline.proofs.theory.inlining.InlineSteps.{IsMore, more_none, more_twice, more_longer, past_more, replaced_all_more}
use Rattle.lalrpop_grammar.proofs.theory.first.FirstNames.{name_same, name_self}

abbrev view_made : List (NonterminalString × Entry) → List ActionFnDefn → View
view_made es defns = record { entries = es; defns = defns }

abbrev entry_of : List Production → List Attribute → Span → Entry
entry_of ps marks s = record { productions = ps; attributes = marks; span = s }

-- what holds of all keys holds of the key of each entry
of_each : {K X : Type 0} (P : K → Type 0) (es : List (K × X)) (e : K × X) → AllByRecursion P (keys_of es) → Contains es e → P e.0
of_each P [] e all c = absurd (contains-nil c)
of_each {K} {X} P (x ∷ es) e all c = elim (contains-cons x es e c) [
  | inl s ↦ let Q : K × X → Type 0 = λ y. P y.0 in subst Q s all.0
  | inr k ↦ of_each P es e all.1 k
]

of_one : {K : Type 0} (P : K → Type 0) (ks : List K) (k : K) → AllByRecursion P ks → Contains ks k → P k
of_one P [] k all c = absurd (contains-nil c)
of_one P (x ∷ ks) k all c = elim (contains-cons x ks k c) [
  | inl s ↦ subst P s all.0
  | inr h ↦ of_one P ks k all.1 h
]

all_of : {K : Type 0} (P Q : K → Type 0) (ks : List K) → ((k : K) → P k → Q k) → AllByRecursion P ks → AllByRecursion Q ks
all_of P Q [] f all = tt
all_of P Q (k ∷ ks) f all = (f k all.0, all_of P Q ks f all.1)

-- the cases of an order
by_order : {A : Type 0} (o : Ordering) → (o ≡ Less → A) → (o ≡ Equal → A) → (o ≡ Greater → A) → A
by_order Less l e g = l refl
by_order Equal l e g = e refl
by_order Greater l e g = g refl

-- a name is not below itself
not_below : (a : NonterminalString) → name_cmp a a ≡ Less → ⊥
not_below a h = true≢false (sym (name_self a) ∙ ap is_eq h)

-- a name above another one is not at it
past_name : (k a : NonterminalString) → name_cmp k a ≡ Less → is_at (name_cmp a) k ≡ false
past_name k a h = ap is_eq (name_order.total-law.antisymm a k ∙ ap ordering_reverse h)

-- each entry that mentions the nonterminal is at one of the places
abbrev pub AreCovered : NonterminalString → List (NonterminalString × Entry) → List NonterminalString → Type 0
AreCovered b es places = (e : NonterminalString × Entry) (p : Production) → Contains es e → Contains e.1.productions p → mentions b p.symbols ≡ true → Contains places e.0

-- the empty list of names is sorted
pub none_sorted : IsStrictlySortedBy name_cmp []
unfolding IsStrictlySortedBy
none_sorted = tt

module _ (b : NonterminalString) (alternatives : List Production) where
  -- productions that do not mention the nonterminal stay
  replaced_none : (ps : List Production) (defns : List ActionFnDefn) → ((p : Production) → Contains ps p → mentions b p.symbols ≡ false) → replaced_all b alternatives ps defns ≡ made_of ps defns
  replaced_none [] defns none = refl
  replaced_none (p ∷ ps) defns none =
      let one : replaced b alternatives p defns ≡ made_of (p ∷ []) defns = ap (λ (m : Bool). cond m (chosen p (choices b alternatives p.symbols) defns) (made_of (p ∷ []) defns)) (none p (contains_head p ps)) in
      ap (λ (m : Made). in_front m.productions (replaced_all b alternatives ps m.defns)) one
      ∙ ap (λ (m : Made). in_front (p ∷ []) m) (replaced_none ps defns (λ q c. none q (contains_tail p ps q c)))

  -- the definitions only grow
  pub replaced_at_more : (a : NonterminalString) (es : List (NonterminalString × Entry)) (defns : List ActionFnDefn) → IsMore defns (replaced_at b alternatives a es defns).defns
  replaced_at_more a [] defns = more_none defns
  replaced_at_more a (e ∷ es) defns = by (is_at (name_cmp a) e.0) (replaced_at_more a es defns)
    where
      by : (at : Bool) → IsMore defns (replaced_at b alternatives a es defns).defns
          → IsMore defns
          (cond at
          (first_replaced b alternatives e es defns)
          (entry_in_front e (replaced_at b alternatives a es defns))).defns
      by true rest = replaced_all_more b alternatives e.1.productions defns
      by false rest = rest

  pub replaced_places_more : (places : List NonterminalString) (v : View) → IsMore v.defns (replaced_places b alternatives places v).defns
  replaced_places_more [] v = more_none v.defns
  replaced_places_more (a ∷ places) v =
      let next : View = replaced_at b alternatives a v.entries v.defns in
      more_twice v.defns next.defns (replaced_places b alternatives places next).defns (replaced_at_more a v.entries v.defns) (replaced_places_more places next)

  -- the entry at a place was replaced
  pub place_replaced : (a : NonterminalString) (es : List (NonterminalString × NonterminalData)) (old new : NonterminalData) (defns more : List ActionFnDefn) → lookup (is_at (name_cmp a)) es ≡ Some old → IsEntryReplaced b alternatives old defns new more →
      view_with (set_value (is_at (name_cmp a)) es new) more ≡ replaced_at b alternatives a (map named_entry es) defns
  place_replaced a [] old new defns more found step = cc
  place_replaced a (e ∷ es) old new defns more found step =
      by (is_at (name_cmp a) e.0) found (place_replaced a es old new defns more)
    where
      by : (at : Bool) → cond at (Some e.1) (lookup (is_at (name_cmp a)) es) ≡ Some old
          → (lookup (is_at (name_cmp a)) es ≡ Some old → IsEntryReplaced b alternatives old defns new more → view_with (set_value (is_at (name_cmp a)) es new) more ≡ replaced_at b alternatives a (map named_entry es) defns)
          → view_with (cond at ((e.0, new) ∷ es) (e ∷ set_value (is_at (name_cmp a)) es new)) more
          ≡ cond at
          (first_replaced b alternatives (named_entry e) (map named_entry es) defns)
          (entry_in_front (named_entry e) (replaced_at b alternatives a (map named_entry es) defns))
      by true is rest =
          let same : old ≡ e.1 = cc in
          let r : Made = replaced_all b alternatives old.productions.items defns in
          ap (λ (m : Made). view_made ((e.0, entry_of m.productions new.attributes.items new.span) ∷ map named_entry es) m.defns) step.productions
          ∙ ap₂ (λ (marks : List Attribute) (s : Span). view_made ((e.0, entry_of r.productions marks s) ∷ map named_entry es) r.defns) step.attributes step.span
          ∙ ap (λ (d : NonterminalData). view_made ((e.0, entry_of (replaced_all b alternatives d.productions.items defns).productions d.attributes.items d.span) ∷ map named_entry es) (replaced_all b alternatives d.productions.items defns).defns) same
      by false is rest = ap (entry_in_front (named_entry e)) (rest is step)

  -- the definitions are those that the entry at a place makes
  pub place_definitions : (a : NonterminalString) (es : List (NonterminalString × NonterminalData)) (old : NonterminalData) (defns : List ActionFnDefn) → lookup (is_at (name_cmp a)) es ≡ Some old → (replaced_all b alternatives old.productions.items defns).defns ≡ (replaced_at b alternatives a (map named_entry es) defns).defns
  place_definitions a [] old defns found = cc
  place_definitions a (e ∷ es) old defns found = by (is_at (name_cmp a) e.0) found (place_definitions a es old defns)
    where
      by : (at : Bool) → cond at (Some e.1) (lookup (is_at (name_cmp a)) es) ≡ Some old
          → (lookup (is_at (name_cmp a)) es ≡ Some old → (replaced_all b alternatives old.productions.items defns).defns ≡ (replaced_at b alternatives a (map named_entry es) defns).defns)
          → (replaced_all b alternatives old.productions.items defns).defns
          ≡ (cond at
          (first_replaced b alternatives (named_entry e) (map named_entry es) defns)
          (entry_in_front (named_entry e) (replaced_at b alternatives a (map named_entry es) defns))).defns
      by true is rest = let same : old ≡ e.1 = cc in ap (λ (d : NonterminalData). (replaced_all b alternatives d.productions.items defns).defns) same
      by false is rest = rest is

  -- nothing is replaced at a place without an entry
  pub place_empty : (a : NonterminalString) (es : List (NonterminalString × NonterminalData)) (defns : List ActionFnDefn) → lookup (is_at (name_cmp a)) es ≡ None → view_with es defns ≡ replaced_at b alternatives a (map named_entry es) defns
  place_empty a [] defns missing = refl
  place_empty a (e ∷ es) defns missing = by (is_at (name_cmp a) e.0) missing (place_empty a es defns)
    where
      by : (at : Bool) → cond at (Some e.1) (lookup (is_at (name_cmp a)) es) ≡ None
          → (lookup (is_at (name_cmp a)) es ≡ None → view_with es defns ≡ replaced_at b alternatives a (map named_entry es) defns)
          → view_with (e ∷ es) defns
          ≡ cond at
          (first_replaced b alternatives (named_entry e) (map named_entry es) defns)
          (entry_in_front (named_entry e) (replaced_at b alternatives a (map named_entry es) defns))
      by true is rest = cc
      by false is rest = ap (entry_in_front (named_entry e)) (rest is)

  -- without an entry at a place nothing is replaced
  place_missing : (a : NonterminalString) (es : List (NonterminalString × Entry)) (defns : List ActionFnDefn) → AllByRecursion (λ k. is_at (name_cmp a) k ≡ false) (keys_of es) → replaced_at b alternatives a es defns ≡ view_made es defns
  place_missing a [] defns none = refl
  place_missing a (e ∷ es) defns none =
      ap (λ (at : Bool). cond at (first_replaced b alternatives e es defns) (entry_in_front e (replaced_at b alternatives a es defns))) none.0
      ∙ ap (entry_in_front e) (place_missing a es defns none.1)

  -- places above the first entry leave it as it is
  places_past : (places : List NonterminalString) (e : NonterminalString × Entry) (v : View) → AllByRecursion (λ a. name_cmp e.0 a ≡ Less) places → replaced_places b alternatives places (entry_in_front e v) ≡ entry_in_front e (replaced_places b alternatives places v)
  places_past [] e v above = refl
  places_past (a ∷ places) e v above =
      let here : replaced_at b alternatives a (e ∷ v.entries) v.defns ≡ entry_in_front e (replaced_at b alternatives a v.entries v.defns) =
      ap (λ (at : Bool). cond at (first_replaced b alternatives e v.entries v.defns) (entry_in_front e (replaced_at b alternatives a v.entries v.defns))) (past_name e.0 a above.0) in
      ap (replaced_places b alternatives places) here ∙ places_past places e (replaced_at b alternatives a v.entries v.defns) above.1

  abbrev Rest : List (NonterminalString × Entry) → Type 0
  Rest es = (defns : List ActionFnDefn) (places : List NonterminalString) → IsStrictlySortedBy name_cmp places → AreCovered b es places → replaced_places b alternatives places (view_made es defns) ≡ replaced_entries b alternatives es defns

  -- a first entry below all places stays
  first_left : (e : NonterminalString × Entry) (es : List (NonterminalString × Entry)) → Rest es → (defns : List ActionFnDefn) (places : List NonterminalString) → IsStrictlySortedBy name_cmp places → AllByRecursion (λ a. name_cmp e.0 a ≡ Less) places → AreCovered b (e ∷ es) places →
      replaced_places b alternatives places (view_made (e ∷ es) defns) ≡ replaced_entries b alternatives (e ∷ es) defns
  first_left e es rest defns places sorted above covered =
      let none : (p : Production) → Contains e.1.productions p → mentions b p.symbols ≡ false = λ p c. elim (cases_Bool (mentions b p.symbols)) [
        | inl h ↦ absurd (not_below e.0 (of_one (λ (a : NonterminalString). name_cmp e.0 a ≡ Less) places e.0 above (covered e p (contains_head e es) c h)))
        | inr h ↦ h
      ] in
      let stays : replaced_all b alternatives e.1.productions defns ≡ made_of e.1.productions defns = replaced_none e.1.productions defns none in
      places_past places e (view_made es defns) above
      ∙ ap (entry_in_front e) (rest defns places sorted (λ x p c d h. covered x p (contains_tail e es x c) d h))
      ∙ ap (λ (m : Made). entry_in_front (entry_with e m.productions) (replaced_entries b alternatives es m.defns)) (sym stays)

  -- a first entry at the first place is replaced
  first_at : (e : NonterminalString × Entry) (es : List (NonterminalString × Entry)) → Rest es → AllByRecursion (λ k. name_cmp e.0 k ≡ Less) (keys_of es) →
      (defns : List ActionFnDefn) (a : NonterminalString) (places : List NonterminalString) → IsStrictlySortedBy name_cmp (a ∷ places) → AreCovered b (e ∷ es) (a ∷ places) → name_cmp a e.0 ≡ Equal →
      replaced_places b alternatives (a ∷ places) (view_made (e ∷ es) defns) ≡ replaced_entries b alternatives (e ∷ es) defns
  first_at e es rest rising defns a places sorted covered at =
      let r : Made = replaced_all b alternatives e.1.productions defns in
      let new : NonterminalString × Entry = entry_with e r.productions in
      let same : a ≡ e.0 = name_same a e.0 (ap is_eq at) in
      let here : replaced_at b alternatives a (e ∷ es) defns ≡ entry_in_front new (view_made es r.defns) = ap (λ (o : Ordering). cond (is_eq o) (entry_in_front new (view_made es r.defns)) (entry_in_front e (replaced_at b alternatives a es defns))) at in
      let above : AllByRecursion (λ x. name_cmp e.0 x ≡ Less) places = subst (λ (k : NonterminalString). AllByRecursion (λ x. name_cmp k x ≡ Less) places) same (sorted_head name_cmp a places sorted) in
      let left : AreCovered b es places = λ x p c d h. elim (contains-cons a places x.0 (covered x p (contains_tail e es x c) d h)) [
        | inl s ↦ absurd (not_below e.0 (subst (λ (k : NonterminalString). name_cmp e.0 k ≡ Less) (sym s ∙ same) (of_each (λ (k : NonterminalString). name_cmp e.0 k ≡ Less) es x rising c)))
        | inr k ↦ k
      ] in
      ap (replaced_places b alternatives places) here
      ∙ places_past places new (view_made es r.defns) above
      ∙ ap (entry_in_front new) (rest r.defns places (sorted_tail name_cmp a places sorted) left)

  -- one entry more
  one_entry : (e : NonterminalString × Entry) (es : List (NonterminalString × Entry)) → Rest es → AllByRecursion (λ k. name_cmp e.0 k ≡ Less) (keys_of es) → Rest (e ∷ es)
  one_entry e es rest rising defns [] sorted covered = first_left e es rest defns [] sorted tt covered
  one_entry e es rest rising defns (a ∷ places) sorted covered =
      by_order (name_cmp a e.0)
      (λ below. missed below (one_entry e es rest rising defns places (sorted_tail name_cmp a places sorted)))
      (first_at e es rest rising defns a places sorted covered)
      (λ above. first_left e es rest defns (a ∷ places) sorted (all_above above) covered)
    where
      all_above : name_cmp a e.0 ≡ Greater → AllByRecursion (λ x. name_cmp e.0 x ≡ Less) (a ∷ places)
      all_above above =
          let first : name_cmp e.0 a ≡ Less = name_order.total-law.antisymm e.0 a ∙ ap ordering_reverse above in
          (first, all_of (λ x. name_cmp a x ≡ Less) (λ x. name_cmp e.0 x ≡ Less) places (λ x h. name_order.total-law.trans e.0 a x first h) (sorted_head name_cmp a places sorted))

      missed : name_cmp a e.0 ≡ Less → (AreCovered b (e ∷ es) places → replaced_places b alternatives places (view_made (e ∷ es) defns) ≡ replaced_entries b alternatives (e ∷ es) defns)
          → replaced_places b alternatives (a ∷ places) (view_made (e ∷ es) defns) ≡ replaced_entries b alternatives (e ∷ es) defns
      missed below later =
          let all : AllByRecursion (λ k. name_cmp a k ≡ Less) (keys_of (e ∷ es)) = (below, all_of (λ k. name_cmp e.0 k ≡ Less) (λ k. name_cmp a k ≡ Less) (keys_of es) (λ k h. name_order.total-law.trans a e.0 k below h) rising) in
          let none : AllByRecursion (λ k. is_at (name_cmp a) k ≡ false) (keys_of (e ∷ es)) = all_of (λ k. name_cmp a k ≡ Less) (λ k. is_at (name_cmp a) k ≡ false) (keys_of (e ∷ es)) (λ k h. ap is_eq h) all in
          ap (replaced_places b alternatives places) (place_missing a (e ∷ es) defns none)
          ∙ later (λ x p c d h. elim (contains-cons a places x.0 (covered x p c d h)) [
            | inl s ↦ absurd (not_below a (subst (λ (k : NonterminalString). name_cmp a k ≡ Less) (sym s) (of_each (λ (k : NonterminalString). name_cmp a k ≡ Less) (e ∷ es) x all c)))
            | inr k ↦ k
          ])

  -- replacing at places that cover all entries that mention the nonterminal replaces every entry
  pub all_places : (es : List (NonterminalString × Entry)) → IsStrictlySortedBy name_cmp (keys_of es) → Rest es
  all_places [] ordered defns places sorted covered = nothing places
    where
      nothing : (ks : List NonterminalString) → replaced_places b alternatives ks (view_made [] defns) ≡ view_made [] defns
      nothing [] = refl
      nothing (k ∷ ks) = nothing ks
  all_places (e ∷ es) ordered defns places sorted covered = one_entry e es (all_places es (sorted_tail name_cmp e.0 (keys_of es) ordered)) (sorted_head name_cmp e.0 (keys_of es) ordered) defns places sorted covered

-- there is no number for an action at a place
pub place_past : (b : NonterminalString) (alternatives : List Production) (a : NonterminalString) (places all : List NonterminalString) (v d : View) (e : NormError) → all ≡ a ∷ places → replaced_places b alternatives all v ≡ d →
    IsPastLast (length (replaced_at b alternatives a v.entries v.defns).defns) e → IsPastLast (length d.defns) e
place_past b alternatives a places all v d e parted so_far past =
    let next : View = replaced_at b alternatives a v.entries v.defns in
    let whole : (replaced_places b alternatives places next).defns ≡ d.defns = ap (λ (l : List NonterminalString). (replaced_places b alternatives l v).defns) (sym parted) ∙ ap (λ (x : View). x.defns) so_far in
    past_more (length next.defns) (length d.defns) e (omega (arith, ap length whole, more_longer next.defns (replaced_places b alternatives places next).defns (replaced_places_more b alternatives places next))) past
