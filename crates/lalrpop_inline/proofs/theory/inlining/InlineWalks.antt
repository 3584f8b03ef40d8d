-- A walk enters a nonterminal, goes along those that it mentions, and leaves it.
use Rattle.std.proofs.Common.{◌≡◌, ◌↔◌, ◌⊎◌, inl, inr, Bool, true, false, cond, List, [], ◌∷◌, ◌++◌, sym, ◌∙◌, ap, subst, append_assoc}
use Rattle.std.specs.Prelude.{Contains}
use Rattle.std.specs.List.{flat_map}
use Rattle.std.specs.BTreeMap.{is_at}
use Rattle.std.specs.BTreeSet.{BTreeSet, contains}
use Rattle.std.proofs.lemmas.Bool.{cases_Bool}
use Rattle.std.proofs.lemmas.List.Elements.{Contains-append_left, Contains-push, Contains-push_cases}
use mathlib.Core.Bool.{true≢false}
use Rattle.lalrpop_base.specs.Words.{AllDiffer, name_cmp}
use Rattle.lalrpop_inline.proofs.Types.{Grammar, NonterminalString, Production, Symbol}
use Rattle.lalrpop_grammar.specs.declared.repr.Symbol.TheVariants.{Nonterminal, Terminal}
use Rattle.lalrpop_collections.proofs.theory.lists.Lists.{contains-cons, contains-nil, contains_head, contains_tail, Ended, nothing, last, ended, same_last}
use Rattle.lalrpop_inline.specs.declared.inline.graph.depth_first.Walk.{Walk}
use Rattle.lalrpop_inline.specs.Words.{IsMarked, Mentions, nonterminal_names, mentioned_in, IsWalk}
use Rattle.lalrpop_collections.proofs.theory.lists.Apart.{apart_from, apart_to, Apart-append}
use Rattle.lalrpop_grammar.proofs.theory.first.FirstNames.{name_same, name_self}
use Rattle.lalrpop_collections.proofs.theory.lists.Members.{of_flat}
use Rattle.lalrpop_collections.proofs.theory.lists.Bounded.{in_flat_map}

-- a mentioned name is in a production
pub mentioned_names : (ps : List Production) (c : NonterminalString) → Contains (mentioned_in ps) c → (p : Production) × Contains ps p × Contains p.symbols (Nonterminal c)
mentioned_names ps c k =
    let p = of_flat (λ (q : Production). flat_map nonterminal_names q.symbols) ps c k in
    let x = of_flat nonterminal_names (p.0).symbols c p.2 in
    (p.0, p.1, subst (Contains (p.0).symbols) (is_name x.0 x.2) x.1)
  where
    is_name : (x : Symbol) → Contains (nonterminal_names x) c → x ≡ Nonterminal c
    is_name (Nonterminal a) h = elim (contains-cons a [] c h) [ inl e ↦ ap Nonterminal e | inr n ↦ absurd (contains-nil n) ]
    is_name (Terminal t) h = absurd (contains-nil h)

pub names_mentioned : (ps : List Production) (c : NonterminalString) (p : Production) → Contains ps p → Contains p.symbols (Nonterminal c) → Contains (mentioned_in ps) c
names_mentioned ps c p k m =
    let inner : Contains (flat_map nonterminal_names p.symbols) c = in_flat_map nonterminal_names p.symbols (Nonterminal c) c m (contains_head c []) in
    in_flat_map (λ (q : Production). flat_map nonterminal_names q.symbols) ps p c k inner

-- a set with a name put in, or taken out
abbrev pub Sets : NonterminalString → Bool → BTreeSet NonterminalString → BTreeSet NonterminalString → Type 0
Sets name value old new = (a : NonterminalString) → contains name_cmp new a ≡ cond (is_at (name_cmp name) a) value (contains name_cmp old a)

pub set_at : (value : Bool) (name a : NonterminalString) (old new : BTreeSet NonterminalString) → Sets name value old new → is_at (name_cmp name) a ≡ true → contains name_cmp new a ≡ value
set_at value name a old new s t = s a ∙ ap (λ (m : Bool). cond m value (contains name_cmp old a)) t

pub set_off : (value : Bool) (name a : NonterminalString) (old new : BTreeSet NonterminalString) → Sets name value old new → is_at (name_cmp name) a ≡ false → contains name_cmp new a ≡ contains name_cmp old a
set_off value name a old new s t = s a ∙ ap (λ (m : Bool). cond m value (contains name_cmp old a)) t

-- a name that is in a set after another one was taken out was in it before, and is not that one
pub still_there : (name a : NonterminalString) (old new : BTreeSet NonterminalString) → Sets name false old new → contains name_cmp new a ≡ true → (contains name_cmp old a ≡ true) × (is_at (name_cmp name) a ≡ false)
still_there name a old new s h = elim (cases_Bool (is_at (name_cmp name) a)) [
  | inl t ↦ absurd (true≢false (sym h ∙ set_at false name a old new s t))
  | inr t ↦ (sym (set_off false name a old new s t) ∙ h, t)
]

module _ (g : Grammar) where
  -- the walk enters a pending nonterminal
  pub entered : (w m : Walk) (name : NonterminalString) → IsWalk g w → contains name_cmp w.pending name ≡ true → Sets name false w.pending m.pending → Sets name true w.visiting m.visiting → m.order.items ≡ w.order.items → IsWalk g m
  entered w m name is was out into same = record {
    marked = λ a. (λ h. forward a ((is.marked a).0 h), back a);
    pending = λ a h.
        let (before, other) = still_there name a w.pending m.pending out h in
        let p = is.pending a before in
        (set_off true name a w.visiting m.visiting into other ∙ p.0, λ c. p.1 (subst (λ (l : List NonterminalString). Contains l a) same c));
    visiting = λ a h c.
        let d : Contains w.order.items a = subst (λ (l : List NonterminalString). Contains l a) same c in
        elim (cases_Bool (is_at (name_cmp name) a)) [
          | inl t ↦ (is.pending name was).1 (subst (Contains w.order.items) (sym (name_same name a t)) d)
          | inr t ↦ is.visiting a (sym (set_off true name a w.visiting m.visiting into t) ∙ h) d
        ];
    once = subst (λ (l : List NonterminalString). AllDiffer l) (sym same) is.once;
    behind = λ before after a c e. is.behind before after a c (sym same ∙ e);
  }
    where
      forward : (a : NonterminalString) → (contains name_cmp w.pending a ≡ true) ⊎ (contains name_cmp w.visiting a ≡ true) ⊎ Contains w.order.items a → (contains name_cmp m.pending a ≡ true) ⊎ (contains name_cmp m.visiting a ≡ true) ⊎ Contains m.order.items a
      forward a (inl h) = elim (cases_Bool (is_at (name_cmp name) a)) [
        | inl t ↦ inr (inl (set_at true name a w.visiting m.visiting into t))
        | inr t ↦ inl (set_off false name a w.pending m.pending out t ∙ h)
      ]
      forward a (inr (inl h)) = elim (cases_Bool (is_at (name_cmp name) a)) [
        | inl t ↦ inr (inl (set_at true name a w.visiting m.visiting into t))
        | inr t ↦ inr (inl (set_off true name a w.visiting m.visiting into t ∙ h))
      ]
      forward a (inr (inr c)) = inr (inr (subst (λ (l : List NonterminalString). Contains l a) (sym same) c))

      back : (a : NonterminalString) → (contains name_cmp m.pending a ≡ true) ⊎ (contains name_cmp m.visiting a ≡ true) ⊎ Contains m.order.items a → IsMarked g a
      back a (inl h) = (is.marked a).1 (inl (still_there name a w.pending m.pending out h).0)
      back a (inr (inl h)) = elim (cases_Bool (is_at (name_cmp name) a)) [
        | inl t ↦ (is.marked a).1 (inl (subst (λ (b : NonterminalString). contains name_cmp w.pending b ≡ true) (name_same name a t) was))
        | inr t ↦ (is.marked a).1 (inr (inl (sym (set_off true name a w.visiting m.visiting into t) ∙ h)))
      ]
      back a (inr (inr c)) = (is.marked a).1 (inr (inr (subst (λ (l : List NonterminalString). Contains l a) same c)))

  -- the walk leaves a nonterminal of which it has left all marked ones that it mentions
  pub left : (m n : Walk) (name : NonterminalString) → IsWalk g m → contains name_cmp m.visiting name ≡ true → ((c : NonterminalString) → Mentions g name c → IsMarked g c → Contains m.order.items c)
      → ((a : NonterminalString) → contains name_cmp n.pending a ≡ contains name_cmp m.pending a) → Sets name false m.visiting n.visiting → n.order.items ≡ m.order.items ++ name ∷ [] → IsWalk g n
  left m n name is was all same out grown = record {
    marked = λ a. (λ h. forward a ((is.marked a).0 h), back a);
    pending = λ a h.
        let before : contains name_cmp m.pending a ≡ true = sym (same a) ∙ h in
        let p = is.pending a before in (
          elim (cases_Bool (is_at (name_cmp name) a)) [ inl t ↦ set_at false name a m.visiting n.visiting out t | inr t ↦ set_off false name a m.visiting n.visiting out t ∙ p.0 ],
          λ c. elim (Contains-push_cases m.order.items name a (subst (λ (l : List NonterminalString). Contains l a) grown c)) [
            | inl d ↦ p.1 d
            | inr e ↦ true≢false (sym was ∙ ap (contains name_cmp m.visiting) e ∙ p.0)
          ],
        );
    visiting = λ a h c.
        let (before, other) = still_there name a m.visiting n.visiting out h in
        elim (Contains-push_cases m.order.items name a (subst (λ (l : List NonterminalString). Contains l a) grown c)) [
          | inl d ↦ is.visiting a before d
          | inr e ↦ true≢false (sym (name_self name) ∙ ap (is_at (name_cmp name)) e ∙ other)
        ];
    once = subst (λ (l : List NonterminalString). AllDiffer l) (sym grown) (apart_to (m.order.items ++ name ∷ []) (Apart-append m.order.items (name ∷ []) (apart_from m.order.items is.once) (λ k. contains-nil k, tt) new));
    behind = λ before after a c e mentioned marked. later before a c after (ended after) (sym grown ∙ e) mentioned marked;
  }
    where
      new : (x : NonterminalString) → Contains m.order.items x → Contains (name ∷ []) x → ⊥
      new x c d = elim (contains-cons name [] x d) [
        | inl e ↦ is.visiting name was (subst (Contains m.order.items) (sym e) c)
        | inr k ↦ contains-nil k
      ]

      forward : (a : NonterminalString) → (contains name_cmp m.pending a ≡ true) ⊎ (contains name_cmp m.visiting a ≡ true) ⊎ Contains m.order.items a → (contains name_cmp n.pending a ≡ true) ⊎ (contains name_cmp n.visiting a ≡ true) ⊎ Contains n.order.items a
      forward a (inl h) = inl (same a ∙ h)
      forward a (inr (inl h)) = elim (cases_Bool (is_at (name_cmp name) a)) [
        | inl t ↦ inr (inr (subst (λ (l : List NonterminalString). Contains l a) (sym grown) (subst (Contains (m.order.items ++ name ∷ [])) (name_same name a t) (Contains-push m.order.items name))))
        | inr t ↦ inr (inl (set_off false name a m.visiting n.visiting out t ∙ h))
      ]
      forward a (inr (inr c)) = inr (inr (subst (λ (l : List NonterminalString). Contains l a) (sym grown) (Contains-append_left m.order.items (name ∷ []) a c)))

      back : (a : NonterminalString) → (contains name_cmp n.pending a ≡ true) ⊎ (contains name_cmp n.visiting a ≡ true) ⊎ Contains n.order.items a → IsMarked g a
      back a (inl h) = (is.marked a).1 (inl (sym (same a) ∙ h))
      back a (inr (inl h)) = (is.marked a).1 (inr (inl (still_there name a m.visiting n.visiting out h).0))
      back a (inr (inr c)) = elim (Contains-push_cases m.order.items name a (subst (λ (l : List NonterminalString). Contains l a) grown c)) [
        | inl d ↦ (is.marked a).1 (inr (inr d))
        | inr e ↦ subst (IsMarked g) e ((is.marked name).1 (inr (inl was)))
      ]

      later : (before : List NonterminalString) (a c : NonterminalString) (after : List NonterminalString) → Ended after → m.order.items ++ name ∷ [] ≡ before ++ a ∷ after → Mentions g a c → IsMarked g c → Contains before c
      later before a c _ nothing e mentioned marked =
          let r = same_last m.order.items before e in
          subst (λ (l : List NonterminalString). Contains l c) r.0 (all c (subst (λ (b : NonterminalString). Mentions g b c) (sym r.1) mentioned) marked)
      later before a c _ (last k y) e mentioned marked =
          let r = same_last m.order.items (before ++ a ∷ k) (e ∙ sym (append_assoc before (a ∷ k) (y ∷ []))) in
          is.behind before k a c r.0 mentioned marked

  -- nothing was visited yet
  pub nothing_walked : (w : Walk) (names : List NonterminalString) → ((a : NonterminalString) → Contains names a ↔ IsMarked g a) → ((a : NonterminalString) → (contains name_cmp w.pending a ≡ true) ↔ Contains names a) → ((a : NonterminalString) → contains name_cmp w.visiting a ≡ false) → w.order.items ≡ [] → IsWalk g w
  nothing_walked w names found pending visiting none = record {
    marked = λ a. (λ h. inl ((pending a).1 ((found a).1 h)), go a);
    pending = λ a h. (visiting a, λ c. contains-nil (subst (λ (l : List NonterminalString). Contains l a) none c));
    visiting = λ a h. absurd (true≢false (sym h ∙ visiting a));
    once = subst (λ (l : List NonterminalString). AllDiffer l) (sym none) (apart_to [] tt);
    behind = λ before after a c e. absurd (contains-nil (subst (λ (l : List NonterminalString). Contains l a) (sym e ∙ none) (in_middle before after a)));
  }
    where
      go : (a : NonterminalString) → (contains name_cmp w.pending a ≡ true) ⊎ (contains name_cmp w.visiting a ≡ true) ⊎ Contains w.order.items a → IsMarked g a
      go a (inl h) = (found a).0 ((pending a).0 h)
      go a (inr (inl h)) = absurd (true≢false (sym h ∙ visiting a))
      go a (inr (inr c)) = absurd (contains-nil (subst (λ (l : List NonterminalString). Contains l a) none c))

      in_middle : (before after : List NonterminalString) (a : NonterminalString) → Contains (before ++ a ∷ after) a
      in_middle [] after a = contains_head a after
      in_middle (x ∷ before) after a = contains_tail x (before ++ a ∷ after) a (in_middle before after a)
