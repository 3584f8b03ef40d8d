-- The kernels to which items move, with one more item, and the edges to them, with one more edge.
use Rattle.std.proofs.Common.{◌≡◌, ℕ, suc, ◌⊎◌, inl, inr, List, [], ◌∷◌, ◌++◌, length, refl, sym, ◌∙◌, ap, subst, arith, append_assoc, append-nil, Bool, true, false, true≢false, cond, IfSome, IsSome, None, Option, Some}
use Rattle.std.specs.Prelude.{Contains, slice_get, ◌==◌}
use Rattle.std.specs.Map.{keys_of}
use Rattle.std.proofs.lemmas.List.Elements.{Contains-append_left, Contains-append_right, Contains-append_cases, Contains-push_cases, Contains-push}
use Rattle.lalrpop_base.specs.Words.{Dotted, AllDiffer, Kernels, IsPushedAt, IsBehind, IsBehindOne, Shifts, Groups, HasNoGroup, AreMoves, IsMoveAdded, AreEdges}
use Rattle.lalrpop_base.specs.Words.{reductions_of, shifted, AreEdgesListed, Entries, HasEntry, IsEntryAdded, GroupLeadsTo, edge_entries, list_entries, AddsKernels}
use Rattle.lalrpop_construction.proofs.Types.{NonterminalString, Production, StateIndex, Symbol, TerminalString}
use Rattle.lalrpop_grammar.specs.declared.repr.Symbol.TheVariants.{Nonterminal, Terminal}
use Rattle.lalrpop_collections.specs.lists.Entries.IsPushedAt.{fresh, known}
use Rattle.lalrpop_states.specs.declared.lr1_core.transitions.TransitionLists.{TransitionLists}
use Rattle.lalrpop_states.specs.declared.lr1_core.transitions.Transitions.{Transitions}
use Rattle.lalrpop_states.specs.construction.Transitions.Shifts.{none, moves, stays}
use Rattle.lalrpop_states.specs.construction.Transitions.IsMoveAdded.{over, at_end}
use Rattle.lalrpop_collections.proofs.theory.lists.Members.{Contains-none, contains_head, contains-cons, contains_map, place}
use Rattle.lalrpop_collections.proofs.theory.lists.Places.{midst, around, at_midst, same_some, slice_get-longer}
use Rattle.std.proofs.lemmas.Option.{slice_get_within}
use Rattle.std.specs.declared.cmp.Ordering.{Ordering}
use Rattle.std.specs.BTreeMap.{BTreeMap, IsFromIterResult, get}
use Rattle.std.specs.Cmp.{IsTotalOrder}
use Rattle.std.proofs.lemmas.Map.Lookups.{CmpEqualImpliesEq}
use Rattle.std.proofs.lemmas.Map.Views.{IfSome-btree_map_get_from_list, btree_map_contains_key_from_list, btree_map_get_iff}
use Rattle.lalrpop_grammar.proofs.theory.grammars.NameOrders.{name_exact, name_total, terminal_exact, terminal_total}

pub differ_tail : {X : Type 0} (x : X) (xs : List X) → AllDiffer (x ∷ xs) → AllDiffer xs
differ_tail x xs d i j y l at_i at_j = d (suc i) (suc j) y (omega arith) at_i at_j

pub differ_head : {X : Type 0} (x : X) (xs : List X) → AllDiffer (x ∷ xs) → (y : X) → Contains xs y → x ≡ y → ⊥
differ_head x xs d y c e = let at = place xs y c in d 0 (suc at.0) y (omega arith) (ap Some e) at.2

-- ---- one more entry
abbrev Gotos : Type 0
Gotos = List (NonterminalString × StateIndex)

abbrev ShiftList : Type 0
ShiftList = List (TerminalString × StateIndex)

pub entry_there : (x : Symbol) (target : StateIndex) (old new : Entries) → IsEntryAdded x target old new → HasEntry new x target
entry_there (Nonterminal a) target old new e = subst (λ (es : Gotos). Contains es (a, target)) (sym e.0) (Contains-push old.gotos (a, target))
entry_there (Terminal t) target old new e = subst (λ (es : ShiftList). Contains es (t, target)) (sym e.0) (Contains-push old.shifts (t, target))

pub entry_kept : (x : Symbol) (target : StateIndex) (old new : Entries) → IsEntryAdded x target old new → (y : Symbol) (n : StateIndex) → HasEntry old y n → HasEntry new y n
entry_kept (Nonterminal a) target old new e (Nonterminal b) n h = subst (λ (es : Gotos). Contains es (b, n)) (sym e.0) (Contains-append_left old.gotos ((a, target) ∷ []) (b, n) h)
entry_kept (Nonterminal a) target old new e (Terminal u) n h = subst (λ (es : ShiftList). Contains es (u, n)) (sym e.1) h
entry_kept (Terminal t) target old new e (Nonterminal b) n h = subst (λ (es : Gotos). Contains es (b, n)) (sym e.1) h
entry_kept (Terminal t) target old new e (Terminal u) n h = subst (λ (es : ShiftList). Contains es (u, n)) (sym e.0) (Contains-append_left old.shifts ((t, target) ∷ []) (u, n) h)

pub entry_from : (x : Symbol) (target : StateIndex) (old new : Entries) → IsEntryAdded x target old new → (y : Symbol) (n : StateIndex) → HasEntry new y n → HasEntry old y n ⊎ ((y ≡ x) × (n ≡ target))
entry_from (Nonterminal a) target old new e (Nonterminal b) n h = elim (Contains-push_cases old.gotos (a, target) (b, n) (subst (λ (es : Gotos). Contains es (b, n)) e.0 h)) [
  | inl had ↦ inl had
  | inr is ↦ inr (ap (λ (p : NonterminalString × StateIndex). Nonterminal p.0) (sym is), ap (λ (p : NonterminalString × StateIndex). p.1) (sym is))
]
entry_from (Nonterminal a) target old new e (Terminal u) n h = inl (subst (λ (es : ShiftList). Contains es (u, n)) e.1 h)
entry_from (Terminal t) target old new e (Nonterminal b) n h = inl (subst (λ (es : Gotos). Contains es (b, n)) e.1 h)
entry_from (Terminal t) target old new e (Terminal u) n h = elim (Contains-push_cases old.shifts (t, target) (u, n) (subst (λ (es : ShiftList). Contains es (u, n)) e.0 h)) [
  | inl had ↦ inl had
  | inr is ↦ inr (ap (λ (p : TerminalString × StateIndex). Terminal p.0) (sym is), ap (λ (p : TerminalString × StateIndex). p.1) (sym is))
]

-- empty lists have no entry
pub no_entry : (entries : Entries) → entries.shifts ≡ [] → entries.gotos ≡ [] → (x : Symbol) (n : StateIndex) → HasEntry entries x n → ⊥
no_entry entries s t (Nonterminal a) n h = Contains-none (a, n) (subst (λ (es : Gotos). Contains es (a, n)) t h)
no_entry entries s t (Terminal a) n h = Contains-none (a, n) (subst (λ (es : ShiftList). Contains es (a, n)) s h)

-- ---- the lists as maps
module _ {K V : Type 0} {cmp : K → K → Ordering} (total : IsTotalOrder cmp) (exact : CmpEqualImpliesEq cmp) (xs : List (K × V)) (m : BTreeMap K V) (made : IsFromIterResult cmp xs m) where
  made_of : (k : K) (v : V) → Contains m.entries (k, v) → Contains xs (k, v)
  made_of k v c = subst (λ (o : Option V). IfSome o (λ (w : V). Contains xs (k, w))) ((btree_map_get_iff total exact m made.1 k v).1 c) (IfSome-btree_map_get_from_list total exact xs m made k)

  made_has : (k : K) (v : V) → Contains xs (k, v) → (w : V) × Contains m.entries (k, w)
  made_has k v c = by (get cmp m k) refl ((btree_map_contains_key_from_list total exact xs m made k).1 (contains_map (λ (e : K × V). e.0) xs (k, v) c))
    where
      by : (o : Option V) → get cmp m k ≡ o → IsSome o → (w : V) × Contains m.entries (k, w)
      by None e s = absurd (true≢false (sym s))
      by (Some w) e s = (w, (btree_map_get_iff total exact m made.1 k w).0 e)

module _ (lists : TransitionLists) (edges : Transitions) (made : AreEdgesListed lists edges) where
  pub listed_of : (x : Symbol) (n : StateIndex) → HasEntry (edge_entries edges) x n → HasEntry (list_entries lists) x n
  listed_of (Nonterminal a) n h = made_of name_total name_exact lists.gotos.items edges.gotos made.gotos a n h
  listed_of (Terminal t) n h = made_of terminal_total terminal_exact lists.shifts.items edges.shifts made.shifts t n h

  pub edge_of : (x : Symbol) (n : StateIndex) → HasEntry (list_entries lists) x n → (target : StateIndex) × HasEntry (edge_entries edges) x target
  edge_of (Nonterminal a) n h = made_has name_total name_exact lists.gotos.items edges.gotos made.gotos a n h
  edge_of (Terminal t) n h = made_has terminal_total terminal_exact lists.shifts.items edges.shifts made.shifts t n h

abbrev Group : Type 0 → Type 0
Group L = Symbol × List (Dotted L)

module _ {L : Type 0} where
  -- ---- one more item
  pub Shifts-over : (x : Symbol) (i : Dotted L) (items kernel : List (Dotted L)) → IsBehind x i → Shifts x items kernel → Shifts x (items ++ i ∷ []) (kernel ++ shifted i ∷ [])
  Shifts-over x i items kernel b none = moves b none
  Shifts-over x i items kernel b (moves {items = is} {kernel = ks} c s) = moves c (Shifts-over x i is ks b s)
  Shifts-over x i items kernel b (stays {items = is} {kernel = ks} c s) = stays c (Shifts-over x i is ks b s)

  pub Shifts-other : (x : Symbol) (i : Dotted L) (items kernel : List (Dotted L)) → ¬ IsBehind x i → Shifts x items kernel → Shifts x (items ++ i ∷ []) kernel
  Shifts-other x i items kernel b none = stays b none
  Shifts-other x i items kernel b (moves {items = is} {kernel = ks} c s) = moves c (Shifts-other x i is ks b s)
  Shifts-other x i items kernel b (stays {items = is} {kernel = ks} c s) = stays c (Shifts-other x i is ks b s)

  key_in : (groups : Groups L) (g : Group L) → Contains groups g → Contains (keys_of groups) g.0
  key_in groups g c = contains_map (λ (g : Group L). g.0) groups g c

  -- the key of a group in the middle is not that of another group
  midst_differs : (front back : Groups L) (g h : Group L) → AllDiffer (keys_of (front ++ g ∷ back)) → Contains (front ++ back) h → g.0 ≡ h.0 → ⊥
  midst_differs [] back g h d c e = differ_head g.0 (keys_of back) d h.0 (key_in back h c) e
  midst_differs (f ∷ front) back g h d c e = elim (contains-cons f (front ++ back) h c) [
    | inl same ↦ differ_head f.0 (keys_of (front ++ g ∷ back)) d g.0 (key_in (front ++ g ∷ back) g (Contains-append_right front (g ∷ back) g (contains_head g back))) (ap (λ (g : Group L). g.0) same ∙ sym e)
    | inr later ↦ midst_differs front back g h (differ_tail f.0 (keys_of (front ++ g ∷ back)) d) later e
  ]

  behind_longer : (items : List (Dotted L)) (i : Dotted L) (x : Symbol) → IsBehindOne x items → IsBehindOne x (items ++ i ∷ [])
  behind_longer items i x b = record { item = b.item; among = Contains-append_left items (i ∷ []) b.item b.among; behind = b.behind }

  module _ (items : List (Dotted L)) (i : Dotted L) (y : Symbol) (behind : IsBehind y i) where
    not_behind : (x : Symbol) → (y ≡ x → ⊥) → ¬ IsBehind x i
    not_behind x other b = other (same_some y x (sym behind ∙ b))

    -- each new group has its kernel, if all old groups but that of y stay
    over_each : (front back : Groups L) (kernel : List (Dotted L)) (old new : Groups L) → new ≡ front ++ (y, kernel ++ shifted i ∷ []) ∷ back → AllDiffer (keys_of new) → Shifts y items kernel → ((h : Group L) → Contains (front ++ back) h → Shifts h.0 items h.1) →
        (x : Symbol) (ks : List (Dotted L)) → Contains new (x, ks) → Shifts x (items ++ i ∷ []) ks
    over_each front back kernel old new after d s each x ks c = elim (midst front back (y, kernel ++ shifted i ∷ []) (x, ks) (subst (λ (gs : Groups L). Contains gs (x, ks)) after c)) [
      | inl same ↦ subst (λ (g : Group L). Shifts g.0 (items ++ i ∷ []) g.1) same (Shifts-over y i items kernel behind s)
      | inr other ↦ Shifts-other x i items ks (not_behind x (λ e. midst_differs front back (y, kernel ++ shifted i ∷ []) (x, ks) (subst (λ (gs : Groups L). AllDiffer (keys_of gs)) after d) other e)) (each (x, ks) other)
    ]

    over_other : (front back : Groups L) (g : Group L) (new : Groups L) → new ≡ front ++ g ∷ back → g.0 ≡ y → ((x : Symbol) → ((ks : List (Dotted L)) → Contains new (x, ks) → ⊥) → Shifts x items []) → (x : Symbol) → HasNoGroup new x → Shifts x (items ++ i ∷ []) []
    over_other front back g new after key old x none_new =
        Shifts-other x i items [] (not_behind x (λ e. none_new g.1 (subst (λ (gs : Groups L). Contains gs (x, g.1)) (sym after) (subst (λ (s : Symbol). Contains (front ++ g ∷ back) (s, g.1)) (key ∙ e) (at_midst front back g))))) (old x none_new)

    -- a symbol with a group is after a dot: y is after that of the new item
    over_some : (front back : Groups L) (g : Group L) (new : Groups L) → new ≡ front ++ g ∷ back → g.0 ≡ y → ((h : Group L) → Contains (front ++ back) h → IsBehindOne h.0 items) → (x : Symbol) (ks : List (Dotted L)) → Contains new (x, ks) → IsBehindOne x (items ++ i ∷ [])
    over_some front back g new after key each x ks c = elim (midst front back g (x, ks) (subst (λ (gs : Groups L). Contains gs (x, ks)) after c)) [
      | inl same ↦ record { item = i; among = Contains-push items i; behind = subst (λ (s : Symbol). IsBehind s i) (sym key ∙ ap (λ (h : Group L). h.0) same) behind }
      | inr other ↦ behind_longer items i x (each (x, ks) other)
    ]

    -- each symbol that had a group has one, and y has one
    over_has : (old new : Groups L) → AreMoves items old → ((h : Group L) → Contains old h → (ks : List (Dotted L)) × Contains new (h.0, ks)) → (ks : List (Dotted L)) → Contains new (y, ks) → (x : Symbol) (j : Dotted L) → Contains (items ++ i ∷ []) j → IsBehind x j → (ks : List (Dotted L)) × Contains new (x, ks)
    over_has old new m kept ks there x j c b = elim (Contains-push_cases items i j c) [
      | inl had ↦ let g = m.has x j had b in kept (x, g.0) g.1
      | inr same ↦ (ks, subst (λ (s : Symbol). Contains new (s, ks)) (same_some y x (sym behind ∙ subst (λ (k : Dotted L). IsBehind x k) (sym same) b)) there)
    ]

    pub Moves-over : (old new : Groups L) → AreMoves items old → IsPushedAt y (shifted i) old new → AllDiffer (keys_of new) → AreMoves (items ++ i ∷ []) new
    Moves-over old new m (fresh front back before after) d =
        let differ = subst (λ (gs : Groups L). AllDiffer (keys_of gs)) after d in
        let none_y : HasNoGroup old y = λ ks c. midst_differs front back (y, shifted i ∷ []) (y, ks) differ (subst (λ (gs : Groups L). Contains gs (y, ks)) before c) refl in
        record {
          each = over_each front back [] old new after d (m.other y none_y) (λ h c. m.each h.0 h.1 (subst (λ (gs : Groups L). Contains gs h) (sym before) c));
          has = over_has old new m (λ h c. (h.1, subst (λ (gs : Groups L). Contains gs h) (sym after) (around front back (y, shifted i ∷ []) h (subst (λ (gs : Groups L). Contains gs h) before c)))) (shifted i ∷ []) (subst (λ (gs : Groups L). Contains gs (y, shifted i ∷ [])) (sym after) (at_midst front back (y, shifted i ∷ [])));
          some = over_some front back (y, shifted i ∷ []) new after refl (λ h c. m.some h.0 h.1 (subst (λ (gs : Groups L). Contains gs h) (sym before) c));
          other = over_other front back (y, shifted i ∷ []) new after refl (λ x none_new. m.other x (λ ks c. none_new ks (subst (λ (gs : Groups L). Contains gs (x, ks)) (sym after) (around front back (y, shifted i ∷ []) (x, ks) (subst (λ (gs : Groups L). Contains gs (x, ks)) before c)))));
          differ = d;
        }
    Moves-over old new m (known front back vs before after) d =
        record {
          each = over_each front back vs old new after d (m.each y vs (subst (λ (gs : Groups L). Contains gs (y, vs)) (sym before) (at_midst front back (y, vs)))) (λ h c. m.each h.0 h.1 (subst (λ (gs : Groups L). Contains gs h) (sym before) (around front back (y, vs) h c)));
          has = over_has old new m (λ h c. elim (midst front back (y, vs) h (subst (λ (gs : Groups L). Contains gs h) before c)) [
            | inl same ↦ (vs ++ shifted i ∷ [], subst (λ (gs : Groups L). Contains gs (h.0, vs ++ shifted i ∷ [])) (sym after) (subst (λ (s : Symbol). Contains (front ++ (y, vs ++ shifted i ∷ []) ∷ back) (s, vs ++ shifted i ∷ [])) (ap (λ (g : Group L). g.0) same) (at_midst front back (y, vs ++ shifted i ∷ []))))
            | inr out ↦ (h.1, subst (λ (gs : Groups L). Contains gs h) (sym after) (around front back (y, vs ++ shifted i ∷ []) h out))
          ]) (vs ++ shifted i ∷ []) (subst (λ (gs : Groups L). Contains gs (y, vs ++ shifted i ∷ [])) (sym after) (at_midst front back (y, vs ++ shifted i ∷ [])));
          some = over_some front back (y, vs ++ shifted i ∷ []) new after refl (λ h c. m.some h.0 h.1 (subst (λ (gs : Groups L). Contains gs h) (sym before) (around front back (y, vs) h c)));
          other = over_other front back (y, vs ++ shifted i ∷ []) new after refl (λ x none_new. m.other x (λ ks c. elim (midst front back (y, vs) (x, ks) (subst (λ (gs : Groups L). Contains gs (x, ks)) before c)) [
            | inl same ↦ none_new (vs ++ shifted i ∷ []) (subst (λ (gs : Groups L). Contains gs (x, vs ++ shifted i ∷ [])) (sym after) (subst (λ (s : Symbol). Contains (front ++ (y, vs ++ shifted i ∷ []) ∷ back) (s, vs ++ shifted i ∷ [])) (ap (λ (g : Group L). g.0) same) (at_midst front back (y, vs ++ shifted i ∷ []))))
            | inr out ↦ none_new ks (subst (λ (gs : Groups L). Contains gs (x, ks)) (sym after) (around front back (y, vs ++ shifted i ∷ []) (x, ks) out))
          ]));
          differ = d;
        }

  past_end : (i : Dotted L) (x : Symbol) → i.index ≡ length i.production.symbols → ¬ IsBehind x i
  past_end i x e b = let l = slice_get_within i.production.symbols i.index x b in absurd (omega arith)

  pub Moves-more : (items : List (Dotted L)) (i : Dotted L) (old new : Groups L) → AreMoves items old → IsMoveAdded i old new → AreMoves (items ++ i ∷ []) new
  Moves-more items i old new m (over x b p d) = Moves-over items i x b old new m p d
  Moves-more items i old new m (at_end e same) = subst (AreMoves (items ++ i ∷ [])) (sym same) (record {
    each = λ x ks c. Shifts-other x i items ks (past_end i x e) (m.each x ks c);
    other = λ x n. Shifts-other x i items [] (past_end i x e) (m.other x n);
    some = λ x ks c. behind_longer items i x (m.some x ks c);
    has = λ x j c b. elim (Contains-push_cases items i j c) [
      | inl had ↦ m.has x j had b
      | inr same ↦ absurd (past_end i x e (subst (λ (k : Dotted L). IsBehind x k) (sym same) b))
    ];
    differ = m.differ;
  })

  pub Moves-none : AreMoves {L = L} [] []
  Moves-none = record { each = λ x ks c. absurd (Contains-none (x, ks) c); other = λ x n. none; some = λ x ks c. absurd (Contains-none (x, ks) c); has = λ x i c b. absurd (Contains-none i c); differ = λ i j x l at. cc }

  -- ---- one more edge
  -- the entries lead to the kernels of the first groups
  pub record AreSomeEdges (groups first : Groups L) (old new : Kernels (List (Dotted L))) (entries : Entries) : Type 0 where
    pub leads : (x : Symbol) (target : StateIndex) → HasEntry entries x target → GroupLeadsTo groups new.list x target
    pub all : (x : Symbol) (kernel : List (Dotted L)) → Contains first (x, kernel) → (target : StateIndex) × HasEntry entries x target
    pub reached : AddsKernels groups old new

  leads_longer : (groups : Groups L) (list more : List (List (Dotted L))) (new : List (List (Dotted L))) → new ≡ list ++ more → (x : Symbol) (target : StateIndex) → GroupLeadsTo groups list x target → GroupLeadsTo groups new x target
  leads_longer groups list more new e x target l = record { kernel = l.kernel; group = l.group; numbered = subst (λ (ks : List (List (Dotted L))). slice_get ks target.0 ≡ Some l.kernel) (sym e) (slice_get-longer list more target.0 l.kernel l.numbered) }

  module _ (groups : Groups L) (x : Symbol) (kernel : List (Dotted L)) (group : Contains groups (x, kernel)) where
    more_of : (old middle new : List (List (Dotted L))) → (new ≡ middle) ⊎ (new ≡ middle ++ kernel ∷ []) → (more : List (List (Dotted L))) × (new ≡ middle ++ more) × ((k : List (Dotted L)) → Contains more k → (z : Symbol) × Contains groups (z, k))
    more_of old middle new either = elim either [
      | inl same ↦ ([], same ∙ sym (append-nil middle), λ k c. absurd (Contains-none k c))
      | inr push ↦ (kernel ∷ [], push, λ k c. elim (contains-cons kernel [] k c) [ inl e ↦ (x, subst (λ (ks : List (Dotted L)). Contains groups (x, ks)) e group) | inr n ↦ absurd (Contains-none k n) ])
    ]

    pub Reached-more : (old middle new : Kernels (List (Dotted L))) → AddsKernels groups old middle → (new.list ≡ middle.list) ⊎ (new.list ≡ middle.list ++ kernel ∷ []) → new.handed ≡ middle.handed → AllDiffer new.list → AddsKernels groups old new
    Reached-more old middle new r either handed differ =
        let more = more_of old.list middle.list new.list either in
        record {
          added = r.added ++ more.0;
          stay = more.1 ∙ ap (λ xs. xs ++ more.0) r.stay ∙ append_assoc old.list r.added more.0;
          of = λ k c. elim (Contains-append_cases r.added more.0 k c) [ inl d ↦ r.of k d | inr d ↦ more.2 k d ];
          handed = handed ∙ r.handed;
          differ = λ d. differ;
        }

    pub Edges-more : (first : Groups L) (old middle new : Kernels (List (Dotted L))) (before after : Entries) (number : ℕ) → AreSomeEdges groups first old middle before → slice_get new.list number ≡ Some kernel →
        (new.list ≡ middle.list) ⊎ (new.list ≡ middle.list ++ kernel ∷ []) → new.handed ≡ middle.handed → AllDiffer new.list → IsEntryAdded x (record { 0 = number }) before after → AreSomeEdges groups (first ++ (x, kernel) ∷ []) old new after
    Edges-more first old middle new before after number s numbered either handed differ a =
        let more = more_of old.list middle.list new.list either in
        let target : StateIndex = record { 0 = number } in
        record {
          leads = λ y n h. elim (entry_from x target before after a y n h) [
            | inl had ↦ leads_longer groups middle.list more.0 new.list more.1 y n (s.leads y n had)
            | inr is ↦ subst (λ (z : Symbol). GroupLeadsTo groups new.list z n) (sym is.0) (subst (λ (m : StateIndex). GroupLeadsTo groups new.list x m) (sym is.1) (record { kernel = kernel; group = group; numbered = numbered }))
          ];
          all = λ y k c. elim (Contains-push_cases first (x, kernel) (y, k) c) [
            | inl had ↦ let e = s.all y k had in (e.0, entry_kept x target before after a y e.0 e.1)
            | inr same ↦ (target, subst (λ (g : Group L). HasEntry after g.0 target) same (entry_there x target before after a))
          ];
          reached = Reached-more old middle new s.reached either handed differ;
        }

  -- ---- all edges
  pub Edges-none : (groups : Groups L) (old : Kernels (List (Dotted L))) (entries : Entries) → entries.shifts ≡ [] → entries.gotos ≡ [] → AreSomeEdges groups [] old old entries
  Edges-none groups old entries s t = record {
    leads = λ x n h. absurd (no_entry entries s t x n h);
    all = λ x k c. absurd (Contains-none (x, k) c);
    reached = record { added = []; stay = sym (append-nil old.list); of = λ k c. absurd (Contains-none k c); handed = refl; differ = λ d. d };
  }

  pub Edges-all : (groups first : Groups L) (old new : Kernels (List (Dotted L))) (lists : TransitionLists) (edges : Transitions) → first ≡ groups → AreSomeEdges groups first old new (list_entries lists) → AreEdgesListed lists edges → AreEdges groups new.list edges
  Edges-all groups first old new lists edges e s made = record {
    leads = λ x n h. s.leads x n (listed_of lists edges made x n h);
    all = λ x k c. let there = s.all x k (subst (λ (gs : Groups L). Contains gs (x, k)) (sym e) c) in edge_of lists edges made x there.0 there.1;
    ascend = made.shifts.1;
  }

  -- ---- one more reduction
  reductions_at : (b : Bool) (r : L × Production) (xs ys : List (L × Production)) → cond b (r ∷ (xs ++ ys)) (xs ++ ys) ≡ cond b (r ∷ xs) xs ++ ys
  reductions_at true r xs ys = refl
  reductions_at false r xs ys = refl

  pub reductions_of-append : (xs ys : List (Dotted L)) → reductions_of (xs ++ ys) ≡ reductions_of xs ++ reductions_of ys
  reductions_of-append [] ys = refl
  reductions_of-append (i ∷ xs) ys = ap (λ rs. cond (i.index == length i.production.symbols) ((i.lookahead, i.production) ∷ rs) rs) (reductions_of-append xs ys) ∙ reductions_at (i.index == length i.production.symbols) (i.lookahead, i.production) (reductions_of xs) (reductions_of ys)
