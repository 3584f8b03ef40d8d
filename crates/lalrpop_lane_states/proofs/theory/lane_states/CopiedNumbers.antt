-- States by number that were made from those of their originals are the states by number.
use Rattle.std.proofs.Common.{◌≡◌, ◌↔◌, inl, inr, ℕ, ◌<◌, Bool, true, false, List, [], ◌∷◌, ◌++◌, ◌+◌, ◌≤◌, get_or, length, length-append, append-nil, map, take, refl, sym, ◌∙◌, ap, subst, arith, Option, Some, None, option_map}
use Rattle.std.specs.Prelude.{Contains, slice_get}
use Rattle.std.specs.List.{flat_map}
use Rattle.std.proofs.lemmas.Bool.{cases_lt}
use Rattle.std.proofs.lemmas.Grind.{flat_map-append}
use Rattle.std.proofs.lemmas.List.{length-take-le, take_more}
use Rattle.std.proofs.lemmas.Option.{slice_get_within}
use Rattle.lalrpop_base.specs.Words.{Bits, Contents, contents_at, contents_of, holds_token, leads, number_in, number_of, NumbersAscend}
use Rattle.lalrpop_construction.specs.states.NumberedStates.{AreNumberedStates, AreReducedNumbers, IsNumberedState}
use Rattle.lalrpop_construction.specs.Words.{dot_of}
use Rattle.lalrpop_construction.specs.declared.construction.numbered_state.NumberedState.{NumberedState}
use Rattle.lalrpop_grammar.specs.declared.repr.Symbol.TheVariants.{Nonterminal, Terminal}
use Rattle.lalrpop_lane_states.proofs.Types.{Production, State, StateIndex, Symbol, TerminalString, Token}
use Rattle.lalrpop_lane_states.specs.lane_states.CopiedNumbers.{AreCopiedByNumber, IsCopyByNumber, IsCopiedAt, copied_edge, copied_edges, edge_over, edge_to, place_of}
use Rattle.lalrpop_numbers.specs.declared.numbers.Numbers.{Numbers}
use Rattle.lalrpop_state_graph.specs.Words.{AreCopies, IsCopyOf}
use Rattle.lalrpop_collections.proofs.theory.lists.Bounded.{in_flat_map}
use Rattle.lalrpop_collections.proofs.theory.lists.Lists.{contains-cons, contains_head}
use Rattle.lalrpop_collections.proofs.theory.lists.Members.{Contains-none, of_flat}
use Rattle.lalrpop_collections.proofs.theory.lists.Places.{filled, push_cases, same_some}
use Rattle.lalrpop_grammar.proofs.theory.conflicts.ConflictLists.{ordered-cons, ordered-head, ordered-tail}
use Rattle.lalrpop_lane_states.proofs.theory.lane_states.FoundPlaces.{reduced_by}
use Rattle.lalrpop_lane_states.proofs.theory.merges.LaneCopies.{leads_copy, number_past}
use Rattle.lalrpop_state_graph.proofs.theory.graphs.GraphCopies.{number_at}

-- ---- the transitions
-- the members of a list of one
one_member : {X : Type 0} (x y : X) → Contains (x ∷ []) y → x ≡ y
one_member x y c = elim (contains-cons x [] y c) [ inl e ↦ e | inr none ↦ absurd (Contains-none y none) ]

-- a transition of the list is over the symbol, and leads where the symbol leads
edge_to_is : (x : ℕ) (o : Option ℕ) (e : ℕ × ℕ) → Contains (edge_to x o) e → (e.0 ≡ x) × (o ≡ Some e.1)
edge_to_is x None e c = absurd (Contains-none e c)
edge_to_is x (Some m) e c =
    let one : (ℕ × ℕ) = (x, m) in
    let same : one ≡ e = one_member one e c in
    (ap (λ (p : ℕ × ℕ). p.0) (sym same), ap (λ (p : ℕ × ℕ). Some p.1) same)

edge_over_is : (place : Contents) (x : ℕ) (o : Option Symbol) (e : ℕ × ℕ) → Contains (edge_over place x o) e → (e.0 ≡ x) × ((s : Symbol) × (o ≡ Some s) × (leads place s ≡ Some e.1))
edge_over_is place x None e c = absurd (Contains-none e c)
edge_over_is place x (Some s) e c =
    let t = edge_to_is x (leads place s) e c in
    (t.0, (s, refl, t.1))

edge_to_there : (x m : ℕ) (o : Option ℕ) → o ≡ Some m → Contains (edge_to x o) (x, m)
edge_to_there x m None e = cc
edge_to_there x m (Some k) e =
    let one : ℕ × ℕ = (x, k) in
    subst (λ (n : ℕ). Contains (one ∷ []) (x, n)) (same_some k m e) (contains_head one [])

edge_over_there : (place : Contents) (x m : ℕ) (s : Symbol) (o : Option Symbol) → o ≡ Some s → leads place s ≡ Some m → Contains (edge_over place x o) (x, m)
edge_over_there place x m s None e l = cc
edge_over_there place x m s (Some r) e l = edge_to_there x m (leads place r) (ap (leads place) (same_some r s e) ∙ l)

module _ (symbols : List Symbol) (state : State Bits) where
  -- a transition of the state is over the symbol of one of the transitions
  record IsFrom (es : List (ℕ × ℕ)) (x m : ℕ) : Type 0 where
    pub target : ℕ
    pub there : Contains es (x, target)
    pub symbol : Symbol
    pub named : slice_get symbols x ≡ Some symbol
    pub leads_on : leads (place_of state) symbol ≡ Some m

  copied_from : (es : List (ℕ × ℕ)) (x m : ℕ) → Contains (copied_edges symbols state es) (x, m) → IsFrom es x m
  copied_from es x m c =
      let f = of_flat (copied_edge symbols state) es (x, m) c in
      let e = f.0 in
      let o = edge_over_is (place_of state) e.0 (slice_get symbols e.0) (x, m) f.2 in
      record {
        target = e.1;
        there = subst (λ (y : ℕ). Contains es (y, e.1)) (sym o.0) f.1;
        symbol = (o.1).0;
        named = ap (slice_get symbols) o.0 ∙ (o.1).1;
        leads_on = (o.1).2;
      }

  copied_there : (es : List (ℕ × ℕ)) (x m k : ℕ) (s : Symbol) → Contains es (x, k) → slice_get symbols x ≡ Some s → leads (place_of state) s ≡ Some m → Contains (copied_edges symbols state es) (x, m)
  copied_there es x m k s c named l = in_flat_map (copied_edge symbols state) es (x, k) (x, m) c (edge_over_there (place_of state) x m s (slice_get symbols x) named l)

  -- ---- the numbers of their symbols ascend
  ascend_on : (x : ℕ) (o : Option ℕ) (list : List (ℕ × ℕ)) → ((e : ℕ × ℕ) → Contains list e → x < e.0) → NumbersAscend list → NumbersAscend (edge_to x o ++ list)
  ascend_on x None list less rise = rise
  ascend_on x (Some k) list less rise = let first : ℕ × ℕ = (x, k) in ordered-cons (λ (d e : ℕ × ℕ). d.0 < e.0) first list less rise

  over_on : (x : ℕ) (o : Option Symbol) (list : List (ℕ × ℕ)) → ((e : ℕ × ℕ) → Contains list e → x < e.0) → NumbersAscend list → NumbersAscend (edge_over (place_of state) x o ++ list)
  over_on x None list less rise = rise
  over_on x (Some s) list less rise = ascend_on x (leads (place_of state) s) list less rise

  pub copied_ascend : (es : List (ℕ × ℕ)) → NumbersAscend es → NumbersAscend (copied_edges symbols state es)
  copied_ascend [] rise = rise
  copied_ascend (e ∷ es) rise =
      over_on e.0 (slice_get symbols e.0) (copied_edges symbols state es)
      (λ d c. let f = copied_from es d.0 d.1 c in ordered-head (λ (a b : ℕ × ℕ). a.0 < b.0) e es rise (d.0, f.target) f.there)
      (copied_ascend es (ordered-tail (λ (a b : ℕ × ℕ). a.0 < b.0) e es rise))

-- the transition that was looked up
pub edge_found : (symbols : List Symbol) (state : State Bits) (e : ℕ × ℕ) (s : Symbol) (o : Option StateIndex) → slice_get symbols e.0 ≡ Some s → option_map number_of o ≡ leads (place_of state) s → copied_edge symbols state e ≡ edge_to e.0 (option_map number_of o)
edge_found symbols state e s o at found = ap (edge_over (place_of state) e.0) at ∙ ap (edge_to e.0) (sym found)

-- the transition over one symbol more
pub edges_more : (symbols : List Symbol) (state : State Bits) (edges : List (ℕ × ℕ)) (i : ℕ) (d e : ℕ × ℕ) (old new : List (ℕ × ℕ)) → i < length edges → e ≡ get_or edges i d → old ≡ copied_edges symbols state (take i edges) → new ≡ old ++ copied_edge symbols state e → new ≡ copied_edges symbols state (take (i + 1) edges)
edges_more symbols state edges i d e old new l is before pushed =
    let f = copied_edge symbols state in
    let more : take (i + 1) edges ≡ take i edges ++ e ∷ [] = take_more edges i d l ∙ ap (λ (x : ℕ × ℕ). take i edges ++ x ∷ []) (sym is) in
    pushed ∙ ap (λ (xs : List (ℕ × ℕ)). xs ++ f e) before
    ∙ sym (ap (flat_map f) more ∙ flat_map-append f (take i edges) (e ∷ []) ∙ ap (λ (ys : List (ℕ × ℕ)). flat_map f (take i edges) ++ ys) (append-nil (f e)))

-- ---- one state
abbrev any : Bits → Token → Bool
any lookahead t = true

-- where a symbol leads does not depend on tokens
leads_any : (terminals : List TerminalString) (state : State Bits) (x : Symbol) → leads (contents_of (holds_token terminals) state) x ≡ leads (place_of state) x
leads_any terminals state (Terminal t) = refl
leads_any terminals state (Nonterminal a) = refl

module _ (n : Numbers) (handed : List (State Bits)) (originals : List ℕ) (states : List (State Bits)) (c : AreCopies false handed originals states) where
  -- the transitions of a copy lead to copies
  copy_leads : (terminals : List TerminalString) (s : ℕ) (before state : State Bits) → IsCopyOf false (number_in originals) s before state → (x : Symbol) → leads (place_of before) x ≡ option_map (number_in originals) (leads (place_of state) x)
  copy_leads terminals s before state copy x =
      sym (leads_any terminals before x) ∙ leads_copy false handed originals states c terminals s before state copy x ∙ ap (option_map (number_in originals)) (leads_any terminals state x)

  -- a copy by number is the copy of its original by number
  numbered_copy : (s : ℕ) (before state : State Bits) → IsCopyOf false (number_in originals) s before state → (old new : NumberedState) → IsNumberedState n (place_of before) old → IsCopyByNumber n.symbols.items old state new → IsNumberedState n (place_of state) new
  numbered_copy s before state copy old new h made = record {
    known = λ k among. h.known k (subst (λ (ks : List ℕ). Contains ks k) made.items among);
    items = λ k i at.
        let dots : (place_of before).items ≡ (place_of state).items = ap (map dot_of) (sym copy.items) in
        subst (λ (ds : List (Production × ℕ)). Contains new.items.items k ↔ Contains ds (i.production, i.index)) dots
        (subst (λ (ks : List ℕ). Contains ks k ↔ Contains (place_of before).items (i.production, i.index)) (sym made.items) (h.items k i at));
    named = λ x m among. let f = copied_from n.symbols.items state old.edges.items x m (subst (λ (es : List (ℕ × ℕ)). Contains es (x, m)) made.edges among) in h.named x f.target f.there;
    edges = λ x m symbol at. (
      λ among.
          let f = copied_from n.symbols.items state old.edges.items x m (subst (λ (es : List (ℕ × ℕ)). Contains es (x, m)) made.edges among) in
          ap (leads (place_of state)) (same_some symbol f.symbol (sym at ∙ f.named)) ∙ f.leads_on,
      λ l.
          let there : leads (place_of before) symbol ≡ Some (number_in originals m) = copy_leads [] s before state copy symbol ∙ ap (option_map (number_in originals)) l in
          subst (λ (es : List (ℕ × ℕ)). Contains es (x, m)) (sym made.edges) (copied_there n.symbols.items state old.edges.items x m (number_in originals m) symbol ((h.edges x (number_in originals m) symbol at).1 there) at l),
    );
  }

  -- ---- all states
  module _ (numbered list : List NumberedState) (of_handed : AreNumberedStates n handed numbered) (made : AreCopiedByNumber n.symbols.items numbered originals states list) where
    -- a state by number, with its original
    record IsCopiedFrom (s : ℕ) (state : State Bits) (new : NumberedState) : Type 0 where
      pub before : State Bits
      pub old : NumberedState
      pub copy : IsCopyOf false (number_in originals) s before state
      pub is : IsNumberedState n (place_of before) old
      pub reduced : AreReducedNumbers n.items.items before.reductions.items old.reductions.items
      pub by_number : IsCopyByNumber n.symbols.items old state new

    copied_at : (s : ℕ) (state : State Bits) (new : NumberedState) → slice_get states s ≡ Some state → slice_get list s ≡ Some new → IsCopiedFrom s state new
    copied_at s state new at_state at_new =
        let m = made.each s state new at_state at_new in
        let o = c.each s state at_state in
        let at_before : slice_get handed m.original ≡ Some o.0 = ap (slice_get handed) (sym (number_at originals s m.original m.of)) ∙ o.1 in
        record {
          before = o.0;
          old = m.old;
          copy = o.2;
          is = subst (λ (p : Contents). IsNumberedState n p m.old) (ap (contents_at any) at_before) (of_handed.each m.original m.old m.there);
          reduced = of_handed.reduced m.original o.0 m.old at_before m.there;
          by_number = m.copy;
        }

    pub copied_numbered : AreNumberedStates n states list
    copied_numbered = record {
      counted = made.counted;
      each = λ s new at_new.
          let l = slice_get_within list s new at_new in
          let x = filled states s (let k = made.counted in omega arith) in
          let f = copied_at s x.0 new x.1 at_new in
          subst (λ (p : Contents). IsNumberedState n p new) (sym (ap (contents_at any) x.1)) (numbered_copy s f.before x.0 f.copy f.old new f.is f.by_number);
      reduced = λ s state new at_state at_new.
          let f = copied_at s state new at_state at_new in
          subst (AreReducedNumbers n.items.items state.reductions.items) (sym (f.by_number).reductions) (reduced_by n.items.items f.before.reductions.items state.reductions.items (f.copy).reductions f.old.reductions.items f.reduced);
    }

-- ---- the loop over states
pub numbers_none : (symbols : List Symbol) (numbered : List NumberedState) (originals : List ℕ) (list : List NumberedState) → list ≡ [] → AreCopiedByNumber symbols numbered originals [] list
numbers_none symbols numbered originals list none = record {
  counted = ap length none;
  each = λ n state new at_state at_new. cc;
}

-- one more state
pub numbers_more : (symbols : List Symbol) (numbered : List NumberedState) (originals : List ℕ) (states : List (State Bits)) (list next : List NumberedState) (i : ℕ) (state : State Bits) (new : NumberedState) → AreCopiedByNumber symbols numbered originals (take i states) list → i < length states → state ≡ get_or states i state → IsCopiedAt symbols numbered originals i state new → next ≡ list ++ new ∷ [] → AreCopiedByNumber symbols numbered originals (take (i + 1) states) next
numbers_more symbols numbered originals states list next i state new h l is copied pushed =
    let before : List (State Bits) = take i states in
    let size : length before ≡ i = length-take-le i states (omega arith) in
    let more : take (i + 1) states ≡ before ++ state ∷ [] = take_more states i state l ∙ ap (λ (s : State Bits). before ++ s ∷ []) (sym is) in
    let counted = h.counted in
    subst (λ (xs : List (State Bits)). AreCopiedByNumber symbols numbered originals xs next) (sym more) (subst (AreCopiedByNumber symbols numbered originals (before ++ state ∷ [])) (sym pushed) (record {
      counted = let a = length-append list (new ∷ []) in let b = length-append before (state ∷ []) in omega arith;
      each = λ n s x at_s at_x. elim (push_cases before state n s at_s) [
        | inl was ↦ elim (push_cases list new n x at_x) [
          | inl there ↦ h.each n s x was there
          | inr end ↦ absurd (let w = slice_get_within before n s was in let e = end.0 in omega arith)
        ]
        | inr last ↦ elim (push_cases list new n x at_x) [
          | inl there ↦ absurd (let w = slice_get_within list n x there in let e = last.0 in omega arith)
          | inr end ↦
              let here : i ≡ n = let e = end.0 in omega arith in
              subst (λ (k : ℕ). IsCopiedAt symbols numbered originals k s x) here (subst (λ (y : NumberedState). IsCopiedAt symbols numbered originals i s y) end.1 (subst (λ (z : State Bits). IsCopiedAt symbols numbered originals i z new) last.1 copied))
        ]
      ];
    }))

-- ---- no other state is a copy of the first
-- of the states below the number, none but the first has state 0 as its original
abbrev pub AreAloneTo : List ℕ → ℕ → Type 0
AreAloneTo originals number = (n : ℕ) → n < number → number_in originals n ≡ 0 → n ≡ 0

pub alone_more : (originals : List ℕ) (number o : ℕ) → slice_get originals number ≡ Some o → (o ≡ 0 → ⊥) → AreAloneTo originals number → AreAloneTo originals (number + 1)
alone_more originals number o at other before n l is = elim (cases_lt n number) [
  | inl less ↦ before n less is
  | inr most ↦
      let e : number ≡ n = omega (arith, l, most) in
      absurd (other (sym (number_at originals number o at) ∙ ap (number_in originals) e ∙ is))
]

pub alone_all : (originals : List ℕ) (number : ℕ) → length originals ≤ number → AreAloneTo originals number → (n : ℕ) → number_in originals n ≡ 0 → n ≡ 0
alone_all originals number past alone n is = elim (cases_lt n number) [
  | inl less ↦ alone n less is
  | inr most ↦ sym (number_past originals n (omega (arith, past, most))) ∙ is
]
