-- The shifts and gotos of a state of the construction are over the symbols after its dots, and each
-- state is reached over them.
use Rattle.std.proofs.Common.{◌≡◌, ℕ, zero, suc, ◌<◌, List, length, drop, refl, sym, ◌∙◌, ap, subst, arith, Option, Some, None, IsSome, Bool, option_map}
use Rattle.std.specs.Prelude.{Contains, slice_get, IfSome}
use Rattle.std.specs.BTreeMap.{BTreeMap, get}
use Rattle.std.specs.Cmp.{IsTotalOrder, eq_by_cmp_equiv}
use Rattle.std.specs.declared.cmp.Ordering.{Ordering}
use Rattle.std.proofs.lemmas.Map.Lookups.{CmpEqualImpliesEq}
use Rattle.std.proofs.lemmas.Map.Views.{IfSome-get, IsSome-lookup_from_Contains}
use Rattle.std.proofs.lemmas.Option.{slice_get_within}
use Rattle.lalrpop_base.specs.Words.{IsReached, at_zero, number_of, contents_of, contents_at, contents_in, no_contents, Dotted, leads, IsBehindDot, LeadsOverDots}
use Rattle.lalrpop_grammar.specs.closures.Closures.{over_edge}
use Rattle.lalrpop_grammar.specs.contracts.repr.TerminalStringOrd.TheImpl as terminal_ord
use Rattle.lalrpop_grammar.specs.contracts.repr.NonterminalStringOrd.TheImpl as name_ord
use Rattle.lalrpop_construction.proofs.Types.{Production, State, StateIndex, Symbol, Token}
use Rattle.lalrpop_grammar.specs.declared.repr.Symbol.TheVariants.{Nonterminal, Terminal}
use Rattle.lalrpop_states.proofs.theory.states.ContentsViews.{terminals_ordered, names_ordered}
use Rattle.lalrpop_collections.proofs.theory.lists.Lists.{some_of_map}
use Rattle.lalrpop_states.specs.states.Items.{dotted_of}
use Rattle.lalrpop_base.specs.Words.{HasTransition, IsBuiltBy, AreBuiltBy, IsBehind}
use Rattle.lalrpop_states.proofs.theory.closures.Closing.{drop_split, split_drop}
use Rattle.lalrpop_construction.proofs.theory.construction.Coherence.{one_kernel}
use Rattle.lalrpop_collections.proofs.theory.lists.Members.{contains_map}
use Rattle.lalrpop_collections.proofs.theory.lists.Places.{one_place}
use Rattle.lalrpop_construction.proofs.theory.construction.Shifting.{of_dotted}

-- ---- the targets of a state
pub entry_of : {K : Type 0} {R : K → K → Ordering} → IsTotalOrder R → CmpEqualImpliesEq R → (m : BTreeMap K StateIndex) (key : K) (n : ℕ) → option_map number_of (get R m key) ≡ Some n → (target : StateIndex) × (target.0 ≡ n) × Contains m.entries (key, target)
entry_of {R = R} total exact m key n e =
    let found = some_of_map number_of (get R m key) n e in
    (found.0, found.2, subst (λ (o : Option StateIndex). IfSome o (λ v. Contains m.entries (key, v))) found.1 (IfSome-get total exact m key))

pub leads_transition : {L : Type 0} (holds : L → Token → Bool) (s : State L) (x : Symbol) (m : ℕ) → leads (contents_of holds s) x ≡ Some m → (target : StateIndex) × (target.0 ≡ m) × HasTransition x target s
leads_transition holds s (Nonterminal a) m e = entry_of name_ord.Laws.total-law names_ordered s.gotos a m e
leads_transition holds s (Terminal t) m e = entry_of terminal_ord.Laws.total-law terminals_ordered s.shifts t m e

-- ---- an entry is found
some_of : {X : Type 0} (o : Option X) → IsSome o → (x : X) × (o ≡ Some x)
some_of None h = cc
some_of (Some x) h = (x, refl)

found_of : {K : Type 0} {R : K → K → Ordering} → IsTotalOrder R → CmpEqualImpliesEq R → (m : BTreeMap K StateIndex) (key : K) (target : StateIndex) → Contains m.entries (key, target) →
    (found : StateIndex) × (option_map number_of (get R m key) ≡ Some found.0) × Contains m.entries (key, found)
found_of {K} {R = R} total exact m key target c =
    let there = some_of (get R m key) (IsSome-lookup_from_Contains (eq_by_cmp_equiv total) key m.entries (contains_map (λ (e : K × StateIndex). e.0) m.entries (key, target) c)) in
    let number : option_map number_of (get R m key) ≡ Some (there.0).0 = ap (option_map number_of) there.1 in
    let entry = entry_of total exact m key (there.0).0 number in
    (entry.0, number ∙ ap Some (sym entry.1), entry.2)

pub transition_leads : {L : Type 0} (holds : L → Token → Bool) (s : State L) (x : Symbol) (target : StateIndex) → HasTransition x target s → (found : StateIndex) × (leads (contents_of holds s) x ≡ Some found.0) × HasTransition x found s
transition_leads holds s (Nonterminal a) target h = found_of name_ord.Laws.total-law names_ordered s.gotos a target h
transition_leads holds s (Terminal t) target h = found_of terminal_ord.Laws.total-law terminals_ordered s.shifts t target h

-- ---- the symbols after the dots
module _ {L : Type 0} (holds : L → Token → Bool) (Closes : List (Dotted L) → List (Dotted L) → Type 0) (list : List (List (Dotted L))) (kernel : List (Dotted L)) (number : ℕ) (s : State L) (built : IsBuiltBy Closes list kernel number s) where
  behind_of : (x : Symbol) (i : Dotted L) → Contains s.items.vec.items i → IsBehind x i → IsBehindDot (contents_of holds s) x
  behind_of x i c b = record {
    production = i.production;
    dot = i.index;
    after = drop (suc i.index) i.production.symbols;
    item = contains_map dotted_of s.items.vec.items i c;
    behind = drop_split i.index i.production.symbols x b;
  }

  pub leads_over_dots : LeadsOverDots (contents_of holds s)
  leads_over_dots x = (
    λ h.
        let edge = leads_transition holds s x h.0 h.1 in
        let l = built.leads x edge.0 edge.2 in
        behind_of x l.behind.item l.behind.among l.behind.behind,
    λ b.
        let i = of_dotted s.items.vec.items (b.production, b.dot) b.item in
        let behind = split_drop (i.0).index (i.0).production.symbols x b.after (ap (λ (d : Production × ℕ). drop d.1 d.0.symbols) i.2 ∙ b.behind) in
        let edge = built.all x i.0 i.1 behind in
        let found = transition_leads holds s x edge.0 edge.1 in
        ((found.0).0, found.1),
  )

pub no_leads : (x : Symbol) (m : ℕ) → leads no_contents x ≡ Some m → ⊥
no_leads (Nonterminal a) m e = cc
no_leads (Terminal t) m e = cc

no_item : (p : Production) (dot : ℕ) → Contains no_contents.items (p, dot) → ⊥
no_item p dot c = let l = c.1 in absurd (omega arith)

-- a number without a state has no edge
pub nowhere_leads : LeadsOverDots no_contents
nowhere_leads x = (λ h. absurd (no_leads x h.0 h.1), λ b. absurd (no_item b.production b.dot b.item))

-- ---- each state is reached
module _ {L : Type 0} (holds : L → Token → Bool) (Closes : List (Dotted L) → List (Dotted L) → Type 0) (first : List (Dotted L)) (states : List (State L)) (b : AreBuiltBy Closes first states) where
  -- a transition is the edge of its symbol
  edge_to : (place : ℕ) (s : State L) (x : Symbol) (target : StateIndex) (n : ℕ) → slice_get states place ≡ Some s → HasTransition x target s → target.0 ≡ n → leads (contents_in holds states place) x ≡ Some n
  edge_to place s x target n at h e =
      let built = b.each place s at in
      let found = transition_leads holds s x target h in
      let l = built.built.leads x target h in
      let k = built.built.leads x found.0 found.2 in
      let same : k.kernel ≡ l.kernel = one_kernel x s.items.vec.items k.kernel l.kernel k.shifts l.shifts in
      let number : (found.0).0 ≡ target.0 = one_place b.kernels b.differ (found.0).0 target.0 l.kernel (k.numbered ∙ ap Some same) l.numbered in
      ap (λ (o : Option (State L)). leads (contents_at holds o) x) at ∙ found.1 ∙ ap Some (number ∙ e)

  reached_below : (bound n : ℕ) → n < bound → n < length states → IsReached (contents_in holds states) n
  reached_below zero n l within = absurd (omega arith)
  reached_below (suc bound) zero l within = at_zero
  reached_below (suc bound) (suc n) l within =
      let led = b.led (suc n) (omega arith) within in
      let earlier = led.earlier in
      let here = slice_get_within states led.place led.state led.there in
      over_edge (suc n) led.symbol (reached_below bound led.place (omega arith) here) (edge_to led.place led.state led.symbol led.target (suc n) led.there led.transition led.leads)

  pub all_reached : (n : ℕ) → n < length states → IsReached (contents_in holds states) n
  all_reached n within = reached_below (suc n) n (omega arith) within
