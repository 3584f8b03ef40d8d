-- Properties of the LR(0) states of a grammar and copies of these.
use Rattle.std.proofs.Common.{◌≡◌, ℕ, ◌<◌, ◌≤◌, inl, inr, false, List, [], map, length, Option, None, Some, refl, sym, ap, subst, ◌∙◌, arith}
use Rattle.std.specs.Prelude.{slice_get, Contains}
use Rattle.std.specs.Borrow.{Bor}
use Rattle.std.specs.List.{flat_map}
use Rattle.std.proofs.lemmas.Bool.{cases_lt}
use Rattle.std.proofs.lemmas.Option.{slice_get_within}
use Rattle.lalrpop_base.specs.Words.{Bits, AreCoherent, contents, contents_at, holds_token, Contents, Dotted, leads, ReducesFinished, Rules, state_conflicts, AreAllConflictFree}
use Rattle.lalrpop_lane_states.proofs.Types.{Action, Conflict, NonterminalString, Production, State, Symbol}
use Rattle.lalrpop_states.specs.declared.lr1_core.state.Action.TheVariants.{Shift, Reduce}
use Rattle.lalrpop_grammar.specs.declared.repr.Symbol.TheVariants.{Nonterminal, Terminal}
use Rattle.lr1_theory.proofs.theory.states.Copies.{copies_closed}
use Rattle.lalrpop_lane_states.specs.Words.{AreActions, AreClosedTables, AreCopiedConflicts, AreCopiedTables, AreLaneStates, AreLaneTables, AreLr0Copies}
use Rattle.lalrpop_state_graph.specs.Words.{AreCopies}
use Rattle.lalrpop_base.specs.Words.{number_in}
use Rattle.lalrpop_lane_states.specs.Words.{asked_actions}
use Rattle.lalrpop_lanes.specs.Words.{HaveOwnItems, ReducesOwn}
use Rattle.lalrpop_construction.proofs.theory.construction.Reductions.{nothing_reduced}
use Rattle.lalrpop_lane_states.proofs.theory.lanes.LaneAsked.{asked_of}
use Rattle.lalrpop_lane_states.proofs.theory.merges.LaneCopies.{copies_coherent, copies_copying}
use Rattle.lalrpop_follow_sets.proofs.theory.lane_states.LanePlaces.{produced, produced_by, reduces_there}
use Rattle.lalrpop_lane_states.proofs.theory.lane_states.LaneShape.{here_closed, here_reduces, lane_shape, own_items, some_states}
use Rattle.lalrpop_construction.proofs.theory.conflicts.GrownConflicts.{free_states}
use Rattle.lalrpop_lane_states.proofs.theory.lane_states.Resolving.{no_copies, own_numbers}
use Rattle.lalrpop_collections.proofs.theory.lists.Lists.{contains_place, place_contains}

-- a state with the same dotted productions, which reduces by the same productions, reduces its
-- finished items, too
reduces_alike : (a b : Contents) → b.items ≡ a.items → map produced b.reductions ≡ map produced a.reductions → ReducesFinished a → ReducesFinished b
reduces_alike a b items reduced h =
    let mixed : Contents = record a { items = b.items; reductions = b.reductions } in
    let there = reduces_there a mixed (record { items = items; edges = same_edges; reduced = reduced }) h in
    record { finished = there.finished; once = there.once }
  where
    same_edges : (x : Symbol) → leads (record a { items = b.items; reductions = b.reductions }) x ≡ leads a x
    same_edges (Terminal t) = refl
    same_edges (Nonterminal name) = refl

module _ (g : Rules) (start : NonterminalString) (handed : List (State Bits)) (made : AreLaneStates g start handed) (originals : List ℕ) (states : List (State Bits)) (c : AreCopies false handed originals states) where
  pub copied_coherent : AreCoherent states
  copied_coherent = copies_coherent false handed originals states c

  -- there are no fewer states than were handed in
  pub copied_longer : length handed ≤ length states
  copied_longer = elim (cases_lt (length states) (length handed)) [
    | inl l ↦ absurd (let w = slice_get_within originals (length states) (length states) (c.own (length states) l) in let k = c.counted in omega arith)
    | inr past ↦ past
  ]

  -- each item and each reduction is of a production of the grammar
  pub copied_own : HaveOwnItems g.productions states
  copied_own n state item at among =
      let o = c.each n state at in
      own_items g start handed made (number_in originals n) o.0 item o.1 (subst (λ (is : List (Dotted Bits)). Contains is item) o.2.items among)

  reduced_own : (n : ℕ) (state : State Bits) (r : Bits × Bor Production) → slice_get states n ≡ Some state → Contains state.reductions.items r → Contains g.productions r.1.now
  reduced_own n state r at among =
      let k = contains_place state.reductions.items r among in
      let f = (copied_coherent n state at).finished k.0 r k.1 in
      subst (Contains g.productions) f.3.same (copied_own n state f.1 at (place_contains state.items.vec.items f.0 f.1 f.2))

  pub asked_own : (n : ℕ) (state : State Bits) (actions : List Action) → slice_get states n ≡ Some state → AreActions (asked_actions g.terminals state) actions → (a : Action) → Contains actions a → ReducesOwn g.productions a
  asked_own n state actions at asked (Shift t target) among = tt
  asked_own n state actions at asked (Reduce p) among =
      let h = asked_of g.terminals state (Reduce p) (asked.of (Reduce p) among) in
      subst (λ (b : Bor Production). Contains g.productions b.now) h.2 (reduced_own n state h.0 at h.1)

  -- ---- in the terms of the definitions
  abbrev at_option : Option (State Bits) → Contents
  at_option o = contents_at (holds_token g.terminals) o

  reduces_at : (n : ℕ) (o : Option (State Bits)) → slice_get states n ≡ o → ReducesFinished (at_option o)
  reduces_at n None e = nothing_reduced
  reduces_at n (Some state) e =
      let o = c.each n state e in
      let before : ReducesFinished (at_option (Some o.0)) = subst (λ (x : Option (State Bits)). ReducesFinished (at_option x)) o.1 (here_reduces g start handed made (holds_token g.terminals) (number_in originals n)) in
      reduces_alike (at_option (Some o.0)) (at_option (Some state)) (ap (map (λ (i : Dotted Bits). (i.production, i.index))) o.2.items)
      (produced_by (holds_token g.terminals) state.reductions.items ∙ o.2.reductions ∙ sym (produced_by (holds_token g.terminals) o.0.reductions.items)) before

  pub copied_closed : AreClosedTables g start states
  copied_closed = record {
    coherent = copied_coherent;
    some = let l = copied_longer in let s = some_states g start handed made in omega arith;
    closed = copies_closed g.productions start (number_in originals) (contents g.terminals handed) (contents g.terminals states) (copies_copying false handed originals states c g.terminals) (here_closed g start handed made (holds_token g.terminals));
    reduces = λ n. reduces_at n (slice_get states n) refl;
  }

module _ (g : Rules) (start : NonterminalString) (copies : ℕ) (states : List (State Bits)) where
  -- lane tables are their own copies
  pub lanes_copied : AreLaneTables g start states → AreCopiedTables g start copies states
  lanes_copied tables =
      let shape = lane_shape g start states tables.made in
      record {
        made = record { handed = states; made = tables.made; originals = own_numbers states; each = no_copies states shape.coherent; counted = omega arith };
        closed = record { coherent = shape.coherent; some = shape.some; closed = shape.closed; reduces = shape.reduces };
        free = tables.free;
      }

  -- such states without a conflict are tables
  pub copied_free : AreLr0Copies g start copies states → AreAllConflictFree g.terminals states → AreCopiedTables g start copies states
  copied_free made free = record { made = made; closed = copied_closed g start made.handed made.made made.originals states made.each; free = free }

  pub copied_tables : AreLr0Copies g start copies states → (conflicts : List (Conflict Bits)) → conflicts ≡ flat_map (state_conflicts g.terminals) states → conflicts ≡ [] → AreCopiedTables g start copies states
  copied_tables made conflicts all none = copied_free made (free_states g.terminals states (sym all ∙ none))

  pub copied_conflicts : AreLr0Copies g start copies states → (conflicts : List (Conflict Bits)) → conflicts ≡ flat_map (state_conflicts g.terminals) states → 0 < length conflicts → AreCopiedConflicts g start copies states conflicts
  copied_conflicts made conflicts all some = record {
    made = made;
    closed = copied_closed g start made.handed made.made made.originals states made.each;
    all = all;
    some = some;
  }
