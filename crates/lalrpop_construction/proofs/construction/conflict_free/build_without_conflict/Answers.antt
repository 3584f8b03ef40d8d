use Rattle.std.proofs.Common.{◌≡◌, ◌∙◌, ◌++◌, ◌∷◌, [], List, ap, length, refl, subst, sym}
use Rattle.std.specs.Prelude.{◌↔◌, IsTrue}
use Rattle.std.proofs.lemmas.Bool.{false≢true}
use Rattle.std.proofs.lemmas.List.{length-map}
use Rattle.lalrpop_base.specs.Words.{Begins, Bits, Kernels, Rules, items_by, kernels_by}
use Rattle.lalrpop_numbers.specs.declared.numbers.numbered.Numbered.{Numbered}
use Rattle.lalrpop_states.specs.closures.Closure.{itself}
use Rattle.lalrpop_states.specs.conflicts.StateConflicts.{IsConflictFree}
use Rattle.lalrpop_construction.specs.Words.{AreMadeSoFar}
use Rattle.lalrpop_construction.proofs.Types.{State, TerminalString}
use Rattle.lalrpop_construction.proofs.theory.canonical.ConflictFree.{Free-more, Free-not, partly_built}
use Rattle.lalrpop_construction.proofs.theory.closures.TokenTables.{Lists, Passes, states_of}
use Rattle.lalrpop_construction.proofs.theory.conflicts.GrownConflicts.{States-of}
use Rattle.lalrpop_construction.proofs.theory.construction.Building.{Building-all}
use Rattle.lalrpop_construction.proofs.theory.construction.NumberedBuilding.{Fewer-left}
use Rattle.lalrpop_construction.proofs.construction.conflict_free.build_without_conflict.Goals as goal

pub states-smaller : goal.states-smaller
states-smaller c =
    let items = c.args.numbers.now.items.items in
    let all : List (State Bits) = c.states.states.items in
    let step : (states : List (State Bits)) → AreMadeSoFar itself Begins Passes c.args.lr.now.construction items c.states.kernels states → AreMadeSoFar itself Begins Passes c.args.lr.now.construction items c.next_state.new.kernels (states ++ c.in-Some.state ∷ []) = rw c.in-Some.is at c.in_ok-state.ensures.made in
    Fewer-left _ _ _ _ (λ a b same. same) (kernels_by items c.next_state.new.kernels) (all ++ c.in-Some.state ∷ []) (step all c.states.invariant.0).building c.states.kernels.handed (rw c.in-Some.is at c.in_ok-state.ensures.counted)

pub states-preserved : goal.states-preserved
states-preserved c =
    let items = c.args.numbers.now.items.items in
    let terminals : List TerminalString = c.args.lr.now.construction.rules.terminals in
    let all : List (State Bits) = c.states.states.items in
    let state : State Bits = c.in-Some.state in
    let step : (states : List (State Bits)) → AreMadeSoFar itself Begins Passes c.args.lr.now.construction items c.states.kernels states → AreMadeSoFar itself Begins Passes c.args.lr.now.construction items c.next_state.new.kernels (states ++ state ∷ []) = rw c.in-Some.is at c.in_ok-state.ensures.made in
    let exact = subst (λ (ts : List TerminalString). IsTrue c.in_ok-free.free ↔ IsConflictFree ts state) (ap (λ (r : Rules). r.terminals) c.grammar-grammar.ensures.rules) c.in_ok-free.ensures in
    rw c.in_ok-push.ensures.items (step all c.states.invariant.0, Free-more terminals all state c.states.invariant.1 (exact.0 c.if-not-free.false))

pub returns-then-not-free-clause-none : goal.returns-then-not-free-clause-none
returns-then-not-free-clause-none c none =
    let k = c.args.lr.now.construction in
    let items = c.args.numbers.now.items.items in
    let all : List (State Bits) = c.states.states.items in
    let state : State Bits = c.in-Some.state in
    let step : (states : List (State Bits)) → AreMadeSoFar itself Begins Passes k items c.states.kernels states → AreMadeSoFar itself Begins Passes k items c.next_state.new.kernels (states ++ state ∷ []) = rw c.in-Some.is at c.in_ok-state.ensures.made in
    let exact = subst (λ (ts : List TerminalString). IsTrue c.in_ok-free.free ↔ IsConflictFree ts state) (ap (λ (r : Rules). r.terminals) c.grammar-grammar.ensures.rules) c.in_ok-free.ensures in
    record {
      states = all ++ state ∷ [];
      partly = partly_built k (kernels_by items c.next_state.new.kernels) (all ++ state ∷ []) (step all c.states.invariant.0).building;
      conflict = Free-not k.rules.terminals all state (λ free. false≢true (sym c.if-not-free.true ∙ exact.1 free));
    }

pub returns-clause-tables : goal.returns-clause-tables
returns-clause-tables c free =
    let k = c.args.lr.now.construction in
    let items = c.args.numbers.now.items.items in
    let all : List (State Bits) = c.states.states.items in
    let same : c.next_state.new.kernels ≡ c.states.kernels = (rw c.in_default.is at c.in_ok-state.ensures.none) refl in
    let end : c.next_state.new.kernels.handed ≡ length c.next_state.new.kernels.list = (rw c.in_default.is at c.in_ok-state.ensures.all) refl in
    let whole : c.states.kernels.handed ≡ length c.states.kernels.list = subst (λ (ks : Kernels (List (Numbered Bits))). ks.handed ≡ length ks.list) same end in
    let built = Building-all _ _ _ _ (kernels_by items c.states.kernels) all c.states.invariant.0.building (whole ∙ sym (length-map c.states.kernels.list (items_by items))) in
    record {
      made = states_of k all (States-of itself Begins Passes Lists k all built);
      free = c.states.invariant.1;
    }
