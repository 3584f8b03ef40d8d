use Rattle.std.proofs.Common.{◌≡◌, ◌∙◌, ◌++◌, ◌∷◌, [], ℕ, List, Option, ap, arith, length, refl, subst, sym}
use Rattle.std.proofs.lemmas.List.{length-map}
use Rattle.lalrpop_base.specs.Words.{Begins, Bits, Kernels, Rules, items_by, kernels_by}
use Rattle.lalrpop_construction.proofs.theory.closures.TokenTables.{Lists, states_of}
use Rattle.lalrpop_construction.proofs.theory.conflicts.GrownConflicts.{States-of}
use Rattle.lalrpop_construction.proofs.theory.construction.Building.{Building-all}
use Rattle.lalrpop_construction.proofs.theory.construction.NumberedBuilding.{Fewer-left}
use Rattle.lalrpop_grammar.specs.declared.repr.TerminalString.{TerminalString}
use Rattle.lalrpop_numbers.specs.declared.numbers.numbered.Numbered.{Numbered}
use Rattle.lalrpop_states.specs.closures.Closure.{itself}
use Rattle.lalrpop_states.specs.declared.lr1_core.state.State.{State}
use Rattle.canonical_by_number.specs.Closures.{AreFirsts, LetsPass, kernel_in}
use Rattle.canonical_by_number.specs.Edges.{bit_of, bits_of}
use Rattle.canonical_by_number.specs.Kernels.{kernels_in}
use Rattle.canonical_by_number.proofs.Closures.{firsts_kept}
use Rattle.canonical_by_number.proofs.CountedConflicts.{Total-more}
use Rattle.canonical_by_number.proofs.counting.count_all.Goals as goal

pub states-init : goal.states-init
states-init c = record {
  firsts = c.requires.firsts;
  kernels = c.requires.kernels;
  made = ([], c.requires.made, refl);
}

pub next_state-requires-clause-made : goal.next_state-requires-clause-made
next_state-requires-clause-made c = (c.states.invariant.made.0, c.states.invariant.made.1)

pub states-smaller : goal.states-smaller
states-smaller c =
    let items = c.args.numbers.now.items.items in
    let all : List (State Bits) = c.states.invariant.made.0 in
    let step = c.in_ok-next_state.ensures.made c.if-branch.true all c.states.invariant.made.1 in
    Fewer-left itself _ _ _ (λ a b same. same) (kernels_by items (kernels_in c.next_state.new.sets c.next_state.new.kernels)) (all ++ step.state ∷ []) step.made.building c.states.kernels.handed (c.in_ok-next_state.ensures.counted c.if-branch.true)

pub with_state-count-requires-clause-finished : goal.with_state-count-requires-clause-finished
with_state-count-requires-clause-finished c = c.in_ok-next_state.ensures.finished c.if-branch.true

pub with_state-count-requires-clause-edges : goal.with_state-count-requires-clause-edges
with_state-count-requires-clause-edges c = c.in_ok-next_state.ensures.edges c.if-branch.true

pub with_state-count-requires-clause-bits : goal.with_state-count-requires-clause-bits
with_state-count-requires-clause-bits c =
    let listed = ap (λ (bs : List (Option ℕ)). length bs) c.requires.bits in
    omega (arith, listed, length-map c.args.numbers.now.symbols.items (bit_of c.args.lr.now.construction.rules.terminals))

pub states-preserved : goal.states-preserved
states-preserved c =
    let terminals : List TerminalString = c.args.lr.now.construction.rules.terminals in
    let all : List (State Bits) = c.states.invariant.made.0 in
    let step = c.in_ok-next_state.ensures.made c.if-branch.true all c.states.invariant.made.1 in
    record {
      firsts = firsts_kept c.states.sets c.next_state.new.sets c.in_ok-next_state.ensures.kept c.args.numbers.now c.args.firsts.now c.states.invariant.firsts;
      kernels = c.in_ok-next_state.ensures.kernels;
      made = (
        all ++ step.state ∷ [],
        step.made,
        Total-more terminals all step.state _ c.states.count c.with_state-count.result (step.counted terminals) (c.with_state-count.ensures terminals c.requires.bits) c.states.invariant.made.2,
      );
    }

pub returns : goal.returns
returns c =
    let k = c.args.lr.now.construction in
    let items = c.args.numbers.now.items.items in
    let all : List (State Bits) = c.states.invariant.made.0 in
    let kernels : Kernels (List (Numbered Bits)) = kernels_in c.states.sets c.states.kernels in
    let same : c.next_state.new.kernels ≡ c.states.kernels = c.in_ok-next_state.ensures.none c.if-branch.false in
    let end : c.next_state.new.kernels.handed ≡ length c.next_state.new.kernels.list = c.in_ok-next_state.ensures.all c.if-branch.false in
    let whole : c.states.kernels.handed ≡ length c.states.kernels.list = subst (λ (ks : Kernels (List ℕ)). ks.handed ≡ length ks.list) same end in
    let built = Building-all _ _ _ _ (kernels_by items kernels) all c.states.invariant.made.1.building (whole ∙ sym (length-map c.states.kernels.list (kernel_in c.states.sets)) ∙ sym (length-map kernels.list (items_by items))) in
    record {
      states = all;
      made = states_of k all (States-of itself Begins LetsPass Lists k all built);
      counted = c.states.invariant.made.2;
    }
