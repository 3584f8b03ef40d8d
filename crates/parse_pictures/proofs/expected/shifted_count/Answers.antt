use Rattle.std.proofs.Common.{◌≡◌, ◌-◌, ◌/◌, ℕ, suc, subst, take, arith}
use Rattle.lalrpop_base.specs.Words.{contents_in}
use Rattle.parse_pictures.specs.NextTokens.{DoesNotShiftAll, ShiftsAll, IsAllShifted, IsShiftingAll}
use Rattle.parse_pictures.proofs.NextTokens.{none_shifted}
use Rattle.parse_pictures.proofs.expected.shifted_count.Goals as goal

pub loop-low-init : goal.loop-low-init
loop-low-init g c =
    let states = contents_in (g.L.LookaheadInterpret.holds c.args.terminals.now) c.args.states.now in
    (omega arith, omega arith, none_shifted states c.args.limit, λ less. absurd (omega arith))

pub loop-low-preserved-then-shifts : goal.loop-low-preserved-then-shifts
loop-low-preserved-then-shifts g c =
    let states = contents_in (g.L.LookaheadInterpret.holds c.args.terminals.now) c.args.states.now in
    let i = c.loop-low.invariant in
    let middle : ℕ = c.loop-low.high - (c.loop-low.high - c.loop-low.low) / 2 in
    let goes : ShiftsAll states c.args.limit c.in_ok-beginning.beginning.items = subst (IsShiftingAll states c.args.limit c.in_ok-beginning.beginning.items) c.if-shifts.true c.in_ok-shifts.ensures in
    (omega arith, i.1, subst (IsAllShifted states c.args.limit) c.in_ok-beginning.ensures goes.shifted, i.3)

pub loop-low-preserved : goal.loop-low-preserved
loop-low-preserved g c =
    let states = contents_in (g.L.LookaheadInterpret.holds c.args.terminals.now) c.args.states.now in
    let i = c.loop-low.invariant in
    let middle : ℕ = c.loop-low.high - (c.loop-low.high - c.loop-low.low) / 2 in
    let next : middle ≡ suc (middle - 1) = omega arith in
    let stops : DoesNotShiftAll states c.args.limit c.in_ok-beginning.beginning.items = subst (IsShiftingAll states c.args.limit c.in_ok-beginning.beginning.items) c.if-shifts.false c.in_ok-shifts.ensures in
    let here : DoesNotShiftAll states c.args.limit (take middle c.args.tokens.now) = subst (DoesNotShiftAll states c.args.limit) c.in_ok-beginning.ensures stops in
    (omega arith, omega arith, i.2, λ less. subst (λ n. DoesNotShiftAll states c.args.limit (take n c.args.tokens.now)) next here)

pub returns : goal.returns
returns g c =
    let states = contents_in (g.L.LookaheadInterpret.holds c.args.terminals.now) c.args.states.now in
    let i = c.loop-low.invariant in
    let same : c.loop-low.high ≡ c.loop-low.low = omega (arith, i.0, c.loop-low-test.false) in record {
      within = omega (arith, i.0, i.1);
      shifted = i.2;
      no_more = λ less. subst (λ n. DoesNotShiftAll states c.args.limit (take (suc n) c.args.tokens.now)) same (i.3 (omega (arith, same, less)));
    }
