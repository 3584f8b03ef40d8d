use Rattle.std.proofs.Common.{arith}
use Rattle.lalrpop_check.proofs.theory.check.ExpectedKernels.{all_rise}
use Rattle.lalrpop_check.proofs.check.numbered_states.kernels.rise.Goals as goal

pub loop-place-init : goal.loop-place-init
loop-place-init c j a b less at_a at_b = absurd (omega (arith, less))

pub returns : goal.returns
returns c = λ h. all_rise c.args.kernel.now (λ j a b l at_a at_b. c.loop-place.invariant j a b (omega (arith, l)) at_a at_b)
