use Rattle.std.proofs.Common.{◌≡◌, arith}
use Rattle.lalrpop_base.specs.Words.{IsAtStart, productions}
use Rattle.lr1_theory.proofs.theory.states.CheckStates.{same_closure}
use Rattle.lalrpop_check.proofs.check.states.is_right_first.Goals as goal

pub returns : goal.returns
returns c =
    let g = c.args.grammar.now in
    let same = same_closure g (IsAtStart (productions g) c.args.start.now) c.in_ok-closure.closure.keys c.args.here.now.keys c.in_ok-closure.ensures in
    let test = c.if-number-gt0.false in
    let zero : c.args.number ≡ 0 = omega arith in
    (λ h at. same.0 (c.have_same.ensures.0 h), λ h. c.have_same.ensures.1 (same.1 (h zero)))
