use Rattle.std.proofs.Common.{◌≡◌, drop, map}
use Rattle.lalrpop_base.specs.Words.{holds_token, reduction_of, reduction_on}
use Rattle.lalrpop_parser.proofs.interpret.lookahead.TokenSetLookaheadInterpret.reduction.Given as goal

-- the first reduction with the token among those that are left is the first one of all
abbrev pub invariant-loop-reduction : goal.invariant-loop-reduction
invariant-loop-reduction l =
    reduction_on (map (reduction_of (holds_token l.terminals)) (drop l.reduction-index l.reduction-items)) l.token
    ≡ reduction_on (map (reduction_of (holds_token l.terminals)) l.state.reductions.items) l.token
