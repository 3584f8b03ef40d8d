use Rattle.std.proofs.Common.{◌≡◌, drop, map}
use Rattle.lalrpop_states.specs.Words.{holds_token, reduction_of}
use Rattle.lalrpop_grammar.specs.Words.{reduction_on}
use Rattle.lalrpop_states.proofs.lr1_core.actions.first_reduction.Given as goal

-- the first reduction on the token among those that are left is the first of all
abbrev pub invariant-loop-reduction : goal.invariant-loop-reduction
invariant-loop-reduction l =
    reduction_on (map (reduction_of (holds_token l.terminals)) (drop l.reduction-index l.reduction-items)) l.token
    ≡ reduction_on (map (reduction_of (holds_token l.terminals)) l.state.reductions.items) l.token
