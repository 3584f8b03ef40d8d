use Rattle.std.proofs.Common.{sym, subst, ◌<◌, length, List}
use Rattle.lalrpop_base.specs.Words.{Bits}
use Rattle.lalrpop_follow_sets.proofs.follow_sets.sets.FollowSets.shifted.Goals as goal

pub shifted_tokens-requires : goal.shifted_tokens-requires
shifted_tokens-requires c x target there = subst (λ (tokens : List Bits). x < length tokens) (sym c.deref.ensures.value) (c.requires x target there)
