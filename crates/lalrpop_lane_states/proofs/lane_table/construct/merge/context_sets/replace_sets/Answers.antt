use Rattle.std.proofs.Common.{rules}
use Rattle.std.proofs.lemmas.Map.Made.{map_same_pairs}
use Rattle.lalrpop_lane_states.specs.Words.{replaced_set}
use Rattle.lalrpop_lane_states.proofs.lane_table.construct.merge.context_sets.replace_sets.Goals as goal

pub returns : goal.returns
returns c = map_same_pairs _ (replaced_set c.args.old c.args.new) _ (λ k v b w f' t. search rules) _ _ c.retain.ensures.filtered
