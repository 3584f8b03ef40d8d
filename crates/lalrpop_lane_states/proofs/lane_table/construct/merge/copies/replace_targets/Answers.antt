use Rattle.std.proofs.Common.{rules}
use Rattle.std.proofs.lemmas.Map.Made.{map_same_pairs}
use Rattle.lalrpop_base.specs.Words.{retargeted}
use Rattle.lalrpop_lane_states.specs.Words.{replaced_number}
use Rattle.lalrpop_lane_states.proofs.lane_table.construct.merge.copies.replace_targets.Goals as goal

pub returns : goal.returns
returns g c = map_same_pairs _ (retargeted (replaced_number c.args.old.0 c.args.new.0)) _ (λ k v b w f' t. search rules) _ _ c.retain.ensures.filtered
