use Rattle.std.proofs.Common.{rules}
use Rattle.std.proofs.lemmas.Map.Made.{map_same_pairs}
use Rattle.lalrpop_base.specs.Words.{retargeted, number_in}
use Rattle.lalrpop_state_graph.proofs.renumber.renumber_targets.Goals as goal

pub returns : goal.returns
returns g c = map_same_pairs _ (retargeted (number_in c.args.numbers.now)) _ (λ k v b w f' t. search rules) _ _ c.retain.ensures.filtered
