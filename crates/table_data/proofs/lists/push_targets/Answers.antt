use Rattle.std.proofs.Common.{◌∷◌, [], refl}
use lib.Utf8.{encode}
use Rattle.table_data.specs.Json.{member}
use Rattle.table_data.proofs.Loops.{going_step}
use Rattle.table_data.proofs.lists.push_targets.Goals as goal

pub loop-symbol-preserved : goal.loop-symbol-preserved
unfolding encode
loop-symbol-preserved g c = record {
  is_text = (44 ∷ [], (refl, refl));
  whole = going_step (member (g.K.ToJson.json c.args.naming.now)) _ _ _ _ _ _ _ c.in-Some.ensures.steps c.in_ok-push_target.ensures c.loop-symbol.invariant.whole;
}
