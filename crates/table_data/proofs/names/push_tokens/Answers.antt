use Rattle.std.proofs.Common.{◌∷◌, [], refl}
use lib.Utf8.{encode}
use Rattle.table_data.specs.Names.{token_json}
use Rattle.table_data.proofs.Loops.{going_step}
use Rattle.table_data.proofs.names.push_tokens.Goals as goal

pub loop-token-preserved : goal.loop-token-preserved
unfolding encode
loop-token-preserved c = record {
  is_text = (44 ∷ [], (refl, refl));
  whole = going_step token_json _ _ _ _ _ _ _ c.in-Some.ensures.steps c.in_ok-push_token.ensures c.loop-token.invariant.whole;
}
