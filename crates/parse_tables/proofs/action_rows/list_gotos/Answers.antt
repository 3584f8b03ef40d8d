use Rattle.std.proofs.Common.{◌∙◌, ap}
use Rattle.parse_tables.specs.Codes.{target_of}
use Rattle.parse_tables.proofs.ActionRows.{goto_code}
use Rattle.parse_tables.proofs.action_rows.list_gotos.Goals as goal

pub returns : goal.returns
returns c = record {
  long = c.in_ok-put_targets.ensures.len ∙ c.in_ok-make_zeros.ensures.len;
  each = λ number name at. ap target_of (c.in_ok-put_targets.ensures.put number name at) ∙ goto_code _;
}
