use Rattle.std.proofs.Common.{ne_eqb}
use Rattle.table_data.proofs.PlainTexts.{plain_byte}
use Rattle.table_data.proofs.to_json.is_escaped.Goals as goal

pub returns : goal.returns
returns c no_backslash = plain_byte c.args.byte c.if-byte-lt32.false (ne_eqb c.args.byte 34 c.if-byte-eq34.false) no_backslash
