use Rattle.std.proofs.Common.{refl, length}
use Rattle.std.proofs.lemmas.Option.{slice_get_read}
use Rattle.grammar_diagnostics.proofs.cycle.step_at.Goals as goal

pub returns : goal.returns
returns c = slice_get_read c.args.steps.now (length c.args.steps.now) c.args.place c.index-steps-place.result refl c.requires c.index-steps-place.is
