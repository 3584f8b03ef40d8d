use Rattle.std.proofs.Common.{◌++◌, take}
use Rattle.program_answers.proofs.Written.{parted_more, appends_more}
use Rattle.program_answers.proofs.output.write_bytes.Goals as goal

pub loop-rest-preserved : goal.loop-rest-preserved
loop-rest-preserved g c =
    let was = c.loop-rest.invariant in (
      was.0 ++ take c.in-Ok.taken c.loop-rest.rest.now,
      parted_more c.args.text.now was.0 c.loop-rest.rest.now c.in-Ok.taken was.1,
      appends_more (g.W.Write.contents c.args.out.now) (g.W.Write.contents c.loop-rest.out) (g.W.Write.contents c.write.new.self) was.0 (take c.in-Ok.taken c.loop-rest.rest.now) was.2 c.in-Ok.ensures.bytes,
    )
