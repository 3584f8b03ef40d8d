use Rattle.grammar_text.proofs.Growth.{collected_same}
use Rattle.grammar_text.proofs.collected.Collected.add.Goals as goal

pub returns-in-Blank-clause-ok : goal.returns-in-Blank-clause-ok
returns-in-Blank-clause-ok c = λ lines was. collected_same lines c.args.self.now c.args.line was c.in-Blank.is
