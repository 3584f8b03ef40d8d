use Rattle.program_answers.proofs.Known.{told_of_file}
use Rattle.program_answers.proofs.answer.answer_to.Goals as goal

pub returns-in-Some-2 : goal.returns-in-Some-2
returns-in-Some-2 g c = rw c.in-Some.is (told_of_file _ c.args.name.now _ (g.R.Read.remaining c.in-Some.reader) c.answer_to_text.result (rw c.as_str.ensures.value (rw c.in-Some-2.is at c.in_ok-text_of.ensures)) (c.answer_to_text.ensures c.args.name.now))
