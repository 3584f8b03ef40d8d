use Rattle.program_answers.proofs.Known.{told_of_text}
use Rattle.program_answers.proofs.answer.answer_to_text.Goals as goal

pub returns-in-Ok : goal.returns-in-Ok
returns-in-Ok over c = λ name. told_of_text _ name c.args.text.now c.in-Ok.grammar c.answer_to_grammar.result c.utf8.text c.in-Ok.ensures.no_fault c.in-Ok.ensures.ok c.answer_to_grammar.ensures
