use Rattle.std.proofs.Common.{refl}
use Rattle.grammar_text.proofs.Growth.{collected_marked, entries_marked}
use Rattle.grammar_text.proofs.collected.Collected.add_mark.Goals as goal

pub returns-clause-ok : goal.returns-clause-ok
returns-clause-ok c = λ lines was. collected_marked lines c.args.self.now _ c.args.nonterminal c.args.span was
    (entries_marked c.args.self.now.nonterminals c.remove-entry.new.self c.insert.new.self c.args.nonterminal c.in_ok-marked.marked c.remove-entry.result c.args.span
    c.remove-entry.ensures.updates.0 c.in_ok-insert.ensures.updates.0 c.remove-entry.ensures.value c.in_ok-marked.ensures)
    c.in_ok-insert.ensures.ordered refl refl
