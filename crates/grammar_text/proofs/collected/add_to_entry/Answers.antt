use Rattle.grammar_text.proofs.Growth.{entries_grown}
use Rattle.grammar_text.proofs.collected.add_to_entry.Goals as goal

pub returns-clause-entries : goal.returns-clause-entries
returns-clause-entries c = entries_grown c.args.nonterminals.now c.remove-entry.new.self c.insert.new.self c.args.name c.in_ok-grown.grown c.remove-entry.result c.args.production
    c.remove-entry.ensures.updates.0 c.in_ok-insert.ensures.updates.0 c.remove-entry.ensures.value c.in_ok-grown.ensures
