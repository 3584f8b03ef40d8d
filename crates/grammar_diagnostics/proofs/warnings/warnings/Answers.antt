use Rattle.grammar_diagnostics.proofs.Doubts.{sorted_iff}
use Rattle.grammar_diagnostics.proofs.warnings.warnings.Goals as goal

pub returns : goal.returns
returns c = sorted_iff c.args.grammar.now c.args.start.now c.in_ok-all.all.items c.sort_by_key.new.self.items c.sort_by_key.ensures.permutation c.in_ok-all.ensures
