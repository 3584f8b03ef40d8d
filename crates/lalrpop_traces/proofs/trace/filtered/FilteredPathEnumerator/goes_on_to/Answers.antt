use Rattle.std.proofs.Common.{rules}
use Rattle.std.proofs.lemmas.Result.{IfOk-weaker}
use Rattle.lalrpop_traces.specs.Words.{paths_over, remaining}
use Rattle.lalrpop_traces.proofs.theory.traces.FilteredWalks.{leaves_all, leaves_none}
use Rattle.lalrpop_traces.proofs.trace.filtered.FilteredPathEnumerator.goes_on_to.Goals as goal

pub returns-then-not-may-clause-on : goal.returns-then-not-may-clause-on
returns-then-not-may-clause-on c = λ _.
    let walk = c.args.self.now in
    leaves_all walk (paths_over walk.base c.args.number) (remaining walk.base) (c.in-Ok.ensures.none (search rules))

pub returns-clause-found : goal.returns-clause-found
returns-clause-found c = IfOk-weaker c.take.result _ _ (λ found is yes. leaves_none c.args.self.now _ _ (is yes)) c.take.ensures.found

pub returns-clause-on : goal.returns-clause-on
returns-clause-on c = IfOk-weaker c.take.result _ _ (λ found is no. leaves_none c.args.self.now _ _ (is no)) c.take.ensures.on
