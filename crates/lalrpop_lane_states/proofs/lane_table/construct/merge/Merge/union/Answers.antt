use Rattle.std.proofs.lemmas.Result.{IfOk-weaker}
use Rattle.lalrpop_lane_states.proofs.theory.merges.Merges.{contexts_counted, union_advances, union_united}
use Rattle.lalrpop_lane_states.proofs.lane_table.construct.merge.Merge.union.Goals as goal

pub union-requires-clause-counted : goal.union-requires-clause-counted
union-requires-clause-counted c = contexts_counted c.args.self.now c.requires.ready c.args.source c.args.target c.requires.source c.requires.target

pub returns-clause-advances : goal.returns-clause-advances
returns-clause-advances c = union_advances c.args.self.now c.requires.ready c.union.new.self c.args.source c.args.target c.requires.source c.requires.target c.union.result c.union.ensures.joined c.union.ensures.err

pub returns-clause-united : goal.returns-clause-united
returns-clause-united c = IfOk-weaker c.union.result _ _ (λ b h. union_united c.args.self.now c.requires.ready c.union.new.self c.args.source c.args.target c.requires.source c.requires.target b h) c.union.ensures.joined
