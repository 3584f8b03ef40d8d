use Rattle.lalrpop_base.specs.Words.{rules_of}
use Rattle.lalrpop_lane_states.proofs.theory.lane_states.ResolvedCopies.{resolved_nothing}
use Rattle.lalrpop_lane_states.proofs.lane_table.construct.LaneTableConstruct.resolve_next.Goals as goal

-- ---- no pass is made
pub returns-then-wait-gt0-clause-resolving : goal.returns-then-wait-gt0-clause-resolving
returns-then-wait-gt0-clause-resolving c handed before = before

pub returns-then-wait-gt0-clause-resolved : goal.returns-then-wait-gt0-clause-resolved
returns-then-wait-gt0-clause-resolved c = resolved_nothing (rules_of c.args.self.now.grammar.now) c.args.self.now.start c.args.first c.args.copying.states.items c.requires.within

pub returns-then-first_is_copied-clause-resolving : goal.returns-then-first_is_copied-clause-resolving
returns-then-first_is_copied-clause-resolving c handed before = before

pub returns-then-first_is_copied-clause-resolved : goal.returns-then-first_is_copied-clause-resolved
returns-then-first_is_copied-clause-resolved c = resolved_nothing (rules_of c.args.self.now.grammar.now) c.args.self.now.start c.args.first c.args.copying.states.items c.requires.within

-- ---- a pass is made
pub resolve_apart-requires-clause-alone : goal.resolve_apart-requires-clause-alone
resolve_apart-requires-clause-alone c = rw c.deref.ensures.value at (c.first_is_copied.ensures c.if-first_is_copied.false)
