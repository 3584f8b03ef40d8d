use Rattle.std.proofs.Common.{◌↔◌}
use Rattle.lalrpop_states.specs.Words.{LeadAlike}
use Rattle.lalrpop_states.proofs.lr1_core.collapsible.lead_alike.Given as goal

abbrev pub invariant-loop-key : goal.invariant-loop-key
invariant-loop-key g l = LeadAlike g.K.Ord.cmp l.states l.key-iterator l.others ↔ LeadAlike g.K.Ord.cmp l.states l.edges.entries l.others
