use Rattle.std.proofs.Common.{◌≡◌}
use Rattle.lalrpop_base.specs.Words.{number_in, retargeted_all}
use Rattle.lalrpop_state_graph.proofs.state_graph.copies.lead_to_copies.Given as goal

-- if no transition that is left leads to a copy, none does
abbrev pub invariant-loop-key : goal.invariant-loop-key
invariant-loop-key g l =
    retargeted_all (number_in l.originals) l._key-iterator ≡ l._key-iterator →
    retargeted_all (number_in l.originals) l.targets.entries ≡ l.targets.entries
