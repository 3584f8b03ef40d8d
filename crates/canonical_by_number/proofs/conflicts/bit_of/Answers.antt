use Rattle.std.proofs.Common.{◌∙◌, ap, sym}
use Rattle.lalrpop_states.proofs.theory.conflicts.ConflictLemmas.{bit_is_place}
use Rattle.canonical_by_number.specs.Edges.{bit_of}
use Rattle.canonical_by_number.proofs.conflicts.bit_of.Goals as goal

pub returns-in-Terminal : goal.returns-in-Terminal
returns-in-Terminal c =
    let terminals = c.args.terminals.now in
    sym (bit_is_place terminals c.in-Terminal.terminal c.bit.result c.bit.ensures.found c.bit.ensures.only) ∙ ap (bit_of terminals) (sym c.in-Terminal.is)
