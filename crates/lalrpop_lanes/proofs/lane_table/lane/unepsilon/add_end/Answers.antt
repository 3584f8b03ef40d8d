use Rattle.std.proofs.Common.{sym, refl}
use mathlib.Core.Bool.{true≢false}
use Rattle.lalrpop_base.specs.Words.{rules_of}
use Rattle.lalrpop_lanes.proofs.theory.follow_sets.Following.{end_gained, no_end}
use Rattle.lalrpop_lanes.proofs.theory.lane_tables.LaneTables.{same_tables}
use Rattle.lalrpop_lanes.proofs.theory.lanes.GainsSome.{on_err}
use Rattle.lalrpop_lanes.proofs.lane_table.lane.unepsilon.add_end.Goals as goal

pub returns-in_ok-add_lookahead-clause-gains : goal.returns-in_ok-add_lookahead-clause-gains
returns-in_ok-add_lookahead-clause-gains g c =
    end_gained (rules_of c.args.automaton.now.grammar.now) c.args.automaton.now.start.now c.args.name.now (record { 0 = c.args.state }) c.args.conflict.index _ _ _ (c.if-equal.ensures.0 refl) c.in_ok-end.ensures c.in_ok-add_lookahead.ensures.added

pub returns-else-equal-clause-gains : goal.returns-else-equal-clause-gains
returns-else-equal-clause-gains g c =
    no_end (rules_of c.args.automaton.now.grammar.now) c.args.automaton.now.start.now c.args.name.now c.args.state c.args.conflict.index c.args.table.now (λ same. true≢false (sym (c.if-equal.ensures.1 same)))

pub returns-in_err-end-clause-err : goal.returns-in_err-end-clause-err
returns-in_err-end-clause-err g c = on_err _ (same_tables c.args.table.now c.args.table.now refl refl refl)
