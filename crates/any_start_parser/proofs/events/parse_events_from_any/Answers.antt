use Rattle.lalrpop_parser.proofs.theory.runs.MachineRuns.{if_err, on_ok}
use Rattle.any_start_parser.proofs.Parses.{all_parsed, any_refused, if_refused_then}
use Rattle.any_start_parser.proofs.events.parse_events_from_any.Goals as goal

pub returns-clause-parsed : goal.returns-clause-parsed
returns-clause-parsed g c =
    on_ok (all_parsed c.args.table.now g.H.ParseHandler.takes c.args.limit c.args.below.now c.parse_events.new.handler g.I.Iterator.next_gives c.args.input)
    c.parse_events.result c.parse_events.ensures.parsed

pub returns-clause-refused : goal.returns-clause-refused
returns-clause-refused g c =
    if_err _ _
    (if_refused_then (any_refused c.args.table.now g.H.ParseHandler.takes c.args.limit c.args.below.now c.parse_events.new.handler g.I.Iterator.next_gives c.args.input))
    c.parse_events.result c.parse_events.ensures.refused
