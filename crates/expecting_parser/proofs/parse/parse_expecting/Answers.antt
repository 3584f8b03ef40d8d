use Rattle.expecting_parser.specs.Expecting.{bits_before}
use Rattle.expecting_parser.proofs.Reported.{failed, if_ok, no_refusal, refused_with}
use Rattle.expecting_parser.proofs.parse.parse_expecting.Goals as goal

pub returns-clause-refused : goal.returns-clause-refused
returns-clause-refused g c =
    refused_with c.in-Err.error _
    (λ refusal expected is found. (is.0, if_ok (λ tokens exact. exact (bits_before g.I.Iterator.next_gives c.args.input c.args.table.now g.H.ParseHandler.takes c.args.limit c.args.handler.now c.parse_keeping.new.handler is.0) is.1) expected found))
    c.reported.result c.reported.ensures c.in-Err.ensures.refused

pub returns-clause-reported : goal.returns-clause-reported
returns-clause-reported g c = no_refusal c.in-Err.error _ c.reported.result c.reported.ensures

pub returns-clause-limit : goal.returns-clause-limit
returns-clause-limit g c = failed c.in-Err.error _ _ c.reported.result c.reported.ensures c.in-Err.ensures.limit

pub returns-clause-unknown : goal.returns-clause-unknown
returns-clause-unknown g c = failed c.in-Err.error _ _ c.reported.result c.reported.ensures c.in-Err.ensures.unknown
