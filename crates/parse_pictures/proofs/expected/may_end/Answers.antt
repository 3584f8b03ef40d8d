use Rattle.lalrpop_base.specs.Words.{Limit, Parsed, Refused, contents_in}
use Rattle.lalrpop_parser.specs.Words.{tree_of}
use Rattle.lr1_theory.proofs.theory.runs.Outcomes.{one_outcome}
use Rattle.parse_pictures.proofs.expected.may_end.Goals as goal

pub returns-in-Ok : goal.returns-in-Ok
returns-in-Ok g c = record { tree = tree_of c.in-Ok.field-0; outcome = c.in-Ok.ensures.outcome; parse = c.in-Ok.ensures.parsed }

pub returns-in-Err-Refused : goal.returns-in-Err-Refused
returns-in-Err-Refused g c =
    let refused = rw c.in-Err-Refused.field-0-is at c.in-Err-Refused.ensures.outcome in
    let parses = rw c.in-Err-Refused.field-0-is at c.in-Err-Refused.ensures.parses in record {
      no_outcome = λ tree parsed. let same = one_outcome (contents_in (g.L.LookaheadInterpret.holds c.args.terminals.now) c.args.states.now) c.args.tokens.items c.args.limit (Parsed tree) (Refused refused.0 c.in-Err-Refused.field-0-1) parsed refused.2 in cc;
      no_parse = λ grammar start faithful alone tree parse. absurd (parses grammar start faithful alone tree parse).2;
    }

pub returns-in-Err-Limit : goal.returns-in-Err-Limit
returns-in-Err-Limit g c =
    let limit = rw c.in-Err-Limit.field-0-is at c.in-Err-Limit.ensures.outcome in
    let parses = rw c.in-Err-Limit.field-0-is at c.in-Err-Limit.ensures.parses in record {
      no_outcome = λ tree parsed. let same = one_outcome (contents_in (g.L.LookaheadInterpret.holds c.args.terminals.now) c.args.states.now) c.args.tokens.items c.args.limit (Parsed tree) Limit parsed limit in cc;
      no_parse = λ grammar start faithful alone tree parse. parses grammar start faithful alone tree parse;
    }
