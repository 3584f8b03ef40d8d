use Rattle.lalrpop_base.specs.Words.{Limit, Refused}
use Rattle.parse_pictures.proofs.NextTokens.{stop_or_stack}
use Rattle.parse_pictures.proofs.expected.shifts_all.Goals as goal

pub returns-in-Ok : goal.returns-in-Ok
returns-in-Ok g c = record { shifted = (_, c.in-Ok.ensures.outcome); begins = c.in-Ok.ensures.begun }

pub returns-in-Err-Refused : goal.returns-in-Err-Refused
returns-in-Err-Refused g c =
    let stop = rw c.in-Err-Refused.field-0-is at c.in-Err-Refused.ensures.outcome in
    let takes = rw c.in-Err-Refused.field-0-is at c.in-Err-Refused.ensures.begins in record {
      not_shifted = stop_or_stack (Refused stop.0 c.in-Err-Refused.field-0-1) stop.2;
      no_beginning = λ grammar start faithful alone begins. absurd (takes grammar start faithful alone begins);
    }

pub returns-in-Err-Limit : goal.returns-in-Err-Limit
returns-in-Err-Limit g c =
    let stop = rw c.in-Err-Limit.field-0-is at c.in-Err-Limit.ensures.outcome in
    let cut = rw c.in-Err-Limit.field-0-is at c.in-Err-Limit.ensures.limit in record {
      not_shifted = stop_or_stack Limit stop;
      no_beginning = λ grammar start faithful alone begins. cut;
    }
