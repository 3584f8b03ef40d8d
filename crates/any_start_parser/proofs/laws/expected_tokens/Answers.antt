use Rattle.any_start_parser.proofs.Expected.{are_expected, may_come, same_next}
use Rattle.any_start_parser.proofs.laws.expected_tokens.Goals as goal

pub returns-clause-right_next : goal.returns-clause-right_next
returns-clause-right_next c = same_next

pub returns-clause-tokens : goal.returns-clause-tokens
returns-clause-tokens c = may_come

pub returns-clause-after : goal.returns-clause-after
returns-clause-after c = are_expected
