use Rattle.std.proofs.Common.{string_bytes}
use Rattle.conflict_causes.specs.CauseTexts.{AppendsFirst}
use Rattle.conflict_causes.proofs.text.push_causes.Given as goal

abbrev pub invariant-loop-place : goal.invariant-loop-place
invariant-loop-place l = AppendsFirst l.given.grammar.now l.given.states.now l.given.conflicts.now l.given.steps l.causes l.place (string_bytes l.fn.text) (string_bytes l.text)
