use Rattle.std.proofs.Common.{List, ℕ, get_or, subst}
use Rattle.std.proofs.lemmas.List.{take_all}
use Rattle.conflict_causes.specs.Extents.{AreCauseTokens}
use Rattle.conflict_causes.proofs.Extents.{no_tokens, same_read, tokens_more}
use Rattle.conflict_causes.proofs.causes.extent.tokens_of.Goals as goal

pub loop-number-init : goal.loop-number-init
loop-number-init c = no_tokens c.args.conflicts.now c.empty_set-set.result c.empty_set-set.ensures

pub loop-number-preserved : goal.loop-number-preserved
loop-number-preserved c =
    let numbers = c.args.numbers.now in
    let i = c.loop-number.number-index in
    tokens_more c.args.conflicts.now numbers i (get_or numbers i 0) c.loop-number.set c.add_tokens.new.set c.loop-number-test.true (same_read numbers i c.loop-number-test.true) c.loop-number.invariant c.in_ok-add_tokens.ensures

pub returns : goal.returns
returns c = subst (λ (xs : List ℕ). AreCauseTokens c.args.conflicts.now xs c.loop-number.set) (take_all c.loop-number.number-index c.args.numbers.now c.loop-number-test.false) c.loop-number.invariant
