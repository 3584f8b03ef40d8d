use Rattle.std.proofs.Common.{subst, List, ℕ}
use Rattle.std.specs.Prelude.{get_or}
use Rattle.std.proofs.lemmas.List.{take_all}
use Rattle.lalrpop_construction.specs.Words.{with_tokens}
use Rattle.lalrpop_construction.proofs.theory.closures.PropagatedItems.{read_within}
use Rattle.canonical_by_number.specs.TokenSets.{set_at}
use Rattle.canonical_by_number.specs.Closures.{GathersNumbers}
use Rattle.canonical_by_number.proofs.TokenSets.{kept_within}
use Rattle.canonical_by_number.proofs.Closures.{Gathers-nothing}
use Rattle.canonical_by_number.proofs.Gathering.{Expansions_gathered-more}
use Rattle.canonical_by_number.proofs.closure.gather_expansions.Goals as goal

pub loop-number-init : goal.loop-number-init
loop-number-init c = Gathers-nothing c.args.sets.now c.args.table.now c.requires.table

pub join-requires-clause-known : goal.join-requires-clause-known
join-requires-clause-known c = c.loop-number.invariant.known

pub join-requires-clause-within : goal.join-requires-clause-within
join-requires-clause-within c = kept_within c.args.sets.now c.loop-number.sets c.loop-number.invariant.kept c.args.tokens c.requires.tokens

pub loop-number-preserved : goal.loop-number-preserved
loop-number-preserved c =
    let i = c.loop-number.number-index in
    let x = get_or c.args.expansions.now i 0 in
    let says = c.in_ok-join.ensures in
    Expansions_gathered-more c.args.sets.now c.loop-number.sets c.join.new.sets c.args.table.now c.loop-number.table c.join.new.self c.args.tokens c.args.expansions.now i x c.loop-number-test.true (read_within c.args.expansions.now i c.loop-number-test.true) c.requires.tokens c.loop-number.invariant _ says.kept says.known says.joined says.differ

pub returns : goal.returns
returns c =
    subst (λ (xs : List ℕ). GathersNumbers (with_tokens (set_at c.args.sets.now c.args.tokens) xs) c.args.sets.now c.loop-number.sets c.args.table.now c.loop-number.table) (take_all c.loop-number.number-index c.args.expansions.now c.loop-number-test.false) c.loop-number.invariant
