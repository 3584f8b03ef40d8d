use Rattle.std.proofs.Common.{List, sym, ◌∙◌, subst}
use Rattle.lalrpop_base.specs.Words.{IsFirstSet, HasKnownTerminals}
use Rattle.lalrpop_traces.proofs.Types.{Symbol}
use Rattle.lalrpop_traces.proofs.trace.spelling.first_of.Goals as goal

pub first0-requires : goal.first0-requires
first0-requires c =
    let terminals = c.args.first_sets.now.terminals in
    let P : List Symbol → Type 0 = HasKnownTerminals terminals in
    record { known = subst P (sym c.deref.ensures.value) (c.in_ok-symbols.ensures.known terminals c.requires.known) }

pub returns : goal.returns
returns c =
    let P : List Symbol → Type 0 = λ symbols. IsFirstSet c.args.first_sets.now symbols c.in_ok-set.set in
    record { first = subst P (c.deref.ensures.value ∙ c.in_ok-symbols.ensures.following) c.in_ok-set.ensures.first }
