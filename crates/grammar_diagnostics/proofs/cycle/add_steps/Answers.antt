use Rattle.std.proofs.Common.{◌≡◌, List, refl, length}
use Rattle.std.specs.Prelude.{Some, slice_get}
use Rattle.std.specs.Borrow.{Bor}
use Rattle.std.proofs.lemmas.Option.{slice_get_read}
use Rattle.lalrpop_grammar.specs.declared.repr.NonterminalString.{NonterminalString}
use Rattle.grammar_diagnostics.proofs.CycleSteps.{each_at}
use Rattle.grammar_diagnostics.proofs.cycle.add_steps.Goals as goal

pub add_step-requires-clause-leads : goal.add_step-requires-clause-leads
add_step-requires-clause-leads c =
    let names : List (Bor NonterminalString) = c.args.names.now in
    let i = c.loop-name.name-index in
    let x : Bor NonterminalString = c.name-item.result in
    let at : slice_get names i ≡ Some x = slice_get_read names (length names) i x refl c.loop-name-test.true c.name-item.is in
    c.requires.leads x.now (each_at names i x at)
