use Rattle.std.proofs.Common.{◌≡◌, List, subst, sym, map, Some}
use Rattle.std.proofs.lemmas.Option.{IfSome_then}
use Rattle.std.proofs.lemmas.Result.{IfOk-weaker}
use Rattle.lalrpop_check.specs.Words.{IsKernelOf}
use Rattle.lalrpop_grammar.proofs.theory.grammars.Grammars.{productions_own}
use Rattle.lalrpop_check.proofs.Types.{Nil}
use Rattle.lalrpop_numbers.specs.declared.numbers.numbered.Numbered.{Numbered}
use Rattle.lalrpop_construction.specs.declared.construction.numbered_state.NumberedState.{NumberedState}
use Rattle.lalrpop_check.proofs.theory.check.ExpectedKernels.{start_kernel}
use Rattle.lalrpop_check.proofs.theory.check.NumberedSteps.{Places-all, Places-none}
use Rattle.lalrpop_check.proofs.check.numbered_states.listed.listed_by_number.Goals as goal

pub list_states-requires-clause-list : goal.list_states-requires-clause-list
list_states-requires-clause-list c = Places-none c.args.lr.now.construction.rules c.args.lr.now.construction.start c.args.numbers.now c.args.states.now c.in_ok-list.list.items c.in_ok-list.ensures

pub list_states-requires-clause-start : goal.list_states-requires-clause-start
list_states-requires-clause-start c =
    let g = c.grammar-grammar.result.now in
    let own = productions_own g c.grammar-grammar.ensures.well_formed c.len-names.ensures.ordered in
    subst (λ (kernel : List (Numbered Nil)). IsKernelOf c.args.lr.now.construction c.args.numbers.now 0 kernel) (sym c.as_slice.ensures)
    (start_kernel c.args.lr.now.construction c.args.numbers.now c.in_ok-start.start g c.grammar-grammar.ensures.rules c.grammar-grammar.ensures.first c.grammar-grammar.ensures.well_formed own c.in_ok-start.ensures.known c.in_ok-start.ensures.items c.in_ok-start.ensures.kernel)

pub returns : goal.returns
returns c =
    let g = c.args.lr.now.construction.rules in
    let start = c.args.lr.now.construction.start in
    let places = c.list_states.new.list.items in
    let all = λ (list : List NumberedState) (same : places ≡ map Some list). Places-all g start c.args.numbers.now c.args.states.now places list same c.in_ok-is_whole.ensures in
    IfOk-weaker c.all_listed.result _ _ (λ answer found. IfSome_then answer found (λ list same. all list.items same)) c.all_listed.ensures
