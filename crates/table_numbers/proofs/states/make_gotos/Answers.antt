use Rattle.std.proofs.Common.{◌≡◌, ℕ, List, slice_get, get_or, take, Option, Some, sym, ◌∙◌, ap, subst}
use Rattle.lalrpop_collections.proofs.theory.lists.Places.{slice_get_at}
use Rattle.lalrpop_base.specs.Words.{name_cmp}
use Rattle.lalrpop_grammar.specs.declared.repr.NonterminalString.{NonterminalString}
use Rattle.table_numbers.specs.Lists.{named}
use Rattle.table_numbers.specs.Made.{HasTargets}
use Rattle.table_numbers.proofs.MadeLemmas.{more_named}
use Rattle.table_numbers.proofs.states.make_gotos.Goals as goal

pub loop-number-preserved : goal.loop-number-preserved
loop-number-preserved c =
    let names = c.args.nonterminals.now in
    let pairs = c.args.pairs.now in
    let i = c.loop-number.number-index in
    let pair = get_or pairs i (0, 0) in
    let found = c.in-Some.ensures.lookup in
    let there : slice_get names pair.0 ≡ Some c.in-Some.name.now = slice_get_at names pair.0 c.in-Some.name.now found.3.0 found.1 in
    let copied : slice_get names pair.0 ≡ Some c.in_ok-clone.field-0 = there ∙ ap (λ (x : NonterminalString). Some x) (sym c.in_ok-clone.ensures) in
    subst (λ (xs : List (Option NonterminalString × ℕ)). HasTargets name_cmp c.add_target.new.targets xs) (sym (more_named NonterminalString names pairs i c.in_ok-clone.field-0 c.loop-number-test.true copied))
    (c.in_ok-add_target.ensures (named names (take i pairs)) c.loop-number.invariant)
