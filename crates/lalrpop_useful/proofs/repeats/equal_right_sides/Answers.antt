use Rattle.std.proofs.Common.{◌≡◌, [], List, length, rules, subst}
use Rattle.lalrpop_useful.proofs.Types.{NonterminalData, NonterminalString, Production}
use Rattle.lalrpop_useful.specs.Words.{AddsRepeats, RepeatsBelow}
use Rattle.lalrpop_useful.proofs.theory.useful.Repeats.{IsSearching, Searching-start, Searching-step, Searching-end}
use Rattle.lalrpop_useful.proofs.repeats.equal_right_sides.Goals as goal

pub loop-name-init : goal.loop-name-init
loop-name-init c =
    let entries = c.args.grammar.now.nonterminals.entries in
    let all : c.into_iter-name-iterator.result ≡ c.args.grammar.now.nonterminals.entries = search rules in
    let none : c.new-repeats.result.items ≡ [] = search rules in
    rw all (Searching-start entries c.new-repeats.result.items none)

pub loop-name-preserved : goal.loop-name-preserved
loop-name-preserved c =
    let old = c.loop-name.repeats.items in
    let new = c.add_repeats.new.repeats.items in
    Searching-step _ _ c.args.grammar.now.nonterminals.entries _ _ old new c.in-Some.ensures.steps c.loop-name.invariant
    (subst (λ (ps : List Production). AddsRepeats (RepeatsBelow ps (length ps)) old new) c.deref.ensures.value c.in_ok-add_repeats.ensures)

pub returns : goal.returns
returns c =
    let g = c.args.grammar.now in
    record { repeats = Searching-end g c.iter-name-items.ensures.ordered c.loop-name.repeats.items (subst (λ (es : List (NonterminalString × NonterminalData)). IsSearching g.nonterminals.entries es c.loop-name.repeats.items) c.in-None.ensures.steps.0 c.loop-name.invariant) }
