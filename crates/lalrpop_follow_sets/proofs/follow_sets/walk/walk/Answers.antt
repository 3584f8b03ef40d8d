use Rattle.std.proofs.Common.{subst, arith}
use Rattle.std.specs.Prelude.{Some, None}
use Rattle.std.proofs.lemmas.Option.{slice_get_within}
use Rattle.lalrpop_base.specs.Words.{Dotted, AddsThose, with_dot}
use Rattle.lalrpop_follow_sets.proofs.Types.{Nil}
use Rattle.lalrpop_grammar.specs.declared.repr.Production.{Production as OfGrammar}
use Rattle.lalrpop_follow_sets.specs.follow_sets.FollowWalks.{GoesThrough, IsEndOfWalk, IsGoneOver}
use Rattle.lalrpop_follow_sets.proofs.theory.follow_sets.FollowWalks.{ended_through, none_there, number_behind, one_front, stopped_through, symbol_there, walk_begins, walk_ends, walk_more, walk_stops}
use Rattle.lalrpop_follow_sets.proofs.follow_sets.walk.walk.Goals as goal

-- the symbol over which the walk goes is the one after the dot
pub step-requires-clause-behind : goal.step-requires-clause-behind
step-requires-clause-behind c =
    number_behind c.args.pass.now c.requires.pass c.args.from c.args.expansion c.args.ends.now.items c.loop-symbol.state c.loop-symbol.item c.loop-symbol.ends.items c.loop-symbol.invariant c.index.result.now c.index.ensures c.in-Some.symbol c.in-Some.is

pub loop-symbol-init : goal.loop-symbol-init
loop-symbol-init c = walk_begins c.args.pass.now c.args.from c.args.expansion c.requires.expansion.0 c.args.ends.now.items c.requires.expansion.1 c.requires.listed

pub returns-in_default-2-clause-through : goal.returns-in_default-2-clause-through
returns-in_default-2-clause-through c = λ q begun.
    let pass = c.args.pass.now in
    let w = c.loop-symbol.invariant in
    let i : Dotted Nil = with_dot w.production w.dot in
    let s = symbol_there pass c.requires.pass c.args.from c.args.expansion c.args.ends.now.items c.loop-symbol.state c.loop-symbol.item c.loop-symbol.ends.items w c.index.result.now c.index.ensures c.in-Some.symbol c.in-Some.is in
    let gone = subst (IsGoneOver pass c.loop-symbol.state i) c.in_default-2.is (c.in_ok-target.ensures.over i w.numbered) in
    subst (λ (p : OfGrammar). AddsThose (GoesThrough pass c.args.from p) c.args.ends.now.items c.step.new.ends.items) (one_front pass c.args.expansion w.production q w.begun begun)
    (stopped_through pass c.requires.pass c.args.from c.args.expansion c.args.ends.now.items c.loop-symbol.state c.loop-symbol.item c.loop-symbol.ends.items w s.0 s.1 c.step.new.ends.items (c.in_ok-target.ensures.through i w.numbered) gone)

pub returns-in_default-2-clause-end : goal.returns-in_default-2-clause-end
returns-in_default-2-clause-end c = λ q begun.
    let pass = c.args.pass.now in
    let w = c.loop-symbol.invariant in
    let i : Dotted Nil = with_dot w.production w.dot in
    let s = symbol_there pass c.requires.pass c.args.from c.args.expansion c.args.ends.now.items c.loop-symbol.state c.loop-symbol.item c.loop-symbol.ends.items w c.index.result.now c.index.ensures c.in-Some.symbol c.in-Some.is in
    let gone = subst (IsGoneOver pass c.loop-symbol.state i) c.in_default-2.is (c.in_ok-target.ensures.over i w.numbered) in
    subst (λ (p : OfGrammar). IsEndOfWalk pass c.args.from p None) (one_front pass c.args.expansion w.production q w.begun begun)
    (walk_stops pass c.requires.pass c.args.from c.args.expansion c.args.ends.now.items c.loop-symbol.state c.loop-symbol.item c.loop-symbol.ends.items w s.0 s.1 c.step.new.ends.items (c.in_ok-target.ensures.through i w.numbered) gone)

pub overflow_add-item : goal.overflow_add-item
overflow_add-item c =
    let pass = c.args.pass.now in
    let w = c.loop-symbol.invariant in
    let s = symbol_there pass c.requires.pass c.args.from c.args.expansion c.args.ends.now.items c.loop-symbol.state c.loop-symbol.item c.loop-symbol.ends.items w c.index.result.now c.index.ensures c.in-Some.symbol c.in-Some.is in
    let within = slice_get_within pass.numbers.now.items.items c.loop-symbol.item (with_dot w.production w.dot) w.numbered in
    let counted = pass.numbers.now.items.ok.0 in
    let room = pass.numbers.now.items.ok.1 in
    let small = pass.numbers.now.items.small in
    omega arith

pub loop-symbol-smaller : goal.loop-symbol-smaller
loop-symbol-smaller c =
    let w = c.loop-symbol.invariant in
    let within = slice_get_within c.args.pass.now.numbers.now.items.items c.loop-symbol.item (with_dot w.production w.dot) w.numbered in
    omega arith

pub loop-symbol-preserved : goal.loop-symbol-preserved
loop-symbol-preserved c =
    let pass = c.args.pass.now in
    let w = c.loop-symbol.invariant in
    let i : Dotted Nil = with_dot w.production w.dot in
    let s = symbol_there pass c.requires.pass c.args.from c.args.expansion c.args.ends.now.items c.loop-symbol.state c.loop-symbol.item c.loop-symbol.ends.items w c.index.result.now c.index.ensures c.in-Some.symbol c.in-Some.is in
    let gone = subst (IsGoneOver pass c.loop-symbol.state i) c.in-Some-2.is (c.in_ok-target.ensures.over i w.numbered) in
    walk_more pass c.requires.pass c.args.from c.args.expansion c.args.ends.now.items c.loop-symbol.state c.loop-symbol.item c.loop-symbol.ends.items w s.0 s.1 c.step.new.ends.items (c.in_ok-target.ensures.through i w.numbered) c.in-Some-2.target gone

pub returns-clause-through : goal.returns-clause-through
returns-clause-through c = λ q begun.
    let pass = c.args.pass.now in
    let w = c.loop-symbol.invariant in
    let end = none_there pass c.requires.pass c.args.from c.args.expansion c.args.ends.now.items c.loop-symbol.state c.loop-symbol.item c.loop-symbol.ends.items w c.index.result.now c.index.ensures c.in_default.is in
    subst (λ (p : OfGrammar). AddsThose (GoesThrough pass c.args.from p) c.args.ends.now.items c.loop-symbol.ends.items) (one_front pass c.args.expansion w.production q w.begun begun)
    (ended_through pass c.requires.pass c.args.from c.args.expansion c.args.ends.now.items c.loop-symbol.state c.loop-symbol.item c.loop-symbol.ends.items w end)

pub returns-clause-end : goal.returns-clause-end
returns-clause-end c = λ q begun.
    let pass = c.args.pass.now in
    let w = c.loop-symbol.invariant in
    let end = none_there pass c.requires.pass c.args.from c.args.expansion c.args.ends.now.items c.loop-symbol.state c.loop-symbol.item c.loop-symbol.ends.items w c.index.result.now c.index.ensures c.in_default.is in
    subst (λ (p : OfGrammar). IsEndOfWalk pass c.args.from p (Some (c.loop-symbol.state, c.loop-symbol.item))) (one_front pass c.args.expansion w.production q w.begun begun)
    (walk_ends pass c.requires.pass c.args.from c.args.expansion c.args.ends.now.items c.loop-symbol.state c.loop-symbol.item c.loop-symbol.ends.items w end)
