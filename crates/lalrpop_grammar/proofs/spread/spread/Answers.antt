use Rattle.std.proofs.Common.{◌∙◌, ◌≡◌, ◌<◌, List, ℕ, length, arith, subst}
use Rattle.std.specs.Prelude.{Contains}
use Rattle.lalrpop_collections.specs.lists.Spreading.{IsSent}
use Rattle.lalrpop_collections.proofs.theory.lists.Spreading.{nothing_spread, spread_further, spread_falls, all_spread, ends_read}
use Rattle.lalrpop_grammar.proofs.spread.spread.Goals as goal

pub loop-from-init : goal.loop-from-init
loop-from-init c =
    let counted : c.len.result ≡ length c.args.sets.items = omega (arith, c.len.ensures, c.args.sets.ok) in
    nothing_spread c.args.sets.items c.args.edges.now c.in_ok-waiting.waiting c.requires.counted (c.in_ok-waiting.ensures.limit ∙ counted) (λ k l. c.in_ok-waiting.ensures.all k (omega (arith, l, counted)))

pub send-requires-clause-ends : goal.send-requires-clause-ends
send-requires-clause-ends c to h =
    let listed : c.in-Some.from < length c.args.edges.now = omega (arith, c.in-Some.ensures.within, c.loop-from.invariant.limit, c.requires.counted) in
    let ends = ends_read c.args.edges.now c.in-Some.from c.index-edges-from.result c.deref.result.now listed c.index-edges-from.is c.deref.ensures.value in
    let end : to < length c.args.sets.items = c.requires.in_range c.in-Some.from to (subst (λ (xs : List ℕ). Contains xs to) ends h) in
    omega (arith, end, c.loop-from.invariant.counted)

pub loop-from-smaller : goal.loop-from-smaller
loop-from-smaller c =
    let listed : c.in-Some.from < length c.args.edges.now = omega (arith, c.in-Some.ensures.within, c.loop-from.invariant.limit, c.requires.counted) in
    let ends = ends_read c.args.edges.now c.in-Some.from c.index-edges-from.result c.deref.result.now listed c.index-edges-from.is c.deref.ensures.value in
    let sent = subst (λ (xs : List ℕ). IsSent c.in-Some.from xs (length xs) c.loop-from.sets.items c.send.new.sets.items c.take.new.self c.send.new.waiting) ends c.in_ok-send.ensures in
    spread_falls c.args.sets.items c.args.edges.now c.in-Some.from c.loop-from.sets.items c.send.new.sets.items c.loop-from.waiting c.take.new.self c.send.new.waiting c.loop-from.invariant c.take.ensures.limit c.in-Some.ensures.first sent

pub loop-from-preserved : goal.loop-from-preserved
loop-from-preserved c =
    let listed : c.in-Some.from < length c.args.edges.now = omega (arith, c.in-Some.ensures.within, c.loop-from.invariant.limit, c.requires.counted) in
    let ends = ends_read c.args.edges.now c.in-Some.from c.index-edges-from.result c.deref.result.now listed c.index-edges-from.is c.deref.ensures.value in
    let sent = subst (λ (xs : List ℕ). IsSent c.in-Some.from xs (length xs) c.loop-from.sets.items c.send.new.sets.items c.take.new.self c.send.new.waiting) ends c.in_ok-send.ensures in
    spread_further c.args.sets.items c.args.edges.now c.in-Some.from c.loop-from.sets.items c.send.new.sets.items c.loop-from.waiting c.take.new.self c.send.new.waiting c.loop-from.invariant c.take.ensures.limit c.in-Some.ensures.first sent

pub returns-clause-least : goal.returns-clause-least
returns-clause-least c = all_spread c.args.sets.items c.args.edges.now c.loop-from.sets.items c.loop-from.waiting c.loop-from.invariant c.in_default.ensures.none
