use Rattle.std.proofs.Common.{◌∙◌, ℕ, List, arith, ap, refl}
use Rattle.lalrpop_follow_sets.proofs.Types.{Symbol}
use Rattle.lalrpop_follow_sets.proofs.theory.states.NonterminalEdges.{no_more, one_more, read_known, stops_here}
use Rattle.std.proofs.lemmas.Option.{slice_get-get_or}
use Rattle.std.specs.Prelude.{Some, get_or}
use Rattle.lalrpop_follow_sets.proofs.follow_sets.nodes.add_nodes.Goals as goal

pub loop-edge-init : goal.loop-edge-init
loop-edge-init c = refl

pub offset_bounds-symbols-edge : goal.offset_bounds-symbols-edge
offset_bounds-symbols-edge c =
    let known = read_known c.args.symbols.now c.args.edges.now c.loop-edge.edge-index c.loop-edge-test.true c.requires in
    omega arith

pub bounds-symbols-edge : goal.bounds-symbols-edge
bounds-symbols-edge c =
    read_known c.args.symbols.now c.args.edges.now c.loop-edge.edge-index c.loop-edge-test.true c.requires

pub bounds : goal.bounds
bounds c =
    read_known c.args.symbols.now c.args.edges.now c.loop-edge.edge-index c.loop-edge-test.true c.requires

pub returns-in-Terminal : goal.returns-in-Terminal
returns-in-Terminal c =
    let symbols : List Symbol = c.args.symbols.now in
    let edges : List (ℕ × ℕ) = c.args.edges.now in
    let i = c.loop-edge.edge-index in
    let known = read_known symbols edges i c.loop-edge-test.true c.requires in
    stops_here symbols c.args.state edges i c.loop-edge-test.true c.loop-edge.pairs.items _ c.in-Terminal.field-0 (slice_get-get_or symbols (get_or edges i (0, 0)).0 _ known ∙ ap Some c.in-Terminal.is) c.loop-edge.invariant

pub loop-edge-preserved : goal.loop-edge-preserved
loop-edge-preserved c =
    let symbols : List Symbol = c.args.symbols.now in
    let edges : List (ℕ × ℕ) = c.args.edges.now in
    let i = c.loop-edge.edge-index in
    let known = read_known symbols edges i c.loop-edge-test.true c.requires in
    one_more symbols c.args.state edges i c.loop-edge-test.true c.loop-edge.pairs.items _ c.in-Nonterminal.field-0 (slice_get-get_or symbols (get_or edges i (0, 0)).0 _ known ∙ ap Some c.in-Nonterminal.is) c.push.new.self.items c.in_ok-push-in-Nonterminal.ensures.items c.loop-edge.invariant

pub returns : goal.returns
returns c = no_more c.args.symbols.now c.args.state c.args.edges.now c.loop-edge.edge-index c.loop-edge-test.false c.loop-edge.pairs.items _ c.loop-edge.invariant
