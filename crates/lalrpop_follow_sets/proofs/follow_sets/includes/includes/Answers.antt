use Rattle.std.proofs.Common.{◌≡◌, ◌<◌, ◌≤◌, ◌+◌, [], ℕ, List, get_or, arith, length, subst, sym}
use Rattle.std.specs.Prelude.{slice_get, Some}
use Rattle.std.specs.declared.alloc.Global.{Global}
use Rattle.std.specs.declared.vec.Vec.{Vec}
use Rattle.lalrpop_follow_sets.specs.follow_sets.FollowWalks.{GoesThrough, SomeExpansion}
use Rattle.lalrpop_base.specs.Words.{AddsThose}
use Rattle.lalrpop_follow_sets.specs.declared.follow_sets.pass.Pass.{Pass}
use Rattle.lalrpop_follow_sets.proofs.theory.follow_sets.FollowNodes.{state_of_node}
use Rattle.lalrpop_follow_sets.proofs.theory.follow_sets.ExpansionWalks.{WalksFrom, WalksOver, all_includes, all_lookbacks, expansion_front, from_more, from_none, pair_named}
use Rattle.lalrpop_collections.proofs.theory.lists.Places.{slice_get_at}
use Rattle.lalrpop_follow_sets.proofs.follow_sets.includes.includes.Goals as goal

-- the pair that is read has the number of the node
pair_there : (pass : Pass) (node : ℕ) (pair : ℕ × ℕ) → node < pass.nodes.now.pairs.len → pair ≡ get_or pass.nodes.now.pairs.items node pair → slice_get pass.nodes.now.pairs.items node ≡ Some (pair.0, pair.1)
pair_there pass node pair l read = slice_get_at pass.nodes.now.pairs.items node pair (let counted = pass.nodes.now.pairs.ok.0 in omega arith) read

pub loop-node-init : goal.loop-node-init
loop-node-init c = subst (λ (edges : List (Vec ℕ Global)). WalksFrom c.args.pass.now 0 edges c.args.lookback.now.items) (sym c.in_ok-edges.ensures.items) (from_none c.args.pass.now c.requires.pass c.args.lookback.now.items c.requires.empty)

pub walk_all-requires-clause-listed : goal.walk_all-requires-clause-listed
walk_all-requires-clause-listed c =
    let pass = c.args.pass.now in
    let node = c.loop-node.node in
    let pair = c.index.result.now in
    let within : node < pass.nodes.now.pairs.len = let l = c.loop-node-test.true in let e = c.len-node-end.ensures in omega arith in
    let named = pair_named pass c.requires.pass node pair.0 pair.1 (pair_there pass node pair within c.index.ensures) in
    state_of_node pass c.requires.pass node pair.0 named.0 named.2

pub walk_all-requires-clause-expansions : goal.walk_all-requires-clause-expansions
walk_all-requires-clause-expansions c = λ k there.
    let pass = c.args.pass.now in
    let node = c.loop-node.node in
    let pair = c.index.result.now in
    let within : node < pass.nodes.now.pairs.len = let l = c.loop-node-test.true in let e = c.len-node-end.ensures in omega arith in
    let named = pair_named pass c.requires.pass node pair.0 pair.1 (pair_there pass node pair within c.index.ensures) in
    let expansion = expansion_front pass c.requires.pass named.0 c.expansions.result.now (c.expansions.ensures named.0 named.1) k there in
    (expansion.0, expansion.1)

pub walk_all-requires-clause-counted : goal.walk_all-requires-clause-counted
walk_all-requires-clause-counted c = c.loop-node.invariant.listed

pub loop-node-preserved : goal.loop-node-preserved
loop-node-preserved c =
    let pass = c.args.pass.now in
    let node = c.loop-node.node in
    let pair = c.index.result.now in
    let expansions = c.expansions.result.now in
    let within : node < pass.nodes.now.pairs.len = let l = c.loop-node-test.true in let e = c.len-node-end.ensures in omega arith in
    let named = pair_named pass c.requires.pass node pair.0 pair.1 (pair_there pass node pair within c.index.ensures) in
    let through = subst (λ (old : List ℕ). AddsThose (λ n. SomeExpansion pass expansions (λ q. GoesThrough pass pair.0 q n)) old c.walk_all.new.ends.items) c.new-ends.ensures.items c.in_ok-walk_all.ensures.through in
    let over : WalksOver pass node pair.0 expansions [] c.walk_all.new.ends.items c.loop-node.lookback.items c.walk_all.new.lookback.items = record { through = through; noted = c.in_ok-walk_all.ensures.noted } in
    subst (λ (edges : List (Vec ℕ Global)). WalksFrom pass (node + 1) edges c.walk_all.new.lookback.items) (sym c.in_ok-push.ensures.items)
    (from_more pass c.requires.pass node pair.0 named.0 expansions c.loop-node.edges.items c.walk_all.new.ends c.loop-node.lookback.items c.walk_all.new.lookback.items named.2 (c.expansions.ensures named.0 named.1) c.loop-node.invariant over)

-- after all nodes the walks from all nodes are done
all_walked : (pass : Pass) (node count : ℕ) (edges : List (Vec ℕ Global)) (lookback : List (Vec (ℕ × ℕ) Global)) → count ≡ pass.nodes.now.pairs.len → count ≤ node → node ≤ count → WalksFrom pass node edges lookback → WalksFrom pass (length pass.nodes.now.pairs.items) edges lookback
all_walked pass node count edges lookback e l m walks =
    let end : node ≡ length pass.nodes.now.pairs.items = let counted = pass.nodes.now.pairs.ok.0 in omega arith in
    subst (λ (n : ℕ). WalksFrom pass n edges lookback) end walks

pub returns-clause-edges : goal.returns-clause-edges
returns-clause-edges c = all_includes c.args.pass.now c.requires.pass c.loop-node.edges.items c.loop-node.lookback.items
    (all_walked c.args.pass.now c.loop-node.node c.len-node-end.result c.loop-node.edges.items c.loop-node.lookback.items c.len-node-end.ensures c.loop-node-test.false c.loop-node.auto.node-end c.loop-node.invariant)

pub returns-clause-noted : goal.returns-clause-noted
returns-clause-noted c = all_lookbacks c.args.pass.now c.requires.pass c.loop-node.edges.items c.loop-node.lookback.items
    (all_walked c.args.pass.now c.loop-node.node c.len-node-end.result c.loop-node.edges.items c.loop-node.lookback.items c.len-node-end.ensures c.loop-node-test.false c.loop-node.auto.node-end c.loop-node.invariant)
