use Rattle.std.proofs.Common.{◌≡◌, ℕ, List, arith, subst, take}
use Rattle.lalrpop_base.specs.Words.{Bits}
use Rattle.lalrpop_state_graph.proofs.Types.{State}
use Rattle.lalrpop_state_graph.specs.Words.{edges, IsGraphOf}
use Rattle.lalrpop_state_graph.proofs.theory.graphs.GraphCopies.{all_states, one_state}
use Rattle.lalrpop_state_graph.proofs.state_graph.StateGraph.follow_states.Goals as goal

pub loop-number-init : goal.loop-number-init
loop-number-init c = λ handed counted copies graph. graph

pub loop-number-preserved : goal.loop-number-preserved
loop-number-preserved c = λ handed counted copies graph.
    one_state handed c.args.states.now c.args.originals.now copies c.loop-number.number c.index-states-number.result c.loop-number.self c.follow_state.new.self (omega arith) (omega arith) c.index-states-number.is c.in_ok-follow_state.ensures
    (c.loop-number.invariant handed counted copies graph)

pub returns : goal.returns
returns c = λ handed counted copies graph.
    let states : List (State Bits) = c.args.states.now in
    let all : c.loop-number.number ≡ c.args.count = omega arith in
    subst (λ (k : ℕ). IsGraphOf (edges (take k states)) c.loop-number.self) all
    (all_states handed states c.args.originals.now copies c.loop-number.number c.loop-number.self (omega arith) (c.loop-number.invariant handed counted copies graph))
