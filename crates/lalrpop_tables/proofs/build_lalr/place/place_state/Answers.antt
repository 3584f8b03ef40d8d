use Rattle.std.proofs.Common.{◌<◌, ◌≤◌, List, length, refl, arith}
use Rattle.std.proofs.lemmas.Result.{on_ok_weaker}
use Rattle.lalrpop_base.specs.Words.{Bits}
use Rattle.lalrpop_tables.proofs.Types.{State}
use Rattle.lalrpop_states.proofs.theory.collapse.Merging.{Places-joined, Places-pushed}
use Rattle.lalrpop_collections.proofs.theory.lists.Places.{slice_get_at}
use Rattle.lalrpop_tables.proofs.build_lalr.place.place_state.Goals as goal

pub returns-then-number-len : goal.returns-then-number-len
returns-then-number-len c =
    let state : State Bits = c.args.state in
    let old : List (State Bits) = c.args.merged.now.items in
    let merged : State Bits = c.index_mut.result.now in
    let within : state.index.0 < length old = omega (arith, c.if-number-len.true, c.len.ensures) in
    let at = slice_get_at old state.index.0 merged within c.index_mut.ensures.value in
    on_ok_weaker c.join_state.result (λ j. Places-joined state merged c.join_state.new.merged old _ at refl within j) c.join_state.ensures

pub returns : goal.returns
returns c =
    let old : List (State Bits) = c.args.merged.now.items in
    let past : length old ≤ c.args.state.index.0 = omega (arith, c.if-number-len.false, c.len.ensures) in
    Places-pushed c.args.state old c.push.new.self.items past c.in_ok-push.ensures.items
