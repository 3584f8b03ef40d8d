use Rattle.std.proofs.Common.{subst, List, ℕ, length}
use Rattle.lalrpop_base.specs.Words.{Bits, AreMoved, ArePlaces, parted, stands_first, number_in}
use Rattle.lalrpop_state_graph.proofs.Types.{State}
use Rattle.std.proofs.lemmas.Result.{IfOk-weaker}
use Rattle.lr1_theory.proofs.theory.renumbering.Renumbered.{States-renumbered}
use Rattle.lalrpop_state_graph.proofs.renumber.renumber.Goals as goal

pub returns : goal.returns
returns c =
    let numbers = c.in_ok-numbers.numbers.items in
    let places : ArePlaces stands_first c.args.states.items (length c.args.states.items) numbers = subst (λ (xs : List (State Bits)). ArePlaces stands_first xs (length xs) numbers) c.deref.ensures.value c.in_ok-numbers.ensures in
    IfOk-weaker c.move_states.result _ _ (λ moved h terminals. States-renumbered terminals c.args.states.items moved.items numbers c.requires places (subst (λ (ns : List ℕ). AreMoved (number_in ns) (parted stands_first c.args.states.items) moved.items) c.deref-2.ensures.value h)) c.move_states.ensures
