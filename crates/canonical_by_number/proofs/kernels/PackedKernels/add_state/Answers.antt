use Rattle.std.proofs.Common.{List, ℕ, ap, subst, arith}
use Rattle.lalrpop_base.specs.Words.{AddsOnce}
use Rattle.lalrpop_collections.specs.lists.Exact.{text_exact}
use Rattle.lalrpop_construction.proofs.theory.states.InsertedKernels.{inserted_differ, inserted_more, inserted_once, inserted_stands}
use Rattle.canonical_by_number.proofs.kernels.PackedKernels.add_state.Goals as goal

pub invariant_of-self-2 : goal.invariant_of-self-2
invariant_of-self-2 c =
    let exact = text_exact in
    let says = c.in_ok-number.ensures in
    let before = c.self.invariant in
    let more = inserted_more _ exact c.self.inside.kernels.keys c.insert_full.new.self.keys c.args.items c.in_ok-number.number says.keys says.stored in
    let few = before.1 in
    (inserted_differ _ exact c.self.inside.kernels.keys c.insert_full.new.self.keys c.args.items c.in_ok-number.number says.keys says.stored before.0, omega arith)

pub returns-clause-added : goal.returns-clause-added
returns-clause-added c =
    let exact = text_exact in
    let says = c.in_ok-number.ensures in
    let once = inserted_once _ exact c.self.inside.kernels.keys c.insert_full.new.self.keys c.args.items c.in_ok-number.number says.keys says.stored in
    subst (λ (old : List (List ℕ)). AddsOnce old c.insert_full.new.self.keys c.args.items) (ap (λ k. k.list) c.self.view_is) once

pub returns-clause-numbered : goal.returns-clause-numbered
returns-clause-numbered c =
    let exact = text_exact in
    let says = c.in_ok-number.ensures in
    inserted_stands _ exact c.self.inside.kernels.keys c.insert_full.new.self.keys c.args.items c.in_ok-number.number says.keys says.stored

pub returns-clause-differ : goal.returns-clause-differ
returns-clause-differ c =
    let exact = text_exact in
    let says = c.in_ok-number.ensures in
    inserted_differ _ exact c.self.inside.kernels.keys c.insert_full.new.self.keys c.args.items c.in_ok-number.number says.keys says.stored c.self.invariant.0
