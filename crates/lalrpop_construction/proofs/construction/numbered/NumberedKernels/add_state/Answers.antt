use Rattle.std.proofs.Common.{List, ap, subst, arith}
use Rattle.lalrpop_base.specs.Words.{AddsOnce, list_exact, numbered_exact}
use Rattle.lalrpop_numbers.specs.declared.numbers.numbered.Numbered.{Numbered}
use Rattle.lalrpop_construction.proofs.theory.states.InsertedKernels.{inserted_differ, inserted_more, inserted_once, inserted_stands}
use Rattle.lalrpop_construction.proofs.construction.numbered.NumberedKernels.add_state.Goals as goal

pub invariant_of-self-2 : goal.invariant_of-self-2
invariant_of-self-2 g c =
    let exact = list_exact (numbered_exact _ g.met.L.Lookahead.equal_is_same) in
    let says = c.in_ok-number.ensures in
    let before = c.self.invariant in
    let more = inserted_more _ exact c.self.inside.kernels.keys c.insert_full.new.self.keys c.args.kernel c.in_ok-number.number says.keys says.stored in
    let few = before.1 in
    (inserted_differ _ exact c.self.inside.kernels.keys c.insert_full.new.self.keys c.args.kernel c.in_ok-number.number says.keys says.stored before.0, omega arith)

pub returns-clause-added : goal.returns-clause-added
returns-clause-added g c =
    let exact = list_exact (numbered_exact _ g.met.L.Lookahead.equal_is_same) in
    let says = c.in_ok-number.ensures in
    let once = inserted_once _ exact c.self.inside.kernels.keys c.insert_full.new.self.keys c.args.kernel c.in_ok-number.number says.keys says.stored in
    subst (λ (old : List (List (Numbered g.row.L.Denot))). AddsOnce old c.insert_full.new.self.keys c.args.kernel) (ap (λ k. k.list) c.self.view_is) once

pub returns-clause-numbered : goal.returns-clause-numbered
returns-clause-numbered g c =
    let exact = list_exact (numbered_exact _ g.met.L.Lookahead.equal_is_same) in
    let says = c.in_ok-number.ensures in
    inserted_stands _ exact c.self.inside.kernels.keys c.insert_full.new.self.keys c.args.kernel c.in_ok-number.number says.keys says.stored

pub returns-clause-differ : goal.returns-clause-differ
returns-clause-differ g c =
    let exact = list_exact (numbered_exact _ g.met.L.Lookahead.equal_is_same) in
    let says = c.in_ok-number.ensures in
    inserted_differ _ exact c.self.inside.kernels.keys c.insert_full.new.self.keys c.args.kernel c.in_ok-number.number says.keys says.stored c.self.invariant.0
