use Rattle.std.proofs.Common.{◌≡◌, ◌≤◌, ◌∙◌, length, subst, sym, rules}
use Rattle.lalrpop_collections.proofs.theory.lists.Halving.{halving_found, halving_none}
use Rattle.lalrpop_grammar.specs.Words.{place}
use Rattle.lalrpop_grammar.proofs.theory.grammars.NameOrders.{name_exact, name_order, name_total}
use Rattle.lalrpop_grammar.proofs.theory.first.FirstNumbers.{place_at, place_none, place_most}
use Rattle.lalrpop_grammar.proofs.first.names.Names.number.Goals as goal

pub returns-in-Ok : goal.returns-in-Ok
returns-in-Ok c =
    let names = c.self.inside.names.items in
    let bound = rw c.deref.ensures.value at c.in-Ok.ensures.bound in
    let ok = rw c.deref.ensures.value at c.in-Ok.ensures.ok in
    let is : c.in-Ok.place ≡ place names c.args.name.now = place_at names c.self.invariant c.in-Ok.place c.args.name.now (halving_found name_order name_exact name_total names c.self.invariant c.args.name.now c.in-Ok.place bound ok) in
    record { place = rw (← c.self.view_is) is; most = rw (← c.self.view_is) (subst (λ k. k ≤ length names) (sym is) (place_most names c.args.name.now)) }

pub returns-in-Err : goal.returns-in-Err
returns-in-Err c =
    let names = c.self.inside.names.items in
    let position = rw c.deref.ensures.value at c.in-Err.ensures.position in
    let count : c.len.result ≡ length names = search rules in
    let is : c.len.result ≡ place names c.args.name.now = count ∙ place_none names c.args.name.now (halving_none name_order name_exact name_total names c.self.invariant c.args.name.now c.in-Err.field-0 position) in
    record { place = rw (← c.self.view_is) is; most = rw (← c.self.view_is) (subst (λ k. k ≤ length names) (sym is) (place_most names c.args.name.now)) }
