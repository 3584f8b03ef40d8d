use Rattle.std.proofs.Common.{refl}
use Rattle.lalrpop_grammar.proofs.theory.grammars.Grammars.{productions_own}
use Rattle.lalrpop_useful.specs.declared.cycles.known.Known.{Known}
use Rattle.lalrpop_useful.proofs.theory.useful.KnownCycles.{settled_adds, settled_known}
use Rattle.lalrpop_useful.proofs.cycles.known.settle.Goals as goal

pub returns-clause-adds : goal.returns-clause-adds
returns-clause-adds c =
    let g = c.args.grammar.now in
    let k : Known = c.args.known.now in
    let n : Known = record { settled = c.add_name.new.set; done = c.add_name-2.new.set; cyclic = c.add_if.new.set; ring = k.ring; onward = k.onward } in
    settled_adds g c.requires.well_formed k n c.args.name.now c.requires.known c.args.next.now.keys c.requires.next
    (productions_own g c.requires.well_formed c.len-names.ensures.ordered) c.requires.settled c.requires.fresh c.has_key.result c.has_key.ensures c.in_ok-add_if.ensures

pub returns-clause-known : goal.returns-clause-known
returns-clause-known c =
    let g = c.args.grammar.now in
    let k : Known = c.args.known.now in
    let n : Known = record { settled = c.add_name.new.set; done = c.add_name-2.new.set; cyclic = c.add_if.new.set; ring = k.ring; onward = k.onward } in
    settled_known g c.requires.well_formed k n c.args.name.now c.requires.known c.args.next.now.keys c.requires.next c.requires.settled c.in_ok-add_name.ensures c.in_ok-add_name-2.ensures (returns-clause-adds c) refl refl
