use Rattle.std.proofs.Common.{refl}
use Rattle.lalrpop_grammar.specs.Words.{productions}
use Rattle.lalrpop_useful.specs.declared.cycles.known.Known.{Known}
use Rattle.lalrpop_useful.proofs.theory.useful.KnownCycles.{adds_cyclic, done_known, ring_back, ring_cyclic}
use Rattle.lalrpop_useful.proofs.cycles.known.join_ring.Goals as goal

pub returns-clause-adds : goal.returns-clause-adds
returns-clause-adds c =
    let g = c.args.grammar.now in
    let k : Known = c.args.known.now in
    let n : Known = record { settled = k.settled; done = c.add_name-3.new.set; cyclic = c.add_name.new.set; ring = c.add_name-2.new.set; onward = k.onward } in
    adds_cyclic (productions g) c.args.name.now k.cyclic.keys n.cyclic.keys c.in_ok-add_name.ensures
    (ring_cyclic g c.requires.well_formed k n c.args.name.now c.requires.known c.args.next.now.keys c.requires.next c.requires.meets c.requires.onward)

pub returns-clause-known : goal.returns-clause-known
returns-clause-known c =
    let g = c.args.grammar.now in
    let k : Known = c.args.known.now in
    let n : Known = record { settled = k.settled; done = c.add_name-3.new.set; cyclic = c.add_name.new.set; ring = c.add_name-2.new.set; onward = k.onward } in
    done_known g c.requires.well_formed k n c.args.name.now c.requires.known refl c.in_ok-add_name-3.ensures (returns-clause-adds c)
    (ring_back g c.requires.well_formed k n c.args.name.now c.requires.known c.args.next.now.keys c.requires.next c.requires.meets c.in_ok-add_name-2.ensures refl)
