use Rattle.std.proofs.Common.{refl}
use Rattle.std.proofs.lemmas.Bool.{false≢true}
use Rattle.lalrpop_grammar.specs.Words.{productions}
use Rattle.lalrpop_useful.specs.declared.cycles.known.Known.{Known}
use Rattle.lalrpop_useful.proofs.theory.useful.KnownCycles.{adds_none, done_known}
use Rattle.lalrpop_useful.proofs.cycles.known.walk_from.Goals as goal

pub begin_ring-requires-clause-derived : goal.begin_ring-requires-clause-derived
begin_ring-requires-clause-derived c b d = (c.in_ok-derived.ensures b).0 d

pub begin_ring-requires-clause-cyclic : goal.begin_ring-requires-clause-cyclic
begin_ring-requires-clause-cyclic c = (c.in_ok-derived.ensures c.args.name.now).0 (c.if-has_key.ensures.0 refl)

pub returns-clause-adds : goal.returns-clause-adds
returns-clause-adds c =
    let k : Known = c.args.known.now in
    adds_none (productions c.args.grammar.now) c.args.name.now k.cyclic.keys k.cyclic.keys refl (λ cyclic. absurd (false≢true (c.if-has_key.ensures.1 ((c.in_ok-derived.ensures c.args.name.now).1 cyclic))))

pub returns-clause-known : goal.returns-clause-known
returns-clause-known c =
    let k : Known = c.args.known.now in
    let n : Known = record { settled = k.settled; done = c.add_name.new.set; cyclic = k.cyclic; ring = k.ring; onward = k.onward } in
    done_known c.args.grammar.now c.requires.well_formed k n c.args.name.now c.requires.known refl c.in_ok-add_name.ensures (returns-clause-adds c) c.requires.known.back
