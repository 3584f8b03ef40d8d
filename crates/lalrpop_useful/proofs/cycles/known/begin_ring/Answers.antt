use Rattle.std.proofs.Common.{List, inl, inr, refl, subst}
use Rattle.std.specs.Prelude.{Contains}
use Rattle.lalrpop_collections.proofs.theory.lists.Members.{Contains-none}
use Rattle.lalrpop_grammar.specs.Words.{productions}
use Rattle.lalrpop_useful.proofs.Types.{NonterminalString}
use Rattle.lalrpop_useful.specs.Words.{DerivesAlone}
use Rattle.lalrpop_useful.specs.declared.cycles.known.Known.{Known}
use Rattle.lalrpop_useful.proofs.theory.useful.KnownCycles.{adds_cyclic, done_known}
use Rattle.lalrpop_useful.proofs.cycles.known.begin_ring.Goals as goal

pub returns-clause-adds : goal.returns-clause-adds
returns-clause-adds c = adds_cyclic (productions c.args.grammar.now) c.args.name.now c.args.known.now.cyclic.keys c.add_name-2.new.set.keys c.in_ok-add_name-2.ensures c.requires.cyclic

pub returns-clause-known : goal.returns-clause-known
returns-clause-known c =
    let g = c.args.grammar.now in
    let k : Known = c.args.known.now in
    let n : Known = record { settled = k.settled; done = c.add_name-3.new.set; cyclic = c.add_name-2.new.set; ring = c.add_name.new.set; onward = c.args.derived } in
    done_known g c.requires.well_formed k n c.args.name.now c.requires.known refl c.in_ok-add_name-3.ensures (returns-clause-adds c)
    (λ b d i j. elim (c.in_ok-add_name.ensures.from b i) [
      | inl old ↦ absurd (Contains-none b (subst (λ (names : List NonterminalString). Contains names b) c.new-ring.ensures.empty old))
      | inr same ↦ subst (λ (x : NonterminalString). DerivesAlone (productions g) x d) same (c.requires.derived d j)
    ])
