use Rattle.std.proofs.Common.{◌≡◌, ℕ, ◌+◌, ◌-◌, ◌/◌, Some, sym, subst, arith}
use Rattle.std.specs.Prelude.{slice_get}
use Rattle.std.specs.declared.cmp.Ordering.TheVariants.{Less, Greater, Equal}
use Rattle.lalrpop_states.specs.Words.{Dotted, production_order}
use Rattle.lalrpop_numbers.proofs.Types.{Nil}
use Rattle.lalrpop_states.proofs.theory.grammars.AscendingItems.{production_exact}
use Rattle.lalrpop_collections.proofs.theory.lists.Members.{place}
use Rattle.lalrpop_collections.proofs.theory.lists.Places.{slice_get_at}
use Rattle.lalrpop_numbers.proofs.theory.numbers.ProductionPlaces.{stands_before, stands_behind}
use Rattle.lalrpop_numbers.proofs.numbers.halving.place_of_production.Goals as goal

pub loop-low-preserved-in-Less : goal.loop-low-preserved-in-Less
loop-low-preserved-in-Less c =
    let i = c.loop-low.invariant in
    let middle : ℕ = c.loop-low.low + (c.loop-low.high - c.loop-low.low) / 2 in
    let met : Dotted Nil = c.index-items-middle.result in
    let there : slice_get c.args.items.now middle ≡ Some met = slice_get_at c.args.items.now middle met (omega arith) c.index-items-middle.is in
    let less : production_order met.production c.args.production.now ≡ Less = subst (λ (j : Dotted Nil). production_order j.production c.args.production.now ≡ Less) c.met.view_is (sym c.in-Less.ensures) in
    record {
      within = i.within;
      meet = omega arith;
      around = λ k j at is.
          let old = i.around k j at is in
          let behind = stands_behind c.args.items.now c.requires middle met there c.args.production.now less k j at is in
          (omega arith, old.1);
    }

pub loop-low-preserved : goal.loop-low-preserved
loop-low-preserved c =
    let i = c.loop-low.invariant in
    let middle : ℕ = c.loop-low.low + (c.loop-low.high - c.loop-low.low) / 2 in
    let met : Dotted Nil = c.index-items-middle.result in
    let there : slice_get c.args.items.now middle ≡ Some met = slice_get_at c.args.items.now middle met (omega arith) c.index-items-middle.is in
    let greater : production_order met.production c.args.production.now ≡ Greater = subst (λ (j : Dotted Nil). production_order j.production c.args.production.now ≡ Greater) c.met.view_is (sym c.in-Greater.ensures) in
    record {
      within = omega arith;
      meet = omega arith;
      around = λ k j at is.
          let old = i.around k j at is in
          (old.0, stands_before c.args.items.now c.requires middle met there c.args.production.now greater k j at is);
    }

pub returns-in-Equal-clause-found : goal.returns-in-Equal-clause-found
returns-in-Equal-clause-found c =
    let i = c.loop-low.invariant in
    let middle : ℕ = c.loop-low.low + (c.loop-low.high - c.loop-low.low) / 2 in
    let met : Dotted Nil = c.index-items-middle.result in
    let there : slice_get c.args.items.now middle ≡ Some met = slice_get_at c.args.items.now middle met (omega arith) c.index-items-middle.is in
    let equal : production_order met.production c.args.production.now ≡ Equal = subst (λ (j : Dotted Nil). production_order j.production c.args.production.now ≡ Equal) c.met.view_is (sym c.in-Equal.ensures) in
    (met, there, production_exact met.production c.args.production.now equal)

pub returns-clause-none : goal.returns-clause-none
returns-clause-none c = λ e j there is.
    let at = place c.args.items.now j there in
    let around = c.loop-low.invariant.around at.0 j at.2 is in
    absurd (omega arith)
