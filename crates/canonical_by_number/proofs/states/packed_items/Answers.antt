use Rattle.std.proofs.Common.{◌∙◌, List, Some, ap, arith, subst, sym}
use Rattle.std.proofs.lemmas.Option.{slice_get_within}
use Rattle.std.proofs.lemmas.List.{take_all}
use Rattle.lalrpop_base.specs.Words.{Bits}
use Rattle.lalrpop_collections.proofs.theory.lists.Members.{Contains-none}
use Rattle.lalrpop_numbers.specs.declared.numbers.numbered.Numbered.{Numbered}
use Rattle.canonical_by_number.specs.Closures.{ArePackedIn, kernel_in}
use Rattle.canonical_by_number.proofs.Beginning.{Items-more, Packed-more}
use Rattle.canonical_by_number.proofs.TokenSets.{keeps_all, keeps_then}
use Rattle.canonical_by_number.proofs.states.packed_items.Goals as goal

pub loop-item-init : goal.loop-item-init
loop-item-init c = record {
  kept = keeps_all c.args.sets.now;
  packed = subst (ArePackedIn c.args.sets.now) (sym c.new-packed.ensures) (λ e h. absurd (Contains-none e h));
  items = ap (kernel_in c.args.sets.now) c.new-packed.ensures;
}

pub returns-clause-kept : goal.returns-clause-kept
returns-clause-kept c = c.loop-item.invariant.kept

pub returns-clause-packed : goal.returns-clause-packed
returns-clause-packed c = c.loop-item.invariant.packed

pub returns-clause-items : goal.returns-clause-items
returns-clause-items c = c.loop-item.invariant.items ∙ take_all c.loop-item.item-index c.args.items.now c.loop-item-test.false

pub loop-item-preserved : goal.loop-item-preserved
loop-item-preserved c =
    let i = c.loop-item.item-index in
    let item : Numbered Bits = c.item-item.result in
    let before = c.loop-item.invariant in
    let now : List Bits = c.loop-item.sets in
    let next : List Bits = c.number_of.new.self in
    let says = c.in_ok-tokens.ensures in
    let at = says.number ∙ ap (λ (s : Bits). Some s) c.in_ok-clone.ensures in
    let push = rw c.pair_of.ensures at c.in_ok-push.ensures.ok in
    record {
      kept = keeps_then c.args.sets.now now next before.kept says.kept;
      packed = subst (ArePackedIn next) (sym push) (Packed-more now next says.kept says.few c.args.items.now i item c.loop-item-test.true c.item-item.is c.in_ok-tokens.tokens at c.loop-item.packed before.packed before.items);
      items = ap (kernel_in next) push ∙ Items-more now next says.kept says.few c.args.items.now i item c.loop-item-test.true c.item-item.is c.in_ok-tokens.tokens at c.loop-item.packed before.packed before.items;
    }

pub pair_of-requires-clause-first : goal.pair_of-requires-clause-first
pair_of-requires-clause-first c = c.requires c.item-item.result (c.loop-item.item-index, c.loop-item-test.true, sym c.item-item.is)

pub pair_of-requires-clause-second : goal.pair_of-requires-clause-second
pair_of-requires-clause-second c =
    let l = slice_get_within c.number_of.new.self c.in_ok-tokens.tokens _ c.in_ok-tokens.ensures.number in
    omega (arith, l, c.in_ok-tokens.ensures.few)
