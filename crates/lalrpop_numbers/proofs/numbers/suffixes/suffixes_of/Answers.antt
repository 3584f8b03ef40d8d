use Rattle.std.proofs.Common.{◌≡◌, ◌∙◌, ◌+◌, ◌++◌, ◌∷◌, [], List, ap, subst, sym, take}
use Rattle.std.specs.Prelude.{Option}
use Rattle.std.proofs.lemmas.List.{take_all, take_more}
use Rattle.lalrpop_states.specs.Words.{Dotted}
use Rattle.lalrpop_numbers.specs.Words.{AreSuffixes}
use Rattle.lalrpop_numbers.proofs.Types.{Nil}
use Rattle.lalrpop_numbers.specs.declared.numbers.suffixes.Suffix.{Suffix}
use Rattle.lalrpop_numbers.proofs.theory.numbers.Suffixes.{suffixes_more, suffixes_none}
use Rattle.lalrpop_numbers.proofs.numbers.suffixes.suffixes_of.Goals as goal

pub loop-item-init : goal.loop-item-init
loop-item-init c = subst (AreSuffixes c.args.first_sets.now []) (sym c.new-suffixes.ensures.items) (suffixes_none c.args.first_sets.now)

pub loop-item-preserved : goal.loop-item-preserved
loop-item-preserved c =
    let items : List (Dotted Nil) = c.args.items.now in
    let k = c.loop-item.item-index in
    let i : Dotted Nil = c.item-item.result in
    let old : List (Option Suffix) = c.loop-item.suffixes.items in
    let more : take (k + 1) items ≡ take k items ++ i ∷ [] = take_more items k i c.loop-item-test.true ∙ ap (λ (j : Dotted Nil). take k items ++ j ∷ []) (sym c.item-item.is) in
    subst (λ (done : List (Dotted Nil)). AreSuffixes c.args.first_sets.now done c.push.new.self.items) (sym more)
    (subst (AreSuffixes c.args.first_sets.now (take k items ++ i ∷ [])) (sym c.in_ok-push.ensures.items) (suffixes_more c.args.first_sets.now (take k items) old i c.in_ok-suffix_of.field-0 c.loop-item.invariant c.in_ok-suffix_of.ensures))

pub returns : goal.returns
returns c =
    let items : List (Dotted Nil) = c.args.items.now in
    subst (λ (done : List (Dotted Nil)). AreSuffixes c.args.first_sets.now done c.loop-item.suffixes.items) (take_all c.loop-item.item-index items c.loop-item-test.false) c.loop-item.invariant
