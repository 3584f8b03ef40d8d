use Rattle.std.proofs.Common.{◌≡◌, ◌∙◌, ◌+◌, ◌++◌, ◌∷◌, [], List, ap, sym, subst, take}
use Rattle.std.proofs.lemmas.List.{take_more, take_all}
use Rattle.lalrpop_states.specs.Words.{Dotted}
use Rattle.lalrpop_numbers.specs.Words.{AddsThose, IsStartOf}
use Rattle.lalrpop_numbers.proofs.Types.{Nil, Production}
use Rattle.lalrpop_collections.specs.lists.CheckSets.{IsAdded}
use Rattle.lalrpop_numbers.proofs.theory.numbers.DottedProductions.{starts_more, starts_none}
use Rattle.lalrpop_numbers.proofs.numbers.dotted.add_starts.Goals as goal

pub loop-production-init : goal.loop-production-init
loop-production-init c = starts_none c.args.starts.now.keys

pub loop-production-preserved : goal.loop-production-preserved
loop-production-preserved c =
    let ps : List Production = c.args.productions.now in
    let i = c.loop-production.production-index in
    let p : Production = c.production-item.result in
    let old = c.loop-production.starts.keys in
    let new = c.add_key.new.set.keys in
    let more : take (i + 1) ps ≡ take i ps ++ p ∷ [] = take_more ps i p c.loop-production-test.true ∙ ap (λ (q : Production). take i ps ++ q ∷ []) (sym c.production-item.is) in
    let added = subst (λ (k : Dotted Nil). IsAdded k old new) c.lr0.ensures c.in_ok-add_key.ensures.added in
    subst (λ (qs : List Production). AddsThose (IsStartOf qs) c.args.starts.now.keys new) (sym more)
    (starts_more (take i ps) p c.args.starts.now.keys old new c.loop-production.invariant added)

pub returns : goal.returns
returns c =
    let ps : List Production = c.args.productions.now in
    subst (λ (qs : List Production). AddsThose (IsStartOf qs) c.args.starts.now.keys c.loop-production.starts.keys) (take_all c.loop-production.production-index ps c.loop-production-test.false) c.loop-production.invariant
