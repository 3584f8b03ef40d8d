use Rattle.std.proofs.Common.{◌≡◌, ◌∙◌, ◌+◌, ◌++◌, ◌∷◌, [], subst, sym, refl, ap, take, List}
use Rattle.std.proofs.lemmas.List.{take_more, take_all}
use Rattle.lalrpop_check.proofs.Types.{Production}
use Rattle.lalrpop_base.specs.Words.{Sends, IsPlaceAtStart}
use Rattle.lr1_theory.proofs.theory.check.CheckSending.{Begun-none, Begun-more}
use Rattle.lalrpop_check.proofs.check.carrying.send_productions.Goals as goal

pub loop-production-init : goal.loop-production-init
loop-production-init c = Begun-none c.args.state c.args.tokens.now c.args.table.now.entries c.args.queue.now.items

pub loop-production-preserved : goal.loop-production-preserved
loop-production-preserved c =
    let ps : List Production = c.productions_for-production-items.result.now in
    let i = c.loop-production.production-index in
    let p : Production = c.production-item.result in
    let more : take (i + 1) ps ≡ take i ps ++ p ∷ [] = take_more ps i p c.loop-production-test.true ∙ ap (λ (q : Production). take i ps ++ q ∷ []) (sym c.production-item.is) in
    subst (λ (qs : List Production). Sends (IsPlaceAtStart c.args.state qs) c.args.tokens.now c.args.table.now.entries c.send.new.table.entries c.args.queue.now.items c.send.new.queue.items) (sym more)
    (Begun-more c.args.state (take i ps) p _ c.args.tokens.now _ _ _ _ _ _ refl refl refl c.loop-production.invariant c.in_ok-send.ensures)

pub returns : goal.returns
returns c =
    let ps : List Production = c.productions_for-production-items.result.now in
    subst (λ (qs : List Production). Sends (IsPlaceAtStart c.args.state qs) c.args.tokens.now c.args.table.now.entries c.loop-production.table.entries c.args.queue.now.items c.loop-production.queue.items) (take_all c.loop-production.production-index ps c.loop-production-test.false ∙ c.productions_for-production-items.ensures) c.loop-production.invariant
