use Rattle.std.proofs.Common.{◌≡◌, ◌∙◌, ◌+◌, ◌++◌, ◌∷◌, [], List, ap, subst, sym, take}
use Rattle.std.proofs.lemmas.List.{take_all, take_more}
use Rattle.lalrpop_base.specs.Words.{Bits}
use Rattle.lalrpop_follow_sets.proofs.Types.{Symbol}
use Rattle.lalrpop_follow_sets.specs.follow_sets.FollowWalks.{AreTokensOfSymbols}
use Rattle.lalrpop_follow_sets.proofs.theory.follow_sets.FollowTokens.{tokens_more, tokens_none}
use Rattle.lalrpop_follow_sets.proofs.follow_sets.tokens.tokens_of.Goals as goal

pub loop-symbol-init : goal.loop-symbol-init
loop-symbol-init c = subst (AreTokensOfSymbols c.args.terminals.now []) (sym c.in_ok-tokens.ensures.items) (tokens_none c.args.terminals.now)

pub loop-symbol-preserved : goal.loop-symbol-preserved
loop-symbol-preserved c =
    let symbols : List Symbol = c.args.symbols.now in
    let k = c.loop-symbol.symbol-index in
    let s : Symbol = c.symbol-item.result in
    let old : List Bits = c.loop-symbol.tokens.items in
    let more : take (k + 1) symbols ≡ take k symbols ++ s ∷ [] = take_more symbols k s c.loop-symbol-test.true ∙ ap (λ (x : Symbol). take k symbols ++ x ∷ []) (sym c.symbol-item.is) in
    subst (λ (done : List Symbol). AreTokensOfSymbols c.args.terminals.now done c.push.new.self.items) (sym more)
    (subst (AreTokensOfSymbols c.args.terminals.now (take k symbols ++ s ∷ [])) (sym c.in_ok-push.ensures.items) (tokens_more c.args.terminals.now (take k symbols) old s c.in_ok-token_of.field-0 c.loop-symbol.invariant c.in_ok-token_of.ensures))

pub returns : goal.returns
returns c = subst (λ (done : List Symbol). AreTokensOfSymbols c.args.terminals.now done c.loop-symbol.tokens.items) (take_all c.loop-symbol.symbol-index c.args.symbols.now c.loop-symbol-test.false) c.loop-symbol.invariant
