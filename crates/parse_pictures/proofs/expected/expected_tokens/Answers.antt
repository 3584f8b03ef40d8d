use Rattle.std.proofs.Common.{◌≡◌, ◌+◌, [], ◌∷◌, ◌++◌, take, ap, sym, subst, ◌∙◌}
use Rattle.std.proofs.lemmas.List.{take_all, take_more}
use Rattle.lalrpop_base.specs.Words.{contents_in}
use Rattle.parse_pictures.specs.NextTokens.{AreNext, IsEnding, no_next}
use Rattle.parse_pictures.proofs.expected.expected_tokens.Goals as goal

pub loop-terminal-init : goal.loop-terminal-init
loop-terminal-init g c =
    let states = contents_in (g.L.LookaheadInterpret.holds c.args.terminals.now) c.args.states.now in
    subst (λ us. AreNext states c.args.limit c.args.before.now [] us) (sym c.new-next.ensures.items) no_next

pub loop-terminal-preserved : goal.loop-terminal-preserved
loop-terminal-preserved g c =
    let states = contents_in (g.L.LookaheadInterpret.holds c.args.terminals.now) c.args.states.now in
    let all = c.all-listed.result.now in
    let i = c.loop-terminal.terminal-index in
    let t = c.terminal-item.result in
    let more : take (i + 1) all ≡ take i all ++ t ∷ [] = take_more all i t c.loop-terminal-test.true ∙ ap (λ x. take i all ++ x ∷ []) (sym c.terminal-item.is) in
    subst (λ l. AreNext states c.args.limit c.args.before.now l c.push_if_next.new.next.items) (sym more)
    (c.in_ok-push_if_next.ensures (take i all) c.loop-terminal.invariant)

pub returns-clause-terminals : goal.returns-clause-terminals
returns-clause-terminals g c =
    let states = contents_in (g.L.LookaheadInterpret.holds c.args.terminals.now) c.args.states.now in
    let all = c.all-listed.result.now in
    let every : take c.loop-terminal.terminal-index all ≡ c.args.terminals.now = take_all c.loop-terminal.terminal-index all c.loop-terminal-test.false ∙ c.all-listed.ensures.value in
    subst (λ l. AreNext states c.args.limit c.args.before.now l c.loop-terminal.next.items) every c.loop-terminal.invariant

pub returns-clause-end : goal.returns-clause-end
returns-clause-end g c =
    let states = contents_in (g.L.LookaheadInterpret.holds c.args.terminals.now) c.args.states.now in
    subst (λ l. IsEnding states c.args.limit l c.in_ok-end.end) c.in_ok-copy.ensures c.in_ok-end.ensures
