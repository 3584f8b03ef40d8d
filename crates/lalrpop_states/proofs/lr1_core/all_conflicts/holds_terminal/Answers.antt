use Rattle.std.proofs.Common.{◌↔◌, subst}
use Rattle.std.specs.Prelude.{IsTrue}
use Rattle.lalrpop_grammar.specs.Words.{HasToken}
use Rattle.lalrpop_grammar.specs.declared.lookahead.token.Token.TheVariants.{Terminal as TokenOf}
use Rattle.lalrpop_states.proofs.Types.{TerminalString}
use Rattle.lalrpop_states.proofs.lr1_core.all_conflicts.holds_terminal.Goals as goal

pub returns : goal.returns
returns c = subst (λ (t : TerminalString). IsTrue c.contains.result ↔ HasToken c.args.terminals.now c.args.held.now (TokenOf t)) c.in_ok-clone.ensures c.contains.ensures
