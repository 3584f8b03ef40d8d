use Rattle.std.proofs.Common.{◌≡◌, ℕ, ◌+◌, drop, length, map, slice_index}
use Rattle.lalrpop_base.specs.Words.{CanStandNext, IsBitOf, action_on, contents_of, holds_token, reduction_of}
use Rattle.lalrpop_grammar.specs.declared.lookahead.token.Token.{Token}
use Rattle.parse_tables.proofs.ActionRows.{IsCell}
use Rattle.parse_tables.proofs.action_rows.list_actions.Given as goal

abbrev pub invariant-loop-tokens : goal.invariant-loop-tokens
invariant-loop-tokens l = record {
  long : length l.row.items ≡ length l.terminals + 1;
  each : (bit : ℕ) (token : Token) → CanStandNext token → IsBitOf l.terminals token bit → IsCell l.productions token (action_on (contents_of (holds_token l.terminals) l.state) token) (map (reduction_of (holds_token l.terminals)) (drop l.tokens-index l.tokens-items)) (slice_index l.row.items bit);
}
