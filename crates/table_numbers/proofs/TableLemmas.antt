-- Parse tables do not depend on the items of states.
use Rattle.std.proofs.Common.{◌≡◌, ℕ, [], refl, sym, ◌∙◌}
use Rattle.lalrpop_base.specs.Words.{Contents, action_on}
use Rattle.lalrpop_grammar.specs.declared.lookahead.token.Token.{Token}
use Rattle.lalrpop_grammar.specs.declared.lookahead.token.Token.TheVariants.{Eof, Error, Terminal}
use Rattle.parse_tables.specs.Tables.{IsTableOf}
use Rattle.parse_tables.specs.declared.table.ParseTable.{ParseTable}
use Rattle.table_numbers.specs.Numbers.{with_items}

same_action : (c : Contents) (token : Token) → action_on (with_items [] c) token ≡ action_on c token
same_action c Eof = refl
same_action c Error = refl
same_action c (Terminal t) = refl

-- a table of states is one of the states without items
pub without_items : (t : ParseTable) (states : ℕ → Contents) → IsTableOf t states → IsTableOf t (λ n. with_items [] (states n))
without_items t states is = record {
  actions = λ s bit token next at. is.actions s bit token next at ∙ sym (same_action (states s) token);
  gotos = λ s number name at. is.gotos s number name at;
}
