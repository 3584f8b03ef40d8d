-- Grammars that differ only in their places in memory.
use Rattle.std.specs.Prelude.{◌≡◌}
use Rattle.std.specs.List.{AllZip}
use Rattle.lalrpop_grammar.specs.declared.repr.NonterminalString.{NonterminalString}
use Rattle.lalrpop_grammar.specs.declared.repr.grammar.NonterminalData.{NonterminalData}
use Rattle.lalrpop_grammar.specs.declared.repr.grammar.Grammar.{Grammar}

-- entries with equal productions, attributes and spans
pub record IsSameEntry (a b : NonterminalData) : Type 0 where
  pub productions : b.productions.items ≡ a.productions.items
  pub attributes : b.attributes.items ≡ a.attributes.items
  pub span : b.span ≡ a.span

-- grammars with equal names in order, equal entries, terminals, actions and algorithm
pub record IsSameGrammar (a b : Grammar) : Type 0 where
  pub entries : AllZip (λ (x y : NonterminalString × NonterminalData). (y.0 ≡ x.0) × IsSameEntry x.1 y.1) a.nonterminals.entries b.nonterminals.entries
  pub terminals : b.terminals ≡ a.terminals
  pub action_fn_defns : b.action_fn_defns.items ≡ a.action_fn_defns.items
  pub algorithm : b.algorithm ≡ a.algorithm
