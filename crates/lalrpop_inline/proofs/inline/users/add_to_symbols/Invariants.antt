use Rattle.std.proofs.Common.{Contains, take}
use Rattle.lalrpop_inline.proofs.Types.{NonterminalString}
use Rattle.lalrpop_grammar.specs.declared.repr.Symbol.TheVariants.{Nonterminal}
use Rattle.lalrpop_inline.specs.Words.{IsMarked, users_at, KeepsUsers}
use Rattle.lalrpop_inline.proofs.inline.users.add_to_symbols.Given as goal

-- the user is under the marked nonterminals among the symbols so far
abbrev pub invariant-loop-symbol : goal.invariant-loop-symbol
invariant-loop-symbol l = record {
  added : (c : NonterminalString) → IsMarked l.grammar c → Contains (take l.symbol-index l.symbols) (Nonterminal c) → Contains (users_at l.users c) l.user;
  kept : KeepsUsers l.initial.users l.users;
}
