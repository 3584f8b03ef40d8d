use Rattle.std.proofs.Common.{Contains, take}
use Rattle.lalrpop_inline.proofs.Types.{NonterminalString, Production}
use Rattle.lalrpop_grammar.specs.declared.repr.Symbol.TheVariants.{Nonterminal}
use Rattle.lalrpop_inline.specs.Words.{IsMarked, users_at, KeepsUsers}
use Rattle.lalrpop_inline.proofs.inline.users.add_to_mentioned.Given as goal

-- the user is under the marked nonterminals that the productions so far mention
abbrev pub invariant-loop-production : goal.invariant-loop-production
invariant-loop-production l = record {
  added : (c : NonterminalString) (p : Production) → IsMarked l.grammar c → Contains (take l.production-index l.productions) p → Contains p.symbols (Nonterminal c) → Contains (users_at l.users c) l.user;
  kept : KeepsUsers l.initial.users l.users;
}
