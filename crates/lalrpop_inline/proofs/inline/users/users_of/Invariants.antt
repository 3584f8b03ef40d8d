use Rattle.std.proofs.Common.{◌≡◌, ◌++◌, List}
use Rattle.lalrpop_inline.proofs.Types.{NonterminalData, NonterminalString}
use Rattle.lalrpop_inline.proofs.theory.inlining.InlineUsers.{AreUsersOf}
use Rattle.lalrpop_inline.proofs.inline.users.users_of.Given as goal

-- the users so far are those of the entries so far
abbrev pub invariant-loop-name : goal.invariant-loop-name
invariant-loop-name l = (done : List (NonterminalString × NonterminalData)) × (done ++ l.name-iterator ≡ l.grammar.nonterminals.entries) × AreUsersOf l.grammar done l.users
