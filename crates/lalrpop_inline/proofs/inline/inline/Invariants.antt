use Rattle.std.proofs.Common.{◌≡◌, drop}
use Rattle.lalrpop_inline.specs.Words.{IsMarked, view_of, inlined_by}
use Rattle.lalrpop_inline.proofs.theory.inlining.InlineStages.{Stage}
use Rattle.lalrpop_inline.proofs.theory.inlining.InlineUsers.{MentionedBefore}
use Rattle.lalrpop_inline.proofs.inline.inline.Given as goal

-- with those that are left inlined, the grammar is the old one with all inlined. What mentions one
-- of those that are left mentioned it at first
abbrev pub invariant-loop-name : goal.invariant-loop-name
invariant-loop-name l = record {
  view : inlined_by (drop l.name-index l.name-items) (view_of l.inlined) ≡ inlined_by l.name-items (view_of l.fn.grammar);
  terminals : l.inlined.terminals ≡ l.fn.grammar.terminals;
  algorithm : l.inlined.algorithm ≡ l.fn.grammar.algorithm;
  stage : Stage (IsMarked l.fn.grammar) l.fn.grammar.terminals (drop l.name-index l.name-items) (view_of l.inlined);
  mentioned : MentionedBefore l.fn.grammar (drop l.name-index l.name-items) (view_of l.inlined);
}
