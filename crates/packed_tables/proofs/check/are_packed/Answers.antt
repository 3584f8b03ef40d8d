use Rattle.std.proofs.Common.{ℕ, List, subst}
use Rattle.packed_tables.specs.Packed.{IsUsual}
use Rattle.packed_tables.proofs.check.are_packed.Goals as goal

pub returns : goal.returns
returns c = λ all. record {
  action_rows = c.have_lengths.ensures.actions c.if-not-have_lengths.false;
  goto_rows = c.have_lengths.ensures.gotos c.if-not-have_lengths.false;
  reductions = c.have_lengths.ensures.reductions c.if-not-have_lengths.false;
  state_sets = c.have_lengths.ensures.sets c.if-not-have_lengths.false;
  each_action = c.have_actions.ensures c.if-not-have_actions.false;
  each_goto = c.have_gotos.ensures all;
  usual = subst (λ (u : List ℕ). (nonterminal : ℕ) → IsUsual u c.args.gotos.now nonterminal) c.deref.ensures.value (c.have_usual.ensures c.if-not-have_usual.false);
}
