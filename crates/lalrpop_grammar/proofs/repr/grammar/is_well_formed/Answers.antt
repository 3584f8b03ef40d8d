use Rattle.std.proofs.Common.{refl}
use Rattle.lalrpop_grammar.specs.Words.{IsWellFormedEntry}
use Rattle.lalrpop_grammar.proofs.theory.grammars.Entries.{entries_cons, entries_head, entries_tail}
use Rattle.lalrpop_grammar.proofs.repr.grammar.is_well_formed.Goals as goal

pub returns-then-not-is_well_formed_entry : goal.returns-then-not-is_well_formed_entry
returns-then-not-is_well_formed_entry c = (
  λ h. cc,
  λ well. c.if-not-is_well_formed_entry.ensures.1
      (rw c.deref.ensures.value (entries_head _ _ _ _ _ _ c.in-Some.ensures.steps (c.loop-name.invariant.1 well))),
)

pub loop-name-preserved : goal.loop-name-preserved
loop-name-preserved c =
    let good : IsWellFormedEntry c.args.grammar.now.terminals c.len-actions.result c.in-Some.name.now c.in-Some.entry.now.productions.items =
    rw (← c.deref.ensures.value) (c.if-not-is_well_formed_entry.ensures.0 refl) in (
      λ rest. c.loop-name.invariant.0 (entries_cons _ _ _ _ _ _ c.in-Some.ensures.steps good rest),
      λ well. entries_tail _ _ _ _ _ _ c.in-Some.ensures.steps (c.loop-name.invariant.1 well),
    )
