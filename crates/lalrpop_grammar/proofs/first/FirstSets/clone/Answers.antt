use Rattle.std.proofs.Common.{sym, ◌∙◌}
use Rattle.lalrpop_grammar.proofs.first.FirstSets.clone.Goals as goal

pub invariant_of-result : goal.invariant_of-result
invariant_of-result c = rw (c.in_ok-new.ensures ∙ sym c.self.invariant.named, c.in_ok-clone_sets.ensures, c.deref.ensures.value, c.in_ok-from_slice.ensures.items, c.deref-2.ensures.value) c.self.invariant
