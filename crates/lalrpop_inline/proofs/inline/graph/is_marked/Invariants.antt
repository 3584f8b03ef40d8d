use Rattle.std.proofs.Common.{Contains, take}
use Rattle.lalrpop_base.specs.Words.{inline_mark}
use Rattle.lalrpop_inline.proofs.inline.graph.is_marked.Given as goal

abbrev pub invariant-loop-attribute : goal.invariant-loop-attribute
invariant-loop-attribute l = Contains (take l.attribute-index l.attributes) inline_mark → ⊥
