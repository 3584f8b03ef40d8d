use Rattle.std.proofs.Common.{◌≡◌, ◌↔◌, true, Contains, take}
use Rattle.std.specs.BTreeSet.{contains}
use Rattle.lalrpop_base.specs.Words.{name_cmp}
use Rattle.lalrpop_inline.proofs.Types.{NonterminalString}
use Rattle.lalrpop_inline.proofs.inline.graph.set_of.Given as goal

abbrev pub invariant-loop-name : goal.invariant-loop-name
invariant-loop-name l = (a : NonterminalString) → (contains name_cmp l.set a ≡ true) ↔ Contains (take l.name-index l.names) a
