use Rattle.std.proofs.Common.{◌≡◌, take}
use Rattle.lalrpop_grammar.proofs.repr.grammar.clone_action_fn_defns.Given as goal

abbrev pub invariant-loop-defn : goal.invariant-loop-defn
invariant-loop-defn l = l.copy.items ≡ take l.defn-index l.defns
