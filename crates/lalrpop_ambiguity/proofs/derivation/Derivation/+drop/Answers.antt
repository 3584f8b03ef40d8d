use Rattle.std.proofs.Common.{◌≡◌, ◌<◌, [], sym, subst, rules}
use denote.Param.Weighed.{most}
use denote.Ref.{NamedLft}
use denote.Signature.{named_lft}
use Rattle.lalrpop_ambiguity.proofs.theory.derivations.Dropped.{bare_node, some_depth}
use Rattle.lalrpop_ambiguity.proofs.derivation.Derivation.TheLaws.{the_size}
use Rattle.lalrpop_ambiguity.proofs.derivation.Derivation.+drop.Goals as goal

-- a node alone has no children, so none of them is dropped in turn
pub drop-children-requires : goal.drop-children-requires
drop-children-requires t c =
    let lifetime : NamedLft = named_lft 1 0 (search rules) c.lifetimes in
    let here = c.in-Node-self in
    let none : here._children.items ≡ [] = bare_node c.go_down.new.self here.field-0 here._children here.is c.go_down.ensures.bare in
    let least : 0 < t = subst (λ n. 0 < n) c.decreases (some_depth lifetime c.args.self) in
    λ κs. (((subst (λ xs. most (the_size lifetime) xs < t) (sym none) least, tt), tt), search rules)
