use Rattle.std.proofs.Common.{ℕ, ◌-◌, List, min, sym, ap, subst, ◌∙◌, arith}
use Rattle.parse_nodes.specs.Building.{tree_start}
use Rattle.parse_nodes.specs.Children.{AreChildren}
use Rattle.parse_nodes.proofs.Children.{HasWalked, walk_begins, walk_ends, walk_goes_on}
use Rattle.parse_nodes.proofs.tree.ParseNodes.children.Goals as goal

pub loop-place-init : goal.loop-place-init
loop-place-init c = record {
  first = c.first_of-first.ensures;
  walked = subst (λ (xs : List ℕ). HasWalked c.args.self.now.nodes.items c.args.number c.args.number xs) (sym c.new-children.ensures.items)
      (walk_begins c.args.self.now.nodes.items c.args.number);
}

pub loop-place-preserved : goal.loop-place-preserved
loop-place-preserved c =
    let place = c.loop-place.place in
    let next = c.min-place.ensures ∙ ap (min (place - 1)) (c.tree_start.ensures ∙ ap (λ zs. tree_start zs place) c.deref.ensures.value) in
    record {
      first = c.loop-place.invariant.first;
      walked = subst (λ (xs : List ℕ). HasWalked c.args.self.now.nodes.items c.args.number c.min-place.result xs) (sym c.in_ok-push.ensures.items)
          (walk_goes_on c.args.self.now.nodes.items c.args.number place (place - 1) c.min-place.result c.loop-place.children.items
          (omega (arith, c.loop-place-test.true, c.loop-place.invariant.first)) (omega (arith, c.loop-place-test.true)) next c.loop-place.invariant.walked);
    }

pub returns : goal.returns
returns c = subst (λ (xs : List ℕ). AreChildren c.args.self.now.nodes.items c.args.number xs) (sym c.reverse.ensures.items)
    (walk_ends c.args.self.now.nodes.items c.args.number c.loop-place.place c.loop-place.children.items
    (omega (arith, c.loop-place-test.false, c.loop-place.invariant.first)) c.loop-place.invariant.walked)
