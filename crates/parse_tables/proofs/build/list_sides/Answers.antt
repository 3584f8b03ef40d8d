use Rattle.std.proofs.Common.{◌≡◌, ℕ, ◌+◌, ◌∷◌, [], List, Some, length, length-append, slice_get, refl, sym, ◌∙◌, ap, subst}
use Rattle.std.proofs.lemmas.Option.{slice_get_read}
use Rattle.parse_tables.specs.Codes.{AreSides}
use Rattle.parse_tables.proofs.Sides.{more_sides}
use Rattle.parse_tables.proofs.build.list_sides.Goals as goal

pub loop-production-preserved : goal.loop-production-preserved
loop-production-preserved c =
    let items = c.all-production-items.result.now in
    let p = c.production-item.result in
    let old = c.loop-production.sides.items in
    let side = c.in_ok-side_of.field-0 in
    let at = slice_get_read items (length items) c.loop-production.production-index p refl c.loop-production-test.true c.production-item.is in
    let here : slice_get items (length old) ≡ Some p = subst (λ (n : ℕ). slice_get items n ≡ Some p) (sym c.loop-production.invariant.counted) at in
    record {
      counted = ap length c.in_ok-push.ensures.items ∙ length-append old (side ∷ []) ∙ ap (λ n. n + 1) c.loop-production.invariant.counted;
      sided = subst (AreSides c.args.nonterminals.now items) (sym c.in_ok-push.ensures.items) (more_sides c.args.nonterminals.now items old p side here c.in_ok-side_of.ensures c.loop-production.invariant.sided);
    }

pub returns-clause-sided : goal.returns-clause-sided
returns-clause-sided c = subst (λ (ps : List _). AreSides c.args.nonterminals.now ps c.loop-production.sides.items) c.all-production-items.ensures c.loop-production.invariant.sided
