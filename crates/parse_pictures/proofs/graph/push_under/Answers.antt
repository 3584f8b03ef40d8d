use Rattle.std.proofs.Common.{◌≡◌, ◌<◌, [], ◌∷◌, ◌++◌, ap, sym, subst, ◌∙◌, append-nil, string_bytes}
use Rattle.lalrpop_parser.specs.Words.{forest_of}
use Rattle.parse_pictures.specs.TreeGraphs.{parented_rows, statements_left, trees_in}
use Rattle.parse_pictures.specs.TreeNodes.{turns_left}
use Rattle.parse_pictures.specs.declared.graph.Row.{Row}
use Rattle.parse_pictures.proofs.TreeGraphs.{parented_pushed}
use Rattle.parse_pictures.proofs.graph.push_under.Goals as goal

pub loop-row-init : goal.loop-row-init
loop-row-init c =
    let first : Row = record { trees = c.args.trees; parent = 0 } in
    let pushed = c.in_ok-push.ensures.items ∙ ap (λ l. l ++ first ∷ []) c.new-stack.ensures.items in
    let one : parented_rows c.push.new.self.items ≡ (0, forest_of c.args.trees.now) ∷ [] = parented_pushed [] c.push.new.self.items first pushed in (
      ap (λ rows. string_bytes c.args.text.now ++ statements_left 1 rows) one ∙ ap (λ l. string_bytes c.args.text.now ++ l) (append-nil _),
      c.requires,
    )

pub loop-row-smaller : goal.loop-row-smaller
loop-row-smaller c =
    subst (λ rows. turns_left (trees_in (parented_rows c.push_first.new.stack.items)) < turns_left (trees_in rows)) (sym (parented_pushed c.pop.new.self.items c.loop-row.stack.items c.in-Some.row c.in-Some.ensures.items)) c.in_ok-number.ensures.fewer

pub loop-row-preserved : goal.loop-row-preserved
loop-row-preserved c = (
  c.in_ok-number.ensures.statements
      ∙ ap (λ rows. string_bytes c.loop-row.text ++ statements_left c.loop-row.number rows) (sym (parented_pushed c.pop.new.self.items c.loop-row.stack.items c.in-Some.row c.in-Some.ensures.items))
      ∙ c.loop-row.invariant.0,
  c.in_ok-number.ensures.within,
)
