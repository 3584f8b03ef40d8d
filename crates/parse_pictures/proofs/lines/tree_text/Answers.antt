use Rattle.std.proofs.Common.{◌≡◌, ◌<◌, [], ◌∷◌, ◌++◌, ap, ap₂, sym, subst, ◌∙◌, append-nil, string_bytes}
use Rattle.lalrpop_base.specs.Words.{beside, no_trees}
use Rattle.lalrpop_parser.specs.Words.{forest_of, tree_of}
use Rattle.parse_pictures.specs.TreeLines.{lines_left, rows_of}
use Rattle.parse_pictures.specs.TreeNodes.{turns_left}
use Rattle.parse_pictures.proofs.TreeLines.{rows_pushed}
use Rattle.parse_pictures.proofs.lines.tree_text.Goals as goal

pub loop-here-init : goal.loop-here-init
loop-here-init c =
    let pushed = c.in_ok-push.ensures.items ∙ ap (λ l. l ++ c.from_ref.result ∷ []) c.new-stack.ensures.items in
    let one : rows_of c.push.new.self.items ≡ beside (tree_of c.args.tree.now) no_trees ∷ [] = rows_pushed [] c.push.new.self.items c.from_ref.result pushed ∙ ap (λ l. forest_of l ∷ []) c.from_ref.ensures.value in
    ap₂ (λ t rows. t ++ lines_left rows) c.new-text.ensures.bytes one ∙ append-nil _

pub loop-here-smaller : goal.loop-here-smaller
loop-here-smaller c =
    subst (λ rows. turns_left (rows_of c.push_first.new.stack.items) < turns_left rows) (sym (rows_pushed c.pop.new.self.items c.loop-here.stack.items c.in-Some.here c.in-Some.ensures.items)) c.in_ok-push_first.ensures.fewer

pub loop-here-preserved : goal.loop-here-preserved
loop-here-preserved c =
    c.in_ok-push_first.ensures.lines
    ∙ ap (λ rows. string_bytes c.loop-here.text ++ lines_left rows) (sym (rows_pushed c.pop.new.self.items c.loop-here.stack.items c.in-Some.here c.in-Some.ensures.items))
    ∙ c.loop-here.invariant
