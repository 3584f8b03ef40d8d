use Rattle.std.proofs.Common.{◌∙◌, ◌++◌, ap, refl}
use Rattle.lalrpop_report.specs.Words.{items_block, reductions_block, conflict_block, block_at}
use Rattle.lalrpop_report.proofs.theory.reports.ReportTexts.{blocks_at_places}
use Rattle.lalrpop_collections.proofs.theory.lists.Pieces.{six_pieces}
use Rattle.lalrpop_report.proofs.report.states.push_state.Goals as goal

pub returns : goal.returns
returns g c = λ own same.
    let meaning = g.L.Lookahead.meaning in
    let terminals = c.args.lines.now in
    let blocks = blocks_at_places (conflict_block meaning terminals) (block_at meaning terminals) c.args.conflicts.now c.args.places.now own (λ d. refl) same in
    six_pieces _ _ _ _ _ _ _ _ _ _ _ _ _ (c.in_ok-push_own.ensures ∙ ap (λ line. c.args.text.now ++ line) c.in_ok-format.ensures.ok)
    (c.in_ok-push_items.ensures ∙ ap (λ items. c.push_own.new.self ++ items_block meaning terminals items) c.deref.ensures.value)
    (c.in_ok-push_reductions.ensures ∙ ap (λ reductions. c.push_items.new.text ++ reductions_block meaning terminals reductions) c.deref-2.ensures.value)
    (c.in_ok-push_own-2.ensures ∙ ap (λ edges. c.push_reductions.new.text ++ edges) c.in_ok-edges_text.ensures)
    (c.in_ok-push_conflicts_at.ensures ∙ ap (λ text. c.push_own-2.new.self ++ text) blocks)
    c.in_ok-push_str.ensures
