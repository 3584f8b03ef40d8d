use Rattle.std.proofs.Common.{ap, ◌∙◌, string_bytes}
use Rattle.table_pictures.specs.Page.{page}
use Rattle.lrshow_run.proofs.PageShown.{page_shown}
use Rattle.lrshow_run.proofs.shown.page.Goals as goal

pub returns : goal.returns
returns c =
    page_shown c.args.grammar.now c.args.start.now c.args.built.now.status c.args.built.now.states.items c.args.built.now.conflicts.items (string_bytes c.in_ok-json.json) (string_bytes c.in_ok-text.text) c.in_ok-json.ensures
    (c.in_ok-text.ensures ∙ ap page c.as_str.ensures.value) c.whole.result c.whole.ensures
