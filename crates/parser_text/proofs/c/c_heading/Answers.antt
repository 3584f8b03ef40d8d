use Rattle.std.proofs.Common.{ℕ, List, ◌++◌, codes, ap, ◌∙◌}
use Rattle.symbol_texts.specs.Heading.{heading_text}
use Rattle.parser_text.proofs.c.c_heading.Goals as goal

pub returns : goal.returns
returns c =
    let heading : List ℕ → List ℕ = heading_text (codes "//") c.args.start.now c.args.method.now c.args.states in
    c.in_ok-push_heading.ensures
    ∙ ap (λ (text : List ℕ). text ++ heading c.deref.result.now) c.new-text.ensures.bytes
    ∙ ap heading (c.deref.ensures ∙ c.in_ok-usage.ensures)
