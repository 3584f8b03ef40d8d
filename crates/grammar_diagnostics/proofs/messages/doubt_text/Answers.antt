use Rattle.std.proofs.Common.{◌++◌, codes, decimal, ap, sym, ◌∙◌}
use Rattle.grammar_diagnostics.specs.declared.warnings.Warning.{Warning}
use Rattle.grammar_diagnostics.specs.Messages.{doubt_text}
use Rattle.grammar_diagnostics.specs.Warnings.{warning_view}
use Rattle.grammar_diagnostics.proofs.messages.doubt_text.Goals as goal

pub returns-in_ok-format-in-Unreachable : goal.returns-in_ok-format-in-Unreachable
returns-in_ok-format-in-Unreachable c = c.in_ok-format-in-Unreachable.ensures.ok ∙ ap (λ (w : Warning). doubt_text c.args.text.now c.args.start.now (warning_view w)) (sym c.in-Unreachable.is)

pub returns-in_ok-format-in-Unproductive : goal.returns-in_ok-format-in-Unproductive
returns-in_ok-format-in-Unproductive c = c.in_ok-format-in-Unproductive.ensures.ok ∙ ap (λ (w : Warning). doubt_text c.args.text.now c.args.start.now (warning_view w)) (sym c.in-Unproductive.is)

pub returns-in_ok-format-in-Cyclic : goal.returns-in_ok-format-in-Cyclic
returns-in_ok-format-in-Cyclic c = c.in_ok-format-in-Cyclic.ensures.ok ∙ ap (λ (w : Warning). doubt_text c.args.text.now c.args.start.now (warning_view w)) (sym c.in-Cyclic.is)

pub returns-in_ok-format-in-NothingToInline : goal.returns-in_ok-format-in-NothingToInline
returns-in_ok-format-in-NothingToInline c = c.in_ok-format-in-NothingToInline.ensures.ok ∙ ap (λ (w : Warning). doubt_text c.args.text.now c.args.start.now (warning_view w)) (sym c.in-NothingToInline.is)

pub returns-in_ok-format-in-NeverInlined : goal.returns-in_ok-format-in-NeverInlined
returns-in_ok-format-in-NeverInlined c = c.in_ok-format-in-NeverInlined.ensures.ok ∙ ap (λ (w : Warning). doubt_text c.args.text.now c.args.start.now (warning_view w)) (sym c.in-NeverInlined.is)

pub returns-in_ok-format-in-Repeated : goal.returns-in_ok-format-in-Repeated
returns-in_ok-format-in-Repeated c = c.in_ok-format-in-Repeated.ensures.ok ∙ ap (λ n. codes "the right side is that of line " ++ decimal n) c.line_at-line.ensures ∙ ap (λ (w : Warning). doubt_text c.args.text.now c.args.start.now (warning_view w)) (sym c.in-Repeated.is)

pub returns-in_ok-format-in-NoStart : goal.returns-in_ok-format-in-NoStart
returns-in_ok-format-in-NoStart c = c.in_ok-format-in-NoStart.ensures.ok ∙ ap (λ (w : Warning). doubt_text c.args.text.now c.args.start.now (warning_view w)) (sym c.in-NoStart.is)

pub returns-in_ok-format-in-StartUsed : goal.returns-in_ok-format-in-StartUsed
returns-in_ok-format-in-StartUsed c = c.in_ok-format-in-StartUsed.ensures.ok ∙ ap (λ (w : Warning). doubt_text c.args.text.now c.args.start.now (warning_view w)) (sym c.in-StartUsed.is)

pub returns-in_ok-format-in-Undefined : goal.returns-in_ok-format-in-Undefined
returns-in_ok-format-in-Undefined c = c.in_ok-format-in-Undefined.ensures.ok ∙ ap (λ (w : Warning). doubt_text c.args.text.now c.args.start.now (warning_view w)) (sym c.in-Undefined.is)
