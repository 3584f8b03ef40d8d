use Rattle.std.proofs.Common.{◌++◌, ◌∙◌, [], ℕ, List, ap, sym, subst, codes, append_assoc}
use Rattle.std.proofs.lemmas.List.{append-nil}
use Rattle.std.specs.Fmt.{WritesInCalls}
use Rattle.std.proofs.Output.{writes_in_calls_nil, writes_in_calls_append}
use Rattle.lalrpop_base.specs.Words.{token_text, seen}
use Rattle.lalrpop_report.specs.Words.{tokens_text}
use Rattle.lalrpop_report.proofs.report.printer.TokenSetLookaheadPrinter.print.Goals as goal

pub loop-token-init : goal.loop-token-init
loop-token-init g c = ([], writes_in_calls_nil g.W.Write.write_str_gives _, rw c.into_iter-token-iterator.ensures.into_iter_gives (ap tokens_text c.iter-token-items.ensures))

pub loop-token-preserved : goal.loop-token-preserved
loop-token-preserved g c =
    let (done, wrote, whole) = c.loop-token.invariant in
    let one = codes " " ++ token_text (seen c.in-Some.token) in (
      done ++ one,
      writes_in_calls_append g.W.Write.write_str_gives _ done _ one _ wrote c.in_ok-print_token.ensures,
      append_assoc done one _ ∙ ap (λ text. done ++ text) (sym (ap tokens_text c.in-Some.ensures.steps)) ∙ whole,
    )

pub returns : goal.returns
returns g c =
    let (done, wrote, whole) = c.loop-token.invariant in
    let same = sym (append-nil done) ∙ ap (λ text. done ++ text) (sym (ap tokens_text c.in-None.ensures.steps.0)) ∙ whole in
    subst (λ (text : List ℕ). WritesInCalls g.W.Write.write_str_gives c.args.out.now text c.loop-token.out) same wrote
