use Rattle.std.proofs.Common.{◌≡◌, ◌∙◌, ◌++◌, List, subst, string_bytes}
use Rattle.lalrpop_collections.proofs.theory.lists.Pieces.{two_pieces}
use Rattle.lalrpop_report.proofs.Types.{TerminalString}
use Rattle.lalrpop_report.specs.reports.Report.{states_section}
use Rattle.lalrpop_report.proofs.report.whole.with_states.Goals as goal

pub returns : goal.returns
returns g c =
    subst (λ (terminals : List TerminalString). c.push_states.new.text ≡ string_bytes c.args.summary ++ states_section g.L.Lookahead.meaning terminals c.args.conflicts.now c.args.states.now) c.in_ok-lines.ensures
    (two_pieces _ _ _ _ _ (c.in_ok-text.ensures ∙ c.in_ok-push_section_header.ensures) c.in_ok-push_states.ensures)
