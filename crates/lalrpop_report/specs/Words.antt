-- The definitions that the contracts of this crate name, each with the file that has it.
pub use Rattle.lalrpop_report.specs.reports.Report.{ascending, conflicts_in, error_report, failure_report, kind_line, next_state, report_text, state_number, tables_report}
pub use Rattle.lalrpop_report.specs.reports.ReportLines.{goto_line, item_lines, longest, production_line, reduction_lines, shift_line, tokens_in}
pub use Rattle.lalrpop_report.specs.reports.ReportLines.{tokens_line, tokens_text}
pub use Rattle.lalrpop_report.specs.reports.ReportPlaces.{ArePlacesOf, places_of}
pub use Rattle.lalrpop_report.specs.reports.ReportStates.{block_at, conflict_block, items_block, reductions_block}
