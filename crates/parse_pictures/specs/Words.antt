-- The definitions that the contracts of this crate name, each with the file that has it.
pub use Rattle.parse_pictures.specs.NextTokens.{AreNext, IsShiftedCount, DoesNotShiftAll, ShiftsAll, IsEnding, IsShiftingAll, IsAllShifted, MayEnd, MayNotEnd, next_first, no_next, other_first}
pub use Rattle.parse_pictures.specs.RefusalTexts.{expected_end, expected_text, expected_words, place_text, refusal_words, wrong_token}
pub use Rattle.parse_pictures.specs.TreeGraphs.{edge_statement, node_shape, node_statement, parented_rows, quoted_char, quoted_text, row_of, statements_left, statements_under}
pub use Rattle.parse_pictures.specs.TreeGraphs.{trees_in, tree_graph_opening, tree_statements}
pub use Rattle.parse_pictures.specs.TreeLines.{empty_mark, indentation, lines_left, root_line, rows_of, tree_lines}
pub use Rattle.parse_pictures.specs.TreeNodes.{trees_under, turns_left}
