use Rattle.std.proofs.Common.{◌++◌, ap, ◌∙◌, string_bytes}
use Rattle.std.proofs.lemmas.List.{nil_from_length}
use Rattle.lalrpop_parser.specs.Words.{tree_of}
use Rattle.parse_pictures.specs.TreeLines.{rows_of}
use Rattle.parse_pictures.proofs.TreeLines.{end_lines, rows_next, turn_fewer, turn_lines}
use Rattle.parse_pictures.proofs.lines.push_first.Goals as goal

pub returns-in_default-clause-lines : goal.returns-in_default-clause-lines
returns-in_default-clause-lines c =
    ap (λ l. string_bytes c.args.text.now ++ l) (end_lines c.args.here (rows_of c.args.stack.now.items) (nil_from_length _ c.in_default.ensures.cases))

pub returns-clause-lines : goal.returns-clause-lines
returns-clause-lines c =
    let old = c.args.stack.now.items in
    let new = c.push-2.new.self.items in
    let rows = rows_next old c.push.new.self.items new c.in-Some.rest c.children.result (tree_of c.in-Some.tree.now) c.in_ok-push.ensures.items c.in_ok-push-2.ensures.items c.children.ensures in
    turn_lines (string_bytes c.args.text.now) (string_bytes c.push_line.new.text) old new c.args.here c.in-Some.rest c.in-Some.tree.now c.len.result c.in_ok-push_line.ensures (c.len.ensures ∙ c.args.stack.now.ok.0) c.in-Some.ensures.cases.0 rows

pub returns-clause-fewer : goal.returns-clause-fewer
returns-clause-fewer c =
    let old = c.args.stack.now.items in
    let new = c.push-2.new.self.items in
    let rows = rows_next old c.push.new.self.items new c.in-Some.rest c.children.result (tree_of c.in-Some.tree.now) c.in_ok-push.ensures.items c.in_ok-push-2.ensures.items c.children.ensures in
    turn_fewer old new c.args.here c.in-Some.rest c.in-Some.tree.now c.in-Some.ensures.cases.0 rows
