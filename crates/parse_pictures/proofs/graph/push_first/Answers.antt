use Rattle.std.proofs.Common.{◌<◌, ◌++◌, ap, refl, sym, subst, ◌∙◌, length, string_bytes, arith}
use Rattle.std.proofs.lemmas.List.{nil_from_length}
use Rattle.lalrpop_parser.specs.Words.{forest_of, tree_of}
use Rattle.parse_pictures.specs.TreeGraphs.{parented_rows, statements_left}
use Rattle.parse_pictures.proofs.TreeGraphs.{end_statements, parented_next, turn_longer, turn_statements, turn_statements_fewer}
use Rattle.parse_pictures.proofs.graph.push_first.Goals as goal

pub returns-in_default-clause-statements : goal.returns-in_default-clause-statements
returns-in_default-clause-statements c =
    ap (λ l. string_bytes c.args.text.now ++ l) (end_statements c.args.number c.args.row (parented_rows c.args.stack.now.items) (nil_from_length _ c.in_default.ensures.cases))

pub next_number-requires : goal.next_number-requires
next_number-requires c =
    subst (λ l. c.args.number < length l) (sym c.as_str.ensures.value)
    (turn_longer (string_bytes c.args.text.now) (string_bytes c.push_node.new.text) (string_bytes c.push_edge.new.text) c.args.row.parent c.args.number (tree_of c.in-Some.tree.now) c.in_ok-push_node.ensures c.in_ok-push_edge.ensures c.requires)

pub returns-clause-statements : goal.returns-clause-statements
returns-clause-statements c =
    let old = c.args.stack.now.items in
    let new = c.push-2.new.self.items in
    let rows = parented_next old c.push.new.self.items new (record { trees = c.in-Some.rest; parent = c.args.row.parent }) (record { trees = c.children.result; parent = c.args.number }) c.args.row.parent c.args.number (forest_of c.in-Some.rest.now) (tree_of c.in-Some.tree.now)
    c.in_ok-push.ensures.items c.in_ok-push-2.ensures.items refl (ap (λ ts. (c.args.number, ts)) c.children.ensures) in
    ap (λ n. string_bytes c.push_edge.new.text ++ statements_left n (parented_rows new)) c.next_number.ensures
    ∙ turn_statements (string_bytes c.args.text.now) (string_bytes c.push_node.new.text) (string_bytes c.push_edge.new.text) old new c.args.row c.in-Some.rest c.in-Some.tree.now c.args.number c.in_ok-push_node.ensures c.in_ok-push_edge.ensures c.in-Some.ensures.cases.0 rows

pub returns-clause-fewer : goal.returns-clause-fewer
returns-clause-fewer c =
    let old = c.args.stack.now.items in
    let new = c.push-2.new.self.items in
    let rows = parented_next old c.push.new.self.items new (record { trees = c.in-Some.rest; parent = c.args.row.parent }) (record { trees = c.children.result; parent = c.args.number }) c.args.row.parent c.args.number (forest_of c.in-Some.rest.now) (tree_of c.in-Some.tree.now)
    c.in_ok-push.ensures.items c.in_ok-push-2.ensures.items refl (ap (λ ts. (c.args.number, ts)) c.children.ensures) in
    turn_statements_fewer old new c.args.row c.in-Some.rest c.in-Some.tree.now c.args.number c.in-Some.ensures.cases.0 rows

pub returns-clause-within : goal.returns-clause-within
returns-clause-within c =
    let longer : c.args.number < length (string_bytes c.push_edge.new.text) = turn_longer (string_bytes c.args.text.now) (string_bytes c.push_node.new.text) (string_bytes c.push_edge.new.text) c.args.row.parent c.args.number (tree_of c.in-Some.tree.now) c.in_ok-push_node.ensures c.in_ok-push_edge.ensures c.requires in
    omega (arith, longer, c.next_number.ensures)
