use Rattle.std.proofs.Common.{◌++◌, codes, length, string_bytes}
use Rattle.std.specs.List.{flat_map}
use Rattle.file_parts.proofs.Joins.{then_more}
use Rattle.parser_in_rust.specs.Lists.{list_head, literal_line}
use Rattle.parser_in_rust.proofs.lists.push_literals.Goals as goal

pub returns : goal.returns
returns c =
    let t0 = string_bytes c.args.text.now in
    let t1 = string_bytes c.push_str.new.self in
    let t2 = string_bytes c.push_str-2.new.self in
    let t3 = string_bytes c.push_str-3.new.self in
    let t4 = string_bytes c.push_head.new.text in
    let t5 = string_bytes c.push_literal_lines.new.text in
    let t6 = string_bytes c.push_str-4.new.self in
    let a1 = codes "/// " in
    let a2 = c.args.comment.now in
    let a3 = codes "\n#[rustfmt::skip]\nstatic " in
    let a4 = list_head c.args.name.now (codes "&str") (length c.args.literals.now) in
    let a5 = flat_map literal_line c.args.literals.now in
    let a6 = codes "];\n\n" in
    let r5 = a5 ++ a6 in
    let r4 = a4 ++ r5 in
    let r3 = a3 ++ r4 in
    let r2 = a2 ++ r3 in
    then_more t0 t1 t6 a1 r2 c.in_ok-push_str.ensures.bytes (then_more t1 t2 t6 a2 r3 c.in_ok-push_str-2.ensures.bytes (then_more t2 t3 t6 a3 r4 c.in_ok-push_str-3.ensures.bytes (then_more t3 t4 t6 a4 r5 c.in_ok-push_head.ensures (then_more t4 t5 t6 a5 a6 c.in_ok-push_literal_lines.ensures c.in_ok-push_str-4.ensures.bytes))))
