use Rattle.std.proofs.Common.{ℕ, List, ◌++◌, codes, string_bytes}
use Rattle.std.specs.List.{flat_map}
use Rattle.file_parts.proofs.Joins.{of_same, then_more}
use Rattle.parser_in_c.specs.Enumerations.{literal_line}
use Rattle.parser_in_c.proofs.enumerations.push_literals.Goals as goal

pub returns : goal.returns
returns c =
    let t0 = string_bytes c.args.text.now in
    let t1 = string_bytes c.push_str.new.self in
    let t2 = string_bytes c.push_str-2.new.self in
    let t3 = string_bytes c.push_str-3.new.self in
    let t4 = string_bytes c.push_str-4.new.self in
    let t5 = string_bytes c.push_str-5.new.self in
    let t6 = string_bytes c.push_str-6.new.self in
    let t7 = string_bytes c.push_literal_lines.new.text in
    let t8 = string_bytes c.push_str-7.new.self in
    let a1 = codes "// " in
    let a2 = c.args.comment.now in
    let a3 = codes "\nstatic const char *const " in
    let a4 = string_bytes c.args.file.now.small in
    let a5 = c.args.name.now in
    let a6 = codes "[] = {\n" in
    let a7 = flat_map literal_line c.args.literals.now in
    let a8 = codes "};\n\n" in
    let r7 = a7 ++ a8 in
    let r6 = a6 ++ r7 in
    let r5 = a5 ++ r6 in
    let r4 = a4 ++ r5 in
    let r3 = a3 ++ r4 in
    let r2 = a2 ++ r3 in
    then_more t0 t1 t8 a1 r2 c.in_ok-push_str.ensures.bytes (then_more t1 t2 t8 a2 r3 c.in_ok-push_str-2.ensures.bytes (then_more t2 t3 t8 a3 r4 c.in_ok-push_str-3.ensures.bytes (then_more t3 t4 t8 a4 r5 (of_same (λ (x : List ℕ). x) (c.deref.result.now) (string_bytes c.args.file.now.small) t3 t4 c.in_ok-push_str-4.ensures.bytes c.deref.ensures) (then_more t4 t5 t8 a5 r6 c.in_ok-push_str-5.ensures.bytes (then_more t5 t6 t8 a6 r7 c.in_ok-push_str-6.ensures.bytes (then_more t6 t7 t8 a7 a8 c.in_ok-push_literal_lines.ensures c.in_ok-push_str-7.ensures.bytes))))))
