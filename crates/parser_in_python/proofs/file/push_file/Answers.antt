use Rattle.std.proofs.Common.{ℕ, List, ◌++◌, codes, string_bytes}
use Rattle.file_parts.proofs.Joins.{of_same, then_more}
use Rattle.parser_in_python.specs.Classes.{classes_text}
use Rattle.parser_in_python.specs.Tables.{tables_text}
use Rattle.parser_in_python.specs.declared.driver.TheConstants.{DRIVER, LOOKUP}
use Rattle.parser_in_python.proofs.file.push_file.Goals as goal

pub returns : goal.returns
returns c =
    let t0 = string_bytes c.args.text.now in
    let t1 = string_bytes c.push_str.new.self in
    let t2 = string_bytes c.push_classes.new.text in
    let t3 = string_bytes c.push_tables.new.text in
    let t4 = string_bytes c.push_str-2.new.self in
    let t5 = string_bytes c.push_str-3.new.self in
    let t6 = string_bytes c.push_str-4.new.self in
    let a1 = string_bytes c.args.file.now.heading in
    let a2 = classes_text c.args.file.now in
    let a3 = tables_text c.args.file.now in
    let a4 = LOOKUP.now in
    let a5 = codes "\n\n" in
    let a6 = DRIVER.now in
    let r5 = a5 ++ a6 in
    let r4 = a4 ++ r5 in
    let r3 = a3 ++ r4 in
    let r2 = a2 ++ r3 in
    then_more t0 t1 t6 a1 r2 (of_same (λ (x : List ℕ). x) (c.deref.result.now) (string_bytes c.args.file.now.heading) t0 t1 c.in_ok-push_str.ensures.bytes c.deref.ensures) (then_more t1 t2 t6 a2 r3 c.in_ok-push_classes.ensures (then_more t2 t3 t6 a3 r4 c.in_ok-push_tables.ensures (then_more t3 t4 t6 a4 r5 c.in_ok-push_str-2.ensures.bytes (then_more t4 t5 t6 a5 a6 c.in_ok-push_str-3.ensures.bytes c.in_ok-push_str-4.ensures.bytes))))
