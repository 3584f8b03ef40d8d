use Rattle.std.proofs.Common.{ℕ, List, ◌++◌, codes, string_bytes}
use Rattle.std.specs.Fmt.{decimal}
use Rattle.file_parts.proofs.Joins.{of_same, then_more}
use Rattle.parser_in_rust.specs.Arrays.{tables_text}
use Rattle.parser_in_rust.specs.File.{constants_text}
use Rattle.parser_in_rust.specs.declared.driver.TheConstants.{DRIVER}
use Rattle.parser_in_rust.specs.declared.file.TheConstants.{HEAD}
use Rattle.parser_in_rust.specs.declared.interface.TheConstants.{INTERFACE, LOOKUP}
use Rattle.parser_in_rust.proofs.file.push_file.Goals as goal

pub returns : goal.returns
returns c =
    let t0 = string_bytes c.args.text.now in
    let t1 = string_bytes c.push_str.new.self in
    let t2 = string_bytes c.push_str-2.new.self in
    let t3 = string_bytes c.push_constants.new.text in
    let t4 = string_bytes c.push_str-3.new.self in
    let t5 = string_bytes c.write.new.self in
    let t6 = string_bytes c.push_str-4.new.self in
    let t7 = string_bytes c.push_tables.new.text in
    let t8 = string_bytes c.push_str-5.new.self in
    let t9 = string_bytes c.push_str-6.new.self in
    let t10 = string_bytes c.push_str-7.new.self in
    let t11 = string_bytes c.push_str-8.new.self in
    let t12 = string_bytes c.push_str-9.new.self in
    let a1 = string_bytes c.args.file.now.heading in
    let a2 = HEAD.now in
    let a3 = constants_text c.args.file.now in
    let a4 = codes "/// how many bytes a set has\nconst SET_BYTES: usize = " in
    let a5 = decimal c.args.file.now.set_bytes in
    let a6 = codes ";\n\n" in
    let a7 = tables_text c.args.file.now.arrays.items in
    let a8 = LOOKUP.now in
    let a9 = codes "\n" in
    let a10 = INTERFACE.now in
    let a11 = codes "\n" in
    let a12 = DRIVER.now in
    let r11 = a11 ++ a12 in
    let r10 = a10 ++ r11 in
    let r9 = a9 ++ r10 in
    let r8 = a8 ++ r9 in
    let r7 = a7 ++ r8 in
    let r6 = a6 ++ r7 in
    let r5 = a5 ++ r6 in
    let r4 = a4 ++ r5 in
    let r3 = a3 ++ r4 in
    let r2 = a2 ++ r3 in
    then_more t0 t1 t12 a1 r2 (of_same (λ (x : List ℕ). x) (c.deref.result.now) (string_bytes c.args.file.now.heading) t0 t1 c.in_ok-push_str.ensures.bytes c.deref.ensures) (then_more t1 t2 t12 a2 r3 c.in_ok-push_str-2.ensures.bytes (then_more t2 t3 t12 a3 r4 c.in_ok-push_constants.ensures (then_more t3 t4 t12 a4 r5 c.in_ok-push_str-3.ensures.bytes (then_more t4 t5 t12 a5 r6 c.in_ok-write.ensures.bytes (then_more t5 t6 t12 a6 r7 c.in_ok-push_str-4.ensures.bytes (then_more t6 t7 t12 a7 r8 (of_same tables_text (c.deref-2.result.now) (c.args.file.now.arrays.items) t6 t7 c.in_ok-push_tables.ensures c.deref-2.ensures.value) (then_more t7 t8 t12 a8 r9 c.in_ok-push_str-5.ensures.bytes (then_more t8 t9 t12 a9 r10 c.in_ok-push_str-6.ensures.bytes (then_more t9 t10 t12 a10 r11 c.in_ok-push_str-7.ensures.bytes (then_more t10 t11 t12 a11 a12 c.in_ok-push_str-8.ensures.bytes c.in_ok-push_str-9.ensures.bytes))))))))))
