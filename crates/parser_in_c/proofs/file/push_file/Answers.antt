use Rattle.std.proofs.Common.{ℕ, List, ◌++◌, codes, string_bytes}
use Rattle.file_parts.specs.Fixed.{fixed_text}
use Rattle.file_parts.proofs.Joins.{fixed_same, of_same, then_more}
use Rattle.parser_in_c.specs.Arrays.{tables_text}
use Rattle.parser_in_c.specs.File.{constants_text}
use Rattle.parser_in_c.specs.declared.driver.TheConstants.{DRIVER}
use Rattle.parser_in_c.specs.declared.lookup.TheConstants.{INTERFACE, LOOKUP}
use Rattle.parser_in_c.proofs.file.push_file.Goals as goal

pub returns : goal.returns
returns c =
    let small = string_bytes c.args.file.now.small in
    let big = string_bytes c.args.file.now.big in
    let t0 = string_bytes c.args.text.now in
    let t1 = string_bytes c.push_str.new.self in
    let t2 = string_bytes c.push_fixed.new.text in
    let t3 = string_bytes c.push_constants.new.text in
    let t4 = string_bytes c.push_tables.new.text in
    let t5 = string_bytes c.push_fixed-2.new.text in
    let t6 = string_bytes c.push_str-2.new.self in
    let t7 = string_bytes c.push_fixed-3.new.text in
    let t8 = string_bytes c.push_str-3.new.self in
    let t9 = string_bytes c.push_fixed-4.new.text in
    let t10 = string_bytes c.push_str-4.new.self in
    let a1 = string_bytes c.args.file.now.heading in
    let a2 = fixed_text small big (codes "\n#ifndef $TABLES\n#define $TABLES\n\n#include <stddef.h>\n#include <stdint.h>\n\n") in
    let a3 = constants_text c.args.file.now in
    let a4 = tables_text small c.args.file.now.arrays.items in
    let a5 = fixed_text small big LOOKUP.now in
    let a6 = codes "\n" in
    let a7 = fixed_text small big INTERFACE.now in
    let a8 = codes "\n" in
    let a9 = fixed_text small big DRIVER.now in
    let a10 = codes "\n#endif\n" in
    let r9 = a9 ++ a10 in
    let r8 = a8 ++ r9 in
    let r7 = a7 ++ r8 in
    let r6 = a6 ++ r7 in
    let r5 = a5 ++ r6 in
    let r4 = a4 ++ r5 in
    let r3 = a3 ++ r4 in
    let r2 = a2 ++ r3 in
    then_more t0 t1 t10 a1 r2 (of_same (λ (x : List ℕ). x) (c.deref.result.now) (string_bytes c.args.file.now.heading) t0 t1 c.in_ok-push_str.ensures.bytes c.deref.ensures) (then_more t1 t2 t10 a2 r3 (fixed_same small big c.deref-2.result.now c.deref-3.result.now (codes "\n#ifndef $TABLES\n#define $TABLES\n\n#include <stddef.h>\n#include <stdint.h>\n\n") t1 t2 c.in_ok-push_fixed.ensures c.deref-2.ensures c.deref-3.ensures) (then_more t2 t3 t10 a3 r4 c.in_ok-push_constants.ensures (then_more t3 t4 t10 a4 r5 (of_same (tables_text small) c.deref-5.result.now c.args.file.now.arrays.items t3 t4 (of_same (λ (s : List ℕ). tables_text s c.deref-5.result.now) c.deref-4.result.now small t3 t4 c.in_ok-push_tables.ensures c.deref-4.ensures) c.deref-5.ensures.value) (then_more t4 t5 t10 a5 r6 (fixed_same small big c.deref-6.result.now c.deref-7.result.now LOOKUP.now t4 t5 c.in_ok-push_fixed-2.ensures c.deref-6.ensures c.deref-7.ensures) (then_more t5 t6 t10 a6 r7 c.in_ok-push_str-2.ensures.bytes (then_more t6 t7 t10 a7 r8 (fixed_same small big c.deref-8.result.now c.deref-9.result.now INTERFACE.now t6 t7 c.in_ok-push_fixed-3.ensures c.deref-8.ensures c.deref-9.ensures) (then_more t7 t8 t10 a8 r9 c.in_ok-push_str-3.ensures.bytes (then_more t8 t9 t10 a9 a10 (fixed_same small big c.deref-10.result.now c.deref-11.result.now DRIVER.now t8 t9 c.in_ok-push_fixed-4.ensures c.deref-10.ensures c.deref-11.ensures) c.in_ok-push_str-4.ensures.bytes))))))))
