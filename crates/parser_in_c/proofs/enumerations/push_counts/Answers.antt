use Rattle.std.proofs.Common.{◌++◌, codes, string_bytes, vec_len}
use Rattle.std.specs.Fmt.{decimal}
use Rattle.file_parts.specs.Fixed.{fixed_text}
use Rattle.file_parts.proofs.Joins.{fixed_same, of_same, then_more}
use Rattle.parser_in_c.proofs.enumerations.push_counts.Goals as goal

pub returns : goal.returns
returns c =
    let small = string_bytes c.args.file.now.small in
    let big = string_bytes c.args.file.now.big in
    let t0 = string_bytes c.args.text.now in
    let t1 = string_bytes c.push_fixed.new.text in
    let t2 = string_bytes c.write.new.self in
    let t3 = string_bytes c.push_fixed-2.new.text in
    let t4 = string_bytes c.write-2.new.self in
    let t5 = string_bytes c.push_fixed-3.new.text in
    let t6 = string_bytes c.write-3.new.self in
    let t7 = string_bytes c.push_str.new.self in
    let a1 = fixed_text small big (codes "enum {\n    $TERMINALS = ") in
    let a2 = decimal (vec_len c.args.file.now.terminals) in
    let a3 = fixed_text small big (codes ",\n    $PRODUCTIONS = ") in
    let a4 = decimal (vec_len c.args.file.now.productions) in
    let a5 = fixed_text small big (codes ",\n    $SET_BYTES = ") in
    let a6 = decimal c.args.file.now.set_bytes in
    let a7 = codes "\n};\n\n" in
    let r6 = a6 ++ a7 in
    let r5 = a5 ++ r6 in
    let r4 = a4 ++ r5 in
    let r3 = a3 ++ r4 in
    let r2 = a2 ++ r3 in
    then_more t0 t1 t7 a1 r2 (fixed_same small big c.deref.result.now c.deref-2.result.now (codes "enum {\n    $TERMINALS = ") t0 t1 c.in_ok-push_fixed.ensures c.deref.ensures c.deref-2.ensures) (then_more t1 t2 t7 a2 r3 (of_same decimal (c.len.result) ((vec_len c.args.file.now.terminals)) t1 t2 c.in_ok-write.ensures.bytes c.len.ensures) (then_more t2 t3 t7 a3 r4 (fixed_same small big c.deref-3.result.now c.deref-4.result.now (codes ",\n    $PRODUCTIONS = ") t2 t3 c.in_ok-push_fixed-2.ensures c.deref-3.ensures c.deref-4.ensures) (then_more t3 t4 t7 a4 r5 (of_same decimal (c.len-2.result) ((vec_len c.args.file.now.productions)) t3 t4 c.in_ok-write-2.ensures.bytes c.len-2.ensures) (then_more t4 t5 t7 a5 r6 (fixed_same small big c.deref-5.result.now c.deref-6.result.now (codes ",\n    $SET_BYTES = ") t4 t5 c.in_ok-push_fixed-3.ensures c.deref-5.ensures c.deref-6.ensures) (then_more t5 t6 t7 a6 a7 c.in_ok-write-3.ensures.bytes c.in_ok-push_str.ensures.bytes)))))
