use Rattle.std.proofs.Common.{◌++◌, codes, string_bytes}
use Rattle.std.specs.List.{flat_map}
use Rattle.std.specs.Fmt.{decimal}
use Rattle.file_parts.proofs.Joins.{of_same, then_more}
use Rattle.parser_in_python.specs.Tables.{array_text, literal_line}
use Rattle.parser_in_python.specs.declared.tables.TheConstants.{AFTER_ARRAYS, AFTER_SET_BYTES, BEFORE_NONTERMINAL_TEXTS, BEFORE_TERMINAL_TEXTS}
use Rattle.parser_in_python.proofs.tables.push_tables.Goals as goal

pub returns : goal.returns
returns c =
    let t0 = string_bytes c.args.text.now in
    let t1 = string_bytes c.push_str.new.self in
    let t2 = string_bytes c.push_literals.new.text in
    let t3 = string_bytes c.push_str-2.new.self in
    let t4 = string_bytes c.push_literals-2.new.text in
    let t5 = string_bytes c.push_str-3.new.self in
    let t6 = string_bytes c.push_arrays.new.text in
    let t7 = string_bytes c.push_str-4.new.self in
    let t8 = string_bytes c.write.new.self in
    let t9 = string_bytes c.push_str-5.new.self in
    let a1 = BEFORE_TERMINAL_TEXTS.now in
    let a2 = (flat_map literal_line) c.args.file.now.terminal_literals.items in
    let a3 = BEFORE_NONTERMINAL_TEXTS.now in
    let a4 = (flat_map literal_line) c.args.file.now.nonterminal_literals.items in
    let a5 = codes ")\n" in
    let a6 = (flat_map array_text) c.args.file.now.arrays.items in
    let a7 = AFTER_ARRAYS.now in
    let a8 = decimal c.args.file.now.set_bytes in
    let a9 = AFTER_SET_BYTES.now in
    let r8 = a8 ++ a9 in
    let r7 = a7 ++ r8 in
    let r6 = a6 ++ r7 in
    let r5 = a5 ++ r6 in
    let r4 = a4 ++ r5 in
    let r3 = a3 ++ r4 in
    let r2 = a2 ++ r3 in
    then_more t0 t1 t9 a1 r2 c.in_ok-push_str.ensures.bytes (then_more t1 t2 t9 a2 r3 (of_same (flat_map literal_line) (c.deref.result.now) (c.args.file.now.terminal_literals.items) t1 t2 c.in_ok-push_literals.ensures c.deref.ensures.value) (then_more t2 t3 t9 a3 r4 c.in_ok-push_str-2.ensures.bytes (then_more t3 t4 t9 a4 r5 (of_same (flat_map literal_line) (c.deref-2.result.now) (c.args.file.now.nonterminal_literals.items) t3 t4 c.in_ok-push_literals-2.ensures c.deref-2.ensures.value) (then_more t4 t5 t9 a5 r6 c.in_ok-push_str-3.ensures.bytes (then_more t5 t6 t9 a6 r7 (of_same (flat_map array_text) (c.deref-3.result.now) (c.args.file.now.arrays.items) t5 t6 c.in_ok-push_arrays.ensures c.deref-3.ensures.value) (then_more t6 t7 t9 a7 r8 c.in_ok-push_str-4.ensures.bytes (then_more t7 t8 t9 a8 a9 c.in_ok-write.ensures.bytes c.in_ok-push_str-5.ensures.bytes)))))))
