use Rattle.std.proofs.Common.{ℕ, List, ◌++◌, codes, string_bytes}
use Rattle.file_parts.proofs.Joins.{of_same, then_more}
use Rattle.file_parts.specs.Lines.{number_lines}
use Rattle.parser_in_python.proofs.tables.push_array.Goals as goal

pub returns : goal.returns
returns c =
    let t0 = string_bytes c.args.text.now in
    let t1 = string_bytes c.push_str.new.self in
    let t2 = string_bytes c.push_str-2.new.self in
    let t3 = string_bytes c.push_str-3.new.self in
    let t4 = string_bytes c.push_str-4.new.self in
    let t5 = string_bytes c.push_str-5.new.self in
    let t6 = string_bytes c.push_numbers.new.text in
    let t7 = string_bytes c.push_str-6.new.self in
    let a1 = codes "# " in
    let a2 = string_bytes c.args.array.now.comment in
    let a3 = codes "\n_" in
    let a4 = string_bytes c.args.array.now.name in
    let a5 = codes ": tuple[int, ...] = (\n" in
    let a6 = (number_lines (codes "    ")) c.args.array.now.numbers.items in
    let a7 = codes ")\n" in
    let r6 = a6 ++ a7 in
    let r5 = a5 ++ r6 in
    let r4 = a4 ++ r5 in
    let r3 = a3 ++ r4 in
    let r2 = a2 ++ r3 in
    then_more t0 t1 t7 a1 r2 c.in_ok-push_str.ensures.bytes (then_more t1 t2 t7 a2 r3 (of_same (λ (x : List ℕ). x) (c.deref.result.now) (string_bytes c.args.array.now.comment) t1 t2 c.in_ok-push_str-2.ensures.bytes c.deref.ensures) (then_more t2 t3 t7 a3 r4 c.in_ok-push_str-3.ensures.bytes (then_more t3 t4 t7 a4 r5 (of_same (λ (x : List ℕ). x) (c.deref-2.result.now) (string_bytes c.args.array.now.name) t3 t4 c.in_ok-push_str-4.ensures.bytes c.deref-2.ensures) (then_more t4 t5 t7 a5 r6 c.in_ok-push_str-5.ensures.bytes (then_more t5 t6 t7 a6 a7 (of_same (number_lines (codes "    ")) (c.deref-3.result.now) (c.args.array.now.numbers.items) t5 t6 c.in_ok-push_numbers.ensures c.deref-3.ensures.value) c.in_ok-push_str-6.ensures.bytes)))))
