use Rattle.std.proofs.Common.{ℕ, List, ◌++◌, codes, length, string_bytes}
use Rattle.std.specs.List.{flat_map}
use Rattle.file_parts.proofs.Joins.{of_same, then_more}
use Rattle.parser_in_rust.specs.Enumerations.{count_bits, variant_lines}
use Rattle.parser_in_rust.proofs.enumerations.push_enumeration.Goals as goal

pub returns : goal.returns
returns c =
    let t0 = string_bytes c.args.text.now in
    let t1 = string_bytes c.push_str.new.self in
    let t2 = string_bytes c.push_str-2.new.self in
    let t3 = string_bytes c.push_str-3.new.self in
    let t4 = string_bytes c.push_str-4.new.self in
    let t5 = string_bytes c.push_str-5.new.self in
    let t6 = string_bytes c.push_str-6.new.self in
    let t7 = string_bytes c.push_str-7.new.self in
    let t8 = string_bytes c.push_str-8.new.self in
    let t9 = string_bytes c.push_variants.new.text in
    let t10 = string_bytes c.push_str-9.new.self in
    let a1 = codes "/// " in
    let a2 = c.args.comment.now in
    let a3 = codes "\n#[derive(Clone, Copy, Debug, PartialEq, Eq, PartialOrd, Ord, Hash)]\n" in
    let a4 = codes "#[repr(u" in
    let a5 = count_bits (length c.args.constants.now) in
    let a6 = codes ")]\npub enum " in
    let a7 = c.args.name.now in
    let a8 = codes " {\n" in
    let a9 = flat_map variant_lines c.args.constants.now in
    let a10 = codes "}\n\n" in
    let r9 = a9 ++ a10 in
    let r8 = a8 ++ r9 in
    let r7 = a7 ++ r8 in
    let r6 = a6 ++ r7 in
    let r5 = a5 ++ r6 in
    let r4 = a4 ++ r5 in
    let r3 = a3 ++ r4 in
    let r2 = a2 ++ r3 in
    then_more t0 t1 t10 a1 r2 c.in_ok-push_str.ensures.bytes (then_more t1 t2 t10 a2 r3 c.in_ok-push_str-2.ensures.bytes (then_more t2 t3 t10 a3 r4 c.in_ok-push_str-3.ensures.bytes (then_more t3 t4 t10 a4 r5 c.in_ok-push_str-4.ensures.bytes (then_more t4 t5 t10 a5 r6 (of_same (λ (x : List ℕ). x) (c.bits_of.result.now) (count_bits (length c.args.constants.now)) t4 t5 c.in_ok-push_str-5.ensures.bytes c.bits_of.ensures) (then_more t5 t6 t10 a6 r7 c.in_ok-push_str-6.ensures.bytes (then_more t6 t7 t10 a7 r8 c.in_ok-push_str-7.ensures.bytes (then_more t7 t8 t10 a8 r9 c.in_ok-push_str-8.ensures.bytes (then_more t8 t9 t10 a9 a10 c.in_ok-push_variants.ensures c.in_ok-push_str-9.ensures.bytes))))))))
