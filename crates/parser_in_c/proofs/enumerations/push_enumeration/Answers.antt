use Rattle.std.proofs.Common.{ℕ, List, ◌++◌, codes, string_bytes}
use Rattle.file_parts.proofs.Joins.{of_same, then_more}
use Rattle.parser_in_c.specs.Enumerations.{members_text}
use Rattle.parser_in_c.proofs.enumerations.push_enumeration.Goals as goal

pub returns : goal.returns
returns c =
    let t0 = string_bytes c.args.text.now in
    let t1 = string_bytes c.push_str.new.self in
    let t2 = string_bytes c.push_members.new.text in
    let t3 = string_bytes c.push_str-2.new.self in
    let t4 = string_bytes c.push_str-3.new.self in
    let t5 = string_bytes c.push_str-4.new.self in
    let t6 = string_bytes c.push_str-5.new.self in
    let a1 = codes "typedef enum {\n" in
    let a2 = members_text (string_bytes c.args.file.now.big) c.args.letter.now c.args.constants.now in
    let a3 = codes "} " in
    let a4 = string_bytes c.args.file.now.small in
    let a5 = c.args.kind.now in
    let a6 = codes ";\n\n" in
    let r5 = a5 ++ a6 in
    let r4 = a4 ++ r5 in
    let r3 = a3 ++ r4 in
    let r2 = a2 ++ r3 in
    then_more t0 t1 t6 a1 r2 c.in_ok-push_str.ensures.bytes (then_more t1 t2 t6 a2 r3 (of_same (λ (b : List ℕ). members_text b c.args.letter.now c.args.constants.now) (c.deref.result.now) (string_bytes c.args.file.now.big) t1 t2 c.in_ok-push_members.ensures c.deref.ensures) (then_more t2 t3 t6 a3 r4 c.in_ok-push_str-2.ensures.bytes (then_more t3 t4 t6 a4 r5 (of_same (λ (x : List ℕ). x) (c.deref-2.result.now) (string_bytes c.args.file.now.small) t3 t4 c.in_ok-push_str-3.ensures.bytes c.deref-2.ensures) (then_more t4 t5 t6 a5 a6 c.in_ok-push_str-4.ensures.bytes c.in_ok-push_str-5.ensures.bytes))))
