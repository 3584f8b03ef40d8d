use Rattle.std.proofs.Common.{◌++◌, codes, string_bytes}
use Rattle.file_parts.proofs.Joins.{then_more}
use Rattle.symbol_texts.specs.Heading.{about_text}
use Rattle.symbol_texts.proofs.heading.push_heading.Goals as goal

pub returns : goal.returns
returns c =
    let t0 = string_bytes c.args.text.now in
    let t1 = string_bytes c.push_str.new.self in
    let t2 = string_bytes c.push_str-2.new.self in
    let t3 = string_bytes c.push_str-3.new.self in
    let t4 = string_bytes c.push_str-4.new.self in
    let t5 = string_bytes c.push_about.new.text in
    let t6 = string_bytes c.push_str-5.new.self in
    let t7 = string_bytes c.push_str-6.new.self in
    let t8 = string_bytes c.push_str-7.new.self in
    let t9 = string_bytes c.push_str-8.new.self in
    let t10 = string_bytes c.push_str-9.new.self in
    let t11 = string_bytes c.push_str-10.new.self in
    let a1 = c.args.sign.now in
    let a2 = codes " A parser by the LR(1) tables of lrshow 0.23.1. Do not edit it.\n" in
    let a3 = c.args.sign.now in
    let a4 = codes "\n" in
    let a5 = about_text c.args.sign.now c.args.start.now c.args.method.now c.args.states in
    let a6 = c.args.sign.now in
    let a7 = codes " The tables are exact: a state has an action on a terminal only if the LR(1) tables have one.\n" in
    let a8 = c.args.sign.now in
    let a9 = codes " " in
    let a10 = c.args.usage.now in
    let a11 = codes "\n" in
    let r10 = a10 ++ a11 in
    let r9 = a9 ++ r10 in
    let r8 = a8 ++ r9 in
    let r7 = a7 ++ r8 in
    let r6 = a6 ++ r7 in
    let r5 = a5 ++ r6 in
    let r4 = a4 ++ r5 in
    let r3 = a3 ++ r4 in
    let r2 = a2 ++ r3 in
    then_more t0 t1 t11 a1 r2 c.in_ok-push_str.ensures.bytes (then_more t1 t2 t11 a2 r3 c.in_ok-push_str-2.ensures.bytes (then_more t2 t3 t11 a3 r4 c.in_ok-push_str-3.ensures.bytes (then_more t3 t4 t11 a4 r5 c.in_ok-push_str-4.ensures.bytes (then_more t4 t5 t11 a5 r6 c.in_ok-push_about.ensures (then_more t5 t6 t11 a6 r7 c.in_ok-push_str-5.ensures.bytes (then_more t6 t7 t11 a7 r8 c.in_ok-push_str-6.ensures.bytes (then_more t7 t8 t11 a8 r9 c.in_ok-push_str-7.ensures.bytes (then_more t8 t9 t11 a9 r10 c.in_ok-push_str-8.ensures.bytes (then_more t9 t10 t11 a10 a11 c.in_ok-push_str-9.ensures.bytes c.in_ok-push_str-10.ensures.bytes)))))))))
