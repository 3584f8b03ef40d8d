use Rattle.std.proofs.Common.{◌++◌, codes, string_bytes}
use Rattle.std.specs.Fmt.{decimal}
use Rattle.file_parts.proofs.Joins.{then_more}
use Rattle.symbol_texts.proofs.heading.push_about.Goals as goal

pub returns : goal.returns
returns c =
    let t0 = string_bytes c.args.text.now in
    let t1 = string_bytes c.push_str.new.self in
    let t2 = string_bytes c.push_str-2.new.self in
    let t3 = string_bytes c.push_str-3.new.self in
    let t4 = string_bytes c.push_str-4.new.self in
    let t5 = string_bytes c.push_str-5.new.self in
    let t6 = string_bytes c.write.new.self in
    let a1 = c.args.sign.now in
    let a2 = codes " Start symbol: " in
    let a3 = c.args.start.now in
    let a4 = codes ". Method: " in
    let a5 = c.args.method.now in
    let a6 = codes ". Conflicts: none. States: " ++ (decimal c.args.states ++ codes ".\n") in
    let r5 = a5 ++ a6 in
    let r4 = a4 ++ r5 in
    let r3 = a3 ++ r4 in
    let r2 = a2 ++ r3 in
    then_more t0 t1 t6 a1 r2 c.in_ok-push_str.ensures.bytes (then_more t1 t2 t6 a2 r3 c.in_ok-push_str-2.ensures.bytes (then_more t2 t3 t6 a3 r4 c.in_ok-push_str-3.ensures.bytes (then_more t3 t4 t6 a4 r5 c.in_ok-push_str-4.ensures.bytes (then_more t4 t5 t6 a5 a6 c.in_ok-push_str-5.ensures.bytes c.in_ok-write.ensures.bytes))))
