use Rattle.std.proofs.Common.{◌++◌, codes, string_bytes}
use Rattle.std.specs.List.{flat_map}
use Rattle.file_parts.proofs.Joins.{then_more}
use Rattle.parser_in_rust.specs.Arrays.{array_type, array_value}
use Rattle.parser_in_rust.proofs.arrays.push_tables.Goals as goal

pub returns : goal.returns
returns c =
    let t0 = string_bytes c.args.text.now in
    let t1 = string_bytes c.push_str.new.self in
    let t2 = string_bytes c.push_types.new.text in
    let t3 = string_bytes c.push_str-2.new.self in
    let t4 = string_bytes c.push_values.new.text in
    let t5 = string_bytes c.push_str-3.new.self in
    let a1 = codes "struct Tables {\n" in
    let a2 = flat_map array_type c.args.arrays.now in
    let a3 = codes "}\n\n#[rustfmt::skip]\nstatic TABLES: Tables = Tables {\n" in
    let a4 = flat_map array_value c.args.arrays.now in
    let a5 = codes "};\n\n" in
    let r4 = a4 ++ a5 in
    let r3 = a3 ++ r4 in
    let r2 = a2 ++ r3 in
    then_more t0 t1 t5 a1 r2 c.in_ok-push_str.ensures.bytes (then_more t1 t2 t5 a2 r3 c.in_ok-push_types.ensures (then_more t2 t3 t5 a3 r4 c.in_ok-push_str-2.ensures.bytes (then_more t3 t4 t5 a4 a5 c.in_ok-push_values.ensures c.in_ok-push_str-3.ensures.bytes)))
