use Rattle.std.proofs.Common.{◌++◌, string_bytes}
use Rattle.file_parts.proofs.Joins.{of_same, then_more}
use Rattle.parser_in_python.specs.Classes.{members_from}
use Rattle.parser_in_python.specs.declared.classes.TheConstants.{AFTER_PRODUCTIONS, BEFORE_NONTERMINALS, BEFORE_PRODUCTIONS, BEFORE_TERMINALS}
use Rattle.parser_in_python.proofs.classes.push_classes.Goals as goal

pub returns : goal.returns
returns c =
    let t0 = string_bytes c.args.text.now in
    let t1 = string_bytes c.push_str.new.self in
    let t2 = string_bytes c.push_members.new.text in
    let t3 = string_bytes c.push_str-2.new.self in
    let t4 = string_bytes c.push_members-2.new.text in
    let t5 = string_bytes c.push_str-3.new.self in
    let t6 = string_bytes c.push_members-3.new.text in
    let t7 = string_bytes c.push_str-4.new.self in
    let a1 = BEFORE_TERMINALS.now in
    let a2 = (members_from 0) c.args.file.now.terminals.items in
    let a3 = BEFORE_NONTERMINALS.now in
    let a4 = (members_from 0) c.args.file.now.nonterminals.items in
    let a5 = BEFORE_PRODUCTIONS.now in
    let a6 = (members_from 0) c.args.file.now.productions.items in
    let a7 = AFTER_PRODUCTIONS.now in
    let r6 = a6 ++ a7 in
    let r5 = a5 ++ r6 in
    let r4 = a4 ++ r5 in
    let r3 = a3 ++ r4 in
    let r2 = a2 ++ r3 in
    then_more t0 t1 t7 a1 r2 c.in_ok-push_str.ensures.bytes (then_more t1 t2 t7 a2 r3 (of_same (members_from 0) (c.deref.result.now) (c.args.file.now.terminals.items) t1 t2 c.in_ok-push_members.ensures c.deref.ensures.value) (then_more t2 t3 t7 a3 r4 c.in_ok-push_str-2.ensures.bytes (then_more t3 t4 t7 a4 r5 (of_same (members_from 0) (c.deref-2.result.now) (c.args.file.now.nonterminals.items) t3 t4 c.in_ok-push_members-2.ensures c.deref-2.ensures.value) (then_more t4 t5 t7 a5 r6 c.in_ok-push_str-3.ensures.bytes (then_more t5 t6 t7 a6 a7 (of_same (members_from 0) (c.deref-3.result.now) (c.args.file.now.productions.items) t5 t6 c.in_ok-push_members-3.ensures c.deref-3.ensures.value) c.in_ok-push_str-4.ensures.bytes)))))
