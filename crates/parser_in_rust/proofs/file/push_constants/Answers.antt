use Rattle.std.proofs.Common.{◌++◌, codes, string_bytes}
use Rattle.file_parts.proofs.Joins.{of_same, then_more}
use Rattle.parser_in_rust.specs.Enumerations.{enumeration_text}
use Rattle.parser_in_rust.specs.Lists.{literals_text, members_text}
use Rattle.parser_in_rust.proofs.file.push_constants.Goals as goal

pub returns : goal.returns
returns c =
    let t0 = string_bytes c.args.text.now in
    let t1 = string_bytes c.push_enumeration.new.text in
    let t2 = string_bytes c.push_enumeration-2.new.text in
    let t3 = string_bytes c.push_enumeration-3.new.text in
    let t4 = string_bytes c.push_members.new.text in
    let t5 = string_bytes c.push_members-2.new.text in
    let t6 = string_bytes c.push_members-3.new.text in
    let t7 = string_bytes c.push_literals.new.text in
    let t8 = string_bytes c.push_literals-2.new.text in
    let a1 = (enumeration_text (codes "A terminal, or the end of the input.") (codes "Terminal")) c.args.file.now.terminals.items in
    let a2 = (enumeration_text (codes "A nonterminal.") (codes "Nonterminal")) c.args.file.now.nonterminals.items in
    let a3 = (enumeration_text (codes "A production.") (codes "Production")) c.args.file.now.productions.items in
    let a4 = (members_text (codes "the terminals") (codes "TERMINALS") (codes "Terminal")) c.args.file.now.terminals.items in
    let a5 = (members_text (codes "the nonterminals") (codes "NONTERMINALS") (codes "Nonterminal")) c.args.file.now.nonterminals.items in
    let a6 = (members_text (codes "the productions") (codes "PRODUCTIONS") (codes "Production")) c.args.file.now.productions.items in
    let a7 = (literals_text (codes "the text of a terminal") (codes "TERMINAL_TEXTS")) c.args.file.now.terminal_literals.items in
    let a8 = (literals_text (codes "the name of a nonterminal") (codes "NONTERMINAL_TEXTS")) c.args.file.now.nonterminal_literals.items in
    let r7 = a7 ++ a8 in
    let r6 = a6 ++ r7 in
    let r5 = a5 ++ r6 in
    let r4 = a4 ++ r5 in
    let r3 = a3 ++ r4 in
    let r2 = a2 ++ r3 in
    then_more t0 t1 t8 a1 r2 (of_same (enumeration_text (codes "A terminal, or the end of the input.") (codes "Terminal")) (c.deref.result.now) (c.args.file.now.terminals.items) t0 t1 c.in_ok-push_enumeration.ensures c.deref.ensures.value) (then_more t1 t2 t8 a2 r3 (of_same (enumeration_text (codes "A nonterminal.") (codes "Nonterminal")) (c.deref-2.result.now) (c.args.file.now.nonterminals.items) t1 t2 c.in_ok-push_enumeration-2.ensures c.deref-2.ensures.value) (then_more t2 t3 t8 a3 r4 (of_same (enumeration_text (codes "A production.") (codes "Production")) (c.deref-3.result.now) (c.args.file.now.productions.items) t2 t3 c.in_ok-push_enumeration-3.ensures c.deref-3.ensures.value) (then_more t3 t4 t8 a4 r5 (of_same (members_text (codes "the terminals") (codes "TERMINALS") (codes "Terminal")) (c.deref-4.result.now) (c.args.file.now.terminals.items) t3 t4 c.in_ok-push_members.ensures c.deref-4.ensures.value) (then_more t4 t5 t8 a5 r6 (of_same (members_text (codes "the nonterminals") (codes "NONTERMINALS") (codes "Nonterminal")) (c.deref-5.result.now) (c.args.file.now.nonterminals.items) t4 t5 c.in_ok-push_members-2.ensures c.deref-5.ensures.value) (then_more t5 t6 t8 a6 r7 (of_same (members_text (codes "the productions") (codes "PRODUCTIONS") (codes "Production")) (c.deref-6.result.now) (c.args.file.now.productions.items) t5 t6 c.in_ok-push_members-3.ensures c.deref-6.ensures.value) (then_more t6 t7 t8 a7 a8 (of_same (literals_text (codes "the text of a terminal") (codes "TERMINAL_TEXTS")) (c.deref-7.result.now) (c.args.file.now.terminal_literals.items) t6 t7 c.in_ok-push_literals.ensures c.deref-7.ensures.value) (of_same (literals_text (codes "the name of a nonterminal") (codes "NONTERMINAL_TEXTS")) (c.deref-8.result.now) (c.args.file.now.nonterminal_literals.items) t7 t8 c.in_ok-push_literals-2.ensures c.deref-8.ensures.value)))))))
