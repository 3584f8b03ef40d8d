use Rattle.std.proofs.Common.{◌++◌, codes, string_bytes}
use Rattle.file_parts.proofs.Joins.{of_same, then_more}
use Rattle.parser_in_c.specs.Enumerations.{counts_text, enumeration_text, literals_text}
use Rattle.parser_in_c.proofs.file.push_constants.Goals as goal

pub returns : goal.returns
returns c =
    let t0 = string_bytes c.args.text.now in
    let t1 = string_bytes c.push_enumeration.new.text in
    let t2 = string_bytes c.push_enumeration-2.new.text in
    let t3 = string_bytes c.push_enumeration-3.new.text in
    let t4 = string_bytes c.push_counts.new.text in
    let t5 = string_bytes c.push_literals.new.text in
    let t6 = string_bytes c.push_literals-2.new.text in
    let a1 = (enumeration_text c.args.file.now (codes "terminal") (codes "T_")) c.args.file.now.terminals.items in
    let a2 = (enumeration_text c.args.file.now (codes "nonterminal") (codes "N_")) c.args.file.now.nonterminals.items in
    let a3 = (enumeration_text c.args.file.now (codes "production") (codes "P_")) c.args.file.now.productions.items in
    let a4 = counts_text c.args.file.now in
    let a5 = (literals_text c.args.file.now (codes "terminal_texts") (codes "the text of a terminal")) c.args.file.now.terminal_literals.items in
    let a6 = (literals_text c.args.file.now (codes "nonterminal_texts") (codes "the name of a nonterminal")) c.args.file.now.nonterminal_literals.items in
    let r5 = a5 ++ a6 in
    let r4 = a4 ++ r5 in
    let r3 = a3 ++ r4 in
    let r2 = a2 ++ r3 in
    then_more t0 t1 t6 a1 r2 (of_same (enumeration_text c.args.file.now (codes "terminal") (codes "T_")) (c.deref.result.now) (c.args.file.now.terminals.items) t0 t1 c.in_ok-push_enumeration.ensures c.deref.ensures.value) (then_more t1 t2 t6 a2 r3 (of_same (enumeration_text c.args.file.now (codes "nonterminal") (codes "N_")) (c.deref-2.result.now) (c.args.file.now.nonterminals.items) t1 t2 c.in_ok-push_enumeration-2.ensures c.deref-2.ensures.value) (then_more t2 t3 t6 a3 r4 (of_same (enumeration_text c.args.file.now (codes "production") (codes "P_")) (c.deref-3.result.now) (c.args.file.now.productions.items) t2 t3 c.in_ok-push_enumeration-3.ensures c.deref-3.ensures.value) (then_more t3 t4 t6 a4 r5 c.in_ok-push_counts.ensures (then_more t4 t5 t6 a5 a6 (of_same (literals_text c.args.file.now (codes "terminal_texts") (codes "the text of a terminal")) (c.deref-4.result.now) (c.args.file.now.terminal_literals.items) t4 t5 c.in_ok-push_literals.ensures c.deref-4.ensures.value) (of_same (literals_text c.args.file.now (codes "nonterminal_texts") (codes "the name of a nonterminal")) (c.deref-5.result.now) (c.args.file.now.nonterminal_literals.items) t5 t6 c.in_ok-push_literals-2.ensures c.deref-5.ensures.value)))))
