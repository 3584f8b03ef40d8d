use Rattle.std.proofs.Common.{ℕ, ◌+◌, List, ◌++◌, drop, string_bytes, sym, ap, ◌∙◌, append_assoc}
use Rattle.std.proofs.lemmas.List.{at_drop_more}
use Rattle.file_parts.specs.declared.parts.Constant.{Constant}
use Rattle.parser_in_python.specs.Classes.{member_line, members_from}
use Rattle.parser_in_python.proofs.classes.push_members.Goals as goal

pub loop-number-preserved : goal.loop-number-preserved
loop-number-preserved c =
    let all = c.args.constants.now in
    let n = c.loop-number.number in
    let it = c.index-constants-number.result in
    let rest = members_from (n + 1) (drop (n + 1) all) in
    let text = string_bytes c.loop-number.text in
    ap (λ (t : List ℕ). t ++ rest) c.in_ok-push_member.ensures
    ∙ append_assoc text (member_line n it) rest
    ∙ ap (λ (t : List ℕ). text ++ t) (ap (λ (x : Constant). member_line n x ++ rest) c.index-constants-number.is ∙ sym (at_drop_more (members_from n) all n it c.loop-number-test.true))
    ∙ c.loop-number.invariant
