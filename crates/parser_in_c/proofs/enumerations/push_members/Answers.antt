use Rattle.std.proofs.Common.{◌≡◌, ℕ, ◌+◌, List, ◌++◌, drop, string_bytes, rules, sym, ap, ◌∙◌, append_assoc}
use Rattle.std.proofs.lemmas.List.{take_rest}
use Rattle.parser_in_c.specs.Enumerations.{comma_before, member_line, members_text}
use Rattle.parser_in_c.proofs.MemberLines.{members_more}
use Rattle.parser_in_c.proofs.enumerations.push_members.Goals as goal

pub loop-number-preserved : goal.loop-number-preserved
loop-number-preserved c =
    let all = c.args.constants.now in
    let big = c.args.big.now in
    let letter = c.args.letter.now in
    let n = c.loop-number.number in
    let it = c.index-constants-number.result in
    let comma = comma_before (drop (n + 1) all) in
    let rest = members_text big letter (drop (n + 1) all) in
    let text = string_bytes c.loop-number.text in
    let same : c.comma_before-comma.result.now ≡ comma = search (rules, take_rest) in
    ap (λ (t : List ℕ). t ++ rest) (c.in_ok-push_member.ensures ∙ ap (λ (x : List ℕ). text ++ member_line big letter x it) same)
    ∙ append_assoc text (member_line big letter comma it) rest
    ∙ ap (λ (t : List ℕ). text ++ t) (sym (members_more big letter all n it c.loop-number-test.true c.index-constants-number.is))
    ∙ c.loop-number.invariant
