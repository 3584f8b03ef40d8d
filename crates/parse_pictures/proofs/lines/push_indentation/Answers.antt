use Rattle.std.proofs.Common.{◌≡◌, ◌-◌, ◌++◌, codes, suc, ap, ◌∙◌, append_assoc, string_bytes, arith}
use Rattle.parse_pictures.specs.TreeLines.{indentation}
use Rattle.parse_pictures.proofs.lines.push_indentation.Goals as goal

pub loop-left-preserved : goal.loop-left-preserved
loop-left-preserved c =
    let left = c.loop-left.left - 1 in
    let one : suc left ≡ c.loop-left.left = omega arith in
    ap (λ t. t ++ indentation left) c.in_ok-push_str.ensures.bytes
    ∙ append_assoc (string_bytes c.loop-left.text) (codes "  ") (indentation left)
    ∙ ap (λ n. string_bytes c.loop-left.text ++ indentation n) one
    ∙ c.loop-left.invariant
