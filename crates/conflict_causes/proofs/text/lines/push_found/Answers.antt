use Rattle.std.proofs.Common.{◌++◌, List, ℕ, ap₂, codes, string_bytes, ◌∙◌}
use Rattle.lalrpop_ambiguity.specs.derivations.Derivations.{root}
use Rattle.lalrpop_ambiguity.specs.derivations.Represented.{tree_of}
use Rattle.lalrpop_collections.proofs.theory.lists.Pieces.{three_pieces}
use Rattle.lalrpop_grammar.specs.grammars.Names.{symbol_text}
use Rattle.conflict_causes.proofs.text.lines.push_found.Goals as goal

pub returns : goal.returns
returns c =
    let before = string_bytes c.args.text.now in
    let name = symbol_text (root (tree_of c.args.found.now.left)) in
    three_pieces _ _ _ _ _ _ _ c.in_ok-push_str.ensures.bytes c.in_ok-push_root.ensures c.in_ok-write.ensures.bytes
    ∙ ap₂ (λ (right left : List ℕ). before ++ (codes "  two derivations of " ++ (name ++ (codes ":\n    " ++ (right ++ (codes "\n    " ++ (left ++ codes "\n"))))))) c.in_ok-right.ensures.text c.in_ok-left.ensures.text
