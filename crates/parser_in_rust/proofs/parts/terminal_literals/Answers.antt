use Rattle.std.proofs.Common.{ℕ, List, [], ◌∷◌, ◌++◌, map, string_bytes, ap, ◌∙◌}
use Rattle.std.proofs.lemmas.List.{map_push}
use Rattle.parser_in_rust.specs.Literals.{quoted}
use Rattle.symbol_texts.specs.Texts.{texts_of}
use Rattle.parser_in_rust.proofs.parts.terminal_literals.Goals as goal

pub returns : goal.returns
returns c =
    let literals = c.in_ok-literals.literals.items in
    let own = c.in_ok-quoted.field-0 in
    let all = map quoted (texts_of c.args.terminals.now) in
    ap texts_of c.in_ok-push.ensures.items
    ∙ map_push string_bytes literals own
    ∙ ap (λ (t : List (List ℕ)). t ++ string_bytes own ∷ []) c.in_ok-literals.ensures
    ∙ ap (λ (x : List ℕ). all ++ x ∷ []) c.in_ok-quoted.ensures
