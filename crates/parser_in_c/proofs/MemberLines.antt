-- The lines of the constants of an enumeration.
use Rattle.std.proofs.Common.{◌≡◌, ℕ, ◌+◌, ◌<◌, List, ◌++◌, drop, get_or, length, ap, sym, ◌∙◌}
use Rattle.std.proofs.lemmas.List.{at_drop_more}
use Rattle.file_parts.specs.declared.parts.Constant.{Constant}
use Rattle.parser_in_c.specs.Enumerations.{comma_before, member_line, members_text}

-- the lines from a constant on are its line and those of the rest
pub members_more : (big letter : List ℕ) (constants : List Constant) (n : ℕ) (c : Constant) → n < length constants → c ≡ get_or constants n c →
    members_text big letter (drop n constants) ≡ member_line big letter (comma_before (drop (n + 1) constants)) c ++ members_text big letter (drop (n + 1) constants)
members_more big letter constants n c inside is =
    at_drop_more (members_text big letter) constants n c inside
    ∙ ap (λ (x : Constant). member_line big letter (comma_before (drop (n + 1) constants)) x ++ members_text big letter (drop (n + 1) constants)) (sym is)
