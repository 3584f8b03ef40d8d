use Rattle.std.proofs.Common.{rules, refl, ◌++◌, codes}
use Rattle.std.specs.Fmt.{HasWrittenStyled}
use Rattle.lalrpop_collections.proofs.theory.lists.Written.{written_then}
use Rattle.lalrpop_grammar.proofs.repr.TerminalStringDisplay.fmt.Goals as goal

pub returns-in_ok-write_str-in-Literal-2-clause-styled : goal.returns-in_ok-write_str-in-Literal-2-clause-styled
returns-in_ok-write_str-in-Literal-2-clause-styled g c = λ flush ok.
    let opened = c.in_ok-write_str-in-Literal.ensures.styled flush refl in
    let named = c.in_ok-write_str-in-Literal-2.ensures.styled opened.flush refl in
    let closed = c.write_str-in-Literal-2.ensures.styled named.flush ok in
    let all : HasWrittenStyled g.W.Write.write_str_gives c.args.f.now (codes "\"" ++ c.as_str.result.now ++ codes "\"") c.write_str-in-Literal-2.new.self =
    written_then g.W.Write.write_str_gives _ _ _ _ _ (written_then g.W.Write.write_str_gives _ _ _ _ _ opened named) closed in
    search (rules, all)
