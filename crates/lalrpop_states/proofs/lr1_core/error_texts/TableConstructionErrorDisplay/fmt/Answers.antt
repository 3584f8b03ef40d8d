use Rattle.std.proofs.Common.{rules, refl, ◌++◌, codes, decimal}
use Rattle.std.specs.Fmt.{HasWrittenStyled}
use Rattle.lalrpop_collections.proofs.theory.lists.Written.{written_then}
use Rattle.lalrpop_states.proofs.lr1_core.error_texts.TableConstructionErrorDisplay.fmt.Goals as goal

pub returns-clause-styled : goal.returns-clause-styled
returns-clause-styled g c = λ flush ok.
    let number = c.in_ok-write_decimal.ensures.styled flush refl in
    let word = c.write_str-2.ensures.styled number.flush ok in
    let both : HasWrittenStyled g.W.Write.write_str_gives c.args.f.now (decimal c.len-count.result ++ codes " conflicts") c.write_str-2.new.self = written_then g.W.Write.write_str_gives _ _ _ _ _ number word in
    search (rules, both)
