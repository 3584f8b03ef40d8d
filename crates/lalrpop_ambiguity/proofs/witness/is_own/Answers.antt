use Rattle.std.proofs.Common.{List, subst, sym}
use Rattle.std.specs.Prelude.{Contains}
use Rattle.lalrpop_grammar.proofs.theory.grammars.Grammars.{productions_among, productions_own}
use Rattle.lalrpop_ambiguity.proofs.Types.{Production}
use Rattle.lalrpop_ambiguity.proofs.witness.is_own.Goals as goal

pub returns : goal.returns
returns c =
    let g = c.args.grammar.now in
    let p = c.args.production.now in (
      λ yes. productions_among g p.nonterminal p (subst (λ (ps : List Production). Contains ps p) c.productions_for.ensures (c.contains.ensures.0 yes)),
      λ own. c.contains.ensures.1 (subst (λ (ps : List Production). Contains ps p) (sym c.productions_for.ensures) (productions_own g c.requires c.len-names.ensures.ordered p own)),
    )
