use Rattle.std.proofs.Common.{ap, refl, subst}
use Rattle.lalrpop_base.specs.Words.{IsLR1, productions}
use Rattle.lalrpop_construction.specs.Words.{Construction}
use Rattle.lalrpop_grammar.proofs.theory.grammars.Grammars.{productions_own}
use Rattle.lalrpop_grammar.specs.declared.repr.NonterminalString.{NonterminalString}
use Rattle.lalrpop_states.specs.declared.lookahead.nil.Nil.{Nil}
use Rattle.canonical_by_number.proofs.CanonicalTotals.{Total-counted}
use Rattle.canonical_by_number.proofs.canonical.canonical_states_or_count.Goals as goal

pub returns : goal.returns
returns c =
    let g = c.args.grammar.now in
    let there : ¬ IsLR1 (productions g) c.args.lr.construction.start = (rw c.in_default.is at c.in_ok-states.ensures.none) refl in
    let not = subst (λ (s : NonterminalString). ¬ IsLR1 (productions g) s) (ap (λ (k : Construction Nil). k.start) c.requires.over) there in
    Total-counted g c.args.start c.requires.well_formed (productions_own g c.requires.well_formed c.len-names.ensures.ordered) c.all-terminals.ensures.distinct not c.in_ok-count.count c.in_ok-count.ensures
