use Rattle.lalrpop_grammar.proofs.theory.grammars.Grammars.{productions_own}
use Rattle.lalrpop_construction.proofs.construction.lr.Lr.new.Goals as goal

pub invariant_of-result : goal.invariant_of-result
invariant_of-result g c = record {
  well_formed = c.requires.well_formed;
  own = productions_own c.args.grammar.now c.requires.well_formed c.len-names.ensures.ordered;
  firsts = c.in_ok-first_sets.ensures.made;
  numbered = c.in_ok-numbers.ensures;
  fits = c.requires.fits;
}
