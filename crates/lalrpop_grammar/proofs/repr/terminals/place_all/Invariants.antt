use Rattle.lalrpop_grammar.specs.Words.{HasPlaces}
use Rattle.lalrpop_grammar.proofs.repr.terminals.place_all.Given as goal

abbrev pub invariant-loop-place : goal.invariant-loop-place
invariant-loop-place l = HasPlaces l.terminals l.place l.places
