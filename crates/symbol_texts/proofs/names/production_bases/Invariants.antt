use Rattle.std.proofs.Common.{◌≡◌, map, take}
use Rattle.symbol_texts.specs.Names.{production_name}
use Rattle.symbol_texts.specs.Texts.{texts_of}
use Rattle.symbol_texts.proofs.names.production_bases.Given as goal

abbrev pub invariant-loop-production : goal.invariant-loop-production
invariant-loop-production l = texts_of l.names.items ≡ map (production_name l.style) (take l.production-index l.productions)
