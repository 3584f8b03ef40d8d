use Rattle.std.proofs.Common.{◌≡◌, ◌++◌, take}
use Rattle.std.specs.List.{flat_map}
use Rattle.symbol_texts.specs.Names.{long_name}
use Rattle.symbol_texts.specs.Texts.{texts_of}
use Rattle.symbol_texts.proofs.names.push_long.Given as goal

abbrev pub invariant-loop-production : goal.invariant-loop-production
invariant-loop-production l = texts_of l.names.items ≡ texts_of l.fn.names.items ++ flat_map (long_name l.style) (take l.production-index l.productions)
