use Rattle.std.proofs.Common.{◌≡◌, map, take}
use Rattle.parser_text.specs.Texts.{production_parts, production_words}
use Rattle.parser_text.proofs.texts.production_texts.Given as goal

abbrev pub invariant-loop-production : goal.invariant-loop-production
invariant-loop-production l = map production_parts l.texts.items ≡ map production_words (take l.production-index l.productions)
