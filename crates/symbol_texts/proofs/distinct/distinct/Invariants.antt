use Rattle.std.proofs.Common.{◌≡◌, ◌++◌, drop}
use Rattle.symbol_texts.specs.Distinct.{distinct_names, names_from}
use Rattle.symbol_texts.specs.Texts.{texts_of}
use Rattle.symbol_texts.proofs.distinct.distinct.Given as goal

-- the names so far and those of the rest are the names of all
abbrev pub invariant-loop-number : goal.invariant-loop-number
invariant-loop-number l = texts_of l.names.items ++ names_from (texts_of l.bases) (texts_of l.taken) l.mark l.number (drop l.number (texts_of l.bases)) ≡ distinct_names (texts_of l.bases) l.mark (texts_of l.taken)
