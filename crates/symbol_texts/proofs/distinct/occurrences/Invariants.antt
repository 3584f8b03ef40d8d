use Rattle.std.proofs.Common.{◌≡◌, ◌≤◌, string_bytes, take}
use Rattle.symbol_texts.specs.Distinct.{occurrences}
use Rattle.symbol_texts.specs.Texts.{texts_of}
use Rattle.symbol_texts.proofs.distinct.occurrences.Given as goal

abbrev pub invariant-loop-other : goal.invariant-loop-other
invariant-loop-other l = record {
  is : l.count ≡ occurrences (string_bytes l.text) (take l.other-index (texts_of l.all));
  few : l.count ≤ l.other-index;
}
