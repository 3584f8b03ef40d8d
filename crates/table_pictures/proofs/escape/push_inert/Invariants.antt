use Rattle.std.proofs.Common.{◌≡◌, ◌++◌, length, string_bytes}
use denote.Text.{Utf8}
use denote.Shadow.{shadow}
use Rattle.table_pictures.specs.Escape.{inert}
use Rattle.table_pictures.proofs.escape.push_inert.Given as goal

-- the text so far and that of the rest are the text of all
abbrev pub invariant-loop-before : goal.invariant-loop-before
invariant-loop-before l =
    shadow (Utf8 l.rest) × (string_bytes l.text ++ inert l.rest ≡ string_bytes l.fn.text ++ inert l.json)

abbrev pub decreases-loop-before : goal.decreases-loop-before
decreases-loop-before l = length l.rest
