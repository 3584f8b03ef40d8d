-- The places of conflicts in their list, by the numbers of their states.
use Rattle.std.specs.Prelude.{◌≡◌, ℕ, List, [], map, slice_get, Option, Some, None}
use Rattle.std.specs.Ordering.{nat_cmp}
use Rattle.std.specs.declared.vec.Vec.{Vec}
use Rattle.lalrpop_base.specs.Words.{collection_at}
use Rattle.lalrpop_states.specs.declared.lr1_core.state.Conflict.{Conflict}
use Rattle.lalrpop_report.specs.reports.Report.{conflicts_in}

-- the places that are listed, none if there is no list
abbrev pub places_of : {A : Type 0} → Option (Vec ℕ A) → List ℕ
places_of None = []
places_of (Some places) = places.items

-- the map has for each number the places in the list of the conflicts of the state with that number
abbrev pub ArePlacesOf : {L A : Type 0} → List (Conflict L) → List (Conflict L) → List (ℕ × Vec ℕ A) → Type 0
ArePlacesOf {L} all conflicts places = (number : ℕ) → map (slice_get all) (places_of (collection_at nat_cmp places number)) ≡ map (λ (c : Conflict L). Some c) (conflicts_in conflicts number)
