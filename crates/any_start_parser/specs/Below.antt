-- The steps of a run below the new start symbol.
use Rattle.std.specs.Prelude.{◌≡◌, ◌≢◌, ℕ}
use Rattle.table_parser.specs.Events.{Event, Reduced, Shifted}
use Rattle.any_start_parser.specs.declared.handler.BelowStart.{BelowStart}

-- a handler takes an event, unless it is a reduction by the production with a number. Such a
-- reduction leaves the handler as it was
abbrev pub TakesUnless : {H : Type 0} → (H → Event → H → Type 0) → ℕ → H → Event → H → Type 0
TakesUnless takes number h (Shifted position bit) i = takes h (Shifted position bit) i
TakesUnless takes number h (Reduced production len first end) i = (production ≡ number → i ≡ h) × (production ≢ number → takes h (Reduced production len first end) i)

-- so does the handler below the new start symbol, whose production has the number that is kept
abbrev pub TakesBelow : {H : Type 0} → (H → Event → H → Type 0) → BelowStart H → Event → BelowStart H → Type 0
TakesBelow takes u event v = (v.production ≡ u.production) × TakesUnless takes u.production u.handler event v.handler
