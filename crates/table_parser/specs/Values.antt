-- The steps of a value stack: a step of the parser makes one value, from those of its right side
-- (Aho, Lam, Sethi and Ullman, Compilers, section 5.4).
use Rattle.std.specs.Prelude.{◌≡◌, ℕ, ◌-◌, List, [], ◌∷◌, ◌++◌, drop, length, take}
use Rattle.table_parser.specs.Events.{Event, Reduced, Shifted}

-- the actions made a value of an event, and the stack has it in the place of those that it is made of
abbrev pub IsValueStep : {A V : Type 0} → (A → ℕ → ℕ → V → A → Type 0) → (A → ℕ → List V → ℕ → ℕ → V → A → Type 0) → A → List V → Event → A → List V → Type 0
IsValueStep {V = V} shifts reduces a values (Shifted position bit) b new = (value : V) × shifts a position bit value b × (new ≡ values ++ value ∷ [])
IsValueStep {V = V} shifts reduces a values (Reduced production len first end) b new = (value : V) × reduces a production (drop (length values - len) values) first end value b × (new ≡ take (length values - len) values ++ value ∷ [])
