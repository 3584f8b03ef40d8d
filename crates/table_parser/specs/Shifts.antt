-- A shift, as the code makes it.
use Rattle.std.specs.Prelude.{◌≡◌, ℕ, suc, ◌+◌, [], ◌∷◌, ◌++◌}
use Rattle.table_parser.specs.Events.{Event, Shifted}
use Rattle.table_parser.specs.declared.machine.Machine.{Machine}

-- the terminal with a bit was shifted, and the handler took that
pub record IsShifted {H : Type 0} (takes : H → Event → H → Type 0) (old : Machine) (target bit : ℕ) (h : H) (new : Machine) (i : H) : Type 0 where
  pub state : new.state ≡ target
  pub below : new.below.items ≡ old.below.items ++ (old.state, old.position) ∷ []
  pub position : new.position ≡ old.position + 1
  pub counted : suc new.left ≡ old.left
  pub table : new.table ≡ old.table
  pub taken : takes h (Shifted old.position bit) i
