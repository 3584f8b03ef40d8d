-- States under other numbers.
pub mod RenumberedCanonical
pub mod RenumberedTables
pub mod RenumberedValid
