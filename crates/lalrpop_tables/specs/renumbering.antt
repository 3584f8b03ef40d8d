-- States under other numbers.
pub mod RenumberedTables
