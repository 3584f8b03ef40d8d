-- States and their items.
pub mod EdgeLeads
