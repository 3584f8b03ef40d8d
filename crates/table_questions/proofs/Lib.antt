pub mod OwnItems
