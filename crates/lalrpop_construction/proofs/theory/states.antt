-- States and their items.
pub mod EdgesByNumber
pub mod FinishedItems
pub mod InsertedKernels
pub mod ItemNumbers
pub mod MadeByNumber
pub mod NumberedItems
pub mod Universe
