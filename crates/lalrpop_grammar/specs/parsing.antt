-- Parse trees, valid items and runs of the parser. The promises of the main contract are about
-- these.
pub mod Laws
pub mod Runs
pub mod Trees
pub mod Validity
