pub mod Camel
pub mod CamelSigns
pub mod Signs
pub mod Upper
pub mod Words
