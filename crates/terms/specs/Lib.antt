pub mod Term
pub mod Mix
pub mod Chain
pub mod Store
pub mod Holds
pub mod Stored
