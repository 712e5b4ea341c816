pub mod Within
pub mod Filled
pub mod Framed
