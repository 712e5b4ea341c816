pub mod Abs
pub mod Up
pub mod Operators
pub mod Signs
