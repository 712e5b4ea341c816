-- the claims
pub mod Stands
pub mod Fields
pub mod Rows
pub mod Cells
pub mod Trees
pub mod Bytewise
pub mod Items
pub mod Theorems
pub mod Replies
mod Examples
-- the code
mod Frames
mod Subscripts
mod Cellwise
mod Bridge
mod Measuring
mod Writing
mod Heading
mod Facts
mod Wrapper
