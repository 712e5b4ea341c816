pub mod Values
pub mod Classes
pub mod First
pub mod Alike
pub mod Unwritten
pub mod SameTables
pub mod Demand2
pub mod Reorder
pub mod Positions
pub mod KeptLists
pub mod Theorems
pub mod Itself
pub mod Outs
pub mod Plain
pub mod Input
pub mod Questions
pub mod Batches
pub mod Table
pub mod Examples
pub mod Writing
pub mod Carried
mod Headers
mod ListEntries
mod Clearing
mod ProgramEntries
mod Masks
mod BatchLaws
pub mod Explains
pub mod Explanations
mod Slots
mod Leaves
mod Arguments
mod Updates
mod Sizes
mod Agreeing
mod Firsts
mod Shared
mod Halves
mod Whole
