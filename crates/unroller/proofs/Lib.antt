pub mod Parts
pub mod Encode
pub mod Inverse
pub mod Laws
pub mod Runs
mod Sums
pub mod Fits
pub mod Accepted
pub mod Question21
pub mod Questions
pub mod Values
pub mod Stands
mod Indices
mod WalkForward
mod WalkItems
mod Turns
mod Ranges
mod HeaderWords
mod UnrollRun
pub mod UnrollLaws
mod Cells
mod Records
mod Prefix
mod Scan
mod Updating
mod CheckWords
mod CheckZeros
mod CheckTrees
mod CheckCells
pub mod CheckArrays
mod CheckTable
mod CheckUpdates
mod CheckWhole
mod Alone
pub mod Executed
mod Traces
mod LastWriters
