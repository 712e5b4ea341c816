pub mod Test
pub mod Tables
pub mod Update
pub mod Reply
pub mod Memory
pub mod Questions
