pub mod Plan
pub mod Content
pub mod History
pub mod HistoryLaws
pub mod Crash
pub mod Memory
pub mod Adapters
pub mod Within
