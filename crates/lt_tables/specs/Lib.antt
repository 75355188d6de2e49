pub mod Schema
pub mod Fair
pub mod Row
pub mod Version
pub mod Query
pub mod Pump
pub mod Coded
