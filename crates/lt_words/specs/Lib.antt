pub mod SchemaText
pub mod Script
pub mod Reply
pub mod Lines
