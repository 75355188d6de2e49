pub mod ModelCodes
pub mod Group
pub mod Join
pub mod Relay
pub mod Encoded
pub mod Closed
