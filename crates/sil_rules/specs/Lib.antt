pub mod Rules
pub mod LimitWords
pub mod Statuses
pub mod Order
pub mod inner
pub mod RuleFaults
