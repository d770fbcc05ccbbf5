pub mod FaultOrder
