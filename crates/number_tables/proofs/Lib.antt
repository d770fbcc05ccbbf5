pub mod ContainmentOrder
pub mod PathLists
pub mod TableByNumber
