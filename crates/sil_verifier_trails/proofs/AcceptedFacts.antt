pub mod PlainAddresses
pub mod BorrowedUsed
pub mod BasesAsBorrowed
pub mod MadeBefore
pub mod NonesMade
pub mod Facts
