pub mod BorrowableCopies
pub mod CopyRewriting
