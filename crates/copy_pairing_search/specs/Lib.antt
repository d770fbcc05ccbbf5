pub mod BorrowableCopies
