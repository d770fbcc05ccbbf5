pub mod OwnedRows
pub mod OwnedInsts
pub mod OwnedEndForms
pub mod OwnedIsTyped
