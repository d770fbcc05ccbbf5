pub mod TypeDeclarations
