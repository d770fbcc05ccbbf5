pub mod MarkTables
