pub mod Views
pub mod BuiltinViews
