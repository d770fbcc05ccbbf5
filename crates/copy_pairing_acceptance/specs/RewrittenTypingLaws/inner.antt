pub mod KeptTypes
