pub mod FunctionLowering
pub mod ValueRenumbering
