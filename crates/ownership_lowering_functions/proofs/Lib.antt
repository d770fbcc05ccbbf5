pub mod FunctionLowering
