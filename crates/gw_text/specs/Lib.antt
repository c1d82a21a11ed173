pub mod AssemblerTokens
pub mod AssemblerForms
pub mod FormViews
pub mod Assembly
pub mod Sources
pub mod Disassembly
pub mod OperandView
