pub mod LogItem
pub mod LogWrite
pub mod LogCarry
