pub mod Words
pub mod Settings
pub mod ClapCommand
pub mod ProgramWords
