pub mod ImageGrammar
pub mod ImageTexts
pub mod ImageLines
pub mod ImageWrites
pub mod PutKeys
pub mod Answers
pub mod ImageOf
pub mod Unpacked
