pub mod AlikeLaws
pub mod NextLaws
pub mod StatLaws
pub mod ToldLaws
