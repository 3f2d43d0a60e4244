pub mod ClapHolding
pub mod StrayWords
pub mod Agreement
pub mod NumberLemmas
pub mod ClapLemmas
pub mod ValueLemmas
pub mod ReadAs
pub mod ProgramWords
