pub mod Listed
pub mod PairAt
