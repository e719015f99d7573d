pub mod DescribedLemmas
pub mod LineLemmas
pub mod MatchesLemmas
