pub mod NumberLemmas
pub mod LineLemmas
pub mod FirstLemmas
pub mod RunsLemmas
pub mod ReadingLemmas
pub mod UniqueLemmas
