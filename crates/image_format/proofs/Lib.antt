pub mod NamesLemmas
pub mod KnownLemmas
pub mod ReachedLemmas
pub mod DroppedLemmas
pub mod RowsLemmas
