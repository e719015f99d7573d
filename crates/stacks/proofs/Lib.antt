pub mod ReplayingLemmas
