pub mod LargestLemmas
pub mod TextsLemmas
