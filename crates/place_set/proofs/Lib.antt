pub mod ListLemmas
pub mod AddsLemmas
pub mod FlagsLemmas
