pub mod TextLemmas
pub mod PlacedLemmas
pub mod FilesLemmas
pub mod SizesLemmas
pub mod SuitsLemmas
pub mod RegionsLemmas
