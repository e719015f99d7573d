pub mod PlacingLemmas
pub mod ImagesLemmas
pub mod HeldAgainLemmas
pub mod ReadAgainLemmas
pub mod OldTextsLemmas
pub mod RenewedLemmas
