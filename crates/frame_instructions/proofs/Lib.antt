pub mod LawsFrameLemmas
pub mod RearrangingLemmas
pub mod FamiliesNameLemmas
pub mod FamiliesPlaceLemmas
