pub mod RefusalLemmas
pub mod BuildLemmas
pub mod OneRefusalLemmas
pub mod PermutationLemmas
pub mod AnyOrderLemmas
pub mod OneBuildLemmas
pub mod RunningLemmas
pub mod ImageBuildLemmas
pub mod ImageRunLemmas
pub mod RenewedLemmas
pub mod EntriesLemmas
pub mod HeadlineLemmas
pub mod BeginsLemmas
pub mod ReadBackLemmas
pub mod JournaledLemmas
pub mod SameEntriesLemmas
pub mod OneRunLemmas
pub mod OneBuildRefusalLemmas
pub mod HasMembersLemmas
pub mod HasProgramLemmas
pub mod HasBodiesLemmas
pub mod LinksOrFaultLemmas
pub mod ParentsWithinLemmas
pub mod ExistenceLemmas
mod DoneLemmas
mod FileLemmas
mod SlashLemmas
mod NotRunLemmas
mod OutputLemmas
mod CountLemmas
mod ListLemmas
mod ImageReplayLemmas
mod LeftLemmas
mod BuiltRunLemmas
