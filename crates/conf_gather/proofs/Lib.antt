pub mod FilesLemmas
pub mod GatherLemmas
pub mod JoinLemmas
pub mod NameLemmas
pub mod ReadLemmas
mod KeepLemmas
pub mod SoundLemmas
mod IncludeKeys
mod OwnEntries
pub mod KnownLemmas
pub mod SectionLemmas
