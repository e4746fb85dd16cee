pub mod FrameLemmas
pub mod ReplyLemmas
pub mod StageLemmas
pub mod StayLemmas
pub mod ToldLemmas
