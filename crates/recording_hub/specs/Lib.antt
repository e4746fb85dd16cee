pub mod Recorded
pub mod Recorder
pub mod RecordingHub
pub mod RecordedStory
