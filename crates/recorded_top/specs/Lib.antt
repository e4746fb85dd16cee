pub mod RecordedAnswer
