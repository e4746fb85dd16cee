pub mod RecordedRun
