-- What a settling says and leaves, for the laws on stories.
pub use Rattle.ctl_settle.specs.Rest.{AreInOrder, IsAtRest}
pub use Rattle.ctl_settle.specs.Settling.{ask_all, ask_due, ask_each, ask_on, batch, batch_on, batches, note_sent, say_batch, say_due, say_each, settle, settle_batches, take_due, wanted}
