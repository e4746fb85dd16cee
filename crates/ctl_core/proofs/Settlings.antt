-- What holds of settlings, for the laws on stories.
pub use Rattle.ctl_settle.proofs.AskedNames.{ask_named}
pub use Rattle.ctl_settle.proofs.Batches.{AreByNumber, AreInKeyOrder, IsQuiet, IsSaid, IsStep, found_all, said_case, said_quiet, say_step, step_conf, step_keys, step_none, step_now, step_numbers, step_other, step_own}
pub use Rattle.ctl_settle.proofs.Waiting.{batch_case, settled_ordered, wanted_order}
