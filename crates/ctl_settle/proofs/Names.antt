-- What changes name, for the crates above.
pub use Rattle.law_names.proofs.Hosts.{gone_named, turned_named}
pub use Rattle.law_names.proofs.Joined.{more_named}
pub use Rattle.law_names.proofs.Packets.{packet_named}
pub use Rattle.law_names.proofs.Stepped.{join, kept_quiet, open_quiet, say_quiet, then_quiet}
pub use Rattle.law_names.proofs.Strangers.{IsSame, no_dp_on, stranger_closed_same, stranger_ended_same, stranger_heard_same}
