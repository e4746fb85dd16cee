-- A table of hosts as contracts see it.
pub use Rattle.host_list.specs.Hosts.{has_key, host_of, without_first, first_due, off_due, off_port, off_datapath}
use Rattle.std.specs.Prelude.{ℕ, List}
use Rattle.conf_types.specs.declared.state.HostRec.{HostRec}

pub record Table : Type 0 where
  -- how many hosts it holds at most
  pub limit : ℕ
  -- in the order of learning
  pub hosts : List HostRec
