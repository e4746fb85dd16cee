-- What a call makes of a table of hosts, and why one is refused.
use Rattle.std.specs.Prelude.{◌≡◌, ◌≤◌, ◌&&◌, Bool, true, false, List, length, count_by, Some, None}
use Rattle.std.specs.List.{AllByRecursion}
use Rattle.net_base.specs.Address.{is_group}
use Rattle.conf_types.specs.declared.datapath.Port.{Port}
use Rattle.conf_types.specs.declared.state.HostRec.{HostRec}
use Rattle.conf_types.specs.declared.vlan.Vlan.{Vlan}
use Rattle.conf_types.specs.Configuration.{Configuration, port_at, vlan_with}
use Rattle.conf_types.specs.Groups.{group_of}
use Rattle.conf_types.specs.Links.{is_up}
use Rattle.conf_types.specs.Membership.{is_accepting, is_edge_member}
use Rattle.conf_types.specs.State.{State, is_barred, is_gateway_address, is_host_at, is_host_in, is_running, is_to_forget}
use Rattle.host_learn.specs.declared.learn.Learn.TheVariants.{Learned, Moved, Refreshed, Full, NotLearnable}
use Rattle.host_learn.specs.Kept.{kept}
use Rattle.host_learn.specs.Learning.{is_known, learned, outcome, stands_there}
use Rattle.host_learn.specs.Table.{Table, first_due, off_datapath, off_due, off_port, without_first}
use Rattle.law_calls.specs.declared.hosts.HostCall.{HostCall}
use Rattle.law_calls.specs.declared.hosts.HostCall.TheVariants as calls
use Rattle.law_calls.specs.declared.hosts.HostAnswer.{HostAnswer}
use Rattle.law_calls.specs.declared.hosts.HostAnswer.TheVariants as answers

-- ---- one call

-- the table behind a call with its answer; that memory ran out is an answer of a call that takes some
abbrev pub Makes : Table → HostCall → HostAnswer → Table → Type 0
Makes old (calls.Hear conf host) (answers.Heard told) new = (told ≡ outcome conf.now old host) × (new ≡ learned conf.now old host)
Makes old (calls.Hear conf host) answers.Memory new = new ≡ old
Makes old (calls.Age conf moment) (answers.Aged host) new =
    (host ≡ first_due conf.now moment.0 old.hosts) × (new ≡ record old { hosts = without_first (is_to_forget conf.now moment.0) old.hosts })
Makes old (calls.ForgetDue conf moment) answers.Done new = new ≡ record old { hosts = off_due conf.now moment.0 old.hosts }
Makes old (calls.ForgetPort dp port) answers.Done new = new ≡ record old { hosts = off_port dp port old.hosts }
Makes old (calls.ForgetDp dp) answers.Done new = new ≡ record old { hosts = off_datapath dp old.hosts }
Makes old (calls.Keep conf ups moment) answers.Done new = new ≡ kept conf.now ups.now moment.0 old
Makes old (calls.Keep conf ups moment) answers.Memory new = new ≡ old
Makes old call answer new = ⊥

-- the table behind a call, with one of its answers
abbrev pub IsMade : Table → HostCall → Table → Type 0
IsMade old call new = (answer : HostAnswer) × Makes old call answer new

-- ---- refusals

-- the answer says that nothing was done
abbrev pub is_refused : HostAnswer → Bool
is_refused (answers.Heard Learned) = false
is_refused (answers.Heard Moved) = false
is_refused (answers.Heard Refreshed) = false
is_refused (answers.Heard Full) = true
is_refused (answers.Heard NotLearnable) = true
is_refused (answers.Aged (Some host)) = false
is_refused (answers.Aged None) = true
is_refused answers.Done = false
is_refused answers.Memory = true

-- why there is no room for a host that is heard
pub data HasNoRoom (conf : Configuration) (table : Table) (heard : HostRec) : Type 0 where
  -- it doesn't stand at its port, and that has as many hosts as it may
  full_port : (port : Port) → port_at conf heard.dp heard.port ≡ Some port → stands_there table.hosts heard ≡ false
      → port.max_hosts ≤ count_by (is_host_at heard.dp port.no) table.hosts → HasNoRoom conf table heard
  -- it is new, and its VLAN has as many in its group
  full_vlan : (vlan : Vlan) → vlan_with conf.vlans heard.vid ≡ Some vlan → is_known conf table.hosts heard ≡ false
      → vlan.max_hosts ≤ count_by (is_host_in conf (group_of conf heard.dp) vlan.vid) table.hosts → HasNoRoom conf table heard
  -- it is new, and the table has as many
  full_table : is_known conf table.hosts heard ≡ false → table.limit ≤ length table.hosts → HasNoRoom conf table heard

-- why no host may be learned where it is heard
pub data IsKeptOut (conf : Configuration) (hosts : List HostRec) (heard : HostRec) : Type 0 where
  no_port : port_at conf heard.dp heard.port ≡ None → IsKeptOut conf hosts heard
  -- the port takes no packets in, or isn't an edge port of the VLAN
  other_port : (port : Port) → port_at conf heard.dp heard.port ≡ Some port → (is_accepting port && is_edge_member port heard.vid) ≡ false → IsKeptOut conf hosts heard
  -- its address is that of many stations, or a gateway's
  of_many : is_group heard.mac ≡ true → IsKeptOut conf hosts heard
  of_a_gateway : is_gateway_address conf heard.mac.0 ≡ true → IsKeptOut conf hosts heard
  -- it stays for good elsewhere, or another one does there
  barred : (port : Port) → port_at conf heard.dp heard.port ≡ Some port → is_barred conf hosts heard.dp port heard.vid heard.mac.0 ≡ true → IsKeptOut conf hosts heard

-- why a call has this answer, where that is a refusal; want of memory has no cause here
abbrev pub HasCause : Table → HostCall → HostAnswer → Type 0
HasCause table (calls.Hear conf heard) (answers.Heard Full) = HasNoRoom conf.now table heard
HasCause table (calls.Hear conf heard) (answers.Heard NotLearnable) = IsKeptOut conf.now table.hosts heard
HasCause table (calls.Age conf moment) (answers.Aged None) = AllByRecursion (λ host. is_to_forget conf.now moment.0 host ≡ false) table.hosts
HasCause table call answer = Unit {0}

-- ---- calls under one configuration

-- the call is made under this configuration and state: who is heard stands at a port that is up, of a datapath that runs
abbrev pub IsUnder : Configuration → State → HostCall → Type 0
IsUnder conf state (calls.Hear by heard) = (by.now ≡ conf) × (is_running state.running heard.dp ≡ true) × (is_up state.ups heard.dp heard.port ≡ true)
IsUnder conf state (calls.Age by moment) = by.now ≡ conf
IsUnder conf state (calls.ForgetDue by moment) = by.now ≡ conf
IsUnder conf state (calls.ForgetPort dp port) = Unit {0}
IsUnder conf state (calls.ForgetDp dp) = Unit {0}
IsUnder conf state (calls.Keep by ups moment) = (by.now ≡ conf) × (ups.now ≡ state.ups)

abbrev pub IsMadeUnder : Configuration → State → Table → HostCall → Table → Type 0
IsMadeUnder conf state old call new = IsUnder conf state call × IsMade old call new
