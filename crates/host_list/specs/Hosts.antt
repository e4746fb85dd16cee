-- What is asked of the hosts in a list, and the lists that come of them.
use Rattle.std.specs.Prelude.{ℕ, ◌==◌, ◌&&◌, ◌≤◌, ◌^◌, ◌++◌, not, Bool, Option, List, [], ◌∷◌, length, map, filter, if◌then◌else◌}
use Rattle.std.specs.List.{AllByRecursion, find, list_any}
use Rattle.net_base.specs.Address.{IsSixBytes}
use Rattle.net_base.specs.declared.numbers.DpId.{DpId}
use Rattle.conf_types.specs.declared.state.HostRec.{HostRec}
use Rattle.conf_types.specs.Configuration.{Configuration}
use Rattle.conf_types.specs.Groups.{group_of}
use Rattle.conf_types.specs.Lists.{is_same}
use Rattle.conf_types.specs.State.{is_host_at, is_host_in, is_permanent, is_to_forget}

-- hosts that are kept can be counted, and their addresses have six bytes
pub record AreHosts (hosts : List HostRec) : Type 0 where
  pub few : length hosts ≤ 2 ^ 32
  pub bytes : AllByRecursion (λ h. IsSixBytes h.mac.0) hosts

-- ---- one host

-- the host has this key: the number of its datapath's group, its VLAN and its address
abbrev pub has_key : Configuration → DpId → ℕ → List ℕ → HostRec → Bool
has_key conf group vid mac host = is_host_in conf group vid host && is_same host.mac.0 mac

-- the host is the one that is heard, and stands where it is heard
abbrev pub is_in_place : HostRec → HostRec → Bool
is_in_place heard host = is_host_at heard.dp heard.port host && host.vid == heard.vid && is_same host.mac.0 heard.mac.0

-- the host is the one that is heard, wherever it stands
abbrev pub is_heard : Configuration → HostRec → HostRec → Bool
is_heard conf heard host = has_key conf (group_of conf heard.dp) heard.vid heard.mac.0 host

-- ---- what is looked up

-- the host with the address in a VLAN of a datapath's group
abbrev pub host_of : Configuration → List HostRec → DpId → ℕ → List ℕ → Option HostRec
host_of conf hosts dp vid mac = find (has_key conf (group_of conf dp) vid mac) hosts

-- the hosts at a port
abbrev pub hosts_at : List HostRec → DpId → ℕ → List HostRec
hosts_at hosts dp number = filter (is_host_at dp number) hosts

abbrev pub stands_there : List HostRec → HostRec → Bool
stands_there hosts heard = list_any (is_in_place heard) hosts

abbrev pub is_known : Configuration → List HostRec → HostRec → Bool
is_known conf hosts heard = list_any (is_heard conf heard) hosts

-- the host that is heard stays for good somewhere in the group
abbrev pub is_staying : Configuration → List HostRec → HostRec → Bool
is_staying conf hosts heard = list_any (λ h. is_heard conf heard h && is_permanent conf h) hosts

-- the first host that is to be forgotten
abbrev pub first_due : Configuration → ℕ → List HostRec → Option HostRec
first_due conf moment hosts = find (is_to_forget conf moment) hosts

-- ---- what is left, and how hosts stand that are heard

-- the list without the first host that passes
abbrev pub without_first : (HostRec → Bool) → List HostRec → List HostRec
without_first test [] = []
without_first test (host ∷ more) = if test host then more else host ∷ without_first test more

-- without the hosts that are to be forgotten
abbrev pub off_due : Configuration → ℕ → List HostRec → List HostRec
off_due conf moment hosts = filter (λ host. not (is_to_forget conf moment host)) hosts

-- without the hosts at a port
abbrev pub off_port : DpId → ℕ → List HostRec → List HostRec
off_port dp number hosts = filter (λ host. not (is_host_at dp number host)) hosts

-- without the hosts of a datapath
abbrev pub off_datapath : DpId → List HostRec → List HostRec
off_datapath dp hosts = filter (λ host. not (host.dp.0 == dp.0)) hosts

-- its moment is the new one, and its place in the list stays
abbrev pub refreshed : HostRec → List HostRec → List HostRec
refreshed heard hosts = map (λ host. if is_in_place heard host then record host { learned = heard.learned } else host) hosts

-- a host that moved is taken out, and comes last
abbrev pub moved : Configuration → HostRec → List HostRec → List HostRec
moved conf heard hosts = filter (λ host. not (is_heard conf heard host)) hosts ++ heard ∷ []
