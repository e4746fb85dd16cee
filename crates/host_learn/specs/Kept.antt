-- What a table keeps where the configuration is replaced by a new one, in three steps.
use Rattle.std.specs.Prelude.{ℕ, ◌&&◌, not, Bool, List, [], ◌∷◌, ◌++◌, length, filter, nat_le, if◌then◌else◌}
use Rattle.std.specs.List.{list_any}
use Rattle.conf_types.specs.declared.state.HostRec.{HostRec}
use Rattle.conf_types.specs.declared.state.UpRec.{UpRec}
use Rattle.conf_types.specs.Configuration.{Configuration}
use Rattle.conf_types.specs.Links.{is_up}
use Rattle.conf_types.specs.State.{is_to_forget, is_permanent}
use Rattle.host_learn.specs.Learning.{is_host, is_heard, is_full_at, is_full_in, is_occupied}
use Rattle.host_learn.specs.Table.{Table}

-- first: those that may be learned where they stand, and aren't to be forgotten
abbrev pub may_stay : Configuration → List UpRec → ℕ → HostRec → Bool
may_stay conf ups moment host = is_host conf host && is_up ups host.dp host.port && not (is_to_forget conf moment host)

-- second: of several with one key the last
abbrev pub last_of_each : Configuration → List HostRec → List HostRec
last_of_each conf [] = []
last_of_each conf (host ∷ more) =
    if list_any (is_heard conf host) more then last_of_each conf more else host ∷ last_of_each conf more

-- the port, the VLAN in the group and the table have fewer hosts than they may, and a port that keeps its
-- first host for good has none in the VLAN
abbrev pub finds_room : Configuration → ℕ → List HostRec → HostRec → Bool
finds_room conf limit kept host =
    not (is_full_at conf kept host) && not (is_full_in conf kept host) && not (nat_le limit (length kept))
    && not (is_permanent conf host && is_occupied kept host)

-- third: in order, those that find room among the ones kept before
abbrev pub with_room : Configuration → ℕ → (kept hosts : List HostRec) → List HostRec
with_room conf limit kept [] = kept
with_room conf limit kept (host ∷ more) =
    with_room conf limit (if finds_room conf limit kept host then kept ++ host ∷ [] else kept) more

abbrev pub kept_hosts : Configuration → List UpRec → ℕ → Table → List HostRec
kept_hosts conf ups moment table =
    with_room conf table.limit [] (last_of_each conf (filter (may_stay conf ups moment) table.hosts))

abbrev pub kept : Configuration → List UpRec → ℕ → Table → Table
kept conf ups moment table = record table { hosts = kept_hosts conf ups moment table }
