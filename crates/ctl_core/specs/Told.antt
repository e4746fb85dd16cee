-- What differs of what a packet tells.
use Rattle.std.specs.Prelude.{◌≡◌, ℕ, ◌==◌, ◌&&◌, not, Bool, true, false, if◌then◌else◌, Option, Some, None, []}
use Rattle.std.specs.List.{AllByRecursion}
use Rattle.std.specs.Option.{option_eq, option_map}
use Rattle.net_base.specs.declared.address.Mac.{Mac}
use Rattle.conf_types.specs.declared.change.Change.TheVariants as change
use Rattle.conf_types.specs.declared.state.HostRec.{HostRec}
use Rattle.conf_types.specs.Changes.{mac_of_neighbour}
use Rattle.conf_types.specs.Configuration.{Configuration}
use Rattle.conf_types.specs.State.{is_fresh}
use Rattle.host_learn.specs.Table.{host_of}
use Rattle.law_names.specs.Differing.{differs, is_one_address}
use Rattle.switch_session.specs.declared.state.Step.{Step}
use Rattle.switch_session.specs.declared.state.Step.TheVariants as steps
use Rattle.ctl_world.specs.World.{IsSound, World, now}
use Rattle.ctl_settle.specs.Names.{is_other}
use Rattle.ctl_settle.specs.Touched.{MayDiffer}
use Rattle.ctl_core.specs.declared.compared.Standing.{Standing}
use Rattle.ctl_core.specs.declared.found.Found.{Found}
use Rattle.ctl_core.specs.declared.found.Found.TheVariants.{Due, Heard, One, Named}
use Rattle.ctl_core.specs.Found.{may_differ}

abbrev pub place : Configuration → (moment : ℕ) → HostRec → Standing
place conf moment h = record { dp = h.dp; port = h.port; is_fresh = is_fresh conf moment h }

abbrev pub place_at : World → HostRec → Option Standing
place_at w h = option_map (place w.conf w.moment.0) (host_of w.conf w.hosts.hosts h.dp h.vid h.mac.0)

abbrev pub is_same_place : Standing → Standing → Bool
is_same_place a b = a.dp.0 == b.dp.0 && (a.port == b.port && not (is_other a.is_fresh b.is_fresh))

-- what is known of the host, or of the neighbour, that a packet tells of
abbrev pub place_of : World → Found → Option Standing
place_of w (Heard h) = place_at w h
place_of w found = None

abbrev pub address_of : World → Found → Option Mac
address_of w (One (change.Neighbour group vid ip)) = mac_of_neighbour w.neighbours.neighbours group vid ip
address_of w found = None

-- where that was known before, what differs
abbrev pub exactly_by : Option Standing → Option Mac → World → Found → Found
exactly_by was address v (Heard h) = if option_eq is_same_place was (place_at v h) then Named (Some []) else Heard h
exactly_by was address v (One (change.Neighbour group vid ip)) =
    if option_eq is_one_address address (mac_of_neighbour v.neighbours.neighbours group vid ip) then Due else One (change.Neighbour group vid ip)
exactly_by was address v found = found

abbrev pub exactly : (w v : World) → Found → Found
exactly w v found = exactly_by (place_of w found) (address_of w found) v found

-- ---- all that is told differs

abbrev pub AllDiffer : World → World → MayDiffer → Type 0
AllDiffer w v None = ⊥
AllDiffer w v (Some changes) = AllByRecursion (λ c. differs w.conf (now w) (now v) c ≡ true) changes

-- of what is sound, under one configuration
abbrev pub IsExact : World → World → Found → Type 0
IsExact w v found = IsSound w → IsSound v → (v.conf ≡ w.conf) × AllDiffer w v (may_differ v.conf found)

-- the steps of messages that leave the state of their connection
abbrev pub is_calm : Step → Bool
is_calm steps.Nothing = true
is_calm steps.AskFeatures = false
is_calm (steps.Features dp n_tables auxiliary) = false
is_calm steps.PortsKnown = false
is_calm steps.Wiped = false
is_calm steps.Settled = true
is_calm (steps.PortChanged port) = true
is_calm steps.Packet = true
is_calm steps.Echo = true
is_calm (steps.Close cause) = false
