-- From two states at which a host touches the same ports, changes reach the same.
use Rattle.std.proofs.Common.{◌≡◌, ℕ, Bool, List, refl}
use Rattle.std.specs.List.{list_any}
use Rattle.net_base.specs.declared.address.Mac.{Mac}
use Rattle.net_base.specs.declared.numbers.DpId.{DpId}
use Rattle.conf_types.specs.declared.change.Change.{Change}
use Rattle.conf_types.specs.declared.change.Change.TheVariants as change
use Rattle.conf_types.specs.declared.datapath.Dp.{Dp}
use Rattle.conf_types.specs.Configuration.{Configuration}
use Rattle.conf_types.specs.State.{State}
use Rattle.plan_units.specs.declared.unit.Unit.{Unit as PlanUnit}
use Rattle.plan_units.specs.declared.unit.Unit.TheVariants as unit
use Rattle.law_units.specs.Reached.{is_reached, reaches, touches_port}

module _ (conf : Configuration) (s t new : State) (d : Dp)
    (touches_same : (group : DpId) (vid : ℕ) (mac : Mac) (number : ℕ) → touches_port conf s new d group vid mac number ≡ touches_port conf t new d group vid mac number) where
  reaches_same : (c : Change) (u : PlanUnit) → reaches conf s new d c u ≡ reaches conf t new d c u
  reaches_same (change.Host group vid mac) unit.Dp = refl
  reaches_same (change.Host group vid mac) (unit.Port number) = touches_same group vid mac number
  reaches_same (change.Host group vid mac) (unit.Vlan w) = refl
  reaches_same (change.Host group vid mac) (unit.Host w address) = refl
  reaches_same (change.Host group vid mac) (unit.Route w) = refl
  reaches_same (change.Port dp port) unit.Dp = refl
  reaches_same (change.Port dp port) (unit.Port number) = refl
  reaches_same (change.Port dp port) (unit.Vlan w) = refl
  reaches_same (change.Port dp port) (unit.Host w address) = refl
  reaches_same (change.Port dp port) (unit.Route w) = refl
  reaches_same (change.Dp dp) unit.Dp = refl
  reaches_same (change.Dp dp) (unit.Port number) = refl
  reaches_same (change.Dp dp) (unit.Vlan w) = refl
  reaches_same (change.Dp dp) (unit.Host w address) = refl
  reaches_same (change.Dp dp) (unit.Route w) = refl
  reaches_same (change.Neighbour group vid ip) unit.Dp = refl
  reaches_same (change.Neighbour group vid ip) (unit.Port number) = refl
  reaches_same (change.Neighbour group vid ip) (unit.Vlan w) = refl
  reaches_same (change.Neighbour group vid ip) (unit.Host w address) = refl
  reaches_same (change.Neighbour group vid ip) (unit.Route w) = refl

  pub reached_alike : (changes : List Change) → ◌≡◌ {A = PlanUnit → Bool} (is_reached conf s new d changes) (is_reached conf t new d changes)
  reached_alike changes = λ i u. list_any (λ c. reaches_same c u i) changes
