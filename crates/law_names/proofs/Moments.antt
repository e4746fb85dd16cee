-- A state at another moment.
use Rattle.std.proofs.Common.{◌≡◌, ℕ, Bool, not, List, ◌++◌, filter, Option, Some, None, refl, ap}
use Rattle.std.specs.Option.{option_eq, option_map}
use Rattle.net_base.specs.declared.address.Mac.{Mac}
use Rattle.net_base.specs.declared.numbers.DpId.{DpId}
use Rattle.conf_types.specs.declared.change.Change.{Change}
use Rattle.conf_types.specs.declared.change.Change.TheVariants as change
use Rattle.conf_types.specs.declared.datapath.Dp.{Dp}
use Rattle.conf_types.specs.declared.state.HostRec.{HostRec}
use Rattle.conf_types.specs.Changes.{Standing, host_by, standing, standing_of}
use Rattle.conf_types.specs.Configuration.{Configuration}
use Rattle.conf_types.specs.State.{State, is_fresh}
use Rattle.plan_units.specs.declared.unit.Unit.{Unit as PlanUnit}
use Rattle.plan_units.specs.Facts.{found}
use Rattle.law_runs.specs.Members.{of_all}
use Rattle.law_units.specs.Reached.{is_reached}
use Rattle.law_names.specs.Differences.{AreAsFresh, differences, parts_of}
use Rattle.law_names.specs.Differing.{differs, is_one_place}
use Rattle.law_names.proofs.Hosts as hosts
use Rattle.law_names.proofs.Reaching.{reached_alike}

abbrev at_place : HostRec → Bool → Option Standing
at_place h fresh = Some (record { dp = h.dp; port = h.port; is_fresh = fresh })

module _ (conf : Configuration) (old new : State) (moment : ℕ) where
  abbrev then_state : State
  then_state = record old { moment = moment }

  -- ---- what differs

  module _ (as_fresh : AreAsFresh conf old moment) where
    standing_same : (group : DpId) (vid : ℕ) (mac : Mac) → standing_of conf then_state group vid mac ≡ standing_of conf old group vid mac
    standing_same group vid mac = by (host_by conf old.hosts group vid mac) refl
      where
        by : (o : Option HostRec) → host_by conf old.hosts group vid mac ≡ o → option_map (standing conf then_state) o ≡ option_map (standing conf old) o
        by None is = refl
        by (Some h) is =
            ap (at_place h) (of_all (λ (x : HostRec). is_fresh conf moment x ≡ is_fresh conf old.moment x) old.hosts as_fresh h (found (hosts.key conf group vid mac) old.hosts h is).within)

    differs_same : (c : Change) → differs conf then_state new c ≡ differs conf old new c
    differs_same (change.Host group vid mac) = ap (λ (o : Option Standing). not (option_eq is_one_place o (standing_of conf new group vid mac))) (standing_same group vid mac)
    differs_same (change.Port dp port) = refl
    differs_same (change.Dp dp) = refl
    differs_same (change.Neighbour group vid ip) = refl

    pub differences_same : differences conf then_state new ≡ differences conf old new
    differences_same = ap (λ (test : Change → Bool). filter test (parts_of conf old ++ parts_of conf new)) (λ i c. differs_same c i)

  -- ---- what is reached

  pub reached_same : (d : Dp) (xs : List Change) (u : PlanUnit) → is_reached conf then_state new d xs u ≡ is_reached conf old new d xs u
  reached_same d xs u = ap (λ (f : PlanUnit → Bool). f u) (reached_alike conf then_state old new d (λ group vid mac number. refl) xs)
