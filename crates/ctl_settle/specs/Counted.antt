-- How many units of work a settling may count: three for each unit that it may make.
use Rattle.std.specs.Prelude.{ℕ, ◌*◌, Bool, if◌then◌else◌, List, filter, length, sum_by, is_some, Some, None}
use Rattle.std.specs.Option.{option_map_or}
use Rattle.net_base.specs.declared.numbers.DpId.{DpId}
use Rattle.conf_types.specs.Configuration.{Configuration}
use Rattle.conf_types.specs.State.{State}
use Rattle.cold_start.specs.Cold.{units_at}
use Rattle.warm_plan.specs.Kept.{Kept, reached_at}
use Rattle.ctl_world.specs.declared.conns.Conn.{Conn}
use Rattle.ctl_world.specs.World.{World, now, runs}
use Rattle.ctl_settle.specs.declared.plans.Held.{Held}
use Rattle.ctl_settle.specs.Plans.{plan_for}
use Rattle.ctl_settle.specs.Touched.{MayDiffer}

abbrev pub works : Conn → Bool
works c = runs c.session.state.stage

module _ (conf : Configuration) (now : State) where
  -- all units of a datapath
  abbrev pub whole : DpId → ℕ
  whole dp = 3 * length (units_at conf now dp)

  -- those of a plan that what may differ reaches; all, where anything may
  abbrev pub again : MayDiffer → Kept → ℕ
  again None p = whole p.dp
  again (Some changes) p = 3 * length (reached_at conf p.state now p.dp changes)

  abbrev pub all_again : MayDiffer → List Held → ℕ
  all_again may held = sum_by (λ h. again may h.plan) held

  -- all of a connection's datapath, where no plan is kept for it
  abbrev pub anew : List Held → Conn → ℕ
  anew held c = if is_some (plan_for held c.number) then 0 else option_map_or whole c.dp 0

  -- of the connections that run
  abbrev pub all_anew : List Conn → List Held → ℕ
  all_anew conns held = sum_by (anew held) (filter works conns)

  -- on a connection its plan's again, or all anew
  abbrev pub counted_on : MayDiffer → List Held → Conn → ℕ
  counted_on may held c = option_map_or (again may) (plan_for held c.number) (option_map_or whole c.dp 0)

-- on all connections that run
abbrev pub counted : World → MayDiffer → List Held → ℕ
counted w may held = sum_by (counted_on w.conf (now w) may held) (filter works w.conns)
