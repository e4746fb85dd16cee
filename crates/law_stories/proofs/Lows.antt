-- Each entry that a datapath is to have stands in one table, whatever was learned.
use Rattle.std.specs.Prelude.{◌≡◌, ◌==◌, [], Option, Some, None}
use Rattle.std.specs.List.{AllByRecursion}
use Rattle.std.specs.Option.{option_map_or}
use Rattle.std.proofs.Common.{arith, refl}
use Rattle.std.proofs.lemmas.Bool.Decides.{nat_tests}
use Rattle.net_base.specs.declared.numbers.DpId.{DpId}
use Rattle.of_match.proofs.AfterOrder.{all_map}
use Rattle.conf_types.specs.declared.datapath.Dp.{Dp}
use Rattle.conf_types.specs.Configuration.{Configuration, dp_with}
use Rattle.conf_types.specs.State.{State}
use Rattle.conf_types.specs.Valid.{IsValid}
use Rattle.plan_units.specs.Facts.{found}
use Rattle.plan_units.specs.Units.{plan}
use Rattle.law_entries.specs.Short.{IsShort}
use Rattle.law_entries.proofs.ShortPlan.{plan_short}
use Rattle.cold_start.specs.Cold.{cold}
use Rattle.ctl_world.specs.World.{World, now}
use Rattle.ctl_core.specs.Settlings.{wanted}
use Rattle.law_stories.proofs.Fits.{IsLow}
use Rattle.law_stories.proofs.Leading.{low_added}

module _ (conf : Configuration) (valid : IsValid conf) (now : State) (d : Dp) (dp : DpId) (is_dp : dp_with conf.dps dp ≡ Some d) where
  cold_low : AllByRecursion IsLow (cold conf now d)
  unfolding cold
  cold_low = low_added [] (plan conf now d) tt (all_map IsShort IsLow (λ e short. let less = short.table in grind (arith, nat_tests)) (plan conf now d) (plan_short conf now d valid (found (λ e. e.id.0 == dp.0) conf.dps d is_dp).within))

pub wanted_low : (w : World) (dp : DpId) → IsValid w.conf → AllByRecursion IsLow (wanted w dp)
wanted_low w dp valid = by (dp_with w.conf.dps dp) refl
  where
    by : (o : Option Dp) → dp_with w.conf.dps dp ≡ o → AllByRecursion IsLow (option_map_or (cold w.conf (now w)) o [])
    by None is = tt
    by (Some d) is = cold_low w.conf valid (now w) d dp is
