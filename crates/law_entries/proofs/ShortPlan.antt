-- Each entry of a plan is short.
use Rattle.std.specs.Prelude.{◌==◌, Contains}
use Rattle.std.specs.List.{AllByRecursion}
use Rattle.conf_types.specs.declared.datapath.Dp.{Dp}
use Rattle.conf_types.specs.Configuration.{Configuration}
use Rattle.conf_types.specs.State.{State}
use Rattle.conf_types.specs.Valid.{DatapathIsWithin, IsValid}
use Rattle.packet_way.specs.Known.{stack_of}
use Rattle.law_runs.specs.Members.{of_all}
use Rattle.plan_units.specs.Facts.{found}
use Rattle.plan_units.specs.Laws.{IsSetting}
use Rattle.plan_units.specs.Units.{plan}
use Rattle.plan_units.specs.Parts.{of_plan}
use Rattle.law_entries.specs.Short.{IsShort}
use Rattle.law_entries.proofs.ShortAcls.{port_acl_short, vlan_acl_short}
use Rattle.law_entries.proofs.ShortVlans.{admissions_short, misses_short, sources_short, destinations_short, floods_short}
use Rattle.law_entries.proofs.ShortRoutes.{drops_short, fib_short, groups_short, vips_short}

module _ (conf : Configuration) (now : State) (d : Dp) where
  pub plan_short : IsValid conf → Contains conf.dps d → AllByRecursion IsShort (plan conf now d)
  plan_short valid is_dp =
      let within : DatapathIsWithin conf d = of_all (DatapathIsWithin conf) conf.dps valid.limits.each d is_dp in
      of_plan conf now d IsShort (record {
        drops = drops_short conf d;
        groups = groups_short;
        port_acls = λ i c. port_acl_short conf valid d within.ports i;
        admissions = λ i c. admissions_short d within.ports within.mirrors conf i c;
        misses = λ i c. misses_short conf d i now.hosts;
        vlan_acls = λ v c. vlan_acl_short conf valid d within.ports v;
        vips = λ v c. vips_short d v;
        floods = λ v c. floods_short d within.ports within.mirrors (stack_of conf now.ups) v;
        sources = λ h c. sources_short conf d h now.moment;
        destinations = λ h c. destinations_short d within.ports within.mirrors h (stack_of conf now.ups);
        routes = λ v c. fib_short conf now.neighbours d v;
      })

  pub law : IsSetting conf now d → AllByRecursion IsShort (plan conf now d)
  law setting = plan_short setting.valid (found (λ e. e.id.0 == d.id.0) conf.dps d setting.is_dp).within
