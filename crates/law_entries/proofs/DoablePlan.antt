-- Each entry of a plan, and of a cold start, can be done.
use Rattle.std.specs.Prelude.{Contains}
use Rattle.std.specs.List.{AllByRecursion}
use Rattle.std.proofs.lemmas.List.Sorted.{IsPermutation-sym, Contains-permutation}
use Rattle.net_base.specs.Numbers.{IsVid}
use Rattle.conf_types.specs.declared.datapath.Dp.{Dp}
use Rattle.conf_types.specs.declared.state.HostRec.{HostRec}
use Rattle.conf_types.specs.declared.vlan.Vlan.{Vlan}
use Rattle.conf_types.specs.Configuration.{Configuration}
use Rattle.conf_types.specs.State.{State}
use Rattle.packet_way.specs.Known.{stack_of}
use Rattle.plan_base.proofs.Each.{all_filter}
use Rattle.vlan_compile.proofs.Valid.{vlans_numbered, are_host_numbers}
use Rattle.law_runs.specs.Members.{all_by, of_all}
use Rattle.plan_units.specs.Laws.{IsSetting}
use Rattle.plan_units.specs.Units.{is_of_group, hosts_of, plan}
use Rattle.cold_start.specs.Cold.{cold}
use Rattle.cold_start.proofs.Start.{cold_same}
use Rattle.plan_units.specs.Parts.{of_plan}
use Rattle.law_entries.specs.Doable.{CanBeDone}
use Rattle.law_entries.proofs.DoableRows.{port_acl_done, admissions_done, misses_done, vlan_acl_done, vips_done, floods_done, sources_done, destinations_done, fib_done, drops_done, groups_done}

module _ (conf : Configuration) (now : State) (d : Dp) (setting : IsSetting conf now d) where
  is_vlan : (v : Vlan) → Contains conf.vlans v → IsVid v.vid
  is_vlan = of_all (λ (v : Vlan). IsVid v.vid) conf.vlans (vlans_numbered conf setting.valid)

  is_in_vlan : (h : HostRec) → Contains (hosts_of conf now d) h → IsVid h.vid
  is_in_vlan =
      of_all (λ (h : HostRec). IsVid h.vid) (hosts_of conf now d)
      (all_filter (λ (h : HostRec). IsVid h.vid) (is_of_group conf d) now.hosts (all_by (λ (h : HostRec). IsVid h.vid) now.hosts (λ h c. (are_host_numbers conf setting.valid now setting.state h c).1)))

  pub plan_done : AllByRecursion CanBeDone (plan conf now d)
  plan_done = of_plan conf now d CanBeDone (record {
    drops = drops_done conf d;
    groups = groups_done;
    port_acls = λ i c. port_acl_done conf d i;
    admissions = λ i c. admissions_done conf d i setting.valid;
    misses = λ i c. misses_done conf d i now.hosts;
    vlan_acls = λ v c. vlan_acl_done conf d v;
    vips = λ v c. vips_done d v;
    floods = λ v c. floods_done conf d (stack_of conf now.ups) v (is_vlan v c);
    sources = λ h c. sources_done conf d h now.moment;
    destinations = λ h c. destinations_done conf d h (is_in_vlan h c) (stack_of conf now.ups);
    routes = λ v c. fib_done v (is_vlan v c) conf setting.valid now.neighbours d;
  })

  -- a cold start has no other entries
  pub cold_done : AllByRecursion CanBeDone (cold conf now d)
  cold_done =
      all_by CanBeDone (cold conf now d)
      (λ e c. of_all CanBeDone (plan conf now d) plan_done e
      (Contains-permutation (cold conf now d) (plan conf now d) e (IsPermutation-sym (plan conf now d) (cold conf now d) (cold_same conf now d setting)) c))
