-- Each entry of a plan, and of a cold start.
use Rattle.std.specs.Prelude.{◌≡◌, ℕ, Some}
use Rattle.std.specs.List.{AllByRecursion}
use Rattle.std.proofs.lemmas.List.Sorted.{IsPermutation-sym, Contains-permutation}
use Rattle.net_base.specs.declared.numbers.DpId.{DpId}
use Rattle.net_base.specs.Numbers.{IsPortNo}
use Rattle.stack_paths.specs.Chosen.{hop_of}
use Rattle.conf_types.specs.declared.datapath.Dp.{Dp}
use Rattle.conf_types.specs.declared.datapath.Port.{Port}
use Rattle.conf_types.specs.Configuration.{Configuration}
use Rattle.conf_types.specs.State.{State}
use Rattle.packet_way.specs.Known.{stack_of}
use Rattle.vlan_compile.proofs.Valid.{is_datapath, ports_numbered, links_end, hop_numbered}
use Rattle.law_runs.specs.Members.{all_by, of_all}
use Rattle.plan_units.specs.Laws.{IsSetting}
use Rattle.plan_units.specs.Units.{plan}
use Rattle.cold_start.specs.Cold.{cold}
use Rattle.cold_start.proofs.Distinct.{in_conf}
use Rattle.cold_start.proofs.Start.{cold_same}
use Rattle.plan_units.specs.Parts.{of_plan}
use Rattle.law_entries.specs.Whole.{SendsWhole}
use Rattle.law_entries.proofs.WholeAcls.{port_acl_whole, vlan_acl_whole}
use Rattle.law_entries.proofs.WholeVlans.{admissions_whole, misses_whole, sources_whole, destinations_whole, floods_whole}
use Rattle.law_entries.proofs.WholeRoutes.{drops_whole, fib_whole, groups_whole, vips_whole}

module _ (conf : Configuration) (now : State) (d : Dp) (setting : IsSetting conf now d) where
  numbers : AllByRecursion (λ (p : Port). IsPortNo p.no) d.ports
  numbers = ports_numbered conf setting.valid d (is_datapath conf setting.valid d (in_conf conf now d setting))

  hops : (a b : DpId) (n : ℕ) → hop_of (stack_of conf now.ups) a b ≡ Some n → IsPortNo n
  hops = hop_numbered (stack_of conf now.ups) (links_end conf setting.valid now.ups)

  pub plan_whole : AllByRecursion SendsWhole (plan conf now d)
  plan_whole = of_plan conf now d SendsWhole (record {
    drops = drops_whole conf d;
    groups = groups_whole;
    port_acls = λ i c. port_acl_whole d numbers conf i;
    admissions = λ i c. admissions_whole d numbers i conf;
    misses = λ i c. misses_whole conf d i now.hosts;
    vlan_acls = λ v c. vlan_acl_whole d numbers conf v;
    vips = λ v c. vips_whole d v;
    floods = λ v c. floods_whole d numbers (stack_of conf now.ups) v;
    sources = λ h c. sources_whole conf d h now.moment;
    destinations = λ h c. destinations_whole d numbers (stack_of conf now.ups) hops h;
    routes = λ v c. fib_whole conf now.neighbours d v;
  })

  -- a cold start has no other entries
  pub cold_whole : AllByRecursion SendsWhole (cold conf now d)
  cold_whole =
      all_by SendsWhole (cold conf now d)
      (λ e c. of_all SendsWhole (plan conf now d) plan_whole e
      (Contains-permutation (cold conf now d) (plan conf now d) e (IsPermutation-sym (plan conf now d) (cold conf now d) (cold_same conf now d setting)) c))
