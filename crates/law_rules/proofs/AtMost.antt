-- A configuration is within its limits exactly where it has no more than these numbers.
use Rattle.std.specs.Prelude.{ℕ, ◌≤◌, length, count_by, List}
use Rattle.std.specs.List.{AllByRecursion}
use Rattle.conf_types.specs.declared.acl.Rule.{Rule}
use Rattle.conf_types.specs.declared.datapath.Dp.{Dp}
use Rattle.conf_types.specs.declared.datapath.Port.{Port}
use Rattle.conf_types.specs.Configuration.{Configuration}
use Rattle.conf_types.specs.Membership.{is_mirror_of}
use Rattle.conf_types.specs.Valid.{attached, DatapathIsWithin, IsWithinLimits}
use Rattle.conf_shape.specs.declared.refused.LimitName.{LimitName}
use Rattle.conf_shape.specs.declared.refused.LimitName.TheVariants as limit
use Rattle.conf_rules.specs.Limits.{size_of}
use Rattle.law_checks.proofs.Members.{IsIn, of_all, all_by}
use Rattle.law_rules.specs.AtMost.{HasAtMost}

module _ (conf : Configuration) where
  abbrev AtMost : LimitName → ℕ → Dp → Type 0
  AtMost name most d = size_of conf name d ≤ most

  abbrev Mirrors : Dp → Type 0
  Mirrors d = AllByRecursion (λ (p : Port). count_by (λ m. is_mirror_of m p.no) d.ports ≤ 4) d.ports

  abbrev Rules : Dp → Type 0
  Rules d = AllByRecursion (λ (rules : List Rule). length rules ≤ 1000) (attached conf d)

  pub at_most : IsWithinLimits conf → HasAtMost conf
  at_most w = record {
    dps = w.dps;
    ports = all_by (AtMost limit.Ports 256) conf.dps (λ d i. (each d i).ports);
    vlans = w.vlans;
    mirrors = all_by Mirrors conf.dps (λ d i. (each d i).mirrors);
    special = all_by (AtMost limit.Special 16) conf.dps (λ d i. (each d i).special);
    rules = all_by Rules conf.dps (λ d i. (each d i).rules);
    acl_entries = all_by (AtMost limit.AclEntries 20000) conf.dps (λ d i. (each d i).acl_entries);
    acl_outputs = all_by (AtMost limit.AclOutputs 65536) conf.dps (λ d i. (each d i).acl_outputs);
    members = all_by (AtMost limit.Members 8192) conf.dps (λ d i. (each d i).members);
    vips = w.vips;
    router_vlans = w.router_vlans;
    routes = w.routes;
    gateways = w.gateways;
    route_items = w.route_items;
  }
    where
      each : (d : Dp) → IsIn conf.dps d → DatapathIsWithin conf d
      each d i = of_all (DatapathIsWithin conf) conf.dps w.each d i

  pub within : HasAtMost conf → IsWithinLimits conf
  within h = record {
    dps = h.dps;
    vlans = h.vlans;
    each = all_by (DatapathIsWithin conf) conf.dps (λ d i. record {
      ports = of_all (AtMost limit.Ports 256) conf.dps h.ports d i;
      mirrors = of_all Mirrors conf.dps h.mirrors d i;
      special = of_all (AtMost limit.Special 16) conf.dps h.special d i;
      rules = of_all Rules conf.dps h.rules d i;
      acl_entries = of_all (AtMost limit.AclEntries 20000) conf.dps h.acl_entries d i;
      acl_outputs = of_all (AtMost limit.AclOutputs 65536) conf.dps h.acl_outputs d i;
      members = of_all (AtMost limit.Members 8192) conf.dps h.members d i;
    });
    vips = h.vips;
    router_vlans = h.router_vlans;
    routes = h.routes;
    gateways = h.gateways;
    route_items = h.route_items;
  }
