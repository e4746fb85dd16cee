-- The limits by their numbers.
use Rattle.std.specs.Prelude.{ℕ, ◌≤◌, length, count_by, sum_by}
use Rattle.std.specs.List.{AllByRecursion}
use Rattle.conf_types.specs.Configuration.{Configuration}
use Rattle.conf_types.specs.Membership.{is_mirror_of}
use Rattle.conf_types.specs.Valid.{attached, route_items}
use Rattle.conf_shape.specs.declared.refused.LimitName.TheVariants as limit
use Rattle.conf_rules.specs.Limits.{size_of, routes, gateways}

-- no more of each than this; what each of these counts, `Limits` has
pub record HasAtMost (conf : Configuration) : Type 0 where
  pub dps : length conf.dps ≤ 64
  pub ports : AllByRecursion (λ d. size_of conf limit.Ports d ≤ 256) conf.dps
  pub vlans : length conf.vlans ≤ 1024
  pub mirrors : AllByRecursion (λ d. AllByRecursion (λ p. count_by (λ m. is_mirror_of m p.no) d.ports ≤ 4) d.ports) conf.dps
  pub special : AllByRecursion (λ d. size_of conf limit.Special d ≤ 16) conf.dps
  pub rules : AllByRecursion (λ d. AllByRecursion (λ rules. length rules ≤ 1000) (attached conf d)) conf.dps
  pub acl_entries : AllByRecursion (λ d. size_of conf limit.AclEntries d ≤ 20000) conf.dps
  pub acl_outputs : AllByRecursion (λ d. size_of conf limit.AclOutputs d ≤ 65536) conf.dps
  pub members : AllByRecursion (λ d. size_of conf limit.Members d ≤ 8192) conf.dps
  pub vips : AllByRecursion (λ v. length v.vips ≤ 8) conf.vlans
  pub router_vlans : AllByRecursion (λ r. length r.vlans ≤ 16) conf.routers
  pub routes : routes conf ≤ 1024
  pub gateways : gateways conf ≤ 1024
  pub route_items : sum_by (route_items conf) conf.vlans ≤ 32768
