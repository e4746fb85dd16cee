-- The configuration of the story is valid.
use Rattle.std.proofs.Common.{◌≡◌, ◌∙◌, ℕ, zero, suc, ◌+◌, ◌<◌, ◌≤◌, ◌==◌, Bool, true, false, cond, List, [], ◌∷◌, ◌++◌, length, map, refl, sym, ap, subst, add-one, arith, append_assoc, decimal}
use Rattle.std.specs.Prelude.{not, sum_by, count_by, filter}
use Rattle.std.specs.List.{AllByRecursion, list_any}
use Rattle.std.proofs.lemmas.Fmt.{decimal_injective, decimal_nonempty, length-decimal-le}
use Rattle.std.proofs.lemmas.List.{length_push, map-append}
use Rattle.std.proofs.lemmas.List.Sums.{sum_by_push}
use Rattle.conf_types.specs.declared.acl.Acl.{Acl}
use Rattle.conf_types.specs.declared.datapath.Dp.{Dp}
use Rattle.conf_types.specs.declared.datapath.Port.{Port}
use Rattle.conf_types.specs.declared.vlan.Router.{Router}
use Rattle.conf_types.specs.declared.vlan.Vlan.{Vlan}
use Rattle.conf_types.specs.Attached.{rules_of}
use Rattle.conf_types.specs.Configuration.{Configuration}
use Rattle.conf_types.specs.Lists.{EachBefore, IsLabel}
use Rattle.conf_types.specs.Membership.{has_edge_member, is_mirror_of}
use Rattle.conf_types.specs.Valid.{VlansAreValid, IsPort, IsDatapath, DatapathsAreValid, AclsAreValid, MirrorsAreValid, StacksAreValid, RoutingIsValid, is_special, members_at, ports_named, attached, DatapathIsWithin, IsWithinLimits, IsValid}
use Rattle.bench_story.specs.Setup.{configuration, datapath, interface, interfaces, vlan}
use Rattle.bench_story.proofs.Lists.{all_push, before_push, none_push}

-- ---- the interfaces

each : (P : Port → Type 0) (n : ℕ) → ((k : ℕ) → 1 ≤ k → k ≤ n → P (interface k)) → AllByRecursion P (interfaces n)
unfolding interfaces
each P zero here = tt
each P (suc n) here = all_push P (interfaces n) (interface (suc n)) (each P n (λ k low high. here k low (omega (arith, high)))) (here (suc n) (omega arith) (omega arith))

before : (R : Port → Port → Type 0) (n : ℕ) → ((j k : ℕ) → j < k → k ≤ n → R (interface j) (interface k)) → EachBefore R (interfaces n)
unfolding interfaces
before R zero here = tt
before R (suc n) here =
    before_push R (interfaces n) (interface (suc n)) (before R n (λ j k less high. here j k less (omega (arith, high))))
    (each (λ p. R p (interface (suc n))) n (λ k low high. here k (suc n) (omega (arith, high)) (omega arith)))

counted : (n : ℕ) → length (interfaces n) ≡ n
unfolding interfaces
counted zero = refl
counted (suc n) = length_push (interfaces n) (interface (suc n)) ∙ omega (arith, counted n)

none : (test : Port → Bool) (n : ℕ) → ((k : ℕ) → test (interface k) ≡ false) → count_by test (interfaces n) ≡ 0
unfolding interfaces
none test zero lacks = refl
none test (suc n) lacks =
    sum_by_push (λ (p : Port). cond (test p) 1 0) (interfaces n) (interface (suc n))
    ∙ ap (λ (m : ℕ). m + cond (test (interface (suc n))) 1 0) (none test n lacks)
    ∙ ap (λ (b : Bool). 0 + cond b 1 0) (lacks (suc n))

once : (f : Port → ℕ) (n : ℕ) → ((k : ℕ) → f (interface k) ≡ 1) → sum_by f (interfaces n) ≡ n
unfolding interfaces
once f zero one = refl
once f (suc n) one =
    sum_by_push f (interfaces n) (interface (suc n))
    ∙ ap (λ (m : ℕ). m + f (interface (suc n))) (once f n one)
    ∙ ap (λ (m : ℕ). n + m) (one (suc n))
    ∙ omega arith

not_mirrored : (number n : ℕ) → list_any (λ (m : Port). is_mirror_of m number) (interfaces n) ≡ false
unfolding interfaces
not_mirrored number zero = refl
not_mirrored number (suc n) = none_push (λ (m : Port). is_mirror_of m number) (interfaces n) (interface (suc n)) (not_mirrored number n) refl

-- none has an ACL
abbrev acls_of : Port → List (List ℕ)
acls_of p = p.acls

abbrev has_some : List (List ℕ) → Bool
has_some names = not (length names == 0)

no_acls : (n : ℕ) (more : List (List (List ℕ))) → filter has_some (map acls_of (interfaces n) ++ more) ≡ filter has_some more
unfolding interfaces
no_acls zero more = refl
no_acls (suc n) more =
    ap (λ (l : List (List (List ℕ))). filter has_some (l ++ more)) (map-append acls_of (interfaces n) (interface (suc n) ∷ []))
    ∙ ap (λ (l : List (List (List ℕ))). filter has_some l) (append_assoc (map acls_of (interfaces n)) ([] ∷ []) more)
    ∙ no_acls n ([] ∷ more)

no_vlan_acls : (test : Vlan → Bool) → filter has_some (map (λ (v : Vlan). v.acls) (filter test (vlan ∷ []))) ≡ []
no_vlan_acls test = by (test vlan)
  where
    by : (kept : Bool) → filter has_some (map (λ (v : Vlan). v.acls) (cond kept (vlan ∷ []) [])) ≡ []
    by true = refl
    by false = refl

-- ---- the parts

-- with its interfaces left open
abbrev setup : Configuration
setup = record { dps = datapath ∷ []; vlans = vlan ∷ []; acls = []; routers = [] }

number_label : (k : ℕ) → k ≤ 48 → IsLabel (decimal k)
number_label k high = record {
  least = decimal_nonempty k (omega (arith, high));
  most = let short = length-decimal-le 2 k (omega arith) (omega (arith, high)) (omega (arith, high)) in omega (arith, short);
}

port_valid : (k : ℕ) → 1 ≤ k → k ≤ 48 → IsPort setup (interface k)
port_valid k low high = record {
  number = record { least = low; most = omega (arith, high) };
  name = number_label k high;
  description = number_label k high;
  hosts = omega arith;
  most_hosts = omega arith;
  vlans = (refl, tt);
  once = (tt, tt);
}

vlans_valid : VlansAreValid setup
vlans_valid = record {
  each = (
    record {
      number = record { least = omega arith; most = omega arith };
      name = record { least = omega arith; most = omega arith };
      description = record { least = omega arith; most = omega arith };
      mac = record {
        six = refl;
        each = (omega arith, (omega arith, (omega arith, (omega arith, (omega arith, (omega arith, tt))))));
        individual = refl;
        not_zero = refl;
      };
      vips = tt;
      routes = tt;
      hosts = omega arith;
      most_hosts = omega arith;
    },
    tt,
  );
  in_order = (tt, tt);
  names = (tt, tt);
}

datapath_valid : IsDatapath setup datapath
datapath_valid = record {
  id = omega arith;
  name = record { least = omega arith; most = omega arith };
  description = record { least = omega arith; most = omega arith };
  timeout = record { least = omega arith; most = omega arith };
  arp_timeout = record { least = omega arith; most = omega arith };
  stack_priority = tt;
  lldp = tt;
  ports = each (IsPort setup) 48 port_valid;
  in_order = before (λ p q. p.no < q.no) 48 (λ j k less high. less);
  port_names = before (λ p q. p.name ≡ q.name → ⊥) 48 (λ j k less high same. let equal = decimal_injective j k (omega (arith, less, high)) (omega (arith, high)) same in omega (arith, less, equal));
}

datapaths_valid : DatapathsAreValid setup
datapaths_valid = record { each = (datapath_valid, tt); in_order = (tt, tt); ids = (tt, tt) }

acls_valid : AclsAreValid setup
acls_valid = record {
  rules = tt;
  in_order = tt;
  of_ports = (each _ 48 (λ k low high. tt), tt);
  of_vlans = (tt, tt);
  ports_on = (each _ 48 (λ k low high. tt), tt);
  vlans_on = ((λ on. tt, tt), tt);
}

mirrors_valid : MirrorsAreValid setup
mirrors_valid = record { each = (each _ 48 (λ k low high some. absurd (some refl)), tt) }

stacks_valid : StacksAreValid setup
stacks_valid = record { each = (each _ 48 (λ k low high. tt), tt) }

routing_valid : RoutingIsValid setup
routing_valid = record {
  in_order = tt;
  vlans = tt;
  once = tt;
  apart = tt;
  peers = tt;
  own_vips = (tt, tt);
  vips = (tt, tt);
  routes = (tt, tt);
  each = (record { reached = tt; one_family = tt; outside = tt }, tt);
}

none_attached : attached setup datapath ≡ []
none_attached = ap (map (rules_of setup)) (no_acls 48 (map (λ (v : Vlan). v.acls) (filter (λ (v : Vlan). has_edge_member datapath v.vid) (vlan ∷ []))) ∙ no_vlan_acls (λ v. has_edge_member datapath v.vid))

datapath_within : DatapathIsWithin setup datapath
datapath_within = record {
  ports = omega (arith, counted 48);
  mirrors = each _ 48 (λ k low high. let few = none (λ m. is_mirror_of m k) 48 (λ j. refl) in omega (arith, few));
  special = let few = none (is_special datapath) 48 (λ k. not_mirrored k 48) in omega (arith, few);
  rules = subst (λ l. AllByRecursion (λ rules. length rules ≤ 1000) l) (sym none_attached) tt;
  acl_entries = subst (λ l. sum_by (λ rules. length rules + 1) l ≤ 20000) (sym none_attached) (omega arith);
  acl_outputs = subst (λ l. sum_by (λ rules. sum_by (ports_named datapath) rules) l ≤ 65536) (sym none_attached) (omega arith);
  members = let few = once (members_at setup) 48 (λ k. refl) in omega (arith, few);
}

limits_valid : IsWithinLimits setup
limits_valid = record {
  dps = omega arith;
  vlans = omega arith;
  each = (datapath_within, tt);
  vips = (omega arith, tt);
  router_vlans = tt;
  routes = omega arith;
  gateways = omega arith;
  route_items = omega arith;
}

all_valid : IsValid setup
all_valid = record {
  vlans = vlans_valid;
  datapaths = datapaths_valid;
  acls = acls_valid;
  mirrors = mirrors_valid;
  stacks = stacks_valid;
  routing = routing_valid;
  limits = limits_valid;
}

pub setup_valid : IsValid configuration
unfolding configuration
setup_valid = all_valid

-- ---- its lists, as they are made

pub interfaces-none : interfaces 0 ≡ []
unfolding interfaces
interfaces-none = refl

pub interfaces-more : (n : ℕ) (made : List Port) (next : Port) → made ≡ interfaces n → next ≡ interface (n + 1) → made ++ next ∷ [] ≡ interfaces (n + 1)
unfolding interfaces
interfaces-more n made next so_far is = rw (so_far, is, add-one) refl

pub lists_valid : (dps : List Dp) (vlans : List Vlan) (acls : List Acl) (routers : List Router) → dps ≡ datapath ∷ [] → vlans ≡ vlan ∷ [] → acls ≡ [] → routers ≡ []
    → IsValid (record { dps = dps; vlans = vlans; acls = acls; routers = routers })
lists_valid dps vlans acls routers d v a r = rw (d, v, a, r) all_valid

pub lists_are : (dps : List Dp) (vlans : List Vlan) (acls : List Acl) (routers : List Router) → dps ≡ datapath ∷ [] → vlans ≡ vlan ∷ [] → acls ≡ [] → routers ≡ []
    → record { dps = dps; vlans = vlans; acls = acls; routers = routers } ≡ configuration
unfolding configuration
lists_are dps vlans acls routers d v a r = rw (d, v, a, r) refl
