-- What ACLs and routes cost, where they are attached or routed, as far as a cap.
use Rattle.std.specs.Prelude.{ℕ, ◌==◌, ◌+◌, not, List, [], length, cond, count_by, filter, fold, map, min, if◌then◌else◌}
use Rattle.std.specs.Option.{option_map_or}
use Rattle.conf_types.specs.declared.acl.Rule.{Rule}
use Rattle.conf_types.specs.declared.datapath.Dp.{Dp}
use Rattle.conf_types.specs.declared.datapath.Port.{Port}
use Rattle.conf_types.specs.declared.vlan.Route.{Route}
use Rattle.conf_types.specs.declared.vlan.Vlan.{Vlan}
use Rattle.conf_types.specs.Attached.{acl_named, rules_of}
use Rattle.conf_types.specs.Configuration.{Configuration}
use Rattle.conf_types.specs.Families.{ip_value, width_of}
use Rattle.conf_types.specs.Membership.{has_edge_member, is_edge_member, is_stack}

abbrev pub named_rules : Configuration → List ℕ → List Rule
named_rules conf name = option_map_or (λ acl. acl.rules) (acl_named conf.acls name) []

-- of the ACLs of an interface or a VLAN, where it has any
abbrev pub cost : (List Rule → ℕ) → Configuration → List (List ℕ) → ℕ
cost size conf names = cond (not (length names == 0)) (size (rules_of conf names)) 0

-- of a VLAN, where the datapath has an edge port of it
abbrev pub vlan_cost : (List Rule → ℕ) → Configuration → Dp → Vlan → ℕ
vlan_cost size conf d v = cond (has_edge_member d v.vid) (cost size conf v.acls) 0

-- how many of these VLANs have the interface as a member
abbrev pub members_among : List Vlan → Port → ℕ
members_among vlans p = if is_stack p then length vlans else count_by (λ v. is_edge_member p v.vid) vlans

-- the gateways of routes that have so many bits, as numbers
abbrev pub values_of : ℕ → List Route → List ℕ
values_of width routes = map ip_value (filter (λ ip. width_of ip == width) (map (λ r. r.gw) routes))

-- a sum, as far as a cap: what is counted where the whole may be too large for a number
abbrev pub capped : {A : Type 0} → ℕ → (A → ℕ) → List A → ℕ
capped cap f xs = fold (λ sum x. min cap (sum + f x)) 0 xs
