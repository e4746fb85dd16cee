-- The entries of ACLs: a rule sends by interfaces of its datapath.
use Rattle.std.specs.Prelude.{◌≡◌, ℕ, ◌==◌, not, Bool, true, false, cond, List, [], ◌∷◌, map, Some, None, if◌then◌else◌}
use Rattle.std.specs.List.{AllByRecursion, filter_map}
use Rattle.std.proofs.Common.{subst}
use Rattle.std.proofs.lemmas.Option.{same_Some, none-some, option_and_then_some}
use Rattle.net_base.specs.declared.field.Field.{Field}
use Rattle.net_base.specs.Numbers.{IsPortNo}
use Rattle.conf_types.specs.declared.acl.PortRef.{PortRef}
use Rattle.conf_types.specs.declared.acl.Rule.{Rule}
use Rattle.conf_types.specs.declared.datapath.Dp.{Dp}
use Rattle.conf_types.specs.declared.datapath.Port.{Port}
use Rattle.conf_types.specs.declared.vlan.Vlan.{Vlan}
use Rattle.conf_types.specs.Attached.{is_named, port_named, names_in}
use Rattle.conf_types.specs.Configuration.{Configuration}
use Rattle.conf_types.proofs.Found.{all_found}
use Rattle.plan_base.specs.declared.table.Table.TheVariants.{Admission}
use Rattle.plan_base.specs.Actions.{out}
use Rattle.plan_base.proofs.Each.{all_filter, all_filter_map}
use Rattle.acl_compile.specs.declared.place.Place.{Place}
use Rattle.acl_compile.specs.declared.place.Place.TheVariants.{AtPort, AtVlan}
use Rattle.acl_compile.specs.Places.{next_at}
use Rattle.acl_compile.specs.Rows.{rule_entry_for}
use Rattle.acl_compile.specs.Slices.{port_acl, vlan_acl}
use Rattle.acl_compile.specs.Targets.{may_go, once, target, targets}
use Rattle.law_runs.specs.Members.{all_by}
use Rattle.plan_units.specs.Parts.{port_acl_by, vlan_acl_by}
use Rattle.law_entries.specs.Whole.{SendsWhole}
use Rattle.law_entries.proofs.WholeParts.{outs_whole, led}

all_once : (P : ℕ → Type 0) (ns : List ℕ) → AllByRecursion P ns → AllByRecursion P (once ns)
all_once P [] all = tt
all_once P (n ∷ more) all = (all.0, all_filter P (λ m. not (m == n)) (once more) (all_once P more all.1))

module _ (d : Dp) (numbers : AllByRecursion (λ (p : Port). IsPortNo p.no) d.ports) where
  module _ (at : Place) where
    -- ---- the ports of a rule

    of_port : (q : Port) → IsPortNo q.no → (b : Bool) (n : ℕ) → cond b (Some q.no) None ≡ Some n → IsPortNo n
    of_port q is true n e = subst IsPortNo (same_Some q.no n e) is
    of_port q is false n e = absurd (none-some n e)

    is_target : (name : PortRef) (n : ℕ) → target at d name ≡ Some n → IsPortNo n
    is_target name n e =
        option_and_then_some (λ q. if may_go at q then Some q.no else None) (port_named d name) n e
        (λ q found goes. of_port q (all_found (λ (p : Port). IsPortNo p.no) (is_named name) d.ports q numbers found) (may_go at q) n goes)

    are_targets : (rule : Rule) → AllByRecursion IsPortNo (targets at d rule)
    are_targets rule =
        all_once IsPortNo (filter_map (target at d) (names_in rule))
        (all_filter_map (target at d) IsPortNo (names_in rule) (all_by (λ name. (n : ℕ) → target at d name ≡ Some n → IsPortNo n) (names_in rule) (λ name c. is_target name)))

    -- ---- entries

    rule_whole : (priority : ℕ) (rule : Rule) (fields : List Field) → SendsWhole (rule_entry_for at d priority rule fields)
    rule_whole priority rule fields = led (map out (targets at d rule)) (if rule.allow then Some (next_at at) else None) (outs_whole (targets at d rule) (are_targets rule))

  pub port_acl_whole : (conf : Configuration) (i : Port) → AllByRecursion SendsWhole (port_acl conf d i)
  port_acl_whole conf i = port_acl_by SendsWhole conf d i (λ priority rule fields c is. rule_whole (AtPort i.no) priority rule fields) tt (led [] (Some Admission) tt)

  pub vlan_acl_whole : (conf : Configuration) (v : Vlan) → AllByRecursion SendsWhole (vlan_acl conf d v)
  vlan_acl_whole conf v = vlan_acl_by SendsWhole conf d v (λ priority rule fields c is. rule_whole (AtVlan v.vid) priority rule fields) tt
