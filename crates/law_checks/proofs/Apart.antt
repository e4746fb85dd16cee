-- Numbers and names that are given once: where no rule finds one given twice, and the other way round.
use Rattle.std.specs.Prelude.{◌≡◌, ℕ, ◌==◌, false, List, [], ◌++◌, codes}
use Rattle.std.specs.List.{flat_map}
use Rattle.std.proofs.lemmas.Bool.{ne_eqb, eqb-false}
use Rattle.conf_types.specs.declared.datapath.Dp.{Dp}
use Rattle.conf_types.specs.declared.datapath.Port.{Port}
use Rattle.conf_types.specs.declared.vlan.Vlan.{Vlan}
use Rattle.conf_types.specs.Configuration.{Configuration}
use Rattle.conf_types.specs.Lists.{EachBefore, is_same}
use Rattle.conf_shape.specs.declared.raw.RawDp.{RawDp}
use Rattle.conf_shape.specs.declared.raw.RawPort.{RawPort}
use Rattle.conf_shape.specs.declared.refused.ConfCause.TheVariants.{Duplicate}
use Rattle.conf_shape.specs.declared.refused.ConfFault.{ConfFault}
use Rattle.conf_resolve.specs.declared.ordered.OrderedConf.{OrderedConf}
use Rattle.conf_resolve.specs.declared.ordered.PlacedVlan.{PlacedVlan}
use Rattle.conf_resolve.specs.InOrder.{dp_site, port_site}
use Rattle.conf_resolve.specs.Resolved.{dp_of, port_of, vlan_of, resolved}
use Rattle.conf_rules.specs.Names.{vid_site, repeated_vlans, repeated_dps, number_site, repeated_ports_of}
use Rattle.conf_rules.specs.Places.{fault_if, under, name_site, with_earlier, is_repeat}
use Rattle.law_checks.proofs.Empty.{none_left, none_right, passes, none_repeat}
use Rattle.law_checks.proofs.Kept.{both_empty, all_empty, no_fault, repeat_free, before_unmapped}
use Rattle.law_checks.proofs.Members.{before_by, before_mapped}
use Rattle.law_checks.proofs.Orders.{not_same, other_texts}

-- ---- two faults of each: of its number, and of its name

module _ {A : Type 0} (number : A → ℕ) (name : A → List ℕ) (number_at name_at : A → List (List ℕ)) where
  abbrev same_number : List A × A → List ConfFault
  same_number item = fault_if (is_repeat (λ a b. number a == number b) item) Duplicate (number_at item.1)

  abbrev same_name : List A × A → List ConfFault
  same_name item = fault_if (is_repeat (λ a b. is_same (name a) (name b)) item) Duplicate (name_at item.1)

  abbrev twice : List A × A → List ConfFault
  twice item = same_number item ++ same_name item

  numbers_apart : (xs : List A) → flat_map twice (with_earlier [] xs) ≡ [] → EachBefore (λ a b. number a ≡ number b → ⊥) xs
  numbers_apart xs none =
      let apart = none_repeat (λ a b. number a == number b) twice [] xs (λ item is. passes (is_repeat (λ a b. number a == number b) item) Duplicate (number_at item.1) (none_left (same_number item) (same_name item) is)) none in
      before_by (λ a b. (number a == number b) ≡ false) (λ a b. number a ≡ number b → ⊥) xs apart.among (λ a b i j other. eqb-false (number a) (number b) other)

  names_apart : (xs : List A) → flat_map twice (with_earlier [] xs) ≡ [] → EachBefore (λ a b. name a ≡ name b → ⊥) xs
  names_apart xs none =
      let apart = none_repeat (λ a b. is_same (name a) (name b)) twice [] xs (λ item is. passes (is_repeat (λ a b. is_same (name a) (name b)) item) Duplicate (name_at item.1) (none_right (same_number item) (same_name item) is)) none in
      before_by (λ a b. is_same (name a) (name b) ≡ false) (λ a b. name a ≡ name b → ⊥) xs apart.among (λ a b i j other. not_same (name a) (name b) other)

  none_twice : (xs : List A) → EachBefore (λ a b. number a ≡ number b → ⊥) xs → EachBefore (λ a b. name a ≡ name b → ⊥) xs → flat_map twice (with_earlier [] xs) ≡ []
  none_twice xs numbers names =
      let by_number = before_by (λ a b. number a ≡ number b → ⊥) (λ a b. (number a == number b) ≡ false) xs numbers (λ a b i j other. ne_eqb (number a) (number b) other) in
      let by_name = before_by (λ a b. name a ≡ name b → ⊥) (λ a b. is_same (name a) (name b) ≡ false) xs names (λ a b i j other. other_texts (name a) (name b) other) in
      all_empty twice (with_earlier [] xs) (λ item i. both_empty (same_number item) (same_name item)
      (no_fault (is_repeat (λ a b. number a == number b) item) Duplicate (number_at item.1) (repeat_free (λ a b. number a == number b) xs by_number item i))
      (no_fault (is_repeat (λ a b. is_same (name a) (name b)) item) Duplicate (name_at item.1) (repeat_free (λ a b. is_same (name a) (name b)) xs by_name item i)))

-- ---- rules 1 to 3

module _ (o : OrderedConf) where
  abbrev conf : Configuration
  conf = resolved o

  as_vlan : PlacedVlan → Vlan
  as_vlan v = vlan_of v.vlan

  pub vids_differ : repeated_vlans o ≡ [] → EachBefore (λ v w. v.vid ≡ w.vid → ⊥) conf.vlans
  unfolding as_vlan
  vids_differ none = before_mapped (λ (v w : Vlan). v.vid ≡ w.vid → ⊥) as_vlan o.vlans (numbers_apart (λ (v : PlacedVlan). v.vlan.vid) (λ v. v.vlan.names.name) vid_site (λ v. name_site v.site v.vlan.names) o.vlans none)

  pub vlan_names_differ : repeated_vlans o ≡ [] → EachBefore (λ v w. v.name ≡ w.name → ⊥) conf.vlans
  unfolding as_vlan
  vlan_names_differ none = before_mapped (λ (v w : Vlan). v.name ≡ w.name → ⊥) as_vlan o.vlans (names_apart (λ (v : PlacedVlan). v.vlan.vid) (λ v. v.vlan.names.name) vid_site (λ v. name_site v.site v.vlan.names) o.vlans none)

  pub no_vlan_twice : EachBefore (λ v w. v.vid ≡ w.vid → ⊥) conf.vlans → EachBefore (λ v w. v.name ≡ w.name → ⊥) conf.vlans → repeated_vlans o ≡ []
  unfolding as_vlan
  no_vlan_twice vids names = none_twice (λ (v : PlacedVlan). v.vlan.vid) (λ v. v.vlan.names.name) vid_site (λ v. name_site v.site v.vlan.names) o.vlans (before_unmapped (λ (v w : Vlan). v.vid ≡ w.vid → ⊥) as_vlan o.vlans vids) (before_unmapped (λ (v w : Vlan). v.name ≡ w.name → ⊥) as_vlan o.vlans names)

  id_site : RawDp → List (List ℕ)
  id_site d = under (dp_site d) (codes "dp_id")

  pub ids_differ : repeated_dps o ≡ [] → EachBefore (λ d e. d.id.0 ≡ e.id.0 → ⊥) conf.dps
  unfolding id_site
  ids_differ none = before_mapped (λ (d e : Dp). d.id.0 ≡ e.id.0 → ⊥) (dp_of o) o.dps (numbers_apart (λ (d : RawDp). d.id.0) (λ d. d.names.name) id_site (λ d. name_site (dp_site d) d.names) o.dps none)

  pub dp_names_differ : repeated_dps o ≡ [] → EachBefore (λ d e. d.name ≡ e.name → ⊥) conf.dps
  unfolding id_site
  dp_names_differ none = before_mapped (λ (d e : Dp). d.name ≡ e.name → ⊥) (dp_of o) o.dps (names_apart (λ (d : RawDp). d.id.0) (λ d. d.names.name) id_site (λ d. name_site (dp_site d) d.names) o.dps none)

  pub no_dp_twice : EachBefore (λ d e. d.id.0 ≡ e.id.0 → ⊥) conf.dps → EachBefore (λ d e. d.name ≡ e.name → ⊥) conf.dps → repeated_dps o ≡ []
  unfolding id_site
  no_dp_twice ids names = none_twice (λ (d : RawDp). d.id.0) (λ d. d.names.name) id_site (λ d. name_site (dp_site d) d.names) o.dps (before_unmapped (λ (d e : Dp). d.id.0 ≡ e.id.0 → ⊥) (dp_of o) o.dps ids) (before_unmapped (λ (d e : Dp). d.name ≡ e.name → ⊥) (dp_of o) o.dps names)

  -- of the interfaces of a datapath
  module _ (d : RawDp) where
    pub port_numbers_differ : repeated_ports_of d ≡ [] → EachBefore (λ p q. p.no ≡ q.no → ⊥) (dp_of o d).ports
    port_numbers_differ none = before_mapped (λ (p q : Port). p.no ≡ q.no → ⊥) (port_of o d) d.ports (numbers_apart (λ (p : RawPort). p.no) (λ p. p.names.name) (number_site d) (λ p. name_site (port_site d p) p.names) d.ports none)

    pub port_names_differ : repeated_ports_of d ≡ [] → EachBefore (λ p q. p.name ≡ q.name → ⊥) (dp_of o d).ports
    port_names_differ none = before_mapped (λ (p q : Port). p.name ≡ q.name → ⊥) (port_of o d) d.ports (names_apart (λ (p : RawPort). p.no) (λ p. p.names.name) (number_site d) (λ p. name_site (port_site d p) p.names) d.ports none)

    pub no_port_twice : EachBefore (λ p q. p.no ≡ q.no → ⊥) (dp_of o d).ports → EachBefore (λ p q. p.name ≡ q.name → ⊥) (dp_of o d).ports → repeated_ports_of d ≡ []
    no_port_twice numbers names = none_twice (λ (p : RawPort). p.no) (λ p. p.names.name) (number_site d) (λ p. name_site (port_site d p) p.names) d.ports (before_unmapped (λ (p q : Port). p.no ≡ q.no → ⊥) (port_of o d) d.ports numbers) (before_unmapped (λ (p q : Port). p.name ≡ q.name → ⊥) (port_of o d) d.ports names)
