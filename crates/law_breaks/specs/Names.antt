-- Rules 1 to 3 and 5: what is named twice. (Of rules 4 and 6, `NamesNoVlan` and `NamesNoAcl` of law_documents
-- say it.)
use Rattle.std.specs.Prelude.{◌≡◌, ℕ, ◌⊎◌, Bool, true, List, ◌++◌, codes, Some, Contains}
use Rattle.yaml_tree.specs.declared.tree.Tree.{Tree, out-Tree}
use Rattle.conf_shape.specs.declared.raw.RawDp.{RawDp}
use Rattle.conf_shape.specs.declared.raw.RawNames.{RawNames}
use Rattle.conf_shape.specs.declared.raw.RawPort.{RawPort}
use Rattle.conf_shape.specs.declared.raw.VlanRef.{VlanRef}
use Rattle.conf_resolve.specs.declared.ordered.OrderedConf.{OrderedConf}
use Rattle.conf_resolve.specs.InOrder.{dp_site, port_site}
use Rattle.conf_resolve.specs.Resolved.{to_list, vid_of}
use Rattle.conf_rules.specs.Names.{vid_site, number_site}
use Rattle.conf_rules.specs.Places.{under, name_site}
use Rattle.law_checks.specs.Values.{IsNumber, IsText, IsVlanOf}
use Rattle.law_breaks.specs.Found.{ByKey, Repeats, IsItemOf}

-- the name of a part stands there
pub record HasName (site : List (List ℕ)) (names : RawNames) (steps : List (List ℕ)) (v : Tree) : Type 0 where
  pub path : steps ≡ name_site site names
  pub value : ByKey names.has_name (λ v. IsText v names.name) v

-- its number, which is that of these steps
pub record HasNumber (site : List (List ℕ)) (has_number : Bool) (number : ℕ) (steps : List (List ℕ)) (v : Tree) : Type 0 where
  pub path : steps ≡ site
  pub value : ByKey has_number (λ v. IsNumber v number) v

-- rule 1: an earlier VLAN has the number or the name
abbrev pub RepeatsVlan : OrderedConf → List (List ℕ) → Tree → Type 0
RepeatsVlan o steps v =
    Repeats o.vlans (λ a b. a.vlan.vid ≡ b.vlan.vid) (λ w. HasNumber (vid_site w) w.vlan.has_vid w.vlan.vid steps v)
    ⊎ Repeats o.vlans (λ a b. a.vlan.names.name ≡ b.vlan.names.name) (λ w. HasName w.site w.vlan.names steps v)

-- rule 2: an earlier datapath has the identifier or the name
abbrev pub RepeatsDatapath : OrderedConf → List (List ℕ) → Tree → Type 0
RepeatsDatapath o steps v =
    Repeats o.dps (λ a b. a.id.0 ≡ b.id.0) (λ d. HasNumber (under (dp_site d) (codes "dp_id")) true d.id.0 steps v)
    ⊎ Repeats o.dps (λ a b. a.names.name ≡ b.names.name) (λ d. HasName (dp_site d) d.names steps v)

-- rule 3: an earlier interface of the datapath has the number or the name
abbrev pub RepeatsInterface : OrderedConf → List (List ℕ) → Tree → Type 0
RepeatsInterface o steps v =
    (d : RawDp) × Contains o.dps d
    × (Repeats d.ports (λ a b. a.no ≡ b.no) (λ p. HasNumber (number_site d p) p.has_number p.no steps v)
    ⊎ Repeats d.ports (λ a b. a.names.name ≡ b.names.name) (λ p. HasName (port_site d p) p.names steps v))

-- both stand for one VLAN
abbrev pub NameOneVlan : OrderedConf → VlanRef → VlanRef → Type 0
NameOneVlan o a b = (vid : ℕ) × (vid_of o.vlans a ≡ Some vid) × (vid_of o.vlans b ≡ Some vid)

-- rule 5: an item of `tagged_vlans` stands for the VLAN of `native_vlan` or of an earlier item
pub record RepeatsTagged (o : OrderedConf) (steps : List (List ℕ)) (v : Tree) : Type 0 where
  pub dp : RawDp
  pub is_dp : Contains o.dps dp
  pub port : RawPort
  pub is_port : Contains dp.ports port
  pub again : Repeats (to_list port.native ++ port.tagged) (NameOneVlan o) (λ ref.
      IsItemOf (under (port_site dp port) (codes "tagged_vlans")) port.tagged steps ref × IsVlanOf (out-Tree v) ref)
