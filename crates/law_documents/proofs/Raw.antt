-- The raw configurations of two documents that are the same but for the order of entries.
use Rattle.std.proofs.Common.{◌≡◌, [], refl}
use Rattle.std.specs.Prelude.{codes}
use Rattle.yaml_tree.specs.declared.tree.Tree.{Tree}
use Rattle.conf_shape.specs.declared.kinds.Kind.TheVariants.{Map}
use Rattle.conf_shape.specs.declared.kinds.MapKind.TheVariants as maps
use Rattle.conf_shape.specs.declared.raw.RawConf.{RawConf}
use Rattle.conf_shape.specs.Faults.{faults_of}
use Rattle.conf_shape.specs.Keys.{keys_of}
use Rattle.conf_shape.specs.Raw.{datapath_of_entry, vlan_of_entry, acl_of_entry, router_of_entry, raw_of}
use Rattle.conf_shape.specs.Reads.{entries_of, entries_at}
use Rattle.law_documents.specs.SameButOrder.{SameButOrder}
use Rattle.law_documents.proofs.Clash.{spelled_itself}
use Rattle.law_documents.proofs.Interfaces.{IsSameDp, datapath_entry}
use Rattle.law_documents.proofs.Kept.{each_entry, entries_kept}
use Rattle.law_documents.proofs.Looked.{Looked, look, below}
use Rattle.law_documents.proofs.Networks.{vlan_entry, router_entry}
use Rattle.law_documents.proofs.Reordered.{Reordered}
use Rattle.law_documents.proofs.Rules.{acl_entry}

-- the same parts in another order
pub record IsSameRaw (a b : RawConf) : Type 0 where
  pub dps : Reordered IsSameDp a.dps b.dps
  pub vlans : Reordered (λ v w. v ≡ w) a.vlans b.vlans
  pub acls : Reordered (λ x y. x ≡ y) a.acls b.acls
  pub routers : Reordered (λ r s. r ≡ s) a.routers b.routers

pub raw_same : (t u : Tree) → faults_of t (Map maps.Top) ≡ [] → SameButOrder t u → IsSameRaw (raw_of t) (raw_of u)
raw_same t u h same = record {
  dps = each_entry maps.Datapaths IsSameDp datapath_of_entry datapath_entry (entries_at (codes "dps") (entries_of t)) (entries_at (codes "dps") (entries_of u)) (below maps.Top (entries_of t) (entries_of u) looked maps.Datapaths (Map maps.Datapaths) (codes "dps") refl refl);
  vlans = each_entry maps.Vlans (λ v w. v ≡ w) vlan_of_entry vlan_entry (entries_at (codes "vlans") (entries_of t)) (entries_at (codes "vlans") (entries_of u)) (below maps.Top (entries_of t) (entries_of u) looked maps.Vlans (Map maps.Vlans) (codes "vlans") refl refl);
  acls = each_entry maps.Acls (λ x y. x ≡ y) acl_of_entry acl_entry (entries_at (codes "acls") (entries_of t)) (entries_at (codes "acls") (entries_of u)) (below maps.Top (entries_of t) (entries_of u) looked maps.Acls (Map maps.Acls) (codes "acls") refl refl);
  routers = each_entry maps.Routers (λ r s. r ≡ s) router_of_entry router_entry (entries_at (codes "routers") (entries_of t)) (entries_at (codes "routers") (entries_of u)) (below maps.Top (entries_of t) (entries_of u) looked maps.Routers (Map maps.Routers) (codes "routers") refl refl);
}
  where
    looked : Looked maps.Top (entries_of t) (entries_of u)
    looked = look maps.Top (spelled_itself (keys_of maps.Top)) (entries_of t) (entries_of u) (entries_kept (Map maps.Top) maps.Top refl t u h same)
