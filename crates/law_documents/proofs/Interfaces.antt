-- What is read of datapaths and their interfaces, where they are the same but for the order of entries.
use Rattle.std.proofs.Common.{◌≡◌, ℕ, true, List, [], Option, Some, None, Ok, Err, refl, ap, ◌∙◌, subst}
use Rattle.std.specs.Prelude.{map, codes, unwrap_or, Bool, if◌then◌else◌, false, Result}
use Rattle.conf_types.specs.declared.acl.PortRef.TheVariants as port_refs
use Rattle.yaml_tree.specs.declared.tree.Key.{Key}
use Rattle.yaml_tree.specs.declared.tree.Key.TheVariants as key
use Rattle.yaml_tree.specs.declared.tree.Pair.{Pair}
use Rattle.yaml_tree.specs.declared.tree.Tree.{Tree}
use Rattle.conf_shape.specs.declared.kinds.Kind.{Kind}
use Rattle.conf_shape.specs.declared.kinds.Kind.TheVariants.{Map}
use Rattle.conf_shape.specs.declared.kinds.TheConstants.{MOST_PORT_NO}
use Rattle.conf_shape.specs.declared.kinds.MapKind.{MapKind}
use Rattle.conf_shape.specs.declared.kinds.MapKind.TheVariants as maps
use Rattle.conf_shape.specs.declared.refused.ConfCause.{ConfCause}
use Rattle.conf_shape.specs.declared.refused.ConfCause.TheVariants.{OutOfRange}
use Rattle.conf_shape.specs.declared.raw.RawDp.{RawDp}
use Rattle.conf_shape.specs.Faults.{faults_of}
use Rattle.conf_shape.specs.Keys.{keys_of}
use Rattle.conf_shape.specs.Raw.{acls_at, names_by, stack_end_of, port_flags_by, port_flags, port_with, port_of_entry, drop_flags_by, drop_flags, stack_priority, lldp_interval, lldp, datapath_with, datapath_of_entry}
use Rattle.conf_shape.specs.Reads.{items_of, entries_of, entries_at, text_at, label_of, port_of, vlan_of, own_number}
use Rattle.conf_shape.specs.Scalars.{is_name}
use Rattle.conf_shape.specs.Sections.{key_text, under_key}
use Rattle.law_checks.proofs.Right.{HasKind, takes_by}
use Rattle.law_checks.proofs.Stands.{numbered_found}
use Rattle.law_documents.specs.SameButOrder.{SameButOrder}
use Rattle.law_documents.proofs.Clash.{spelled_itself}
use Rattle.law_documents.proofs.Kept.{Entries, each_entry, entries_kept, Keeps, number_read, label_read, port_read, vlan_read, read_items, one_or_list_read}
use Rattle.law_documents.proofs.Layers.{IsSameEntry}
use Rattle.law_documents.proofs.Looked.{Looked, look, read_at, given_same, flag_same, number_under_same, number_same, text_same, words_same, option_same, list_same, one_or_list_same, below}
use Rattle.law_documents.proofs.Reordered.{Reordered}

-- ---- what maps of several kinds have

pub own_same : (low high : ℕ) (k : Key) (t u : Tree) → SameButOrder t u → own_number low high k (Some t) ≡ own_number low high k (Some u)
own_same low high (key.Int n) t u same = refl
own_same low high (key.Text text) t u same = number_read low high t u same

module _ (m : MapKind) (ps qs : List Pair) (looked : Looked m ps qs) where
  pub names_same : (d : MapKind) (own : List ℕ) → names_by d own ps ≡ names_by d own qs
  names_same d own =
      let has = given_same m ps qs looked (codes "name") in
      let name = text_same m ps qs looked d (codes "name") own in
      let description = text_same m ps qs looked d (codes "description") (text_at d (codes "name") own ps) ∙ ap (λ own. text_at d (codes "description") own qs) name in
      λ i. record { key = own; has_name = has i; name = name i; description = description i }

  pub acls_same : acls_at ps ≡ acls_at qs
  acls_same =
      let one = option_same m ps qs looked label_of (codes "acl_in") (λ t u a. label_read t u a.0) in
      let list = option_same m ps qs looked (λ t. map label_of (items_of t)) (codes "acls_in") (λ t u a. read_items label_of label_read t u a.0) in
      λ i. record { one = one i; list = list i }

-- ---- interfaces

stack_end_kept : Keeps (Map maps.PortStack) stack_end_of
stack_end_kept t u h same =
    let ps : List Pair = entries_of t in
    let qs : List Pair = entries_of u in
    let looked = look maps.PortStack (spelled_itself (keys_of maps.PortStack)) ps qs (entries_kept (Map maps.PortStack) maps.PortStack refl t u h same) in
    let dp = words_same maps.PortStack ps qs looked (codes "dp") in
    let port = ap (λ o. unwrap_or o (port_refs.Name [])) (option_same maps.PortStack ps qs looked port_of (codes "port") (λ t u a. port_read t u a.0)) in
    λ i. record { dp = dp i; port = port i }

module _ (number : Option ℕ) (ps qs : List Pair) (e : Entries (maps.Interface number) ps qs) where
  looked : Looked (maps.Interface number) ps qs
  looked = look (maps.Interface number) (spelled_itself (keys_of (maps.Interface number))) ps qs e

  flags_same : port_flags ps ≡ port_flags qs
  flags_same = λ i. port_flags_by (λ name. flag_same (maps.Interface number) ps qs looked (maps.Interface None) name i)

  port_same : (k : Key) → port_with k ps ≡ port_with k qs
  port_same k =
      let names = names_same (maps.Interface number) ps qs looked (maps.Interface None) (key_text k) in
      let has_number = given_same (maps.Interface number) ps qs looked (codes "number") in
      let no = read_at (maps.Interface number) ps qs looked (codes "number") (λ o. unwrap_or (own_number 1 MOST_PORT_NO k o) 1) (λ t u a. ap (λ o. unwrap_or o 1) (own_same 1 MOST_PORT_NO k t u a.0)) in
      let flags = flags_same in
      let native = option_same (maps.Interface number) ps qs looked vlan_of (codes "native_vlan") (λ t u a. vlan_read t u a.0) in
      let tagged = list_same (maps.Interface number) ps qs looked vlan_of (codes "tagged_vlans") (λ t u a. read_items vlan_of vlan_read t u a.0) in
      let acls = acls_same (maps.Interface number) ps qs looked in
      let max_hosts = number_same (maps.Interface number) ps qs looked (maps.Interface None) (codes "max_hosts") in
      let mirror = one_or_list_same (maps.Interface number) ps qs looked port_of (codes "mirror") (λ t u a. one_or_list_read port_of port_read t u a.0) in
      let stack = option_same (maps.Interface number) ps qs looked stack_end_of (codes "stack") (λ t u a. stack_end_kept t u (a.1 (Map maps.PortStack) (takes_by maps.Interface (codes "stack") (Map maps.PortStack) refl (λ n. refl) number)) a.0) in
      λ i. record { names = names i; has_number = has_number i; no = no i; flags = flags i; native = native i; tagged = tagged i; acls = acls i; max_hosts = max_hosts i; mirror = mirror i; stack = stack i }

port_entry : (p q : Pair) → HasKind p.value (under_key maps.Interfaces [] p.key) → IsSameEntry p q → port_of_entry p ≡ port_of_entry q
port_entry p q has same =
    let found = numbered_found 1 MOST_PORT_NO maps.Interface p.key has.0 has.1 in
    let h : faults_of p.value (Map (maps.Interface found.0)) ≡ [] = subst (λ kind. faults_of p.value kind ≡ []) found.2 has.2 in
    port_same found.0 (entries_of p.value) (entries_of q.value) (entries_kept (Map (maps.Interface found.0)) (maps.Interface found.0) refl p.value q.value h same.1) p.key
    ∙ ap (λ k. port_with k (entries_of q.value)) same.0

-- ---- datapaths

-- all but the interfaces, and the interfaces in another order
pub record IsSameDp (d e : RawDp) : Type 0 where
  pub rest : ◌≡◌ {A = RawDp} (record d { ports = [] }) (record e { ports = [] })
  pub ports : Reordered (λ p q. p ≡ q) d.ports e.ports

interval_kept : Keeps (Map maps.LldpBeacon) lldp_interval
interval_kept t u h same =
    let looked = look maps.LldpBeacon (spelled_itself (keys_of maps.LldpBeacon)) (entries_of t) (entries_of u) (entries_kept (Map maps.LldpBeacon) maps.LldpBeacon refl t u h same) in
    number_same maps.LldpBeacon (entries_of t) (entries_of u) looked maps.LldpBeacon (codes "send_interval")

module _ (ps qs : List Pair) (e : Entries maps.Datapath ps qs) where
  looked_dp : Looked maps.Datapath ps qs
  looked_dp = look maps.Datapath (spelled_itself (keys_of maps.Datapath)) ps qs e

  drops_same : drop_flags ps ≡ drop_flags qs
  drops_same = λ i. drop_flags_by (λ name. flag_same maps.Datapath ps qs looked_dp maps.Datapath name i)

  priority_same : stack_priority ps ≡ stack_priority qs
  priority_same =
      let inner = look maps.DatapathStack (spelled_itself (keys_of maps.DatapathStack)) (entries_at (codes "stack") ps) (entries_at (codes "stack") qs)
      (below maps.Datapath ps qs looked_dp maps.DatapathStack (Map maps.DatapathStack) (codes "stack") refl refl) in
      number_under_same maps.DatapathStack (entries_at (codes "stack") ps) (entries_at (codes "stack") qs) inner 32 (codes "priority")

  lldp_same : lldp ps ≡ lldp qs
  lldp_same = option_same maps.Datapath ps qs looked_dp lldp_interval (codes "lldp_beacon") (λ t u a. interval_kept t u (a.1 (Map maps.LldpBeacon) refl) a.0)

  ports_same : Reordered (λ p q. p ≡ q) (map port_of_entry (entries_at (codes "interfaces") ps)) (map port_of_entry (entries_at (codes "interfaces") qs))
  ports_same =
      each_entry maps.Interfaces (λ p q. p ≡ q) port_of_entry port_entry (entries_at (codes "interfaces") ps) (entries_at (codes "interfaces") qs)
      (below maps.Datapath ps qs looked_dp maps.Interfaces (Map maps.Interfaces) (codes "interfaces") refl refl)

  pub datapath_same : (k : Key) → IsSameDp (datapath_with k ps) (datapath_with k qs)
  datapath_same k =
      let names = names_same maps.Datapath ps qs looked_dp maps.Datapath (key_text k) in
      let id = ap (λ o. unwrap_or o 0) (number_under_same maps.Datapath ps qs looked_dp 64 (codes "dp_id")) in
      let hardware = text_same maps.Datapath ps qs looked_dp maps.Datapath (codes "hardware") [] in
      let timeout = number_same maps.Datapath ps qs looked_dp maps.Datapath (codes "timeout") in
      let arp_timeout = number_same maps.Datapath ps qs looked_dp maps.Datapath (codes "arp_neighbor_timeout") in
      let priority = priority_same in
      let lldp = lldp_same in
      let drops = drops_same in
      record {
        rest = λ i. record { names = names i; id = record { 0 = id i }; hardware = hardware i; timeout = timeout i; arp_timeout = arp_timeout i; stack_priority = priority i; lldp = lldp i; drops = drops i; ports = [] };
        ports = ports_same;
      }

if_ok : (is : Bool) (cause : ConfCause) (a b : Kind) → ◌≡◌ {A = Result Kind ConfCause} (if is then Ok a else Err cause) (Ok b) → b ≡ a
if_ok true cause a b e = cc
if_ok false cause a b e = absurd cc

pub datapath_entry : (p q : Pair) → HasKind p.value (under_key maps.Datapaths [] p.key) → IsSameEntry p q → IsSameDp (datapath_of_entry p) (datapath_of_entry q)
datapath_entry p q has same =
    let kind : has.0 ≡ Map maps.Datapath = if_ok (is_name (key_text p.key)) OutOfRange (Map maps.Datapath) has.0 has.1 in
    let h : faults_of p.value (Map maps.Datapath) ≡ [] = subst (λ kind. faults_of p.value kind ≡ []) kind has.2 in
    subst (λ k. IsSameDp (datapath_of_entry p) (datapath_with k (entries_of q.value))) same.0
    (datapath_same (entries_of p.value) (entries_of q.value) (entries_kept (Map maps.Datapath) maps.Datapath refl p.value q.value h same.1) p.key)
