-- Whose an entry is, by its key: what stands once, an interface, a VLAN, a host, or the routes of a VLAN.
use Rattle.std.proofs.Common.{◌≡◌, ℕ, ◌+◌, Bool, true, false, cond, ◌==◌, ◌&&◌, nat_lt, if◌then◌else◌, List, [], ◌∷◌, ◌++◌, filter, Option, Some, None, refl, ap, subst, arith}
use Rattle.std.specs.List.{AllByRecursion, find, list_any}
use Rattle.std.specs.Option.{option_map_or}
use Rattle.std.proofs.lemmas.Bool.Decides.{nat_tests}
use Rattle.std.proofs.lemmas.Option.{same_Some, none-some}
use Rattle.net_base.specs.declared.field.Field.{Field}
use Rattle.net_base.specs.Address.{mac_value}
use Rattle.net_base.specs.FieldId.{number_of}
use Rattle.of_match.specs.declared.entry.Entry.{Entry}
use Rattle.of_match.specs.declared.entry.Key.{Key}
use Rattle.conf_types.specs.declared.acl.Rule.{Rule}
use Rattle.conf_types.specs.declared.address.Net.{Net}
use Rattle.conf_types.specs.declared.address.Net.TheVariants.{V4, V6}
use Rattle.conf_types.specs.declared.datapath.Dp.{Dp}
use Rattle.conf_types.specs.declared.datapath.Port.{Port}
use Rattle.conf_types.specs.declared.family.Family.{Family}
use Rattle.conf_types.specs.declared.state.HostRec.{HostRec}
use Rattle.conf_types.specs.declared.vlan.Vlan.{Vlan}
use Rattle.conf_types.specs.Configuration.{Configuration}
use Rattle.conf_types.specs.State.{State}
use Rattle.packet_way.specs.Known.{stack_of}
use Rattle.packet_way.specs.declared.routes.RouteItem.{RouteItem}
use Rattle.plan_base.specs.Families.{IsFamily}
use Rattle.plan_base.specs.Fields.{in_port, vid_field}
use Rattle.plan_base.proofs.Families.{of_families}
use Rattle.plan_base.proofs.Each.{all_append}
use Rattle.acl_compile.specs.declared.place.Place.TheVariants.{AtPort, AtVlan}
use Rattle.acl_compile.specs.Rows.{rule_entry_for, rule_fields, asks_for_another, with_vid}
use Rattle.acl_compile.specs.Slices.{port_acl, vlan_acl}
use Rattle.vlan_compile.specs.declared.flood.Flood.{Flood}
use Rattle.vlan_compile.specs.declared.flood.Flood.TheVariants.{Group, Unicast}
use Rattle.vlan_compile.specs.declared.flood.Ingress.{Ingress}
use Rattle.vlan_compile.specs.declared.flood.Ingress.TheVariants.{Any, At}
use Rattle.vlan_compile.specs.Admissions.{admissions}
use Rattle.vlan_compile.specs.Sources.{sources}
use Rattle.vlan_compile.specs.Floods.{flood_entry}
use Rattle.route_compile.specs.Routes.{item_entry, no_route}
use Rattle.route_compile.specs.Vips.{vip_slice, asked_entry}
use Rattle.plan_units.specs.Fixed.{drops, fixed}
use Rattle.plan_units.specs.Parts.{port_acl_by, vlan_acl_by, admissions_by, drops_by, misses_by, sources_by, fib_by, vips_by, destinations_by, floods_by}
use Rattle.plan_units.specs.Units.{of_port, of_vlan, of_host, of_routes}

-- the value of the first field with a number
abbrev pub value_of : ℕ → List Field → ℕ
value_of number fields = option_map_or (λ f. f.value) (find (λ f. number_of f.id == number) fields) 0

-- what sort of owner, and which one
abbrev pub Owner : Type 0
Owner = ℕ × (ℕ × ℕ)

abbrev pub datapath : Owner
datapath = (0, (0, 0))

abbrev pub interface : ℕ → Owner
interface number = (1, (number, 0))

abbrev pub vlan : ℕ → Owner
vlan vid = (2, (0x1000 + vid, 0))

abbrev pub host : ℕ → ℕ → Owner
host vid mac = (3, (0x1000 + vid, mac))

abbrev pub routes : ℕ → Owner
routes vid = (4, (0x1000 + vid, 0))

-- by table and priority, and by the fields IN_PORT, VLAN_VID, ETH_SRC and ETH_DST
abbrev pub owner_in : ℕ → ℕ → List Field → Owner
owner_in table priority fields =
    if table == 0 then interface (value_of 0 fields)
    else if table == 1 then (if nat_lt 29 priority && nat_lt priority 34 then datapath else interface (value_of 0 fields))
    else if table == 2 then (2, (value_of 6 fields, 0))
    else if table == 3 then (if priority == 40 then datapath else if priority == 10 then interface (value_of 0 fields) else (3, (value_of 6 fields, value_of 4 fields)))
    else if table == 4 then (if priority == 0 then datapath else (4, (value_of 6 fields, 0)))
    else if table == 5 then (if priority == 0 then datapath else (4, (value_of 6 fields, 0)))
    else if table == 6 then (if priority == 0 then datapath else (2, (value_of 6 fields, 0)))
    else if table == 7 then (if priority == 0 then datapath else (3, (value_of 6 fields, value_of 3 fields)))
    else (2, (value_of 6 fields, 0))

abbrev pub owner : Key → Owner
owner k = owner_in k.table k.priority k.fields

abbrev pub Owned : Owner → List Entry → Type 0
Owned u es = AllByRecursion (λ e. owner e.key ≡ u) es

-- ---- rules

-- the tag among a rule's fields is that of the VLAN
pub vid_behind_lower : (vid : ℕ) (fields rest : List Field) → find (λ f. number_of f.id == 6) (filter (λ f. nat_lt (number_of f.id) 6) fields ++ vid_field vid ∷ rest) ≡ Some (vid_field vid)
vid_behind_lower vid [] rest = refl
vid_behind_lower vid (f ∷ fields) rest = by (nat_lt (number_of f.id) 6) refl (vid_behind_lower vid fields rest)
  where
    lower : List Field
    lower = filter (λ g. nat_lt (number_of g.id) 6) fields

    other : (n : ℕ) → nat_lt n 6 ≡ true → (n == 6) ≡ false
    other n is = grind (arith, nat_tests)

    by : (b : Bool) → nat_lt (number_of f.id) 6 ≡ b → find (λ g. number_of g.id == 6) (lower ++ vid_field vid ∷ rest) ≡ Some (vid_field vid) → find (λ g. number_of g.id == 6) (cond b (f ∷ lower) lower ++ vid_field vid ∷ rest) ≡ Some (vid_field vid)
    by true is more = rw (other (number_of f.id) is) more
    by false is more = more

at_port_rule : (d : Dp) (number priority : ℕ) (rule : Rule) (fields : List Field) → rule_fields (AtPort number) rule.fields ≡ Some fields → owner (rule_entry_for (AtPort number) d priority rule fields).key ≡ interface number
at_port_rule d number priority rule fields is = subst (λ (fs : List Field). owner (rule_entry_for (AtPort number) d priority rule fs).key ≡ interface number) (same_Some (in_port number ∷ rule.fields) fields is) refl

at_vlan_rule : (d : Dp) (vid priority : ℕ) (rule : Rule) (fields : List Field) → rule_fields (AtVlan vid) rule.fields ≡ Some fields → owner (rule_entry_for (AtVlan vid) d priority rule fields).key ≡ vlan vid
at_vlan_rule d vid priority rule fields is = by (list_any (asks_for_another vid) rule.fields) is
  where
    by : (b : Bool) → (if b then None else Some (with_vid vid rule.fields)) ≡ Some fields → owner (rule_entry_for (AtVlan vid) d priority rule fields).key ≡ vlan vid
    by true found = absurd (none-some fields found)
    by false found = subst (λ (fs : List Field). owner (rule_entry_for (AtVlan vid) d priority rule fs).key ≡ vlan vid) (same_Some (with_vid vid rule.fields) fields found) (ap (λ (o : Option Field). (2, (option_map_or (λ (f : Field). f.value) o 0, 0))) (vid_behind_lower vid rule.fields _))

-- ---- the units

module _ (conf : Configuration) (now : State) (d : Dp) (i : Port) where
  abbrev IsOfPort : Entry → Type 0
  IsOfPort e = owner e.key ≡ interface i.no

  pub port_owned : Owned (interface i.no) (of_port conf now d i)
  port_owned =
      all_append IsOfPort (port_acl conf d i) _ (port_acl_by IsOfPort conf d i (λ priority rule fields c is. at_port_rule d i.no priority rule fields is) refl refl)
      (all_append IsOfPort (admissions conf d i) _ (admissions_by IsOfPort conf d i refl (λ v. refl) (λ v e. refl) (λ v. refl)) (misses_by IsOfPort conf d i now.hosts (λ v. refl)))

module _ (conf : Configuration) (now : State) (d : Dp) (v : Vlan) where
  abbrev IsOfVlan : Entry → Type 0
  IsOfVlan e = owner e.key ≡ vlan v.vid

  flood_owned : (flood : Flood) (from : Ingress) → IsOfVlan (flood_entry (stack_of conf now.ups) d v flood from)
  flood_owned Group Any = refl
  flood_owned Group (At ingress) = refl
  flood_owned Unicast Any = refl
  flood_owned Unicast (At ingress) = refl

  asked_owned : (vip : Net) → IsOfVlan (asked_entry v vip)
  asked_owned (V4 net) = refl
  asked_owned (V6 net) = refl

  pub vlan_owned : Owned (vlan v.vid) (of_vlan conf now d v)
  vlan_owned =
      all_append IsOfVlan (vlan_acl conf d v) _ (vlan_acl_by IsOfVlan conf d v (λ priority rule fields c is. at_vlan_rule d v.vid priority rule fields is) refl)
      (all_append IsOfVlan (vip_slice d v) _ (vips_by IsOfVlan d v asked_owned refl refl refl refl refl) (floods_by IsOfVlan d v (stack_of conf now.ups) flood_owned))

  not_zero : (n : ℕ) → (10 + n == 0) ≡ false
  not_zero n = grind (arith, nat_tests)

  item_owned : (f : Family) → IsFamily f → (item : RouteItem) → owner (item_entry f v item).key ≡ routes v.vid
  item_owned f is item = of_families (λ f. owner (item_entry f v item).key ≡ routes v.vid) (rw (not_zero item.len) refl) (rw (not_zero item.len) refl) f is

  pub routes_owned : Owned (routes v.vid) (of_routes conf now d v)
  routes_owned =
      fib_by (λ e. owner e.key ≡ routes v.vid) conf now.neighbours d v (λ f is item c own. item_owned f is item)
      (of_families (λ f. owner (no_route f v).key ≡ routes v.vid) refl refl)

module _ (conf : Configuration) (now : State) (d : Dp) (h : HostRec) where
  abbrev IsOfHost : Entry → Type 0
  IsOfHost e = owner e.key ≡ host h.vid (mac_value h.mac)

  pub host_owned : Owned (host h.vid (mac_value h.mac)) (of_host conf now d h)
  host_owned =
      all_append IsOfHost (sources conf d h now.moment) _ (sources_by IsOfHost conf d h now.moment refl refl)
      (destinations_by IsOfHost d h (stack_of conf now.ups) (λ q e. (refl, refl)) (λ hop e. refl))

pub fixed_owned : (conf : Configuration) (d : Dp) → Owned datapath (fixed conf d)
fixed_owned conf d =
    all_append (λ e. owner e.key ≡ datapath) (drops conf d) _ (drops_by (λ e. owner e.key ≡ datapath) conf d refl refl refl refl (λ mac c. refl))
    (refl, (refl, (refl, (refl, (refl, tt)))))
