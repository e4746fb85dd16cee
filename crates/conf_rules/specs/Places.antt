-- Places where a rule of a configuration is broken, and the lists over which rules go.
use Rattle.std.specs.Prelude.{ℕ, Bool, if◌then◌else◌, List, [], ◌∷◌, ◌++◌, map, codes, Option, Some, None}
use Rattle.std.specs.Fmt.{decimal}
use Rattle.std.specs.List.{flat_map, zip, enumerate_from, list_any}
use Rattle.conf_types.specs.declared.datapath.Dp.{Dp}
use Rattle.conf_types.specs.declared.datapath.Port.{Port}
use Rattle.conf_types.specs.declared.vlan.Vlan.{Vlan}
use Rattle.conf_types.specs.Configuration.{Configuration}
use Rattle.conf_shape.specs.declared.raw.OneOrList.{OneOrList}
use Rattle.conf_shape.specs.declared.raw.OneOrList.TheVariants as several
use Rattle.conf_shape.specs.declared.raw.RawAclNames.{RawAclNames}
use Rattle.conf_shape.specs.declared.raw.RawNames.{RawNames}
use Rattle.conf_shape.specs.declared.raw.RawPort.{RawPort}
use Rattle.conf_shape.specs.declared.raw.RawDp.{RawDp}
use Rattle.conf_shape.specs.declared.refused.ConfCause.{ConfCause}
use Rattle.conf_shape.specs.declared.refused.ConfFault.{ConfFault}
use Rattle.conf_shape.specs.Faults.{path_of}
use Rattle.conf_resolve.specs.declared.ordered.OrderedConf.{OrderedConf}
use Rattle.conf_resolve.specs.declared.ordered.PlacedVlan.{PlacedVlan}
use Rattle.conf_resolve.specs.InOrder.{port_site}
use Rattle.conf_resolve.specs.Resolved.{to_list}

-- ---- a fault at a place: the keys and the places in lists that lead there, the outermost first

abbrev pub fault : ConfCause → List (List ℕ) → ConfFault
fault cause site = record { path = path_of site; cause = cause }

-- the fault at the place, where the test holds
abbrev pub fault_if : Bool → ConfCause → List (List ℕ) → List ConfFault
fault_if test cause site = if test then fault cause site ∷ [] else []

-- the fault at the place, where there is a cause
abbrev pub fault_if_some : Option ConfCause → List (List ℕ) → List ConfFault
fault_if_some None site = []
fault_if_some (Some cause) site = fault cause site ∷ []

abbrev pub first : {A : Type 0} → List A → Option A
first [] = None
first (x ∷ xs) = Some x

-- ---- places below

abbrev pub under : List (List ℕ) → List ℕ → List (List ℕ)
under site key = site ++ key ∷ []

abbrev pub nth : List (List ℕ) → ℕ → List (List ℕ)
nth site n = under site (decimal n)

-- where the name is written: under its key, or as the key of its map
abbrev pub name_site : List (List ℕ) → RawNames → List (List ℕ)
name_site site names = if names.has_name then under site (codes "name") else site

-- the place itself, or a place in the list there
abbrev pub nth_of : List (List ℕ) → Option ℕ → List (List ℕ)
nth_of site None = site
nth_of site (Some n) = nth site n

-- the items of a list, each with its place
abbrev pub each_at : {A : Type 0} → List (List ℕ) → List A → List (List (List ℕ) × A)
each_at site xs = flat_map (λ item. (nth site item.0, item.1) ∷ []) (enumerate_from 0 xs)

-- a value that stands alone is at the place itself
abbrev pub items_at : {A : Type 0} → List (List ℕ) → OneOrList A → List (List (List ℕ) × A)
items_at site (several.One x) = (site, x) ∷ []
items_at site (several.List xs) = each_at site xs

-- the names of ACLs, each with its place: `acl_in`, and behind it `acls_in`
abbrev pub one_at : List (List ℕ) → RawAclNames → List (List (List ℕ) × List ℕ)
one_at site acls = map (λ name. (under site (codes "acl_in"), name)) (to_list acls.one)

abbrev pub list_at : List (List ℕ) → RawAclNames → List (List (List ℕ) × List ℕ)
list_at site acls = flat_map (each_at (under site (codes "acls_in"))) (to_list acls.list)

-- ---- what rules go over: each part as it is written, with what it stands for

abbrev pub dps_of : OrderedConf → Configuration → List (RawDp × Dp)
dps_of o conf = zip o.dps conf.dps

abbrev pub vlans_of : OrderedConf → Configuration → List (PlacedVlan × Vlan)
vlans_of o conf = zip o.vlans conf.vlans

-- an interface, with its datapath
pub record Interface : Type 0 where
  pub raw_dp : RawDp
  pub dp : Dp
  pub raw : RawPort
  pub port : Port

abbrev pub interfaces_of : RawDp × Dp → List Interface
interfaces_of d = flat_map (λ p. record { raw_dp = d.0; dp = d.1; raw = p.0; port = p.1 } ∷ []) (zip d.0.ports d.1.ports)

abbrev pub interfaces : OrderedConf → Configuration → List Interface
interfaces o conf = flat_map interfaces_of (dps_of o conf)

abbrev pub site_of : Interface → List (List ℕ)
site_of i = port_site i.raw_dp i.raw

-- ---- repeats

-- each with those before it
abbrev pub with_earlier : {A : Type 0} → List A → List A → List (List A × A)
with_earlier earlier [] = []
with_earlier earlier (x ∷ xs) = (earlier, x) ∷ with_earlier (earlier ++ x ∷ []) xs

-- some earlier one agrees
abbrev pub is_repeat : {A : Type 0} → (A → A → Bool) → List A × A → Bool
is_repeat agrees item = list_any (λ x. agrees x item.1) item.0
