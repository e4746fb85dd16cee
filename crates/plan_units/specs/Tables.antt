-- Which entries of a plan stand in which table.
use Rattle.std.specs.Prelude.{◌≡◌, ℕ, List, [], ◌∷◌}
use Rattle.std.specs.List.{AllByRecursion}
use Rattle.std.proofs.Common.{refl, sym, ◌∙◌}
use Rattle.law_runs.specs.Members.{all_joined}
use Rattle.of_match.specs.declared.entry.Entry.{Entry}
use Rattle.conf_types.specs.declared.datapath.Dp.{Dp}
use Rattle.conf_types.specs.declared.datapath.Port.{Port}
use Rattle.conf_types.specs.declared.family.Family.{Family}
use Rattle.conf_types.specs.declared.state.HostRec.{HostRec}
use Rattle.conf_types.specs.declared.vlan.Vlan.{Vlan}
use Rattle.conf_types.specs.Configuration.{Configuration}
use Rattle.conf_types.specs.Families.{ipv4, ipv6}
use Rattle.conf_types.specs.State.{State}
use Rattle.stack_paths.specs.Stack.{Stack}
use Rattle.acl_compile.specs.Slices.{port_acl, vlan_acl}
use Rattle.vlan_compile.specs.Admissions.{admissions}
use Rattle.vlan_compile.specs.Misses.{misses}
use Rattle.vlan_compile.specs.Sources.{sources}
use Rattle.vlan_compile.specs.Destinations.{destinations}
use Rattle.vlan_compile.specs.Floods.{floods}
use Rattle.route_compile.specs.Routes.{fib, fib_of, route_table}
use Rattle.route_compile.specs.Vips.{vip_slice}
use Rattle.plan_units.specs.Fixed.{drops}
use Rattle.plan_units.specs.Parts.{port_acl_by, vlan_acl_by, admissions_by, drops_by, misses_by, sources_by, family_by, vips_by, destinations_by, floods_by, OfParts, of_plan}
use Rattle.plan_base.specs.Entries.{table_number}
use Rattle.plan_units.specs.Units.{plan}

-- all of them stand in the table
abbrev pub StandIn : ℕ → List Entry → Type 0
StandIn t es = AllByRecursion (λ e. e.key.table ≡ t) es

-- ---- the parts

abbrev IsIn : ℕ → Entry → Type 0
IsIn t e = e.key.table ≡ t

pub port_acl_in : (conf : Configuration) (d : Dp) (i : Port) → StandIn 0 (port_acl conf d i)
port_acl_in conf d i = port_acl_by (IsIn 0) conf d i (λ priority rule fields c is. refl) refl refl

pub vlan_acl_in : (conf : Configuration) (d : Dp) (v : Vlan) → StandIn 2 (vlan_acl conf d v)
vlan_acl_in conf d v = vlan_acl_by (IsIn 2) conf d v (λ priority rule fields c is. refl) refl

pub admissions_in : (conf : Configuration) (d : Dp) (i : Port) → StandIn 1 (admissions conf d i)
admissions_in conf d i = admissions_by (IsIn 1) conf d i refl (λ v. refl) (λ v e. refl) (λ v. refl)

pub misses_in : (conf : Configuration) (d : Dp) (i : Port) (hosts : List HostRec) → StandIn 3 (misses conf d i hosts)
misses_in conf d i hosts = misses_by (IsIn 3) conf d i hosts (λ v. refl)

pub sources_in : (conf : Configuration) (d : Dp) (h : HostRec) (moment : ℕ) → StandIn 3 (sources conf d h moment)
sources_in conf d h moment = sources_by (IsIn 3) conf d h moment refl refl

pub destinations_in : (d : Dp) (h : HostRec) (stack : Stack) → StandIn 7 (destinations d h stack)
destinations_in d h stack = destinations_by (IsIn 7) d h stack (λ q e. (refl, refl)) (λ hop e. refl)

pub floods_in : (d : Dp) (v : Vlan) (stack : Stack) → StandIn 8 (floods d v stack)
floods_in d v stack = floods_by (IsIn 8) d v stack (λ flood from. refl)

-- the routes of a family
pub fib_in : (f : Family) (conf : Configuration) (now : State) (d : Dp) (v : Vlan) → StandIn (table_number (route_table f)) (fib_of f conf now.neighbours d v)
fib_in f conf now d v = family_by (IsIn (table_number (route_table f))) f conf now.neighbours d v (λ item c is. refl) refl

pub vips_in : (d : Dp) (v : Vlan) → StandIn 6 (vip_slice d v)
vips_in d v = vips_by (IsIn 6) d v (λ vip. refl) refl refl refl refl refl

pub drops_in : (conf : Configuration) (d : Dp) → StandIn 1 (drops conf d)
drops_in conf d = drops_by (IsIn 1) conf d refl refl refl refl (λ mac c. refl)

-- ---- the families of a plan: what holds of each of their entries that stands in table t

abbrev pub AtTable : ℕ → (Entry → Type 0) → List Entry → Type 0
AtTable t Q es = AllByRecursion (λ e. e.key.table ≡ t → Q e) es

-- entries of another table say nothing
pub elsewhere_in : (t s : ℕ) (Q : Entry → Type 0) (es : List Entry) → (s ≡ t → ⊥) → StandIn s es → AtTable t Q es
elsewhere_in t s Q [] apart all = tt
elsewhere_in t s Q (e ∷ es) apart all = ((λ is. absurd (apart (sym all.0 ∙ is))), elsewhere_in t s Q es apart all.1)

-- and those of this table do
pub here_in : (t : ℕ) (Q : Entry → Type 0) (es : List Entry) → AllByRecursion Q es → AtTable t Q es
here_in t Q [] all = tt
here_in t Q (e ∷ es) all = ((λ is. all.0), here_in t Q es all.1)

-- routes stand in tables 4 and 5 alone
pub routes_elsewhere : (conf : Configuration) (now : State) (d : Dp) (v : Vlan) (t : ℕ) (Q : Entry → Type 0) → (4 ≡ t → ⊥) → (5 ≡ t → ⊥) → AtTable t Q (fib conf now.neighbours d v)
routes_elsewhere conf now d v t Q not_4 not_5 =
    all_joined (λ e. e.key.table ≡ t → Q e) (fib_of ipv4 conf now.neighbours d v) (fib_of ipv6 conf now.neighbours d v)
    (elsewhere_in t 4 Q _ not_4 (fib_in ipv4 conf now d v)) (elsewhere_in t 5 Q _ not_5 (fib_in ipv6 conf now d v))

module _ (conf : Configuration) (now : State) (d : Dp) where
  abbrev pub ByFamily : ℕ → (Entry → Type 0) → Type 0
  ByFamily t Q = OfParts conf now d (λ e. e.key.table ≡ t → Q e)

  -- what holds of each family holds of the plan
  pub by_family : (t : ℕ) (Q : Entry → Type 0) → ByFamily t Q → AtTable t Q (plan conf now d)
  by_family t Q f = of_plan conf now d (λ e. e.key.table ≡ t → Q e) f
