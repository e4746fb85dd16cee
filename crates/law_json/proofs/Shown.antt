-- What a valid configuration knows of its parts, as far as their texts need it.
use Rattle.std.proofs.Common.{◌≡◌, inl, inr, ◌==◌, ℕ, Bool, true, false, cond, List, [], ◌∷◌, Option, Some, None, is_some, refl, sym, ◌∙◌, subst, arith, eqb-true}
use Rattle.std.specs.Prelude.{IsTrue, IsSomeAnd, IfSome, find, option_and_then}
use Rattle.std.specs.Option.{option_map_or}
use Rattle.std.specs.List.{AllByRecursion}
use Rattle.std.proofs.lemmas.Bool.{true≢false}
use Rattle.std.proofs.lemmas.Option.{none-some, same_Some}
use Rattle.conf_types.specs.declared.datapath.Dp.{Dp}
use Rattle.conf_types.specs.declared.datapath.Port.{Port}
use Rattle.conf_types.specs.declared.datapath.StackEnd.{StackEnd}
use Rattle.conf_types.specs.declared.vlan.Vlan.{Vlan}
use Rattle.conf_types.specs.Configuration.{Configuration, dp_with, port_with, port_at, vlan_with}
use Rattle.conf_types.specs.Valid.{IsValid, IsVlan, IsDatapath, IsPort, IsMirror, IsStackPort, vlans_named}
use Rattle.law_json.proofs.Members.{IsIn, in_all}
use Rattle.law_json.proofs.Parts.{IsSmall}

-- ---- what is looked up

found_by : {A : Type 0} (b : Bool) (test : A → Bool) (y x : A) (ys : List A) → test y ≡ b → (find test ys ≡ Some x → IsIn x ys × (test x ≡ true))
    → cond b (Some y) (find test ys) ≡ Some x → IsIn x (y ∷ ys) × (test x ≡ true)
found_by true test y x ys is rest e = (inl (sym (same_Some y x e)), subst (λ w. test w ≡ true) (same_Some y x e) is)
found_by false test y x ys is rest e = let found = rest e in (inr found.0, found.1)

pub looked_up : {A : Type 0} (test : A → Bool) (xs : List A) (x : A) → find test xs ≡ Some x → IsIn x xs × (test x ≡ true)
looked_up test [] x e = absurd (none-some x e)
looked_up test (y ∷ ys) x e = found_by (test y) test y x ys refl (looked_up test ys x) e

pub some_of : {A : Type 0} (o : Option A) → IsTrue (is_some o) → (x : A) × (o ≡ Some x)
some_of None h = absurd (true≢false (sym h))
some_of (Some x) h = (x, refl)

some_and : {A : Type 0} (P : A → Type 0) (o : Option A) → IsSomeAnd o P → (x : A) × (o ≡ Some x) × P x
some_and P None h = absurd h
some_and P (Some x) h = (x, refl, h)

both_some : {A B : Type 0} (f : A → Option B) (o : Option A) (y : B) → option_and_then f o ≡ Some y → (x : A) × (o ≡ Some x) × (f x ≡ Some y)
both_some f None y e = absurd (none-some y e)
both_some f (Some x) y e = (x, refl, e)

pub if_some : {A : Type 0} (P : A → Type 0) (o : Option A) (x : A) → IfSome o P → o ≡ Some x → P x
if_some P None x h e = absurd (none-some x e)
if_some P (Some y) x h e = subst P (same_Some y x e) h

-- ---- numbers

pub vid_small : (conf : Configuration) → IsValid conf → (vid : ℕ) → IsTrue (is_some (vlan_with conf.vlans vid)) → IsSmall vid
vid_small conf valid vid there =
    let vlan = some_of (vlan_with conf.vlans vid) there in
    let found = looked_up (λ (v : Vlan). v.vid == vid) conf.vlans vlan.0 vlan.1 in
    let is = in_all IsVlan conf.vlans valid.vlans.each vlan.0 found.0 in
    let same : vlan.0.vid ≡ vid = eqb-true vlan.0.vid vid found.1 in
    omega (arith, is.number.most, same)

port_no_small : (conf : Configuration) (ports : List Port) → AllByRecursion (IsPort conf) ports → (number : ℕ) (p : Port) → port_with ports number ≡ Some p → IsSmall number
port_no_small conf ports all number p e =
    let found = looked_up (λ (q : Port). q.no == number) ports p e in
    let is = in_all (IsPort conf) ports all p found.0 in
    let same : p.no ≡ number = eqb-true p.no number found.1 in
    omega (arith, is.number.most, same)

pub each_small : (P : ℕ → Type 0) → ((n : ℕ) → P n → IsSmall n) → (ns : List ℕ) → AllByRecursion P ns → AllByRecursion IsSmall ns
each_small P step [] all = tt
each_small P step (n ∷ ns) all = (step n all.0, each_small P step ns all.1)

-- ---- interfaces

pub record PortIsShown (conf : Configuration) (p : Port) : Type 0 where
  pub no : IsSmall p.no
  pub max_hosts : IsSmall p.max_hosts
  pub native : (vid : ℕ) → p.native ≡ Some vid → IsSmall vid
  pub tagged : AllByRecursion IsSmall p.tagged
  pub mirror : AllByRecursion IsSmall p.mirror
  pub far_port : (far : StackEnd) → p.stack ≡ Some far → IsSmall far.port
  pub far_dp : (far : StackEnd) → p.stack ≡ Some far → (d : Dp) × (dp_with conf.dps far.dp ≡ Some d)

-- the VLANs that an interface names are small
named_small : (conf : Configuration) → IsValid conf → (p : Port) → IsPort conf p → AllByRecursion IsSmall (vlans_named p)
named_small conf valid p is = each_small (λ vid. IsTrue (is_some (vlan_with conf.vlans vid))) (vid_small conf valid) (vlans_named p) is.vlans

native_small : (native : Option ℕ) (tagged : List ℕ) → AllByRecursion IsSmall (option_map_or (λ vid. vid ∷ tagged) native tagged) → (vid : ℕ) → native ≡ Some vid → IsSmall vid
native_small None tagged all vid e = absurd (none-some vid e)
native_small (Some n) tagged all vid e = subst IsSmall (same_Some n vid e) all.0

tagged_small : (native : Option ℕ) (tagged : List ℕ) → AllByRecursion IsSmall (option_map_or (λ vid. vid ∷ tagged) native tagged) → AllByRecursion IsSmall tagged
tagged_small None tagged all = all
tagged_small (Some n) tagged all = all.1

mirror_small : (conf : Configuration) (d : Dp) (p : Port) → AllByRecursion (IsPort conf) d.ports → (mirror : List ℕ) → p.mirror ≡ mirror → ((p.mirror ≡ [] → ⊥) → IsMirror d p) → AllByRecursion IsSmall mirror
mirror_small conf d p ports [] e is = tt
mirror_small conf d p ports (n ∷ ns) e is =
    let mirrors = is (λ none. let no : n ∷ ns ≡ [] = sym e ∙ none in grind arith) in
    subst (AllByRecursion IsSmall) e
    (each_small _ (λ number h. let found = some_and _ (port_with d.ports number) h in port_no_small conf d.ports ports number found.0 found.1) p.mirror mirrors.mirrored)

far_found : (conf : Configuration) (d : Dp) (p : Port) (far : StackEnd) → IsStackPort conf d p far → (e : Dp) × (q : Port) × (dp_with conf.dps far.dp ≡ Some e) × (port_with e.ports far.port ≡ Some q)
far_found conf d p far is =
    let port = some_and _ (port_at conf far.dp far.port) is.far_end in
    let both = both_some (λ (e : Dp). port_with e.ports far.port) (dp_with conf.dps far.dp) port.0 port.1 in
    (both.0, port.0, both.1, both.2)

pub port_shown : (conf : Configuration) → IsValid conf → (d : Dp) → IsIn d conf.dps → (p : Port) → IsIn p d.ports → PortIsShown conf p
port_shown conf valid d in_dps p in_ports =
    let datapath = in_all (IsDatapath conf) conf.dps valid.datapaths.each d in_dps in
    let is = in_all (IsPort conf) d.ports datapath.ports p in_ports in
    let mirrors = in_all _ d.ports (in_all _ conf.dps valid.mirrors.each d in_dps) p in_ports in
    let stacks = in_all _ d.ports (in_all _ conf.dps valid.stacks.each d in_dps) p in_ports in
    record {
      no = omega (arith, is.number.most);
      max_hosts = omega (arith, is.most_hosts);
      native = native_small p.native p.tagged (named_small conf valid p is);
      tagged = tagged_small p.native p.tagged (named_small conf valid p is);
      mirror = mirror_small conf d p datapath.ports p.mirror refl mirrors;
      far_port = λ far e.
          let found = far_found conf d p far (if_some (IsStackPort conf d p) p.stack far stacks e) in
          let owner = looked_up (λ (o : Dp). o.id.0 == far.dp.0) conf.dps found.0 found.2 in
          port_no_small conf found.0.ports (in_all (IsDatapath conf) conf.dps valid.datapaths.each found.0 owner.0).ports far.port found.1 found.3;
      far_dp = λ far e. let found = far_found conf d p far (if_some (IsStackPort conf d p) p.stack far stacks e) in (found.0, found.2);
    }
