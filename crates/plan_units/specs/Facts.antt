-- What is found in a valid configuration and state.
use Rattle.std.specs.Prelude.{◌≡◌, ℕ, zero, suc, ◌<◌, ◌==◌, ◌||◌, Bool, true, false, cond, List, [], ◌∷◌, Option, Some, None, Contains}
use Rattle.std.specs.List.{AllByRecursion, find, list_any}
use Rattle.std.proofs.Common.{refl, sym, ap, ◌∙◌, subst, arith, true≢false, eqb-true, eq-eqb}
use Rattle.std.proofs.lemmas.Option.{same_Some, none-some}
use Rattle.net_base.specs.Numbers.{IsVid, IsPortNo}
use Rattle.conf_types.specs.declared.datapath.Dp.{Dp}
use Rattle.conf_types.specs.declared.datapath.Port.{Port}
use Rattle.conf_types.specs.declared.vlan.Vlan.{Vlan}
use Rattle.conf_types.specs.Configuration.{Configuration, dp_with, port_with, vlan_with}
use Rattle.conf_types.specs.Lists.{EachBefore}
use Rattle.conf_types.specs.Valid.{IsValid, IsDatapath, IsVlan}
use Rattle.conf_types.specs.Valid as conditions
use Rattle.law_runs.specs.Members.{head_of, tail_of, of_all}

-- ---- what is found

pub record Found {A : Type 0} (test : A → Bool) (xs : List A) (x : A) : Type 0 where
  pub within : Contains xs x
  pub passes : test x ≡ true

pub found : {A : Type 0} (test : A → Bool) (xs : List A) (x : A) → find test xs ≡ Some x → Found test xs x
found test [] x is = absurd (none-some x is)
found {A = A} test (y ∷ ys) x is = one (test y) refl (λ e. found test ys x e) is
  where
    one : (b : Bool) → test y ≡ b → (find test ys ≡ Some x → Found test ys x) → cond b (Some y) (find test ys) ≡ Some x → Found test (y ∷ ys) x
    one true here more e = let same = same_Some y x e in record { within = subst (λ z. Contains (y ∷ ys) z) same (head_of y ys); passes = subst (λ z. test z ≡ true) same here }
    one false here more e = let m = more e in record { within = tail_of y ys x m.within; passes = m.passes }

pub none_found : {A : Type 0} (test : A → Bool) (xs : List A) → find test xs ≡ None → AllByRecursion (λ x. test x ≡ false) xs
none_found test [] is = tt
none_found test (y ∷ ys) is = one (test y) refl (λ e. none_found test ys e) is
  where
    one : (b : Bool) → test y ≡ b → (find test ys ≡ None → AllByRecursion (λ x. test x ≡ false) ys) → cond b (Some y) (find test ys) ≡ None → AllByRecursion (λ x. test x ≡ false) (y ∷ ys)
    one true here more e = absurd (none-some y (sym e))
    one false here more e = (here, more e)

pub some_passes : {A : Type 0} (test : A → Bool) (xs : List A) → list_any test xs ≡ true → (x : A) × Found test xs x
some_passes test [] is = absurd (true≢false (sym is))
some_passes {A = A} test (y ∷ ys) is = one (test y) refl (λ e. some_passes test ys e) is
  where
    one : (b : Bool) → test y ≡ b → (list_any test ys ≡ true → (x : A) × Found test ys x) → (b || list_any test ys) ≡ true → (x : A) × Found test (y ∷ ys) x
    one true here more e = (y, record { within = head_of y ys; passes = here })
    one false here more e = let m = more e in (m.0, record { within = tail_of y ys m.0 (m.1).within; passes = (m.1).passes })

pub none_passes : {A : Type 0} (test : A → Bool) (xs : List A) → list_any test xs ≡ false → AllByRecursion (λ x. test x ≡ false) xs
none_passes test [] is = tt
none_passes test (y ∷ ys) is = one (test y) refl (λ e. none_passes test ys e) is
  where
    one : (b : Bool) → test y ≡ b → (list_any test ys ≡ false → AllByRecursion (λ x. test x ≡ false) ys) → (b || list_any test ys) ≡ false → AllByRecursion (λ x. test x ≡ false) (y ∷ ys)
    one true here more e = absurd (true≢false e)
    one false here more e = (here, more e)

-- ---- members that numbers tell apart

-- of two members one is first, or they are one
pub apart_or_one : {A : Type 0} (R : A → A → Type 0) (xs : List A) → EachBefore R xs → (x y : A) → Contains xs x → Contains xs y → (R x y → ⊥) → (R y x → ⊥) → x ≡ y
apart_or_one R [] h x y (k, lt, is) cy nxy nyx = absurd (omega (arith, lt))
apart_or_one R (z ∷ zs) h x y (zero, lt, is) (zero, lt', is') nxy nyx = sym is ∙ is'
apart_or_one R (z ∷ zs) h x y (zero, lt, is) (suc j, lt', is') nxy nyx = absurd (nxy (subst (λ w. R w y) is (of_all (R z) zs h.0 y (j, omega (arith, lt'), is'))))
apart_or_one R (z ∷ zs) h x y (suc k, lt, is) (zero, lt', is') nxy nyx = absurd (nyx (subst (λ w. R w x) is' (of_all (R z) zs h.0 x (k, omega (arith, lt), is))))
apart_or_one R (z ∷ zs) h x y (suc k, lt, is) (suc j, lt', is') nxy nyx = apart_or_one R zs h.1 x y (k, omega (arith, lt), is) (j, omega (arith, lt'), is') nxy nyx

-- two members with one number are one, where numbers rise
pub one_number : {A : Type 0} (key : A → ℕ) (xs : List A) → EachBefore (λ x y. key x < key y) xs → (x y : A) → Contains xs x → Contains xs y → key x ≡ key y → x ≡ y
one_number key xs h x y cx cy same = apart_or_one (λ x y. key x < key y) xs h x y cx cy (λ less. omega (arith, same, less)) (λ less. omega (arith, same, less))

-- ---- interfaces and VLANs

module _ (conf : Configuration) (valid : IsValid conf) (d : Dp) (is_dp : dp_with conf.dps d.id ≡ Some d) where
  pub datapath : IsDatapath conf d
  datapath = of_all (IsDatapath conf) conf.dps valid.datapaths.each d (found (λ e. e.id.0 == d.id.0) conf.dps d is_dp).within

  pub port_number : (i : Port) → Contains d.ports i → IsPortNo i.no
  port_number i c = (of_all (conditions.IsPort conf) d.ports datapath.ports i c).number

  pub port_in : (port : ℕ) (i : Port) → port_with d.ports port ≡ Some i → Contains d.ports i
  port_in port i is = (found (λ q. q.no == port) d.ports i is).within

  pub port_is : (port : ℕ) (i : Port) → port_with d.ports port ≡ Some i → i.no ≡ port
  port_is port i is = eqb-true i.no port (found (λ q. q.no == port) d.ports i is).passes

  pub one_port : (i j : Port) → Contains d.ports i → Contains d.ports j → i.no ≡ j.no → i ≡ j
  one_port i j ci cj same = one_number (λ (q : Port). q.no) d.ports datapath.in_order i j ci cj same

  pub vlan_number : (v : Vlan) → Contains conf.vlans v → IsVid v.vid
  vlan_number v c = (of_all IsVlan conf.vlans valid.vlans.each v c).number

  pub vlan_in : (vid : ℕ) (v : Vlan) → vlan_with conf.vlans vid ≡ Some v → Contains conf.vlans v
  vlan_in vid v is = (found (λ w. w.vid == vid) conf.vlans v is).within

  pub vlan_is : (vid : ℕ) (v : Vlan) → vlan_with conf.vlans vid ≡ Some v → v.vid ≡ vid
  vlan_is vid v is = eqb-true v.vid vid (found (λ w. w.vid == vid) conf.vlans v is).passes

  pub one_vlan : (v w : Vlan) → Contains conf.vlans v → Contains conf.vlans w → v.vid ≡ w.vid → v ≡ w
  one_vlan v w cv cw same = one_number (λ (x : Vlan). x.vid) conf.vlans valid.vlans.in_order v w cv cw same
