-- The hosts of a group, by the datapaths of the group.
use Rattle.std.proofs.Common.{◌≡◌, ℕ, zero, suc, ◌+◌, Bool, true, false, cond, ◌==◌, ◌&&◌, ◌||◌, Some, List, [], ◌∷◌, ◌++◌, map, filter, length, refl, sym, ap, ◌∙◌, subst, arith, eqb-true, eq-eqb, true≢false, length-append}
use Rattle.std.specs.Prelude.{Contains}
use Rattle.std.specs.List.{AllByRecursion, find, list_any}
use Rattle.std.proofs.lemmas.List.{length-map}
use Rattle.net_base.specs.declared.numbers.DpId.{DpId}
use Rattle.conf_types.specs.declared.datapath.Dp.{Dp}
use Rattle.conf_types.specs.declared.datapath.Port.{Port}
use Rattle.conf_types.specs.declared.state.HostRec.{HostRec}
use Rattle.conf_types.specs.declared.vlan.Vlan.{Vlan}
use Rattle.conf_types.specs.Configuration.{Configuration, dp_with}
use Rattle.conf_types.specs.Groups.{IsDp, group_of}
use Rattle.conf_types.specs.State.{State, IsValidState, IsHost}
use Rattle.plan_base.proofs.Each.{all_from, all_by}
use Rattle.plan_units.specs.declared.unit.Unit.TheVariants as unit
use Rattle.plan_units.specs.Facts.{found, some_passes}
use Rattle.plan_units.specs.Units.{is_of_group, hosts_of}
use Rattle.law_runs.specs.Members.{of_all, in_mapped, in_filtered, all_mapped, all_filtered}
use Rattle.cold_start.specs.Cold.{units_of}

-- ---- tests of lists

or_true : (b : Bool) → (b || true) ≡ true
or_true true = refl
or_true false = refl

any_in : {A : Type 0} (test : A → Bool) (xs : List A) (x : A) → Contains xs x → test x ≡ true → list_any test xs ≡ true
any_in test [] x (k, lt, is) passes = absurd (omega (arith, lt))
any_in test (y ∷ ys) x (zero, lt, is) passes = ap (λ b. b || list_any test ys) (ap test is ∙ passes)
any_in test (y ∷ ys) x (suc k, lt, is) passes = ap (λ b. test y || b) (any_in test ys x (k, omega (arith, lt), is) passes) ∙ or_true (test y)

none_in : {A : Type 0} (test : A → Bool) (xs : List A) → AllByRecursion (λ x. test x ≡ false) xs → list_any test xs ≡ false
none_in test [] all = refl
none_in test (x ∷ xs) all = ap (λ b. b || list_any test xs) all.0 ∙ none_in test xs all.1

same_kept : {A : Type 0} (p q : A → Bool) (xs : List A) → AllByRecursion (λ x. p x ≡ q x) xs → filter p xs ≡ filter q xs
same_kept p q [] all = refl
same_kept p q (x ∷ xs) all = ap (λ b. cond b (x ∷ filter p xs) (filter p xs)) all.0 ∙ ap (λ l. cond (q x) (x ∷ l) l) (same_kept p q xs all.1)

-- what is found among those that are kept
pub find_kept : {A : Type 0} (p q : A → Bool) (xs : List A) → find (λ x. p x && q x) xs ≡ find q (filter p xs)
find_kept p q [] = refl
find_kept {A = A} p q (x ∷ xs) = by (p x) (find_kept p q xs)
  where
    by : (b : Bool) → find (λ y. p y && q y) xs ≡ find q (filter p xs) → cond (b && q x) (Some x) (find (λ y. p y && q y) xs) ≡ find q (cond b (x ∷ filter p xs) (filter p xs))
    by true more = ap (λ o. cond (q x) (Some x) o) more
    by false more = more

-- ---- a datapath is of the group exactly where it is one of the group's

module _ (conf : Configuration) (group : DpId) where
  abbrev pub ids_in : List DpId
  ids_in = map (λ d. d.id) (filter (λ d. (group_of conf d.id).0 == group.0) conf.dps)

  one_of : (id : DpId) → IsDp conf id → list_any (λ other. other.0 == id.0) ids_in ≡ ((group_of conf id).0 == group.0)
  one_of id dp = by ((group_of conf id).0 == group.0) refl
    where
      its : Dp → Bool
      its d = (group_of conf d.id).0 == group.0

      same : (other : DpId) → other.0 ≡ id.0 → other ≡ id
      same other is = λ i. record { 0 = is i }

      differs : (other : DpId) → ((group_of conf other).0 == group.0) ≡ true → ((group_of conf id).0 == group.0) ≡ false → (b : Bool) → (other.0 == id.0) ≡ b → b ≡ false
      differs other within out false is = refl
      differs other within out true is = absurd (true≢false (sym within ∙ ap (λ (o : DpId). (group_of conf o).0 == group.0) (same other (eqb-true other.0 id.0 is)) ∙ out))

      by : (b : Bool) → ((group_of conf id).0 == group.0) ≡ b → list_any (λ other. other.0 == id.0) ids_in ≡ b
      by true is =
          any_in (λ (other : DpId). other.0 == id.0) ids_in dp.dp.id
          (in_mapped (λ (d : Dp). d.id) (filter its conf.dps) dp.dp (in_filtered its conf.dps dp.dp dp.here (ap (λ (o : DpId). (group_of conf o).0 == group.0) dp.id_is ∙ is)))
          (eq-eqb dp.dp.id.0 id.0 (ap (λ (o : DpId). o.0) dp.id_is))
      by false is =
          none_in (λ (other : DpId). other.0 == id.0) ids_in
          (all_mapped (λ (other : DpId). (other.0 == id.0) ≡ false) (λ (d : Dp). d.id) (filter its conf.dps)
          (all_filtered (λ (d : Dp). (d.id.0 == id.0) ≡ false) its conf.dps (all_by (λ (d : Dp). its d ≡ true → (d.id.0 == id.0) ≡ false) conf.dps (λ d c within. differs d.id within is (d.id.0 == id.0) refl))))

pub hosts_are : (conf : Configuration) (now : State) (d : Dp) → IsValidState conf now
    → filter (λ h. list_any (λ id. id.0 == h.dp.0) (ids_in conf (group_of conf d.id))) now.hosts ≡ hosts_of conf now d
hosts_are conf now d valid =
    same_kept (λ (h : HostRec). list_any (λ id. id.0 == h.dp.0) (ids_in conf (group_of conf d.id))) (is_of_group conf d) now.hosts
    (all_from {P = IsHost conf now} {Q = λ (h : HostRec). list_any (λ id. id.0 == h.dp.0) (ids_in conf (group_of conf d.id)) ≡ is_of_group conf d h} (λ h is. one_of conf (group_of conf d.id) h.dp (stands h is)) now.hosts valid.hosts)
  where
    stands : (h : HostRec) → IsHost conf now h → IsDp conf h.dp
    stands h is =
        let r = some_passes (λ (r : DpId). r.0 == h.dp.0) now.running is.runs in
        let same : r.0.0 ≡ h.dp.0 = eqb-true r.0.0 h.dp.0 (r.1).passes in
        let whole : r.0 ≡ h.dp = λ i. record { 0 = same i } in
        subst (IsDp conf) whole (of_all (IsDp conf) now.running valid.running r.0 (r.1).within)

-- a datapath that is found has the identifier
pub own_id : (dps : List Dp) (id : DpId) (d : Dp) → dp_with dps id ≡ Some d → dp_with dps d.id ≡ Some d
own_id dps id d is = ap (λ (n : ℕ). find (λ (e : Dp). e.id.0 == n) dps) (eqb-true d.id.0 id.0 (found (λ (e : Dp). e.id.0 == id.0) dps d is).passes) ∙ is

-- ---- how many units there are

pub units_count : (conf : Configuration) (now : State) (d : Dp) → length (units_of conf now d) ≡ 1 + (length d.ports + (length conf.vlans + (length (hosts_of conf now d) + length conf.vlans)))
unfolding units_of
units_count conf now d =
    let ps = map (λ (i : Port). unit.Port i.no) d.ports in
    let vs = map (λ (v : Vlan). unit.Vlan v.vid) conf.vlans in
    let hs = map (λ (h : HostRec). unit.Host h.vid h.mac) (hosts_of conf now d) in
    let rs = map (λ (v : Vlan). unit.Route v.vid) conf.vlans in
    let p : length ps ≡ length d.ports = length-map d.ports (λ (i : Port). unit.Port i.no) in
    let v : length vs ≡ length conf.vlans = length-map conf.vlans (λ (v : Vlan). unit.Vlan v.vid) in
    let h : length hs ≡ length (hosts_of conf now d) = length-map (hosts_of conf now d) (λ (h : HostRec). unit.Host h.vid h.mac) in
    let r : length rs ≡ length conf.vlans = length-map conf.vlans (λ (v : Vlan). unit.Route v.vid) in
    let all = length-append ps (vs ++ (hs ++ rs)) in
    let more = length-append vs (hs ++ rs) in
    let last = length-append hs rs in
    omega (arith, p, v, h, r, all, more, last)
