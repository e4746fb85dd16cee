-- What adding VLANs one at a time leaves.
use Rattle.std.proofs.Common.{◌≡◌, ℕ, suc, ◌+◌, ◌<◌, ◌==◌, length, get_or, drop, true, false, ◌||◌, cond, Some, None, List, [], ◌∷◌, ◌++◌, map, append_assoc, refl, ap, sym, ◌∙◌, subst, arith}
use Rattle.std.proofs.Math.Bool.{or_comm, or-false}
use Rattle.std.proofs.Math.Seq.{drop-cons}
use Rattle.std.specs.List.{flat_map, enumerate_from}
use Rattle.std.proofs.lemmas.Grind.{common_steps}
use Rattle.std.proofs.lemmas.List.Folds.{list_any-append}
use Rattle.net_base.specs.Numbers.{IsVid}
use Rattle.conf_types.specs.Lists.{is_among}
use Rattle.conf_shape.specs.declared.raw.RawVlan.{RawVlan}
use Rattle.conf_shape.specs.declared.raw.VlanRef.{VlanRef}
use Rattle.conf_shape.specs.declared.raw.VlanRef.TheVariants.{Vid, Name}
use Rattle.conf_resolve.specs.declared.ordered.PlacedVlan.{PlacedVlan}
use Rattle.conf_resolve.specs.InOrder.{further, made_vlan, by_number, written}
use Rattle.conf_resolve.specs.InRange.{NamesVlan}
use Rattle.conf_resolve.proofs.Unwritten.{made_vid}
use Rattle.conf_resolve.specs.Added.{has_vid, new_number, with_one, with_each}

-- ---- one list behind the other

pub with_each_append : (vlans xs ys : List PlacedVlan) → with_each vlans (xs ++ ys) ≡ with_each (with_each vlans xs) ys
with_each_append vlans [] ys = refl
with_each_append vlans (x ∷ xs) ys = with_each_append (with_one vlans x) xs ys

-- a loop's step: what the next names is added
pub next_added : {A : Type 0} (f : A → List PlacedVlan) (start vlans new : List PlacedVlan) (xs : List A) (i : ℕ) (x : A) → i < length xs → x ≡ get_or xs i x → with_each vlans (flat_map f (drop i xs)) ≡ start → new ≡ with_each vlans (f x) → with_each new (flat_map f (drop (i + 1) xs)) ≡ start
next_added f start vlans new xs i x lt is so_far added =
    let after : i + 1 ≡ suc i = omega arith in
    ap (λ (n : ℕ). with_each new (flat_map f (drop n xs))) after
    ∙ ap (λ (v : List PlacedVlan). with_each v (flat_map f (drop (suc i) xs))) added
    ∙ sym (with_each_append vlans (f x) (flat_map f (drop (suc i) xs)))
    ∙ ap (λ y. with_each vlans (f y ++ flat_map f (drop (suc i) xs))) is
    ∙ ap (λ ys. with_each vlans (flat_map f ys)) (sym (drop-cons xs i x lt))
    ∙ so_far

-- the same where the places count
pub next_numbered : {A : Type 0} (f : ℕ × A → List PlacedVlan) (start vlans new : List PlacedVlan) (xs : List A) (i : ℕ) (x : A) → i < length xs → x ≡ get_or xs i x → with_each vlans (flat_map f (enumerate_from i (drop i xs))) ≡ start → new ≡ with_each vlans (f (i, x)) → with_each new (flat_map f (enumerate_from (i + 1) (drop (i + 1) xs))) ≡ start
next_numbered f start vlans new xs i x lt is so_far added =
    let after : i + 1 ≡ suc i = omega arith in
    ap (λ (n : ℕ). with_each new (flat_map f (enumerate_from (i + 1) (drop n xs)))) after
    ∙ ap (λ (v : List PlacedVlan). with_each v (flat_map f (enumerate_from (i + 1) (drop (suc i) xs)))) added
    ∙ sym (with_each_append vlans (f (i, x)) (flat_map f (enumerate_from (i + 1) (drop (suc i) xs))))
    ∙ ap (λ y. with_each vlans (f (i, y) ++ flat_map f (enumerate_from (i + 1) (drop (suc i) xs)))) is
    ∙ ap (λ ys. with_each vlans (flat_map f (enumerate_from i ys))) (sym (drop-cons xs i x lt))
    ∙ so_far

-- ---- adding is appending those whose number is new

has_last : (vlans : List PlacedVlan) (v : PlacedVlan) (n : ℕ) → has_vid (vlans ++ v ∷ []) n ≡ (has_vid vlans n || (v.vlan.vid == n))
has_last vlans v n = list_any-append (λ w. w.vlan.vid == n) vlans (v ∷ []) ∙ ap (λ b. has_vid vlans n || b) (or-false (v.vlan.vid == n))

has_among : (vlans : List PlacedVlan) (n : ℕ) → is_among (map (λ v. v.vlan.vid) vlans) n ≡ has_vid vlans n
has_among [] n = refl
has_among (v ∷ vlans) n = ap (λ b. (v.vlan.vid == n) || b) (has_among vlans n)

with_each_from : (vids : List ℕ) (vlans xs : List PlacedVlan) → ((n : ℕ) → is_among vids n ≡ has_vid vlans n) → with_each vlans xs ≡ vlans ++ further vids xs
with_each_from vids vlans [] same = grind (arith, common_steps)
with_each_from vids vlans (v ∷ xs) same =
    ap (λ b. with_each (cond b vlans (vlans ++ v ∷ [])) xs) (sym (same v.vlan.vid))
    ∙ elim (is_among vids v.vlan.vid) as (λ b. with_each (cond b vlans (vlans ++ v ∷ [])) xs ≡ vlans ++ cond b (further vids xs) (v ∷ further (v.vlan.vid ∷ vids) xs)) [
      | true ↦ with_each_from vids vlans xs same
      | false ↦
          with_each_from (v.vlan.vid ∷ vids) (vlans ++ v ∷ []) xs (λ n. ap (λ b. (v.vlan.vid == n) || b) (same n) ∙ or_comm (v.vlan.vid == n) (has_vid vlans n) ∙ sym (has_last vlans v n))
          ∙ append_assoc vlans (v ∷ []) (further (v.vlan.vid ∷ vids) xs)
    ]

pub with_each_is : (vlans xs : List PlacedVlan) → with_each vlans xs ≡ vlans ++ further (map (λ v. v.vlan.vid) vlans) xs
with_each_is vlans xs = with_each_from (map (λ v. v.vlan.vid) vlans) vlans xs (has_among vlans)

-- ---- one that a number names

pub none_added : (vlans : List PlacedVlan) (site : List (List ℕ)) (name : VlanRef) → NamesVlan name → new_number vlans name ≡ None → with_each vlans (by_number site name) ≡ vlans
none_added vlans site (Name name) range is = refl
none_added vlans site (Vid vid) range is =
    ap (λ (n : ℕ). cond (has_vid vlans n) vlans (vlans ++ record { site = site; vlan = made_vlan vid } ∷ [])) (made_vid vid range)
    ∙ elim (has_vid vlans vid) as (λ b. cond b None (Some vid) ≡ None → cond b vlans (vlans ++ record { site = site; vlan = made_vlan vid } ∷ []) ≡ vlans) [
      | true ↦ λ e. refl
      | false ↦ λ e. absurd (cc)
    ] is

pub one_added : (vlans : List PlacedVlan) (site : List (List ℕ)) (name : VlanRef) (vid : ℕ) → IsVid vid → new_number vlans name ≡ Some vid → with_each vlans (by_number site name) ≡ vlans ++ record { site = site; vlan = made_vlan vid } ∷ []
one_added vlans site (Name name) vid range is = absurd (cc)
one_added vlans site (Vid n) vid range is =
    elim (has_vid vlans n) as (λ b. has_vid vlans n ≡ b → cond b None (Some n) ≡ Some vid → with_each vlans (by_number site (Vid n)) ≡ vlans ++ record { site = site; vlan = made_vlan vid } ∷ []) [
      | true ↦ λ h e. absurd (cc)
      | false ↦ λ h e.
          let same : n ≡ vid = cc in
          let vid_is : (made_vlan n).vid ≡ n = made_vid n (subst IsVid (sym same) range) in
          ap (λ (k : ℕ). cond (has_vid vlans k) vlans (vlans ++ record { site = site; vlan = made_vlan n } ∷ [])) vid_is
          ∙ ap (λ b. cond b vlans (vlans ++ record { site = site; vlan = made_vlan n } ∷ [])) h
          ∙ ap (λ (k : ℕ). vlans ++ record { site = site; vlan = made_vlan k } ∷ []) same
    ] refl is

-- ---- all of them

pub vlans_named : (vlans start after : List PlacedVlan) (by_dps by_routers : List PlacedVlan) → start ≡ vlans → after ≡ with_each (with_each start by_dps) by_routers → after ≡ vlans ++ further (map (λ v. v.vlan.vid) vlans) (by_dps ++ by_routers)
vlans_named vlans start after by_dps by_routers first is =
    is ∙ ap (λ (v : List PlacedVlan). with_each (with_each v by_dps) by_routers) first ∙ sym (with_each_append vlans by_dps by_routers) ∙ with_each_is vlans (by_dps ++ by_routers)

pub written_vids : (vlans : List RawVlan) → map (λ v. v.vlan.vid) (map written vlans) ≡ map (λ v. v.vid) vlans
written_vids [] = refl
written_vids (v ∷ vlans) = ap (λ (vids : List ℕ). v.vid ∷ vids) (written_vids vlans)
