-- Hosts are counted by VLAN, and what is found of them once serves for each VLAN of a port.
use Rattle.std.proofs.Common.{◌≡◌, ℕ, nat_lt, ◌+◌, ◌^◌, ◌<◌, ◌≤◌, ◌==◌, ◌&&◌, ◌||◌, Bool, true, false, cond, Some, List, [], ◌∷◌, map, filter, length, take, set, get_or, refl, ap, sym, ◌∙◌, arith}
use Rattle.std.specs.List.{list_any, count_by, find}
use Rattle.std.proofs.lemmas.Bool.{eqb-true, eqb-false}
use Rattle.std.proofs.lemmas.Bool.Decides.{nat_tests}
use Rattle.std.proofs.lemmas.List.{get_or-set_same, get_or-set_other, length-take-le}
use Rattle.std.proofs.lemmas.List.Sums.{length-filter, count_by_more_yes, count_by_more_no, count_by-le-length}
use Rattle.net_base.specs.declared.numbers.DpId.{DpId}
use Rattle.conf_types.specs.declared.datapath.Dp.{Dp}
use Rattle.conf_types.specs.declared.datapath.Port.{Port}
use Rattle.conf_types.specs.declared.state.HostRec.{HostRec}
use Rattle.conf_types.specs.declared.vlan.Vlan.{Vlan}
use Rattle.conf_types.specs.Configuration.{Configuration}
use Rattle.conf_types.specs.State.{is_host_at, is_host_in}
use Rattle.vlan_compile.specs.declared.learned.Asked.{Asked}
use Rattle.vlan_compile.specs.declared.learned.Learned.{Learned}
use Rattle.vlan_compile.specs.Counts.{is_of_group, AreAnswered, AreCounts, AreLearned, miss_by}
use Rattle.vlan_compile.specs.Misses.{miss, has_host}
use Rattle.vlan_compile.proofs.Mapped.{map_same}

-- ---- counting

pub answered : (conf : Configuration) (group dp : DpId) (asked : List Asked) (a : Asked) → AreAnswered conf group asked → find (λ (b : Asked). b.dp.0 == dp.0) asked ≡ Some a → a.is_in ≡ is_of_group conf group dp
answered conf group dp [] a all e = absurd (cc)
answered conf group dp (b ∷ more) a all e = found (b.dp.0 == dp.0) refl (answered conf group dp more a all.1) e
  where
    found : (t : Bool) → (b.dp.0 == dp.0) ≡ t → (find (λ (b : Asked). b.dp.0 == dp.0) more ≡ Some a → a.is_in ≡ is_of_group conf group dp) → cond t (Some b) (find (λ (b : Asked). b.dp.0 == dp.0) more) ≡ Some a → a.is_in ≡ is_of_group conf group dp
    found true is more e =
        let same : b ≡ a = cc in
        ap (λ (x : Asked). x.is_in) (sym same) ∙ all.0 ∙ ap (λ (n : ℕ). is_of_group conf group (record { 0 = n })) (eqb-true b.dp.0 dp.0 is)
    found false is more e = more e

module _ (conf : Configuration) (group : DpId) (hosts : List HostRec) (i : ℕ) (h : HostRec) (counts : List ℕ) (lt : i < length hosts) (is : h ≡ get_or hosts i h) (so_far : AreCounts conf group (take i hosts) counts) where
  fewer : (vid : ℕ) → get_or counts vid 0 ≤ i
  fewer vid =
      let few : count_by (is_host_in conf group vid) (take i hosts) ≤ length (take i hosts) = count_by-le-length (is_host_in conf group vid) (take i hosts) in
      let len : length (take i hosts) ≡ i = length-take-le i hosts (omega arith) in
      omega (arith, so_far vid)

  pub one_fits : (vid : ℕ) → length hosts < 2 ^ 64 → get_or counts vid 0 + 1 < 2 ^ 64
  one_fits vid most = omega (arith, fewer vid)

  passes : (vid : ℕ) (b : Bool) → is_host_in conf group vid h ≡ b → is_host_in conf group vid (get_or hosts i h) ≡ b
  passes vid b e = ap (is_host_in conf group vid) (sym is) ∙ e

  pub counted_out : is_of_group conf group h.dp ≡ false → AreCounts conf group (take (i + 1) hosts) counts
  counted_out out vid =
      so_far vid ∙ sym (count_by_more_no (is_host_in conf group vid) hosts i h lt (passes vid false (ap (λ b. b && (h.vid == vid)) out)))

  pub counted_in : is_of_group conf group h.dp ≡ true → h.vid < length counts → AreCounts conf group (take (i + 1) hosts) (set counts h.vid (get_or counts h.vid 0 + 1))
  counted_in within place vid = step (h.vid == vid) refl
    where
      in_vlan : (b : Bool) → (h.vid == vid) ≡ b → is_host_in conf group vid h ≡ b
      in_vlan b e = ap (λ t. t && (h.vid == vid)) within ∙ e

      step : (b : Bool) → (h.vid == vid) ≡ b → get_or (set counts h.vid (get_or counts h.vid 0 + 1)) vid 0 ≡ count_by (is_host_in conf group vid) (take (i + 1) hosts)
      step true e =
          let same : h.vid ≡ vid = eqb-true h.vid vid e in
          let now : get_or (set counts h.vid (get_or counts h.vid 0 + 1)) h.vid 0 ≡ get_or counts h.vid 0 + 1 = get_or-set_same counts h.vid (get_or counts h.vid 0 + 1) 0 place in
          ap (λ n. get_or (set counts h.vid (get_or counts h.vid 0 + 1)) n 0) (sym same) ∙ now ∙ ap (λ n. get_or counts n 0 + 1) same ∙ ap (λ n. n + 1) (so_far vid)
          ∙ sym (count_by_more_yes (is_host_in conf group vid) hosts i h lt (passes vid true (in_vlan true e)))
      step false e =
          get_or-set_other counts h.vid vid (get_or counts h.vid 0 + 1) 0 (λ same. eqb-false h.vid vid e (sym same)) ∙ so_far vid
          ∙ sym (count_by_more_no (is_host_in conf group vid) hosts i h lt (passes vid false (in_vlan false e)))

-- ---- the VLANs of a port

any-filter : {X : Type 0} (p q : X → Bool) (xs : List X) → list_any q (filter p xs) ≡ list_any (λ x. p x && q x) xs
any-filter p q [] = refl
any-filter p q (x ∷ xs) = kept (p x) (any-filter p q xs)
  where
    kept : (b : Bool) → list_any q (filter p xs) ≡ list_any (λ x. p x && q x) xs → list_any q (cond b (x ∷ filter p xs) (filter p xs)) ≡ ((b && q x) || list_any (λ x. p x && q x) xs)
    kept true h = ap (λ r. q x || r) h
    kept false h = h

-- a host of the VLAN among those at the port
has_host-is : (hosts : List HostRec) (d : Dp) (i : Port) (v : Vlan) (learned : Learned) → learned.here ≡ filter (is_host_at d.id i.no) hosts → list_any (λ h. h.vid == v.vid) learned.here ≡ has_host hosts d.id i.no v.vid
has_host-is hosts d i v learned e = ap (λ hs. list_any (λ (h : HostRec). h.vid == v.vid) hs) e ∙ any-filter (is_host_at d.id i.no) (λ h. h.vid == v.vid) hosts

-- how many there are
here-count : (hosts : List HostRec) (d : Dp) (i : Port) (learned : Learned) → learned.here ≡ filter (is_host_at d.id i.no) hosts → length learned.here ≡ count_by (is_host_at d.id i.no) hosts
here-count hosts d i learned e = ap length e ∙ length-filter (is_host_at d.id i.no) hosts

pub miss-is : (conf : Configuration) (hosts : List HostRec) (d : Dp) (i : Port) (learned : Learned) → AreLearned conf d i hosts learned → (v : Vlan) → miss_by learned i v ≡ miss conf hosts d i v
miss-is conf hosts d i learned h v =
    rw (has_host-is hosts d i v learned h.here, here-count hosts d i learned h.here, h.counts v.vid, h.is_full) refl

pub misses_are : (conf : Configuration) (hosts : List HostRec) (d : Dp) (i : Port) (learned : Learned) → AreLearned conf d i hosts learned → (vs : List Vlan) → map (miss_by learned i) vs ≡ map (miss conf hosts d i) vs
misses_are conf hosts d i learned h vs = map_same _ _ (miss-is conf hosts d i learned h) vs

-- ---- by counts

some_kept : {X : Type 0} (p : X → Bool) (xs : List X) → nat_lt 0 (length (filter p xs)) ≡ list_any p xs
some_kept p [] = refl
some_kept p (x ∷ xs) = by (p x) (some_kept p xs)
  where
    by : (b : Bool) → nat_lt 0 (length (filter p xs)) ≡ list_any p xs → nat_lt 0 (length (cond b (x ∷ filter p xs) (filter p xs))) ≡ (b || list_any p xs)
    by true more = grind (arith, nat_tests)
    by false more = more

-- there is one exactly where they are more than none
pub some_counted : {X : Type 0} (p : X → Bool) (xs : List X) → nat_lt 0 (count_by p xs) ≡ list_any p xs
some_counted p xs = ap (nat_lt 0) (sym (length-filter p xs)) ∙ some_kept p xs
