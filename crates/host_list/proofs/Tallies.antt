-- What the counts at a spot tell of the hosts, also those of the datapaths of a group together.
use Rattle.std.proofs.Common.{◌≡◌, ℕ, ◌+◌, ◌≤◌, ◌==◌, ◌&&◌, ◌||◌, Bool, true, false, cond, List, [], ◌∷◌, zero, suc, length, Some, None, inl, inr, refl, sym, ap, ◌∙◌, arith, count_by, sum_by, nat_lt, subst, eq-eqb, if◌then◌else◌}
use Rattle.std.specs.List.{AllByRecursion, list_any}
use Rattle.std.proofs.lemmas.Bool.{cases_Bool, eqb-true, ltb-false, false≢true}
use Rattle.std.proofs.lemmas.List.Folds.{Any-from_list_any}
use Rattle.std.proofs.lemmas.List.Sums.{sum_by-cons}
use Rattle.net_base.specs.declared.numbers.DpId.{DpId}
use Rattle.conf_types.specs.declared.datapath.Dp.{Dp}
use Rattle.conf_types.specs.declared.state.HostRec.{HostRec}
use Rattle.conf_types.specs.Configuration.{Configuration}
use Rattle.conf_types.specs.Groups.{IsDp, Walk, group_of}
use Rattle.conf_types.specs.Lists.{EachBefore}
use Rattle.conf_types.specs.State.{is_host_at, is_host_in}
use Rattle.conf_types.proofs.Alone.{group_alone}
use Rattle.conf_types.proofs.Found.{of_all}
use Rattle.conf_types.proofs.Reached.{group_is, same_id}
use Rattle.host_list.specs.declared.counts.Spot.{Spot}
use Rattle.host_list.specs.Addresses.{Entry}
use Rattle.host_list.specs.Order.{hosts_of, share, vlan_part}
use Rattle.host_list.proofs.Entries.{eqb-false}
use Rattle.host_list.proofs.Lists.{all_map, none_passes}

pub hosts_many : (entries : List Entry) → length (hosts_of entries) ≡ length entries
hosts_many [] = refl
hosts_many (e ∷ entries) = ap suc (hosts_many entries)

-- a sum over entries counts the hosts that have the part
pub sum_is_count : (f : HostRec → ℕ) (test : HostRec → Bool) → ((h : HostRec) → f h ≡ cond (test h) 1 0) → (entries : List Entry) → sum_by (λ (e : Entry). f e.1) entries ≡ count_by test (hosts_of entries)
sum_is_count f test is [] = refl
sum_is_count f test is (e ∷ entries) =
    sum_by-cons (λ (e : Entry). f e.1) e entries ∙ ap (λ k. k + sum_by (λ (e : Entry). f e.1) entries) (is e.1) ∙ ap (λ k. cond (test e.1) 1 0 + k) (sum_is_count f test is entries)
    ∙ sym (sum_by-cons (λ (h : HostRec). cond (test h) 1 0) e.1 (hosts_of entries))

port_bits : (a b : Bool) → (if a && (b && true) then 1 else 0) + (if a && (false && false) then 1 else 0) + (if a && (b && false) then 1 else 0) ≡ cond (a && b) 1 0
port_bits true true = refl
port_bits true false = refl
port_bits false b = refl

vlan_bits : (a b : Bool) → (if a && (false && false) then 1 else 0) + (if a && (true && b) then 1 else 0) + (if a && (false && b) then 1 else 0) ≡ cond (a && b) 1 0
vlan_bits true true = refl
vlan_bits true false = refl
vlan_bits false b = refl

both_bits : (a b d : Bool) → (if a && (b && false) then 1 else 0) + (if a && (false && d) then 1 else 0) + (if a && (b && d) then 1 else 0) ≡ cond (a && b && d) 1 0
both_bits true true true = refl
both_bits true true false = refl
both_bits true false d = refl
both_bits false b d = refl

pub port_share : (dp : DpId) (n : ℕ) (h : HostRec) → share (record { dp = dp; port = Some n; vid = None }) h ≡ cond (is_host_at dp n h) 1 0
port_share dp n h = port_bits (h.dp.0 == dp.0) (h.port == n)

vlan_share : (dp : DpId) (v : ℕ) (h : HostRec) → share (record { dp = dp; port = None; vid = Some v }) h ≡ cond (h.dp.0 == dp.0 && h.vid == v) 1 0
vlan_share dp v h = vlan_bits (h.dp.0 == dp.0) (h.vid == v)

pub spot_share : (dp : DpId) (n v : ℕ) (h : HostRec) → share (record { dp = dp; port = Some n; vid = Some v }) h ≡ cond (is_host_at dp n h && h.vid == v) 1 0
spot_share dp n v h = both_bits (h.dp.0 == dp.0) (h.port == n) (h.vid == v)

-- some pass exactly where the count isn't 0
pub some_pass : (test : HostRec → Bool) (hosts : List HostRec) → nat_lt 0 (count_by test hosts) ≡ list_any test hosts
some_pass test [] = refl
some_pass test (h ∷ hosts) =
    elim (cases_Bool (test h)) [
      | inl passes ↦ let first : ◌≡◌ {A = ℕ} (cond (test h) 1 0) 1 = ap (λ b. cond b 1 0) passes in
          let one : count_by test (h ∷ hosts) ≡ 1 + count_by test hosts = omega (arith, sum_by-cons (λ (h : HostRec). cond (test h) 1 0) h hosts, first) in
          ap (nat_lt 0) one ∙ positive (count_by test hosts) ∙ sym (ap (λ b. b || list_any test hosts) passes)
      | inr fails ↦ let none : ◌≡◌ {A = ℕ} (cond (test h) 1 0) 0 = ap (λ b. cond b 1 0) fails in
          let rest : count_by test (h ∷ hosts) ≡ count_by test hosts = omega (arith, sum_by-cons (λ (h : HostRec). cond (test h) 1 0) h hosts, none) in
          ap (nat_lt 0) rest ∙ some_pass test hosts ∙ sym (ap (λ b. b || list_any test hosts) fails)
    ]
  where
    positive : (n : ℕ) → nat_lt 0 (1 + n) ≡ true
    positive n = elim (cases_Bool (nat_lt 0 (1 + n))) [ inl is ↦ is | inr is ↦ let at_most : 1 + n ≤ 0 = ltb-false 0 (1 + n) is in absurd (omega arith) ]

-- ---- over the datapaths

-- where a walk leads there is a datapath
walk_ends : (conf : Configuration) (n : ℕ) (c b : DpId) → Walk conf c b n → IsDp conf b
walk_ends conf zero c b w = subst (λ x. IsDp conf x) w.1 w.0
walk_ends conf (suc n) c b w = walk_ends conf n w.0 b w.2

flip : (a b : ℕ) → (a == b) ≡ false → (b == a) ≡ false
flip a b other = elim (cases_Bool (b == a)) [ inl same ↦ absurd (false≢true (sym other ∙ eq-eqb a b (sym (eqb-true b a same)))) | inr is ↦ is ]

module _ (conf : Configuration) where
  abbrev is_in : DpId → Bool
  is_in dp = list_any (λ (d : Dp). d.id.0 == dp.0) conf.dps

  in_is : (dp : DpId) → is_in dp ≡ true → IsDp conf dp
  in_is dp some =
      let found = Any-from_list_any (λ (d : Dp). d.id.0 == dp.0) conf.dps some in
      let d : Dp = found.1 in
      record { dp = d; here = (found.0, found.2, found.3); id_is = same_id d.id dp (eqb-true d.id.0 dp.0 found.4) }

  is_there : (dp : DpId) → IsDp conf dp → is_in dp ≡ true
  is_there dp known =
      elim (cases_Bool (is_in dp)) [
        | inl is ↦ is
        | inr none ↦
            let off : (known.dp.id.0 == dp.0) ≡ false = of_all (λ (d : Dp). (d.id.0 == dp.0) ≡ false) conf.dps known.dp (none_passes (λ (d : Dp). d.id.0 == dp.0) conf.dps none) known.here in
            absurd (false≢true (sym off ∙ eq-eqb known.dp.id.0 dp.0 (ap (λ (x : DpId). x.0) known.id_is)))
      ]

  -- two of which one alone is a datapath of the configuration
  in_apart : (a b : DpId) → is_in a ≡ true → is_in b ≡ false → (a.0 == b.0) ≡ false
  in_apart a b is none =
      elim (cases_Bool (a.0 == b.0)) [
        | inl same ↦ absurd (false≢true (sym none ∙ ap is_in (sym (same_id a b (eqb-true a.0 b.0 same))) ∙ is))
        | inr other ↦ other
      ]

  not_in : (dp : DpId) → is_in dp ≡ false → dp ≡ group_of conf dp
  not_in dp none = group_alone conf dp (λ known. false≢true (sym none ∙ is_there dp known))

  group_in : (dp : DpId) → is_in dp ≡ true → is_in (group_of conf dp) ≡ true
  group_in dp is =
      let joined = (group_is conf dp (in_is dp is)).joined in
      is_there (group_of conf dp) (walk_ends conf joined.0 dp (group_of conf dp) joined.1)

module _ (conf : Configuration) (group : DpId) (v : ℕ) where
  -- what one host adds to a datapath's part
  abbrev adds : HostRec → Dp → ℕ
  adds h d = if (group_of conf d.id).0 == group.0 then cond (h.dp.0 == d.id.0 && h.vid == v) 1 0 else 0

  part_more : (e : Entry) (entries : List Entry) (d : Dp) → vlan_part conf (e ∷ entries) group v d ≡ adds e.1 d + vlan_part conf entries group v d
  part_more e entries d =
      let spot : Spot = record { dp = d.id; port = None; vid = Some v } in
      elim (cases_Bool ((group_of conf d.id).0 == group.0)) [
        | inl here ↦ ap (λ b. if b then sum_by (λ (e : Entry). share spot e.1) (e ∷ entries) else 0) here ∙ sum_by-cons (λ (e : Entry). share spot e.1) e entries ∙ ap (λ k. k + sum_by (λ (e : Entry). share spot e.1) entries) (vlan_share d.id v e.1)
            ∙ sym (ap (λ b. (if b then cond (e.1.dp.0 == d.id.0 && e.1.vid == v) 1 0 else 0) + (if b then sum_by (λ (e : Entry). share spot e.1) entries else 0)) here)
        | inr other ↦ ap (λ b. if b then sum_by (λ (e : Entry). share spot e.1) (e ∷ entries) else 0) other
            ∙ sym (ap (λ b. (if b then cond (e.1.dp.0 == d.id.0 && e.1.vid == v) 1 0 else 0) + (if b then sum_by (λ (e : Entry). share spot e.1) entries else 0)) other)
      ]

  total_more : (e : Entry) (entries : List Entry) (dps : List Dp) → sum_by (vlan_part conf (e ∷ entries) group v) dps ≡ sum_by (adds e.1) dps + sum_by (vlan_part conf entries group v) dps
  total_more e entries [] = refl
  total_more e entries (d ∷ dps) =
      omega (arith, sum_by-cons (vlan_part conf (e ∷ entries) group v) d dps, sum_by-cons (adds e.1) d dps, sum_by-cons (vlan_part conf entries group v) d dps, part_more e entries d, total_more e entries dps)

  total_none : (dps : List Dp) → sum_by (vlan_part conf [] group v) dps ≡ 0
  total_none [] = refl
  total_none (d ∷ dps) =
      let zero : vlan_part conf [] group v d ≡ 0 = elim ((group_of conf d.id).0 == group.0) as (λ b. (if b then sum_by (λ (e : Entry). share (record { dp = d.id; port = None; vid = Some v }) e.1) [] else 0) ≡ 0) [ true ↦ refl | false ↦ refl ] in
      omega (arith, sum_by-cons (vlan_part conf [] group v) d dps, zero, total_none dps)

  apart_adds : (h : HostRec) (d : Dp) → (h.dp.0 == d.id.0) ≡ false → adds h d ≡ 0
  apart_adds h d other =
      let none : ◌≡◌ {A = ℕ} (cond (h.dp.0 == d.id.0 && h.vid == v) 1 0) 0 = ap (λ b. cond (b && h.vid == v) 1 0) other in
      ap (λ k. if (group_of conf d.id).0 == group.0 then k else 0) none ∙ elim ((group_of conf d.id).0 == group.0) as (λ b. ◌≡◌ {A = ℕ} (if b then 0 else 0) 0) [ true ↦ refl | false ↦ refl ]

  none_adds : (h : HostRec) (dps : List Dp) → AllByRecursion (λ (d : Dp). (h.dp.0 == d.id.0) ≡ false) dps → sum_by (adds h) dps ≡ 0
  none_adds h [] all = refl
  none_adds h (d ∷ dps) all = omega (arith, sum_by-cons (adds h) d dps, apart_adds h d all.0, none_adds h dps all.1)

  -- a host counts on the one datapath that is its own
  one_adds : (h : HostRec) (dps : List Dp) → EachBefore (λ (d : Dp) (e : Dp). d.id.0 ≡ e.id.0 → ⊥) dps → list_any (λ (d : Dp). d.id.0 == h.dp.0) dps ≡ true → sum_by (adds h) dps ≡ cond (is_host_in conf group v h) 1 0
  one_adds h [] apart some = absurd (false≢true some)
  one_adds h (d ∷ dps) apart some =
      elim (cases_Bool (d.id.0 == h.dp.0)) [
        | inl here ↦
            let dp : d.id ≡ h.dp = same_id d.id h.dp (eqb-true d.id.0 h.dp.0 here) in
            let others : AllByRecursion (λ (e : Dp). (h.dp.0 == e.id.0) ≡ false) dps =
            all_map (λ (e : Dp). d.id.0 ≡ e.id.0 → ⊥) (λ (e : Dp). (h.dp.0 == e.id.0) ≡ false) (λ e ne. eqb-false h.dp.0 e.id.0 (λ same. ne (ap (λ (x : DpId). x.0) dp ∙ same))) dps apart.0 in
            let rest : sum_by (adds h) dps ≡ 0 = none_adds h dps others in
            let own : ◌≡◌ {A = ℕ} (cond (h.dp.0 == h.dp.0 && h.vid == v) 1 0) (cond (h.vid == v) 1 0) = ap (λ b. cond (b && h.vid == v) 1 0) (eq-eqb h.dp.0 h.dp.0 refl) in
            let first : adds h d ≡ cond (is_host_in conf group v h) 1 0 =
            ap (λ (x : DpId). adds h (record d { id = x })) dp
            ∙ ap (λ (k : ℕ). if (group_of conf h.dp).0 == group.0 then k else 0) own
            ∙ elim ((group_of conf h.dp).0 == group.0) as (λ b. ◌≡◌ {A = ℕ} (if b then cond (h.vid == v) 1 0 else 0) (cond (b && h.vid == v) 1 0)) [ true ↦ refl | false ↦ refl ] in
            omega (arith, sum_by-cons (adds h) d dps, first, rest)
        | inr other ↦
            let none : adds h d ≡ 0 = apart_adds h d (flip d.id.0 h.dp.0 other) in
            omega (arith, sum_by-cons (adds h) d dps, none, one_adds h dps apart.1 (sym (ap (λ b. b || list_any (λ (e : Dp). e.id.0 == h.dp.0) dps) other) ∙ some))
      ]

  -- a host elsewhere counts nowhere, and isn't one of a group of the configuration
  else_adds : IsDp conf group → (h : HostRec) → is_in conf h.dp ≡ false → sum_by (adds h) conf.dps ≡ cond (is_host_in conf group v h) 1 0
  else_adds known h none =
      let off : AllByRecursion (λ (d : Dp). (h.dp.0 == d.id.0) ≡ false) conf.dps =
      all_map (λ (d : Dp). (d.id.0 == h.dp.0) ≡ false) (λ (d : Dp). (h.dp.0 == d.id.0) ≡ false) (λ d is. flip d.id.0 h.dp.0 is) conf.dps (none_passes (λ (d : Dp). d.id.0 == h.dp.0) conf.dps none) in
      let other : ((group_of conf h.dp).0 == group.0) ≡ false = ap (λ (g : DpId). g.0 == group.0) (sym (not_in conf h.dp none)) ∙ flip group.0 h.dp.0 (in_apart conf group h.dp (is_there conf group known) none) in
      none_adds h conf.dps off ∙ sym (ap (λ b. cond (b && h.vid == v) 1 0) other)

  each_adds : EachBefore (λ (d : Dp) (e : Dp). d.id.0 ≡ e.id.0 → ⊥) conf.dps → IsDp conf group → (h : HostRec) → sum_by (adds h) conf.dps ≡ cond (is_host_in conf group v h) 1 0
  each_adds apart known h = elim (cases_Bool (is_in conf h.dp)) [ inl is ↦ one_adds h conf.dps apart is | inr none ↦ else_adds known h none ]

  pub parts_are : EachBefore (λ (d : Dp) (e : Dp). d.id.0 ≡ e.id.0 → ⊥) conf.dps → IsDp conf group → (entries : List Entry)
      → sum_by (vlan_part conf entries group v) conf.dps ≡ count_by (is_host_in conf group v) (hosts_of entries)
  parts_are apart known [] = total_none conf.dps
  parts_are apart known (e ∷ entries) =
      omega (arith, total_more e entries conf.dps, each_adds apart known e.1, parts_are apart known entries, sum_by-cons (λ (h : HostRec). cond (is_host_in conf group v h) 1 0) e.1 (hosts_of entries))

  -- what is no datapath of the configuration is a group of its own
  same_group : (IsDp conf group → ⊥) → (h : HostRec) → (h.dp.0 == group.0) ≡ ((group_of conf h.dp).0 == group.0)
  same_group unknown h =
      let none : is_in conf group ≡ false = elim (cases_Bool (is_in conf group)) [ inl is ↦ absurd (unknown (in_is conf group is)) | inr none ↦ none ] in
      elim (cases_Bool (is_in conf h.dp)) [
        | inl is ↦ in_apart conf h.dp group is none ∙ sym (in_apart conf (group_of conf h.dp) group (group_in conf h.dp is) none)
        | inr off ↦ ap (λ (g : DpId). g.0 == group.0) (not_in conf h.dp off)
      ]

  pub alone_is : (IsDp conf group → ⊥) → (entries : List Entry) → sum_by (λ (e : Entry). share (record { dp = group; port = None; vid = Some v }) e.1) entries ≡ count_by (is_host_in conf group v) (hosts_of entries)
  alone_is unknown = sum_is_count (share (record { dp = group; port = None; vid = Some v })) (is_host_in conf group v) (λ h. vlan_share group v h ∙ ap (λ b. cond (b && h.vid == v) 1 0) (same_group unknown h))
