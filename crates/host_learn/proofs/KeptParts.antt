-- What is kept is a part of what was, may be learned where it stands, and has keys of its own.
use Rattle.std.proofs.Common.{◌≡◌, ℕ, ◌==◌, ◌&&◌, ◌++◌, Bool, true, false, List, [], ◌∷◌, filter, inl, inr, refl, sym, ap, ◌∙◌, subst, eq-eqb, append_assoc, append-nil, if◌then◌else◌}
use Rattle.std.specs.List.{AllByRecursion, list_any}
use Rattle.std.proofs.lemmas.Bool.{cases_Bool, and_from, both_ways}
use Rattle.std.specs.Str.{bytes_eq}
use Rattle.std.proofs.lemmas.Map.Text.{is_eq-slice_cmp}
use Rattle.conf_types.specs.declared.state.HostRec.{HostRec}
use Rattle.conf_types.specs.declared.state.UpRec.{UpRec}
use Rattle.conf_types.specs.Configuration.{Configuration}
use Rattle.conf_types.specs.Groups.{group_of}
use Rattle.conf_types.specs.Lists.{EachBefore, is_same}
use Rattle.conf_types.specs.State.{IsSameHost}
use Rattle.host_learn.specs.Kept.{finds_room, kept_hosts, last_of_each, may_stay, with_room}
use Rattle.host_learn.specs.Learning.{is_heard}
use Rattle.host_list.specs.Parts.{IsPartOf}
use Rattle.host_learn.specs.Table.{Table}
use Rattle.host_list.proofs.Lists.{all_map, all_part, before_part, filter_all, filter_part, none_passes, part_of_part, part_skip}

-- ---- parts

pub last_part : (conf : Configuration) (hosts : List HostRec) → IsPartOf (last_of_each conf hosts) hosts
last_part conf [] = tt
last_part conf (host ∷ more) =
    elim (list_any (is_heard conf host) more) as (λ b. IsPartOf (if b then last_of_each conf more else host ∷ last_of_each conf more) (host ∷ more)) [
      | true ↦ part_skip (last_of_each conf more) host more (last_part conf more)
      | false ↦ inl (refl, last_part conf more)
    ]

-- what is kept is what was kept before, and behind it a part of the hosts
record Adds (conf : Configuration) (limit : ℕ) (kept hosts : List HostRec) : Type 0 where
  more : List HostRec
  is : with_room conf limit kept hosts ≡ kept ++ more
  part : IsPartOf more hosts

adds : (conf : Configuration) (limit : ℕ) (kept hosts : List HostRec) → Adds conf limit kept hosts
adds conf limit kept [] = record { more = []; is = sym (append-nil kept); part = tt }
adds conf limit kept (host ∷ hosts) =
    let P : Bool → Type 0 = λ b. (more : List HostRec) × (with_room conf limit (if b then kept ++ host ∷ [] else kept) hosts ≡ kept ++ more) × IsPartOf more (host ∷ hosts) in
    let found : P (finds_room conf limit kept host) =
    elim (finds_room conf limit kept host) as P [
      | true ↦ let rest = adds conf limit (kept ++ host ∷ []) hosts in (host ∷ rest.more, rest.is ∙ append_assoc kept (host ∷ []) rest.more, inl (refl, rest.part))
      | false ↦ let rest = adds conf limit kept hosts in (rest.more, rest.is, part_skip rest.more host hosts rest.part)
    ] in
    record { more = found.0; is = found.1; part = found.2 }

pub room_part : (conf : Configuration) (limit : ℕ) (hosts : List HostRec) → IsPartOf (with_room conf limit [] hosts) hosts
room_part conf limit hosts = let all = adds conf limit [] hosts in subst (λ xs. IsPartOf xs hosts) (sym all.is) all.part

module _ (conf : Configuration) (ups : List UpRec) (moment : ℕ) (table : Table) where
  abbrev pub staying : List HostRec
  staying = filter (may_stay conf ups moment) table.hosts

  kept_staying : IsPartOf (kept_hosts conf ups moment table) staying
  kept_staying =
      part_of_part (kept_hosts conf ups moment table) (last_of_each conf staying) staying (room_part conf table.limit (last_of_each conf staying)) (last_part conf staying)

  pub kept_part : IsPartOf (kept_hosts conf ups moment table) table.hosts
  kept_part = part_of_part (kept_hosts conf ups moment table) staying table.hosts kept_staying (filter_part (may_stay conf ups moment) table.hosts)

  pub kept_stays : AllByRecursion (λ host. may_stay conf ups moment host ≡ true) (kept_hosts conf ups moment table)
  kept_stays =
      all_part (λ host. may_stay conf ups moment host ≡ true) (kept_hosts conf ups moment table) staying (filter_all (may_stay conf ups moment) table.hosts) kept_staying

-- ---- keys

bytes_same : (bytes : List ℕ) → bytes_eq bytes bytes ≡ true
bytes_same [] = refl
bytes_same (b ∷ bytes) = and_from (b == b) (bytes_eq bytes bytes) (eq-eqb b b refl) (bytes_same bytes)

pub same_is_heard : (conf : Configuration) (a b : HostRec) → IsSameHost conf a b → is_heard conf a b ≡ true
same_is_heard conf a b same =
    let mac : is_same b.mac.0 a.mac.0 ≡ true = ap (λ m. is_same m a.mac.0) (sym same.macs) ∙ is_eq-slice_cmp a.mac.0 a.mac.0 ∙ bytes_same a.mac.0 in
    let group : ((group_of conf b.dp).0 == (group_of conf a.dp).0) ≡ true = eq-eqb (group_of conf b.dp).0 (group_of conf a.dp).0 (sym same.groups) in
    let vlan : (b.vid == a.vid) ≡ true = eq-eqb b.vid a.vid (sym same.vlans) in
    and_from ((group_of conf b.dp).0 == (group_of conf a.dp).0 && b.vid == a.vid) (is_same b.mac.0 a.mac.0) (and_from ((group_of conf b.dp).0 == (group_of conf a.dp).0) (b.vid == a.vid) group vlan) mac

pub last_apart : (conf : Configuration) (hosts : List HostRec) → EachBefore (λ a b. IsSameHost conf a b → ⊥) (last_of_each conf hosts)
last_apart conf [] = tt
last_apart conf (host ∷ more) =
    elim (cases_Bool (list_any (is_heard conf host) more)) [
      | inl known ↦ subst (λ b. EachBefore (λ a b. IsSameHost conf a b → ⊥) (if b then last_of_each conf more else host ∷ last_of_each conf more)) (sym known) (last_apart conf more)
      | inr new ↦
          let others : AllByRecursion (λ b. IsSameHost conf host b → ⊥) more =
          all_map (λ b. is_heard conf host b ≡ false) (λ b. IsSameHost conf host b → ⊥) (λ b other same. both_ways (is_heard conf host b) other (same_is_heard conf host b same)) more (none_passes (is_heard conf host) more new) in
          subst (λ b. EachBefore (λ a b. IsSameHost conf a b → ⊥) (if b then last_of_each conf more else host ∷ last_of_each conf more)) (sym new)
          (all_part (λ b. IsSameHost conf host b → ⊥) (last_of_each conf more) more others (last_part conf more), last_apart conf more)
    ]

pub kept_apart : (conf : Configuration) (ups : List UpRec) (moment : ℕ) (table : Table) → EachBefore (λ a b. IsSameHost conf a b → ⊥) (kept_hosts conf ups moment table)
kept_apart conf ups moment table =
    let last = last_of_each conf (staying conf ups moment table) in
    before_part (λ a b. IsSameHost conf a b → ⊥) (kept_hosts conf ups moment table) last (last_apart conf (staying conf ups moment table)) (room_part conf table.limit last)
