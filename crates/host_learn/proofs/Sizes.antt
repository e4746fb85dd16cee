-- No call lets the table pass its limit.
use Rattle.std.proofs.Common.{◌≡◌, ℕ, ◌<◌, ◌≤◌, ◌++◌, ◌||◌, ◌&&◌, Bool, true, false, cond, List, [], ◌∷◌, suc, length, filter, not, nat_le, refl, sym, ap, arith, length-append, if◌then◌else◌}
use Rattle.std.proofs.lemmas.Bool.{and_parts, false≢true}
use Rattle.std.proofs.lemmas.Bool.Decides.{nat_tests}
use Rattle.std.proofs.lemmas.List.{length-map}
use Rattle.std.proofs.lemmas.List.Sums.{length-filter, count_by-le-length}
use Rattle.conf_types.specs.declared.state.HostRec.{HostRec}
use Rattle.conf_types.specs.Configuration.{Configuration}
use Rattle.conf_types.specs.State.{is_permanent}
use Rattle.host_learn.specs.declared.learn.Learn.{Learn}
use Rattle.host_learn.specs.declared.learn.Learn.TheVariants.{Learned, Moved, Refreshed, Full, NotLearnable}
use Rattle.host_learn.specs.Kept.{finds_room, with_room}
use Rattle.host_learn.specs.Learning.{is_heard, is_known, is_full, is_full_at, is_full_in, is_learnable, is_occupied, stands_there, outcome, hosts_after}
use Rattle.host_learn.specs.Table.{Table, without_first}

pub less : (a b : ℕ) → not (nat_le a b) ≡ true → b < a
less a b is = grind (arith, nat_tests)

pub fewer : (test : HostRec → Bool) (hosts : List HostRec) → length (filter test hosts) ≤ length hosts
fewer test hosts = omega (arith, length-filter test hosts, count_by-le-length test hosts)

pub one_fewer : (test : HostRec → Bool) (hosts : List HostRec) → length (without_first test hosts) ≤ length hosts
one_fewer test [] = omega arith
one_fewer test (host ∷ more) =
    elim (test host) as (λ b. length (cond b more (host ∷ without_first test more)) ≤ length (host ∷ more)) [
      | true ↦ omega arith
      | false ↦ omega (arith, one_fewer test more)
    ]

pub neither : (a b : Bool) → (a || b) ≡ false → (a ≡ false) × (b ≡ false)
neither true b is = absurd (false≢true (sym is))
neither false b is = (refl, is)

pub second : (a b : Bool) → (not a && b) ≡ false → a ≡ false → b ≡ false
second true b is off = absurd (false≢true (sym off))
second false b is off = is

module _ (conf : Configuration) (limit : ℕ) where
  -- ---- what is kept

  -- one finds room only below the limit
  below : (kept : List HostRec) (host : HostRec) → finds_room conf limit kept host ≡ true → length kept < limit
  below kept host room =
      let a : Bool = not (is_full_at conf kept host) && not (is_full_in conf kept host) in
      let d : Bool = not (is_permanent conf host && is_occupied kept host) in
      let parts = and_parts (a && not (nat_le limit (length kept))) d room in
      let free = and_parts a (not (nat_le limit (length kept))) parts.0 in
      less limit (length kept) free.1

  one_more : (b : Bool) (kept : List HostRec) (host : HostRec) → finds_room conf limit kept host ≡ b → length kept ≤ limit → length (if b then kept ++ host ∷ [] else kept) ≤ limit
  one_more true kept host room within = omega (arith, below kept host room, length-append kept (host ∷ []))
  one_more false kept host room within = within

  pub room_within : (kept hosts : List HostRec) → length kept ≤ limit → length (with_room conf limit kept hosts) ≤ limit
  room_within kept [] within = within
  room_within kept (host ∷ more) within =
      room_within (if finds_room conf limit kept host then kept ++ host ∷ [] else kept) more (one_more (finds_room conf limit kept host) kept host refl within)

  -- ---- what is learned

  module _ (heard : HostRec) where
    -- the one that moves makes room for itself
    pub fewer_by_one : (hosts : List HostRec) → is_known conf hosts heard ≡ true → length (filter (λ host. not (is_heard conf heard host)) hosts) < length hosts
    fewer_by_one [] known = absurd (false≢true known)
    fewer_by_one (host ∷ more) known =
        let others : List HostRec = filter (λ host. not (is_heard conf heard host)) more in
        elim (is_heard conf heard host) as (λ b. (b || is_known conf more heard) ≡ true → length (cond (not b) (host ∷ others) others) < suc (length more)) [
          | true ↦ λ e. omega (arith, fewer (λ host. not (is_heard conf heard host)) more)
          | false ↦ λ e. omega (arith, fewer_by_one more e)
        ] known

    chosen : (learnable full there known : Bool) → Learn
    chosen learnable full there known =
        if not learnable then NotLearnable else if full then Full else if there then Refreshed else if known then Moved else Learned

    after : (hosts : List HostRec) (learnable full there known : Bool) → length hosts ≤ limit → (known ≡ true → is_known conf hosts heard ≡ true) → (full ≡ false → known ≡ false → length hosts < limit)
        → length (hosts_after conf heard hosts (chosen learnable full there known)) ≤ limit
    unfolding chosen
    after hosts false full there known within is room = within
    after hosts true true there known within is room = within
    after hosts true false true known within is room = rw length-map within
    after hosts true false false true within is room =
        omega (arith, fewer_by_one hosts (is refl), length-append (filter (λ host. not (is_heard conf heard host)) hosts) (heard ∷ []))
    after hosts true false false false within is room = omega (arith, room refl refl, length-append hosts (heard ∷ []))

    free : (hosts : List HostRec) → is_full conf (record { limit = limit; hosts = hosts }) heard ≡ false → is_known conf hosts heard ≡ false → length hosts < limit
    free hosts full known =
        let table : Table = record { limit = limit; hosts = hosts } in
        let full_table : Bool = is_full_in conf hosts heard || nat_le limit (length hosts) in
        let parts = neither (not (stands_there hosts heard) && is_full_at conf hosts heard) (not (is_known conf hosts heard) && full_table) full in
        less limit (length hosts) (ap not (neither (is_full_in conf hosts heard) (nat_le limit (length hosts)) (second (is_known conf hosts heard) full_table parts.1 known)).1)

    pub learned_within : (hosts : List HostRec) → length hosts ≤ limit → length (hosts_after conf heard hosts (outcome conf (record { limit = limit; hosts = hosts }) heard)) ≤ limit
    unfolding chosen
    learned_within hosts within =
        let table : Table = record { limit = limit; hosts = hosts } in
        after hosts (is_learnable conf hosts heard) (is_full conf table heard) (stands_there hosts heard) (is_known conf hosts heard) within (λ k. k) (free hosts)
