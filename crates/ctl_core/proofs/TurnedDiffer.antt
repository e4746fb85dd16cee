-- Each host that a moment turns, or that is forgotten then, differs.
use Rattle.std.proofs.Common.{◌≡◌, ◌==◌, ◌&&◌, ◌||◌, not, Bool, true, false, Option, Some, None, List, map, filter, inl, inr, refl, sym, ap, ◌∙◌, subst, true≢false}
use Rattle.std.specs.Prelude.{Contains}
use Rattle.std.specs.List.{AllByRecursion}
use Rattle.std.specs.Option.{option_eq, option_map}
use Rattle.std.proofs.lemmas.Bool.{cases_Bool}
use Rattle.cold_start.proofs.Lists.{kept_before}
use Rattle.conf_types.specs.declared.change.Change.{Change}
use Rattle.conf_types.specs.declared.state.HostRec.{HostRec}
use Rattle.conf_types.specs.Changes.{host_by, standing, standing_of}
use Rattle.conf_types.specs.Configuration.{Configuration}
use Rattle.conf_types.specs.Groups.{group_of}
use Rattle.conf_types.specs.Lists.{is_same}
use Rattle.conf_types.specs.State.{IsSameHost, IsValidState, State, is_fresh, is_host_in, is_to_forget}
use Rattle.law_names.specs.Differing.{differs, host, is_one_place}
use Rattle.law_runs.specs.Members.{all_by, all_filtered, all_mapped, in_filtered, of_all}
use Rattle.law_units.proofs.Hosts.{keyed, own}
use Rattle.plan_units.specs.Facts.{apart_or_one, found}
use Rattle.ctl_settle.specs.Names.{is_other}
use Rattle.ctl_world.specs.World.{IsSound, World, now}
use Rattle.ctl_core.specs.Behind.{behind}
use Rattle.ctl_core.specs.Turning.{aged, turned, turns}
use Rattle.ctl_core.specs.Turns.{age}
use Rattle.ctl_core.proofs.Exact.{behind_differs}
use Rattle.ctl_core.proofs.Spent.{within_all}

passes : {A : Type 0} (keep : A → Bool) (xs : List A) (x : A) → Contains (filter keep xs) x → keep x ≡ true
passes keep xs x here =
    of_all (λ y. keep y ≡ true) (filter keep xs) (all_filtered (λ y. keep y ≡ true) keep xs (all_by (λ y. keep y ≡ true → keep y ≡ true) xs (λ y within is. is))) x here

other_place : (a b c : Bool) → c ≡ true → not (a && (b && not c)) ≡ true
other_place true true true is = refl
other_place true false true is = refl
other_place false b true is = refl
other_place a b false is = absurd (true≢false (sym is))

second : (a b : Bool) → (a || b) ≡ true → b ≡ false → a ≡ true
second true b some none = refl
second false b some none = absurd (true≢false (sym some ∙ none))

module _ (conf : Configuration) (from to : State) (valid : IsValidState conf from) (hosts : to.hosts ≡ filter (λ h. not (is_to_forget conf to.moment h)) from.hosts) where
  abbrev stays : HostRec → Bool
  stays h = not (is_to_forget conf to.moment h)

  module _ (h : HostRec) (within : Contains from.hosts h) where
    was : standing_of conf from (group_of conf h.dp) h.vid h.mac ≡ Some (standing conf from h)
    was = ap (option_map (standing conf from)) (own conf from.hosts valid.host_keys h within)

    abbrev has_key : HostRec → Bool
    has_key y = is_host_in conf (group_of conf h.dp) h.vid y && is_same y.mac.0 h.mac.0

    abbrev found_in : List HostRec → Option HostRec
    found_in hs = host_by conf hs (group_of conf h.dp) h.vid h.mac

    one_host : (y : HostRec) → Contains from.hosts y → IsSameHost conf y h → y ≡ h
    one_host y there same =
        apart_or_one (λ (a b : HostRec). IsSameHost conf a b → ⊥) from.hosts valid.host_keys y h there within (λ ne. ne same)
        (λ ne. ne (record { groups = sym same.groups; vlans = sym same.vlans; macs = sym same.macs }))

    -- one that is forgotten isn't there
    gone : is_to_forget conf to.moment h ≡ true → found_in to.hosts ≡ None
    gone is = ap found_in hosts ∙ by (found_in (filter stays from.hosts)) refl
      where
        by : (o : Option HostRec) → found_in (filter stays from.hosts) ≡ o → o ≡ None
        by None at = refl
        by (Some y) at =
            let f = found has_key (filter stays from.hosts) y at in
            let k = keyed conf (group_of conf h.dp) h.vid h.mac y f.passes in
            let there : Contains from.hosts y = within_all stays from.hosts y f.within in
            let same : y ≡ h = one_host y there (record { groups = k.groups; vlans = k.vids; macs = k.macs }) in
            absurd (true≢false (sym (passes stays from.hosts y f.within) ∙ ap stays same ∙ ap not is))

    stands : is_to_forget conf to.moment h ≡ false → found_in to.hosts ≡ Some h
    stands is =
        ap found_in hosts
        ∙ own conf (filter stays from.hosts) (kept_before (λ (a b : HostRec). IsSameHost conf a b → ⊥) stays from.hosts valid.host_keys) h (in_filtered stays from.hosts h within (ap not is))

    turned_differs : turns conf from.moment to.moment h ≡ true → differs conf from to (host conf h) ≡ true
    turned_differs turns_now = elim (cases_Bool (is_to_forget conf to.moment h)) [
      | inl over ↦ (λ i. not (option_eq is_one_place (was i) (option_map (standing conf to) (gone over i))))
      | inr on ↦
          let fresh : is_other (is_fresh conf from.moment h) (is_fresh conf to.moment h) ≡ true = second (is_other (is_fresh conf from.moment h) (is_fresh conf to.moment h)) (is_to_forget conf to.moment h) turns_now on in
          (λ i. not (option_eq is_one_place (was i) (option_map (standing conf to) (stands on i)))) ∙ other_place (h.dp.0 == h.dp.0) (h.port == h.port) _ fresh
    ]

  pub all_turned : AllByRecursion (λ c. differs conf from to c ≡ true) (map (host conf) (filter (turns conf from.moment to.moment) from.hosts))
  all_turned =
      all_mapped (λ c. differs conf from to c ≡ true) (host conf) (filter (turns conf from.moment to.moment) from.hosts)
      (all_filtered (λ h. differs conf from to (host conf h) ≡ true) (turns conf from.moment to.moment) from.hosts
      (all_by (λ h. turns conf from.moment to.moment h ≡ true → differs conf from to (host conf h) ≡ true) from.hosts (λ h within is. turned_differs h within is)))

-- ---- once those whose time is over are forgotten

pub aged_differ : (w v : World) (kept : Option State) → v.conf ≡ w.conf → IsSound w → IsValidState w.conf (now (age v)) → (kept ≡ None → v.hosts ≡ w.hosts) → ((s : State) → kept ≡ Some s → s ≡ now w)
    → AllByRecursion (λ c. differs w.conf (now w) (now (age v)) c ≡ true) (aged w.moment.0 kept v)
aged_differ w v None conf sound valid still same =
    let hosts = still refl in
    let left : (now (age v)).hosts ≡ filter (λ h. not (is_to_forget w.conf v.moment.0 h)) w.hosts.hosts = λ i. filter (λ h. not (is_to_forget (conf i) v.moment.0 h)) (hosts i).hosts in
    let list : turned w.moment.0 v ≡ map (host w.conf) (filter (turns w.conf w.moment.0 v.moment.0) w.hosts.hosts) = λ i. map (host (conf i)) (filter (turns (conf i) w.moment.0 v.moment.0) (hosts i).hosts) in
    subst (λ (cs : List Change). AllByRecursion (λ c. differs w.conf (now w) (now (age v)) c ≡ true) cs) (sym list) (all_turned w.conf (now w) (now (age v)) sound.valid left)
aged_differ w v (Some s) conf sound valid still same =
    let list : behind v.conf s (now (age v)) ≡ behind w.conf (now w) (now (age v)) = λ i. behind (conf i) (same s refl i) (now (age v)) in
    subst (λ (cs : List Change). AllByRecursion (λ c. differs w.conf (now w) (now (age v)) c ≡ true) cs) (sym list) (behind_differs w.conf (now w) (now (age v)) sound.valid valid)
