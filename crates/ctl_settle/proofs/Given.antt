-- What asks touch: neighbours that were known, and aren't any more behind the asks.
use Rattle.std.proofs.Common.{◌≡◌, ℕ, zero, suc, ◌+◌, ◌^◌, ◌-◌, ◌<◌, ◌==◌, ◌&&◌, min, not, Bool, true, false, cond, Option, Some, None, List, [], ◌∷◌, ◌++◌, find, is_some, length, nat_lt, nat_le, refl, inl, inr, sym, ap, subst, ◌∙◌, arith, eq-eqb, true≢false, if◌then◌else◌}
use Rattle.std.specs.Prelude.{◌⊎◌, Contains}
use Rattle.std.specs.List.{AllByRecursion}
use Rattle.std.specs.Option.{option_map, option_map_or}
use Rattle.std.proofs.lemmas.Bool.{and_from, and_parts, cases_Bool}
use Rattle.std.proofs.lemmas.Bool.Decides.{nat_tests}
use Rattle.std.proofs.lemmas.Option.{none-some, same_Some}
use Rattle.conf_types.specs.declared.address.Ip.{Ip}
use Rattle.net_base.specs.declared.address.Mac.{Mac}
use Rattle.net_base.specs.declared.numbers.DpId.{DpId}
use Rattle.net_base.specs.declared.numbers.Moment.{Moment}
use Rattle.conf_types.specs.declared.change.Change.{Change}
use Rattle.conf_types.specs.Families.{is_same_ip}
use Rattle.conf_types.specs.declared.state.NeighRec.{NeighRec}
use Rattle.conf_types.specs.Changes.{mac_of_neighbour}
use Rattle.conf_types.specs.Configuration.{Configuration}
use Rattle.conf_types.specs.State.{State, IsSameNeighbour, IsValidState}
use Rattle.conf_types.proofs.Families.{is_that_ip}
use Rattle.of13_codec.specs.declared.message.Message.{Message}
use Rattle.plan_units.specs.Facts.{found}
use Rattle.law_names.specs.Differing.{neighbour}
use Rattle.law_names.specs.Dues.{due}
use Rattle.law_names.specs.Names.{Names}
use Rattle.law_names.proofs.Stepped.{join, nothing}
use Rattle.law_runs.specs.Members.{all_joined, of_all, tail_of}
use Rattle.neighbour_resolve.specs.declared.neighbour.Due.{Due}
use Rattle.neighbour_resolve.specs.declared.neighbour.Due.TheVariants.{Ask, Gone}
use Rattle.neighbour_resolve.specs.Asks.{asks}
use Rattle.neighbour_resolve.specs.Due.{after_due, asked as asked_once, asked_on, due_said, first_due, is_due, is_gateway, is_lost, is_spent, last_wait, most_tries, next, said_of, wait_after}
use Rattle.neighbour_resolve.specs.Table.{Table}
use Rattle.neighbour_resolve.proofs.Alone.{by_next, some_wait}
use Rattle.ctl_world.specs.Connections.{conn_with, with_said}
use Rattle.ctl_world.specs.Saying.{say, say_by}
use Rattle.ctl_world.specs.World.{IsSound, World}
use Rattle.ctl_settle.specs.Asked.{IsLost, all_asked, asked, lost}
use Rattle.ctl_settle.specs.Settling.{ask_all, ask_due, say_due, take_due}
use Rattle.ctl_settle.proofs.Asks.{due_said_kept}
use Rattle.ctl_settle.proofs.Following.{all_same}
use Rattle.ctl_settle.proofs.Lost.{AreApart, lost_named, mac_in, none_behind, one_key, test}
use Rattle.ctl_settle.proofs.Sound.{taken_sound}

-- ---- one that is due

module _ (conf : Configuration) (moment : ℕ) where
  waiting : (wait : ℕ) → 0 < wait → (nat_le (min (moment + wait) (2 ^ 64 - 1)) moment && not (min (moment + wait) (2 ^ 64 - 1) == 2 ^ 64 - 1)) ≡ false
  waiting wait some = grind (arith, nat_tests)

  -- once it was asked it isn't due
  in_place : (x : NeighRec) (xs : List NeighRec) (m n : NeighRec) → is_due moment m ≡ false → is_due moment n ≡ true → Contains (m ∷ xs) n → Contains (x ∷ xs) n
  in_place x xs m n off on (zero, lt, is) = absurd (true≢false (sym on ∙ sym (ap (is_due moment) is) ∙ off))
  in_place x xs m n off on (suc k, lt, is) = tail_of x xs n (k, omega (arith, lt), is)

  pub still_there : (ns : List NeighRec) (n : NeighRec) → is_due moment n ≡ true → Contains (after_due conf moment ns) n → Contains ns n
  still_there [] n on here = here
  still_there (x ∷ xs) n on here =
      elim (cases_Bool (is_due moment x)) [
        | inl comes ↦
            by_next conf moment x (λ o. Contains (option_map_or (λ m. m ∷ xs) o xs) n → Contains (x ∷ xs) n)
            (in_place x xs (asked_once moment x) n (waiting (wait_after x.tries) (some_wait x.tries)) on)
            (in_place x xs (asked_on moment x) n (waiting last_wait (omega arith)) on) (tail_of x xs n)
            (subst (λ (ns : List NeighRec). Contains ns n) (ap (λ (b : Bool). if b then option_map_or (λ m. m ∷ xs) (next conf moment x) xs else x ∷ after_due conf moment xs) comes) here)
        | inr other ↦
            behind x xs n (still_there xs n on)
            (subst (λ (ns : List NeighRec). Contains ns n) (ap (λ (b : Bool). if b then option_map_or (λ m. m ∷ xs) (next conf moment x) xs else x ∷ after_due conf moment xs) other) here)
      ]
    where
      behind : (x : NeighRec) (xs : List NeighRec) (n : NeighRec) → (Contains (after_due conf moment xs) n → Contains xs n) → Contains (x ∷ after_due conf moment xs) n → Contains (x ∷ xs) n
      behind x xs n on (zero, lt, is) = (zero, omega arith, is)
      behind x xs n on (suc k, lt, is) = tail_of x xs n (on (k, omega (arith, lt), is))

  module _ (group : DpId) (vid : ℕ) (ip : Ip) where
    abbrev key : NeighRec → Bool
    key n = test group vid ip n

    abbrev mac_at : List NeighRec → Option Mac
    mac_at ns = mac_in group vid ip (find key ns)

    abbrev after_one : NeighRec → List NeighRec → Bool → List NeighRec
    after_one x xs b = if b then option_map_or (λ m. m ∷ xs) (next conf moment x) xs else x ∷ after_due conf moment xs

    -- where nothing is known of it, nothing is
    first_unknown : (x : NeighRec) (xs : List NeighRec) → AllByRecursion (λ m. IsSameNeighbour x m → ⊥) xs → mac_at (x ∷ xs) ≡ None → mac_at (option_map_or (λ m. m ∷ xs) (next conf moment x) xs) ≡ None
    first_unknown x xs alone none =
        by_next conf moment x (λ o. mac_at (option_map_or (λ m. m ∷ xs) o xs) ≡ None) (asked_too (key x) none) (on_too (key x) none) (gone_too (cases_Bool (key x)))
      where
        asked_too : (b : Bool) → mac_in group vid ip (cond b (Some x) (find key xs)) ≡ None → mac_in group vid ip (cond b (Some (asked_once moment x)) (find key xs)) ≡ None
        asked_too true is = is
        asked_too false is = is

        on_too : (b : Bool) → mac_in group vid ip (cond b (Some x) (find key xs)) ≡ None → mac_in group vid ip (cond b (Some (asked_on moment x)) (find key xs)) ≡ None
        on_too true is = refl
        on_too false is = is

        gone_too : (key x ≡ true) ⊎ (key x ≡ false) → mac_at xs ≡ None
        gone_too (inl here) = ap (mac_in group vid ip) (none_behind group vid ip x xs here alone)
        gone_too (inr off) = sym (ap (λ (b : Bool). mac_in group vid ip (cond b (Some x) (find key xs))) off) ∙ none

    pub stays_unknown : (ns : List NeighRec) → AreApart ns → mac_at ns ≡ None → mac_at (after_due conf moment ns) ≡ None
    stays_unknown [] apart none = none
    stays_unknown (x ∷ xs) apart none =
        elim (cases_Bool (is_due moment x)) [
          | inl comes ↦ ap (λ (b : Bool). mac_at (after_one x xs b)) comes ∙ first_unknown x xs apart.0 none
          | inr other ↦ ap (λ (b : Bool). mac_at (after_one x xs b)) other ∙ later (key x) none (stays_unknown xs apart.1)
        ]
      where
        later : (b : Bool) → mac_in group vid ip (cond b (Some x) (find key xs)) ≡ None → (mac_at xs ≡ None → mac_at (after_due conf moment xs) ≡ None)
            → mac_in group vid ip (cond b (Some x) (find key (after_due conf moment xs))) ≡ None
        later true is rest = is
        later false is rest = rest is

    -- and of the one that is lost nothing is
    first_gone : (n : NeighRec) (xs : List NeighRec) → key n ≡ true → AllByRecursion (λ m. IsSameNeighbour n m → ⊥) xs → is_spent n ≡ true → mac_at (option_map_or (λ m. m ∷ xs) (next conf moment n) xs) ≡ None
    first_gone n xs here alone spent = by (nat_lt n.tries most_tries) (is_gateway conf n) (and_parts (is_some n.mac) (not (nat_lt n.tries most_tries)) spent).1
      where
        by : (t g : Bool) → not t ≡ true → mac_at (option_map_or (λ m. m ∷ xs) (if t then Some (asked_once moment n) else if g then Some (asked_on moment n) else None) xs) ≡ None
        by true g is = absurd (true≢false (sym is))
        by false true is = ap (λ (b : Bool). mac_in group vid ip (cond b (Some (asked_on moment n)) (find key xs))) here
        by false false is = ap (mac_in group vid ip) (none_behind group vid ip n xs here alone)

    pub lost_gone : (ns : List NeighRec) (n : NeighRec) → AreApart ns → key n ≡ true → first_due moment ns ≡ Some n → is_spent n ≡ true → mac_at (after_due conf moment ns) ≡ None
    lost_gone [] n apart here is spent = absurd (none-some n is)
    lost_gone (x ∷ xs) n apart here is spent =
        elim (cases_Bool (is_due moment x)) [
          | inl comes ↦
              let same : x ≡ n = same_Some x n (sym (ap (λ (b : Bool). cond b (Some x) (first_due moment xs)) comes) ∙ is) in
              ap (λ (b : Bool). mac_at (after_one x xs b)) comes ∙ first_gone x xs (ap key same ∙ here) apart.0 (ap is_spent same ∙ spent)
          | inr other ↦
              let later : first_due moment xs ≡ Some n = sym (ap (λ (b : Bool). cond b (Some x) (first_due moment xs)) other) ∙ is in
              let off : key x ≡ false = elim (cases_Bool (key x)) [
                | inl too ↦ absurd (of_all (λ m. IsSameNeighbour x m → ⊥) xs apart.0 n (found (is_due moment) xs n later).within (one_key group vid ip x n too here))
                | inr is ↦ is
              ] in
              ap (λ (b : Bool). mac_at (after_one x xs b)) other
              ∙ ap (λ (b : Bool). mac_in group vid ip (cond b (Some x) (find key (after_due conf moment xs)))) off ∙ lost_gone xs n apart.1 here later spent
        ]

-- ---- what is said leaves the rest

module _ (conf : Configuration) (moment : Moment) (table : Table) where
  abbrev Has : World → Type 0
  Has w = (w.conf ≡ conf) × ((w.moment ≡ moment) × (w.neighbours ≡ table))

  say_has : (number : ℕ) (m : Message) (w : World) → Has w → Has (say number m w)
  say_has number m w has = elim (conn_with w.conns number) as (λ o. Has (option_map_or (say_by with_said m w) o w)) [ Some c ↦ has | None ↦ has ]

  said_has : (d : Due) (w : World) → Has w → Has (say_due d w)
  said_has d w has = due_said_kept Has say_has d w has

-- ---- all that are due

abbrev then_world : Due → World → World
then_world d w = say_due d (take_due w)

then_has : (d : Due) (w : World) → Has w.conf w.moment (take_due w).neighbours (then_world d w)
then_has d w = said_has w.conf w.moment (take_due w).neighbours d (take_due w) (refl, (refl, refl))

abbrev known_in : World → NeighRec → Option Mac
known_in w n = mac_of_neighbour w.neighbours.neighbours n.group n.vid n.ip

its_key : (n : NeighRec) → test n.group n.vid n.ip n ≡ true
its_key n = and_from (n.group.0 == n.group.0 && n.vid == n.vid) (is_same_ip n.ip n.ip) (and_from (n.group.0 == n.group.0) (n.vid == n.vid) (eq-eqb n.group.0 n.group.0 refl) (eq-eqb n.vid n.vid refl)) (is_that_ip n.ip n.ip refl)

due_is : (conf : Configuration) (moment : ℕ) (n : NeighRec) → due (said_of conf moment n) ≡ neighbour n
due_is conf moment n = elim (is_some (next conf moment n)) as (λ b. due (if b then Ask n.group n.vid n.ip else Gone n.group n.vid n.ip) ≡ neighbour n) [ true ↦ refl | false ↦ refl ]

module _ (say_kept : (number : ℕ) (m : Message) (w : World) → IsSound w → IsSound (say number m w))
    (due_kept : (conf : Configuration) (state : State) (moment : ℕ) → IsValidState conf state → IsValidState conf (record state { neighbours = after_due conf moment state.neighbours })) where
  then_sound : (d : Due) (w : World) → IsSound w → IsSound (then_world d w)
  then_sound d w sound = due_said_kept IsSound say_kept d (take_due w) (taken_sound say_kept due_kept w sound)

  then_unknown : (n : NeighRec) (d : Due) (w : World) → IsSound w → known_in w n ≡ None → known_in (then_world d w) n ≡ None
  then_unknown n d w sound none =
      ap (λ (t : Table). mac_of_neighbour t.neighbours n.group n.vid n.ip) (then_has d w).1.1
      ∙ stays_unknown w.conf w.moment.0 n.group n.vid n.ip w.neighbours.neighbours sound.valid.neighbour_keys none

  all_unknown : (n : NeighRec) (most : ℕ) (w : World) → IsSound w → known_in w n ≡ None → known_in (ask_due most w) n ≡ None
  all_unknown n zero w sound none = none
  all_unknown n (suc most) w sound none =
      elim (due_said w.conf w.moment.0 w.neighbours.neighbours) as (λ o. known_in (option_map_or (λ d. ask_due most (then_world d w)) o w) n ≡ None) [
        | Some d ↦ all_unknown n most (then_world d w) (then_sound d w sound) (then_unknown n d w sound none)
        | None ↦ none
      ]

  module _ (most : ℕ) (d : Due) (w : World) (sound : IsSound w) (said : due_said w.conf w.moment.0 w.neighbours.neighbours ≡ Some d) where
    abbrev v : World
    v = then_world d w

    one_lost : is_lost w.moment.0 w.neighbours.neighbours ≡ true → IsLost w (ask_due most v) (due d)
    one_lost is = by (first_due w.moment.0 w.neighbours.neighbours) refl said is
      where
        by : (o : Option NeighRec) → first_due w.moment.0 w.neighbours.neighbours ≡ o → option_map (said_of w.conf w.moment.0) o ≡ Some d → option_map_or is_spent o false ≡ true → IsLost w (ask_due most v) (due d)
        by None at e spent = absurd (none-some d e)
        by (Some n) at e spent =
            let it = found (is_due w.moment.0) w.neighbours.neighbours n at in
            record {
              one = n;
              there = it.within;
              comes = it.passes;
              spent = spent;
              named = ap due (sym (same_Some (said_of w.conf w.moment.0 n) d e)) ∙ due_is w.conf w.moment.0 n;
              gone = all_unknown n most v (then_sound d w sound)
                  (ap (λ (t : Table). mac_of_neighbour t.neighbours n.group n.vid n.ip) (then_has d w).1.1
                  ∙ lost_gone w.conf w.moment.0 n.group n.vid n.ip w.neighbours.neighbours n sound.valid.neighbour_keys (its_key n) at spent);
            }

    first_lost : AllByRecursion (IsLost w (ask_due most v)) (lost w d)
    first_lost = by (is_lost w.moment.0 w.neighbours.neighbours) refl
      where
        by : (b : Bool) → is_lost w.moment.0 w.neighbours.neighbours ≡ b → AllByRecursion (IsLost w (ask_due most v)) (if b then due d ∷ [] else [])
        by true is = (one_lost is, tt)
        by false is = tt

    lost_before : (c : Change) → IsLost v (ask_due most v) c → IsLost w (ask_due most v) c
    lost_before c is =
        let n = is.one in
        let on : is_due w.moment.0 n ≡ true = ap (λ (m : Moment). is_due m.0 n) (sym (then_has d w).1.0) ∙ is.comes in
        record {
          one = n;
          there = still_there w.conf w.moment.0 w.neighbours.neighbours n on (subst (λ (t : Table). Contains t.neighbours n) (then_has d w).1.1 is.there);
          comes = on;
          spent = is.spent;
          named = is.named;
          gone = is.gone;
        }

  all_lost : (most : ℕ) (w : World) → IsSound w → AllByRecursion (IsLost w (ask_due most w)) (asked most w)
  all_lost zero w sound = tt
  all_lost (suc most) w sound = by (due_said w.conf w.moment.0 w.neighbours.neighbours) refl (λ d. all_lost most (then_world d w) (then_sound d w sound))
    where
      by : (o : Option Due) → due_said w.conf w.moment.0 w.neighbours.neighbours ≡ o
          → ((d : Due) → AllByRecursion (IsLost (then_world d w) (ask_due most (then_world d w))) (asked most (then_world d w)))
          → AllByRecursion (IsLost w (option_map_or (λ d. ask_due most (then_world d w)) o w)) (option_map_or (λ d. lost w d ++ asked most (then_world d w)) o [])
      by None none rest = tt
      by (Some d) said rest =
          let v = then_world d w in
          all_joined (IsLost w (ask_due most v)) (lost w d) (asked most v) (first_lost most d w sound said)
          (all_same (IsLost v (ask_due most v)) (IsLost w (ask_due most v)) (lost_before most d w sound said) (asked most v) (rest d))

  -- and nothing else differs
  names_all : (most : ℕ) (w : World) → IsSound w → Names w (ask_due most w) (asked most w)
  names_all zero w sound = nothing w
  names_all (suc most) w sound = by (due_said w.conf w.moment.0 w.neighbours.neighbours) refl (λ d. names_all most (then_world d w) (then_sound d w sound))
    where
      by : (o : Option Due) → due_said w.conf w.moment.0 w.neighbours.neighbours ≡ o
          → ((d : Due) → Names (then_world d w) (ask_due most (then_world d w)) (asked most (then_world d w)))
          → Names w (option_map_or (λ d. ask_due most (then_world d w)) o w) (option_map_or (λ d. lost w d ++ asked most (then_world d w)) o [])
      by None none rest = nothing w
      by (Some d) said rest =
          let v = then_world d w in
          join w v (ask_due most v) (lost w d) (asked most v) (lost_named d w said sound.valid.neighbour_keys) (rest d)

  pub all_named : (w : World) → IsSound w → Names w (ask_all w) (all_asked w)
  all_named w sound = names_all (length w.neighbours.neighbours) w sound

  pub all_given : (w : World) → IsSound w → AllByRecursion (IsLost w (ask_all w)) (all_asked w)
  all_given w sound = all_lost (length w.neighbours.neighbours) w sound
