-- What stands on a shelf stays there where another moment is noted.
use Rattle.std.proofs.Common.{◌≡◌, ℕ, ◌<◌, ◌≤◌, ◌==◌, ◌&&◌, ◌||◌, ◌++◌, Bool, true, false, cond, List, [], ◌∷◌, map, inl, inr, refl, sym, ap, ◌∙◌, arith, subst, eq-eqb, nat_lt, nat_le, if◌then◌else◌}
use Rattle.std.specs.List.{AllByRecursion, list_any}
use Rattle.std.proofs.lemmas.Bool.{cases_Bool, and_parts, and_from, eqb-true, ltb-true, ltb-false}
use Rattle.std.proofs.lemmas.Bool.Decides.{nat_tests}
use Rattle.std.proofs.lemmas.List.Folds.{list_any-append}
use Rattle.net_base.specs.declared.numbers.DpId.{DpId}
use Rattle.net_base.specs.declared.numbers.Moment.{Moment}
use Rattle.conf_types.specs.declared.state.HostRec.{HostRec}
use Rattle.conf_types.specs.Configuration.{Configuration}
use Rattle.host_list.specs.declared.shelves.Shelf.{Shelf}
use Rattle.host_list.specs.Addresses.{Entry}
use Rattle.host_list.specs.Order.{AreShelves, is_due_from, tightened}
use Rattle.host_list.specs.Shelves.{is_less, is_on, is_shelved, last_moment, least_on, lowered, noted}
use Rattle.host_list.proofs.Lists.{all_both, all_map, before_push, none_passes}

pub le_true : (a b : ℕ) → a ≤ b → nat_le a b ≡ true
le_true a b less = grind (arith, nat_tests)

pub le_is : (a b : ℕ) → nat_le a b ≡ true → a ≤ b
le_is a b is = grind (arith, nat_tests)

any_of : (a b : Bool) → b ≡ true → (a || b) ≡ true
any_of true b is = refl
any_of false b is = is

any_first : (a b : Bool) → a ≡ true → (a || b) ≡ true
any_first a b is = ap (λ c. c || b) is

module _ (dp : DpId) (t : Moment) where
  -- ---- one shelf

  same_dp : (s : Shelf) → (lowered dp t s).dp.0 ≡ s.dp.0
  same_dp s = elim (s.dp.0 == dp.0 && nat_lt t.0 s.least.0) as (λ b. (cond b (record s { least = t }) s).dp.0 ≡ s.dp.0) [ true ↦ refl | false ↦ refl ]

  on_lowered : (host : HostRec) (s : Shelf) → is_on host s ≡ true → is_on host (lowered dp t s) ≡ true
  on_lowered host s on =
      elim (cases_Bool (s.dp.0 == dp.0 && nat_lt t.0 s.least.0)) [
        | inl e ↦ let both = and_parts (s.dp.0 == host.dp.0) (nat_le s.least.0 host.learned.0) on in
            let below : t.0 < s.least.0 = ltb-true t.0 s.least.0 (and_parts (s.dp.0 == dp.0) (nat_lt t.0 s.least.0) e).1 in
            let within : s.least.0 ≤ host.learned.0 = le_is s.least.0 host.learned.0 both.1 in
            ap (λ b. is_on host (cond b (record s { least = t }) s)) e ∙ and_from (s.dp.0 == host.dp.0) (nat_le t.0 host.learned.0) both.0 (le_true t.0 host.learned.0 (omega (arith, below, within)))
        | inr e ↦ ap (λ b. is_on host (cond b (record s { least = t }) s)) e ∙ on
      ]

  -- ---- all of them

  pub lowered_keeps : (host : HostRec) (shelves : List Shelf) → is_shelved shelves host ≡ true → is_shelved (map (lowered dp t) shelves) host ≡ true
  lowered_keeps host [] on = on
  lowered_keeps host (s ∷ shelves) on =
      elim (cases_Bool (is_on host s)) [
        | inl here ↦ any_first (is_on host (lowered dp t s)) (is_shelved (map (lowered dp t) shelves) host) (on_lowered host s here)
        | inr other ↦ any_of (is_on host (lowered dp t s)) (is_shelved (map (lowered dp t) shelves) host) (lowered_keeps host shelves (sym (ap (λ b. b || is_shelved shelves host) other) ∙ on))
      ]

  pub lowered_apart : (shelves : List Shelf) → AreShelves shelves → AreShelves (map (lowered dp t) shelves)
  lowered_apart [] apart = tt
  lowered_apart (s ∷ shelves) apart = (each s shelves apart.0, lowered_apart shelves apart.1)
    where
      each : (s : Shelf) (shelves : List Shelf) → AllByRecursion (λ (r : Shelf). (s.dp.0 == r.dp.0) ≡ false) shelves → AllByRecursion (λ (r : Shelf). ((lowered dp t s).dp.0 == r.dp.0) ≡ false) (map (lowered dp t) shelves)
      each s [] all = tt
      each s (r ∷ shelves) all = (ap (λ n. n == (lowered dp t r).dp.0) (same_dp s) ∙ ap (λ n. s.dp.0 == n) (same_dp r) ∙ all.0, each s shelves all.1)

  pub noted_keeps : (host : HostRec) (shelves : List Shelf) → is_shelved shelves host ≡ true → is_shelved (noted dp t shelves) host ≡ true
  noted_keeps host shelves on =
      elim (list_any (λ (s : Shelf). s.dp.0 == dp.0) shelves) as (λ b. is_shelved (if b then map (lowered dp t) shelves else shelves ++ record { dp = dp; least = t } ∷ []) host ≡ true) [
        | true ↦ lowered_keeps host shelves on
        | false ↦ list_any-append (is_on host) shelves (record { dp = dp; least = t } ∷ []) ∙ any_first (is_shelved shelves host) (is_shelved (record { dp = dp; least = t } ∷ []) host) on
      ]

  pub noted_apart : (shelves : List Shelf) → AreShelves shelves → AreShelves (noted dp t shelves)
  noted_apart shelves apart =
      elim (cases_Bool (list_any (λ (s : Shelf). s.dp.0 == dp.0) shelves)) [
        | inl e ↦ subst (λ b. AreShelves (if b then map (lowered dp t) shelves else shelves ++ record { dp = dp; least = t } ∷ [])) (sym e) (lowered_apart shelves apart)
        | inr e ↦ subst (λ b. AreShelves (if b then map (lowered dp t) shelves else shelves ++ record { dp = dp; least = t } ∷ [])) (sym e)
            (before_push (λ (s : Shelf) (r : Shelf). (s.dp.0 == r.dp.0) ≡ false) shelves (record { dp = dp; least = t }) apart (none_passes (λ (s : Shelf). s.dp.0 == dp.0) shelves e))
      ]

module _ (host : HostRec) where
  here_lowered : (s : Shelf) → (s.dp.0 == host.dp.0) ≡ true → is_on host (lowered host.dp host.learned s) ≡ true
  here_lowered s dp =
      elim (cases_Bool (nat_lt host.learned.0 s.least.0)) [
        | inl below ↦ ap (λ b. is_on host (cond b (record s { least = host.learned }) s)) (and_from (s.dp.0 == host.dp.0) (nat_lt host.learned.0 s.least.0) dp below) ∙ and_from (s.dp.0 == host.dp.0) (nat_le host.learned.0 host.learned.0) dp (le_true host.learned.0 host.learned.0 (omega arith))
        | inr above ↦ let within : s.least.0 ≤ host.learned.0 = ltb-false host.learned.0 s.least.0 above in
            let off : (s.dp.0 == host.dp.0 && nat_lt host.learned.0 s.least.0) ≡ false = ap (λ b. s.dp.0 == host.dp.0 && b) above ∙ ap (λ b. b && false) dp in
            ap (λ b. is_on host (cond b (record s { least = host.learned }) s)) off ∙ and_from (s.dp.0 == host.dp.0) (nat_le s.least.0 host.learned.0) dp (le_true s.least.0 host.learned.0 within)
      ]

  pub lowered_here : (shelves : List Shelf) → list_any (λ (s : Shelf). s.dp.0 == host.dp.0) shelves ≡ true → is_shelved (map (lowered host.dp host.learned) shelves) host ≡ true
  lowered_here [] some = some
  lowered_here (s ∷ shelves) some =
      elim (cases_Bool (s.dp.0 == host.dp.0)) [
        | inl dp ↦ any_first (is_on host (lowered host.dp host.learned s)) (is_shelved (map (lowered host.dp host.learned) shelves) host) (here_lowered s dp)
        | inr other ↦ any_of (is_on host (lowered host.dp host.learned s)) (is_shelved (map (lowered host.dp host.learned) shelves) host) (lowered_here shelves (sym (ap (λ b. b || list_any (λ (r : Shelf). r.dp.0 == host.dp.0) shelves) other) ∙ some))
      ]

  pub noted_here : (shelves : List Shelf) → is_shelved (noted host.dp host.learned shelves) host ≡ true
  noted_here shelves =
      let new : Shelf = record { dp = host.dp; least = host.learned } in
      elim (cases_Bool (list_any (λ (s : Shelf). s.dp.0 == host.dp.0) shelves)) [
        | inl e ↦ ap (λ b. is_shelved (if b then map (lowered host.dp host.learned) shelves else shelves ++ new ∷ []) host) e ∙ lowered_here shelves e
        | inr e ↦ ap (λ b. is_shelved (if b then map (lowered host.dp host.learned) shelves else shelves ++ new ∷ []) host) e ∙ list_any-append (is_on host) shelves (new ∷ [])
            ∙ any_of (is_shelved shelves host) (is_shelved (new ∷ []) host) (any_first (is_on host new) false (and_from (host.dp.0 == host.dp.0) (nat_le host.learned.0 host.learned.0) (eq-eqb host.dp.0 host.dp.0 refl) (le_true host.learned.0 host.learned.0 (omega arith))))
      ]

  -- a host on a shelf has one of its datapath
  pub on_dp : (shelves : List Shelf) → is_shelved shelves host ≡ true → list_any (λ (s : Shelf). s.dp.0 == host.dp.0) shelves ≡ true
  on_dp [] on = on
  on_dp (s ∷ shelves) on =
      elim (cases_Bool (is_on host s)) [
        | inl here ↦ any_first (s.dp.0 == host.dp.0) (list_any (λ (r : Shelf). r.dp.0 == host.dp.0) shelves) (and_parts (s.dp.0 == host.dp.0) (nat_le s.least.0 host.learned.0) here).0
        | inr other ↦ any_of (s.dp.0 == host.dp.0) (list_any (λ (r : Shelf). r.dp.0 == host.dp.0) shelves) (on_dp shelves (sym (ap (λ b. b || is_shelved shelves host) other) ∙ on))
      ]

-- ---- the least moments

module _ (dp : DpId) where
  least_below : (m : Moment) (entries : List Entry) → (least_on dp m entries).0 ≤ m.0
  least_below m [] = omega arith
  least_below m (e ∷ entries) =
      elim (cases_Bool (is_less dp m e.1)) [
        | inl e1 ↦ let less : e.1.learned.0 < m.0 = ltb-true e.1.learned.0 m.0 (and_parts (e.1.dp.0 == dp.0) (nat_lt e.1.learned.0 m.0) e1).1 in
            let rest : (least_on dp e.1.learned entries).0 ≤ e.1.learned.0 = least_below e.1.learned entries in
            let all : (least_on dp e.1.learned entries).0 ≤ m.0 = omega (arith, less, rest) in
            subst (λ b. (least_on dp (if b then e.1.learned else m) entries).0 ≤ m.0) (sym e1) all
        | inr e1 ↦ subst (λ b. (least_on dp (if b then e.1.learned else m) entries).0 ≤ m.0) (sym e1) (least_below m entries)
      ]

  least_of_each : (m : Moment) (entries : List Entry) → AllByRecursion (λ (e : Entry). (e.1.dp.0 == dp.0) ≡ true → (least_on dp m entries).0 ≤ e.1.learned.0) entries
  least_of_each m [] = tt
  least_of_each m (e ∷ entries) =
      let next : Moment = if is_less dp m e.1 then e.1.learned else m in (
        (λ same. let within = least_below (if is_less dp m e.1 then e.1.learned else m) entries in
            elim (cases_Bool (nat_lt e.1.learned.0 m.0)) [
              | inl less ↦ let is : is_less dp m e.1 ≡ true = and_from (e.1.dp.0 == dp.0) (nat_lt e.1.learned.0 m.0) same less in
                  subst (λ b. (least_on dp (if b then e.1.learned else m) entries).0 ≤ e.1.learned.0) (sym is) (least_below e.1.learned entries)
              | inr more ↦ let is : is_less dp m e.1 ≡ false = ap (λ b. b && nat_lt e.1.learned.0 m.0) same ∙ more in
                  let least : m.0 ≤ e.1.learned.0 = ltb-false e.1.learned.0 m.0 more in
                  let rest : (least_on dp m entries).0 ≤ m.0 = least_below m entries in
                  let all : (least_on dp m entries).0 ≤ e.1.learned.0 = omega (arith, least, rest) in
                  subst (λ b. (least_on dp (if b then e.1.learned else m) entries).0 ≤ e.1.learned.0) (sym is) all
            ]),
        least_of_each (if is_less dp m e.1 then e.1.learned else m) entries,
      )

all_swap : {A D : Type 0} (P : D → A → Type 0) (xs : List A) → ((d : D) → AllByRecursion (P d) xs) → AllByRecursion (λ x. (d : D) → P d x) xs
all_swap P [] all = tt
all_swap P (x ∷ xs) all = ((λ d. (all d).0), all_swap P xs (λ d. (all d).1))

module _ (conf : Configuration) (moment : ℕ) (entries : List Entry) where
  on_tight : (host : HostRec) → ((dp : DpId) → (host.dp.0 == dp.0) ≡ true → (least_on dp last_moment entries).0 ≤ host.learned.0) → (s : Shelf) → is_on host s ≡ true → is_on host (tightened conf moment entries s) ≡ true
  on_tight host least s on =
      let both = and_parts (s.dp.0 == host.dp.0) (nat_le s.least.0 host.learned.0) on in
      let same = eq-eqb host.dp.0 s.dp.0 (sym (eqb-true s.dp.0 host.dp.0 both.0)) in
      let with = λ (b : Bool). is_on host (record s { least = if b then least_on s.dp last_moment entries else s.least }) in
      elim (cases_Bool (is_due_from conf moment s)) [
        | inl due ↦ ap with due ∙ and_from (s.dp.0 == host.dp.0) (nat_le (least_on s.dp last_moment entries).0 host.learned.0) both.0 (le_true (least_on s.dp last_moment entries).0 host.learned.0 (least s.dp same))
        | inr rests ↦ ap with rests ∙ on
      ]

  tight_here : (host : HostRec) → ((dp : DpId) → (host.dp.0 == dp.0) ≡ true → (least_on dp last_moment entries).0 ≤ host.learned.0)
      → (shelves : List Shelf) → is_shelved shelves host ≡ true → is_shelved (map (tightened conf moment entries) shelves) host ≡ true
  tight_here host least [] on = on
  tight_here host least (s ∷ shelves) on =
      elim (cases_Bool (is_on host s)) [
        | inl here ↦ any_first (is_on host (tightened conf moment entries s)) (is_shelved (map (tightened conf moment entries) shelves) host) (on_tight host least s here)
        | inr other ↦ any_of (is_on host (tightened conf moment entries s)) (is_shelved (map (tightened conf moment entries) shelves) host) (tight_here host least shelves (sym (ap (λ b. b || is_shelved shelves host) other) ∙ on))
      ]

  pub tight_shelved : (shelves : List Shelf) → AllByRecursion (λ (e : Entry). is_shelved shelves e.1 ≡ true) entries → AllByRecursion (λ (e : Entry). is_shelved (map (tightened conf moment entries) shelves) e.1 ≡ true) entries
  tight_shelved shelves on =
      let least = all_swap (λ (dp : DpId) (e : Entry). (e.1.dp.0 == dp.0) ≡ true → (least_on dp last_moment entries).0 ≤ e.1.learned.0) entries (λ dp. least_of_each dp last_moment entries) in
      all_map (λ (e : Entry). (is_shelved shelves e.1 ≡ true) × ((dp : DpId) → (e.1.dp.0 == dp.0) ≡ true → (least_on dp last_moment entries).0 ≤ e.1.learned.0)) (λ (e : Entry). is_shelved (map (tightened conf moment entries) shelves) e.1 ≡ true)
      (λ e both. tight_here e.1 both.1 shelves both.0) entries
      (all_both (λ (e : Entry). is_shelved shelves e.1 ≡ true) (λ (e : Entry). (dp : DpId) → (e.1.dp.0 == dp.0) ≡ true → (least_on dp last_moment entries).0 ≤ e.1.learned.0) entries on least)

  pub tight_apart : (shelves : List Shelf) → AreShelves shelves → AreShelves (map (tightened conf moment entries) shelves)
  tight_apart [] apart = tt
  tight_apart (s ∷ shelves) apart = (each s shelves apart.0, tight_apart shelves apart.1)
    where
      each : (s : Shelf) (shelves : List Shelf) → AllByRecursion (λ (r : Shelf). (s.dp.0 == r.dp.0) ≡ false) shelves → AllByRecursion (λ (r : Shelf). (s.dp.0 == r.dp.0) ≡ false) (map (tightened conf moment entries) shelves)
      each s [] all = tt
      each s (r ∷ shelves) all = (all.0, each s shelves all.1)
