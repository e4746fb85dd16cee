-- What a settling counts at most: plans that are made again, and plans that are made anew.
use Rattle.std.proofs.Common.{◌≡◌, ℕ, zero, suc, ◌+◌, ◌≤◌, ◌<◌, ◌==◌, Bool, true, false, cond, Option, Some, None, List, [], ◌∷◌, ◌++◌, map, filter, find, take, drop, length, get_or, is_some, refl, inl, inr, sym, ap, subst, ◌∙◌, arith, zero-add, eqb-true, eq-eqb, true≢false, if◌then◌else◌}
use Rattle.std.specs.Prelude.{sum_by}
use Rattle.std.specs.List.{AllByRecursion}
use Rattle.std.specs.Option.{option_map, option_map_or}
use Rattle.std.proofs.lemmas.Bool.{cases_Bool}
use Rattle.std.proofs.lemmas.List.Sums.{sum_by-cons, sum_by-le-sum_by}
use Rattle.net_base.specs.declared.numbers.DpId.{DpId}
use Rattle.conf_types.specs.Configuration.{Configuration}
use Rattle.conf_types.specs.State.{State}
use Rattle.warm_plan.specs.Kept.{Kept}
use Rattle.ctl_world.specs.declared.conns.Conn.{Conn}
use Rattle.ctl_world.specs.Connections.{conn_of, conn_with, is_of}
use Rattle.ctl_settle.specs.declared.plans.Held.{Held}
use Rattle.ctl_settle.specs.Counted.{again, all_again, all_anew, anew, counted_on, whole, works}
use Rattle.ctl_settle.specs.Plans.{AreApart, is_for, numbers, opened, plan_for, runs_on}
use Rattle.ctl_settle.specs.Touched.{MayDiffer}
use Rattle.ctl_settle.proofs.Apart.{AreUnlike}
use Rattle.ctl_settle.proofs.Batches.{AreByNumber}
use Rattle.ctl_settle.proofs.Fitting.{its_dp, more_own, more_some, plan_standing, standing}
use Rattle.ctl_settle.proofs.PlanPlaces as places

-- ---- sums over those that pass

first_of : {A : Type 0} (f : A → ℕ) (t : A → Bool) (x : A) (xs : List A) → sum_by f (filter t (x ∷ xs)) ≡ (if t x then f x else 0) + sum_by f (filter t xs)
first_of f t x xs =
    elim (t x) as (λ b. sum_by f (cond b (x ∷ filter t xs) (filter t xs)) ≡ (if b then f x else 0) + sum_by f (filter t xs)) [
      | true ↦ sum_by-cons f x (filter t xs)
      | false ↦ sym (zero-add (sum_by f (filter t xs)))
    ]

turned : (a b : ℕ) → (a == b) ≡ false → (b == a) ≡ false
turned a b off = elim (cases_Bool (b == a)) [ inl same ↦ absurd (true≢false (sym (eq-eqb a b (sym (eqb-true b a same))) ∙ off)) | inr is ↦ is ]

differ : (a b : ℕ) → (a ≡ b → ⊥) → (a == b) ≡ false
differ a b other = elim (cases_Bool (a == b)) [ inl same ↦ absurd (other (eqb-true a b same)) | inr is ↦ is ]

-- where these make up those, connection by connection
pub joined : (f g k : Conn → ℕ) (cs : List Conn) → AllByRecursion (λ c. works c ≡ true → f c + g c ≤ k c) cs → sum_by f (filter works cs) + sum_by g (filter works cs) ≤ sum_by k (filter works cs)
joined f g k [] all = omega arith
joined f g k (c ∷ cs) all =
    let a = first_of f works c cs in
    let b = first_of g works c cs in
    let e = first_of k works c cs in
    let rest = joined f g k cs all.1 in
    elim (cases_Bool (works c)) [
      | inl on ↦
          let here = all.0 on in
          let fa : (if works c then f c else 0) ≡ f c = ap (λ (t : Bool). if t then f c else 0) on in
          let ga : (if works c then g c else 0) ≡ g c = ap (λ (t : Bool). if t then g c else 0) on in
          let ka : (if works c then k c else 0) ≡ k c = ap (λ (t : Bool). if t then k c else 0) on in
          omega (arith, a, b, e, rest, here, fa, ga, ka)
      | inr off ↦
          let fa : (if works c then f c else 0) ≡ 0 = ap (λ (t : Bool). if t then f c else 0) off in
          let ga : (if works c then g c else 0) ≡ 0 = ap (λ (t : Bool). if t then g c else 0) off in
          omega (arith, a, b, e, rest, fa, ga)
    ]

-- ---- plans that are made again, by their connections

module _ (g : Kept → ℕ) where
  abbrev of_plan : Held → ℕ
  of_plan h = g h.plan

  abbrev own : List Held → Conn → ℕ
  own held c = option_map_or g (plan_for held c.number) 0

  abbrev sum_on : List Conn → List Held → ℕ
  sum_on conns held = sum_by of_plan (filter (λ h. runs_on conns h.conn) held)

  none_on : (held : List Held) → sum_on [] held ≡ 0
  none_on [] = refl
  none_on (h ∷ hs) = none_on hs

  module _ (c : Conn) (cs : List Conn) where
    abbrev passes : Option Conn → Bool
    passes o = option_map_or works o false

    abbrev part : List Conn → Held → ℕ
    part conns h = if runs_on conns h.conn then g h.plan else 0

    other_part : (h : Held) → (c.number == h.conn) ≡ false → part (c ∷ cs) h ≡ part cs h
    other_part h other = ap (λ (b : Bool). if passes (cond b (Some c) (conn_with cs h.conn)) then g h.plan else 0) other

    own_part : (h : Held) → (c.number == h.conn) ≡ true → part (c ∷ cs) h ≡ (if works c then g h.plan else 0)
    own_part h same = ap (λ (b : Bool). if passes (cond b (Some c) (conn_with cs h.conn)) then g h.plan else 0) same

    by_parts : (conns : List Conn) (h : Held) (hs : List Held) → sum_on conns (h ∷ hs) ≡ part conns h + sum_on conns hs
    by_parts conns h hs = first_of of_plan (λ (x : Held). runs_on conns x.conn) h hs

    others_same : (held : List Held) → AreUnlike c.number (numbers held) → sum_on (c ∷ cs) held ≡ sum_on cs held
    others_same [] all = refl
    others_same (h ∷ hs) all =
        let a = by_parts (c ∷ cs) h hs in
        let b = by_parts cs h hs in
        let e = other_part h (differ c.number h.conn all.0) in
        let rest = others_same hs all.1 in
        omega (arith, a, b, e, rest)

    one_more : (held : List Held) → AreApart held → sum_on (c ∷ cs) held ≤ (if works c then own held c else 0) + sum_on cs held
    one_more [] apart = omega arith
    one_more (h ∷ hs) apart =
        let a = by_parts (c ∷ cs) h hs in
        let b = by_parts cs h hs in
        elim (cases_Bool (c.number == h.conn)) [
          | inl same ↦
              let is : h.conn ≡ c.number = sym (eqb-true c.number h.conn same) in
              let mine : own (h ∷ hs) c ≡ g h.plan = ap (λ (t : Bool). option_map_or g (places.plan_of (cond t (Some h) (find (is_for c.number) hs))) 0) (eq-eqb h.conn c.number is) in
              let rest = others_same hs (subst (λ (n : ℕ). AreUnlike n (numbers hs)) is apart.0) in
              let e : part (c ∷ cs) h ≡ (if works c then own (h ∷ hs) c else 0) = own_part h same ∙ ap (λ (n : ℕ). if works c then n else 0) (sym mine) in
              omega (arith, a, b, e, rest)
          | inr other ↦
              let mine : own (h ∷ hs) c ≡ own hs c = ap (λ (t : Bool). option_map_or g (places.plan_of (cond t (Some h) (find (is_for c.number) hs))) 0) (turned c.number h.conn other) in
              let m : (if works c then own (h ∷ hs) c else 0) ≡ (if works c then own hs c else 0) = ap (λ (n : ℕ). if works c then n else 0) mine in
              let e = other_part h other in
              let rest = one_more hs apart.1 in
              omega (arith, a, b, e, m, rest)
        ]

  pub kept_within : (conns : List Conn) (held : List Held) → AreApart held → sum_on conns held ≤ sum_by (own held) (filter works conns)
  kept_within [] held apart = let none = none_on held in omega (arith, none)
  kept_within (c ∷ cs) held apart =
      let a = one_more c cs held apart in
      let b = kept_within cs held apart in
      let e = first_of (own held) works c cs in
      omega (arith, a, b, e)

-- ---- with those that are made anew

below : (a b : ℕ) → a < b → (a == b) ≡ false
below a b less = differ a b (λ e. absurd (omega (arith, less, e)))

found_behind : (x : Conn) (xs ys : List Conn) → AllByRecursion (λ d. x.number < d.number) ys → AllByRecursion (λ c. conn_with xs c.number ≡ Some c) ys → AllByRecursion (λ c. conn_with (x ∷ xs) c.number ≡ Some c) ys
found_behind x xs [] less found = tt
found_behind x xs (y ∷ ys) less found =
    (ap (λ (b : Bool). cond b (Some x) (conn_with xs y.number)) (below x.number y.number less.0) ∙ found.0, found_behind x xs ys less.1 found.1)

pub each_found : (conns : List Conn) → AreByNumber conns → AllByRecursion (λ c. conn_with conns c.number ≡ Some c) conns
each_found [] ordered = tt
each_found (x ∷ xs) ordered =
    (ap (λ (b : Bool). cond b (Some x) (conn_with xs x.number)) (eq-eqb x.number x.number refl), found_behind x xs xs ordered.0 (each_found xs ordered.1))

module _ (conf : Configuration) (state : State) (may : MayDiffer) (conns : List Conn) (held : List Held) where
  abbrev left : List Held
  left = standing conf state conns held

  on_one : (w : ℕ) (o q : Option Kept) → q ≡ option_map (places.anew conf state) o → option_map_or (again conf state may) o 0 + (if is_some q then 0 else w) ≤ option_map_or (again conf state may) o w
  on_one w None q is = rw is (omega arith)
  on_one w (Some p) q is = rw is (omega arith)

  counts : (c : Conn) → conn_with conns c.number ≡ Some c → works c ≡ true → own (again conf state may) held c + anew conf state left c ≤ counted_on conf state may held c
  counts c found on =
      let runs : runs_on conns c.number ≡ true = ap (λ (o : Option Conn). option_map_or works o false) found ∙ on in
      on_one (option_map_or (whole conf state) c.dp 0) (plan_for held c.number) (plan_for left c.number)
      (plan_standing conf state conns held c.number ∙ ap (λ (b : Bool). option_map (places.anew conf state) (if b then plan_for held c.number else None)) runs)

  each_counts : (cs : List Conn) → AllByRecursion (λ c. conn_with conns c.number ≡ Some c) cs
      → AllByRecursion (λ c. works c ≡ true → own (again conf state may) held c + anew conf state left c ≤ counted_on conf state may held c) cs
  each_counts [] all = tt
  each_counts (c ∷ cs) all = (counts c all.0, each_counts cs all.1)

  pub all_within : AreByNumber conns → AreApart held
      → all_again conf state may (filter (λ h. runs_on conns h.conn) held) + all_anew conf state conns left ≤ sum_by (counted_on conf state may held) (filter works conns)
  all_within ordered apart =
      let a = kept_within (again conf state may) conns held apart in
      let b = joined (own (again conf state may) held) (anew conf state left) (counted_on conf state may held) conns (each_counts conns (each_found conns ordered)) in
      omega (arith, a, b)

-- ---- one is made anew, and fewer are left

at_most : (b : Bool) (n : ℕ) → (if b then 0 else n) ≤ n
at_most true n = omega arith
at_most false n = omega arith

where_on : (b : Bool) (m n : ℕ) → m ≤ n → (if b then m else 0) ≤ (if b then n else 0)
where_on true m n less = less
where_on false m n less = omega arith

module _ (conf : Configuration) (state : State) (conns : List Conn) (dp : DpId) (c : Conn) (at : conn_of conns dp ≡ Some c) (held : List Held) where
  abbrev more : List Held
  more = held ++ record { conn = c.number; plan = opened conf state dp } ∷ []

  no_more : (x : Conn) → anew conf state more x ≤ anew conf state held x
  no_more x = elim (cases_Bool (is_some (plan_for held x.number))) [
    | inl some ↦
        let none : anew conf state more x ≡ 0 = ap (λ (b : Bool). if b then 0 else option_map_or (whole conf state) x.dp 0) (more_some conf state conns dp c at held x.number some) in
        omega (arith, none)
    | inr none ↦
        let all : anew conf state held x ≡ option_map_or (whole conf state) x.dp 0 = ap (λ (b : Bool). if b then 0 else option_map_or (whole conf state) x.dp 0) none in
        let most = at_most (is_some (plan_for more x.number)) (option_map_or (whole conf state) x.dp 0) in
        omega (arith, all, most)
  ]

  module _ (on : works c ≡ true) (none : plan_for held c.number ≡ None) where
    its_own : anew conf state held c ≡ whole conf state dp
    its_own =
        ap (λ (o : Option Kept). if is_some o then 0 else option_map_or (whole conf state) c.dp 0) none
        ∙ ap (λ (o : Option DpId). option_map_or (whole conf state) o 0) (its_dp conns dp c at)

    none_left : anew conf state more c ≡ 0
    none_left = ap (λ (b : Bool). if b then 0 else option_map_or (whole conf state) c.dp 0) (more_own conf state conns dp c at held)

    fewer : (cs : List Conn) → conn_of cs dp ≡ Some c → all_anew conf state cs more + whole conf state dp ≤ all_anew conf state cs held
    fewer [] is = absurd (cc)
    fewer (x ∷ xs) is =
        let a = first_of (anew conf state more) works x xs in
        let b = first_of (anew conf state held) works x xs in
        elim (cases_Bool (is_of dp x)) [
          | inl here ↦
              let e : Some x ≡ Some c = rw here at is in
              let same : x ≡ c = cc in
              let works_x : works x ≡ true = ap works same ∙ on in
              let gone : (if works x then anew conf state more x else 0) ≡ 0 = ap (λ (t : Bool). if t then anew conf state more x else 0) works_x ∙ ap (anew conf state more) same ∙ none_left in
              let was : (if works x then anew conf state held x else 0) ≡ whole conf state dp = ap (λ (t : Bool). if t then anew conf state held x else 0) works_x ∙ ap (anew conf state held) same ∙ its_own in
              let rest = sum_by-le-sum_by (anew conf state more) (anew conf state held) (filter works xs) no_more in
              omega (arith, a, b, gone, was, rest)
          | inr other ↦
              let rest = fewer xs (rw other at is) in
              let one = where_on (works x) (anew conf state more x) (anew conf state held x) (no_more x) in
              omega (arith, a, b, one, rest)
        ]

    pub fewer_left : all_anew conf state conns more + whole conf state dp ≤ all_anew conf state conns held
    fewer_left = fewer conns at

-- ---- a list of which a part is changed

pub still_at : {A : Type 0} (f : A → A) (xs : List A) (i : ℕ) (d : A) → i < length xs → get_or (map f (take i xs) ++ drop i xs) i d ≡ get_or xs i d
still_at f [] i d within = absurd (omega (arith, within))
still_at f (x ∷ xs) zero d within = refl
still_at f (x ∷ xs) (suc i) d within = still_at f xs i d (omega (arith, within))
