-- When a neighbour that is left alone is asked, and when it is gone.
use Rattle.std.proofs.Common.{◌≡◌, ℕ, zero, suc, ◌+◌, ◌*◌, ◌-◌, ◌<◌, ◌≤◌, ◌==◌, ◌||◌, ◌++◌, inl, inr, Bool, true, false, Option, Some, None, List, [], ◌∷◌, length, map, find, nat_lt, is_some, refl, sym, ap, ◌∙◌, arith, subst, if◌then◌else◌, cond, Contains, get_or}
use Rattle.std.specs.List.{list_any}
use Rattle.std.proofs.lemmas.Bool.{cases_Bool}
use Rattle.std.proofs.lemmas.Bool.Decides.{nat_tests}
use Rattle.std.proofs.lemmas.List.{map-append}
use Rattle.conf_types.specs.declared.address.Ip.{Ip}
use Rattle.conf_types.specs.declared.state.NeighRec.{NeighRec}
use Rattle.conf_types.specs.Configuration.{Configuration}
use Rattle.conf_types.proofs.Found.{all_at}
use Rattle.conf_types.specs.Families.{is_same_ip}
use Rattle.conf_types.specs.Lists.{EachBefore}
use Rattle.conf_types.specs.Routing.{routes_of}
use Rattle.neighbour_resolve.specs.declared.neighbour.Due.{Due}
use Rattle.neighbour_resolve.specs.declared.neighbour.Due.TheVariants.{Ask, Gone}
use Rattle.neighbour_resolve.specs.Due.{asked, asked_on, is_due, is_gateway, last_wait, later, most_tries, never, next, said_of, wait_after}
use Rattle.neighbour_resolve.specs.Runs.{At, IsFirstRun, Runs, all_tries, asked_at, at, every_64_seconds, said_about, tries_after}
use Rattle.neighbour_resolve.specs.Table.{is_same}
use Rattle.neighbour_resolve.proofs.Alone.{here, settled, some_wait, then_is}
use Rattle.neighbour_resolve.proofs.Keys.{AreApart, same_back, same_is, same_self, same_true}

-- what is said in so many moments, and what is left
record Course : Type 0 where
  said : List At
  left : Option NeighRec

abbrev before_course : List At → Course → Course
before_course first course = record { said = first ++ course.said; left = course.left }

module _ (conf : Configuration) where
  abbrev alone : Option NeighRec → (moment count : ℕ) → Course
  alone o moment zero = record { said = []; left = o }
  alone o moment (suc count) = before_course (map (at moment) (here conf moment o)) (alone (then_is conf moment o) (moment + 1) count)

  -- a run says of a neighbour what is said of it alone
  as_alone : (n : NeighRec) (moment : ℕ) (before : List NeighRec) (answers : List (List Due)) (after : List NeighRec) → EachBefore AreApart before → Runs conf n moment before answers after
      → (said_about n moment answers ≡ (alone (find (is_same n) before) moment (length answers)).said) × (find (is_same n) after ≡ (alone (find (is_same n) before) moment (length answers)).left)
  as_alone n moment before [] after apart run = (refl, ap (find (is_same n)) run)
  as_alone n moment before (first ∷ more) after apart run =
      let now = settled conf moment n before first run.0 apart run.2 in
      let then_o = then_is conf moment (find (is_same n) before) in
      let found : find (is_same n) run.1 ≡ then_o = run.3.same ∙ now.1 in
      let rest = as_alone n (moment + 1) run.1 more after run.3.keys run.4 in (
        ap (λ front. map (at moment) front ++ said_about n (moment + 1) more) now.0
            ∙ ap (λ back. map (at moment) (here conf moment (find (is_same n) before)) ++ back) (rest.0 ∙ ap (λ o. (alone o (moment + 1) (length more)).said) found),
        rest.1 ∙ ap (λ o. (alone o (moment + 1) (length more)).left) found,
      )

  -- ---- one by itself

  none_left : (moment count : ℕ) → alone None moment count ≡ record { said = []; left = None }
  none_left moment zero = refl
  none_left moment (suc count) = ap (before_course []) (none_left (moment + 1) count)

  -- before its moment nothing is said
  waits : (n : NeighRec) (k moment count : ℕ) → n.due.0 ≡ moment + k → alone (Some n) moment (k + count) ≡ alone (Some n) n.due.0 count
  waits n zero moment count is = ap (λ m. alone (Some n) m (0 + count)) (omega arith) ∙ ap (alone (Some n) n.due.0) (omega arith)
  waits n (suc k) moment count is =
      let off : is_due moment n ≡ false = grind (arith, nat_tests) in
      let split : suc k + count ≡ suc (k + count) = omega arith in
      ap (alone (Some n) moment) split
      ∙ ap (λ b. before_course (map (at moment) (if b then said_of conf moment n ∷ [] else [])) (alone (if b then next conf moment n else Some n) (moment + 1) (k + count))) off
      ∙ waits n k (moment + 1) count (omega arith)

  -- at it the answer comes
  comes : (n : NeighRec) (count : ℕ) → n.due.0 < never → alone (Some n) n.due.0 (suc count) ≡ before_course (at n.due.0 (said_of conf n.due.0 n) ∷ []) (alone (next conf n.due.0 n) (n.due.0 + 1) count)
  comes n count below =
      let due : is_due n.due.0 n ≡ true = grind (arith, nat_tests) in
      ap (λ b. before_course (map (at n.due.0) (if b then said_of conf n.due.0 n ∷ [] else [])) (alone (if b then next conf n.due.0 n else Some n) (n.due.0 + 1) count)) due

  -- ---- from one try to the next

  step : (n m : NeighRec) (w count : ℕ) → next conf n.due.0 n ≡ Some m → m.due.0 ≡ n.due.0 + suc w → n.due.0 < never
      → alone (Some n) n.due.0 (suc w + count) ≡ before_course (at n.due.0 (Ask n.group n.vid n.ip) ∷ []) (alone (Some m) m.due.0 count)
  step n m w count is due below =
      let split : suc w + count ≡ suc (w + count) = omega arith in
      ap (alone (Some n) n.due.0) split ∙ comes n (w + count) below
      ∙ ap (λ o. before_course (at n.due.0 (if is_some o then Ask n.group n.vid n.ip else Gone n.group n.vid n.ip) ∷ []) (alone o (n.due.0 + 1) (w + count))) is
      ∙ ap (before_course (at n.due.0 (Ask n.group n.vid n.ip) ∷ [])) (waits m w (n.due.0 + 1) count (omega arith))

  later_is : (d wait : ℕ) → d + wait ≤ never → (later d wait).0 ≡ d + wait
  later_is d wait below = omega arith

  next_asked : (n : NeighRec) → n.tries < most_tries → next conf n.due.0 n ≡ Some (asked n.due.0 n)
  next_asked n more =
      let yes : nat_lt n.tries most_tries ≡ true = grind (arith, nat_tests) in
      ap (λ b. if b then Some (asked n.due.0 n) else if is_gateway conf n then Some (asked_on n.due.0 n) else None) yes

  next_last : (n : NeighRec) (b : Bool) → n.tries ≡ most_tries → is_gateway conf n ≡ b → next conf n.due.0 n ≡ (if b then Some (asked_on n.due.0 n) else None)
  next_last n b last is =
      let no : nat_lt n.tries most_tries ≡ false = grind (arith, nat_tests) in
      ap (λ b. if b then Some (asked n.due.0 n) else if is_gateway conf n then Some (asked_on n.due.0 n) else None) no ∙ ap (λ b. if b then Some (asked_on n.due.0 n) else None) is

-- the moments of so many tries, and how long they take
abbrev try_moments : (left tries due : ℕ) → List ℕ
try_moments zero tries due = []
try_moments (suc left) tries due = due ∷ try_moments left (tries + 1) (due + wait_after tries)

abbrev try_time : (left tries : ℕ) → ℕ
try_time zero tries = 0
try_time (suc left) tries = wait_after tries + try_time left (tries + 1)

-- the same neighbour after all its tries
record Tried (n m : NeighRec) (due : ℕ) : Type 0 where
  group : m.group ≡ n.group
  vid : m.vid ≡ n.vid
  ip : m.ip ≡ n.ip
  tries : m.tries ≡ most_tries
  due_is : m.due.0 ≡ due

module _ (conf : Configuration) where
  tens : (left : ℕ) (n : NeighRec) (count : ℕ) → n.tries + left ≡ most_tries → n.due.0 + try_time left n.tries ≤ never
      → (m : NeighRec) × Tried n m (n.due.0 + try_time left n.tries)
      × (alone conf (Some n) n.due.0 (try_time left n.tries + count) ≡ before_course (asked_at n (try_moments left n.tries n.due.0)) (alone conf (Some m) m.due.0 count))
  tens zero n count tries below = (n, record { group = refl; vid = refl; ip = refl; tries = omega arith; due_is = omega arith }, ap (alone conf (Some n) n.due.0) (omega arith))
  tens (suc left) n count tries below =
      let wait = wait_after n.tries in
      let some : 0 < wait = some_wait n.tries in
      let next_n = asked n.due.0 n in
      let due : next_n.due.0 ≡ n.due.0 + wait = later_is conf n.due.0 wait (omega arith) in
      let rest = tens left next_n count (omega arith) (omega arith) in
      let split : wait + try_time left (n.tries + 1) + count ≡ suc (wait - 1) + (try_time left (n.tries + 1) + count) = omega arith in (
        rest.0,
        record { group = rest.1.group; vid = rest.1.vid; ip = rest.1.ip; tries = rest.1.tries; due_is = rest.1.due_is ∙ omega arith },
        ap (alone conf (Some n) n.due.0) split
            ∙ step conf n next_n (wait - 1) (try_time left (n.tries + 1) + count) (next_asked conf n (omega arith)) (omega arith) (omega arith)
            ∙ ap (before_course (at n.due.0 (Ask n.group n.vid n.ip) ∷ [])) (rest.2 ∙ ap (λ d. before_course (asked_at n (try_moments left (n.tries + 1) d)) (alone conf (Some rest.0) rest.0.due.0 count)) due),
      )

  -- ---- after the last try

  rounds : (count : ℕ) (m : NeighRec) → m.tries ≡ most_tries → is_gateway conf m ≡ true → m.due.0 + 64000 * count ≤ never
      → (alone conf (Some m) m.due.0 (64000 * count)).said ≡ asked_at m (every_64_seconds count m.due.0)
  rounds zero m last gateway below = refl
  rounds (suc count) m last gateway below =
      let next_m = asked_on m.due.0 m in
      let due : next_m.due.0 ≡ m.due.0 + last_wait = later_is conf m.due.0 last_wait (omega arith) in
      let split : 64000 * suc count ≡ suc 63999 + 64000 * count = omega arith in
      ap (λ k. (alone conf (Some m) m.due.0 k).said) split
      ∙ ap (λ course. course.said) (step conf m next_m 63999 (64000 * count) (next_last conf m true last gateway) (omega arith) (omega arith))
      ∙ ap (λ back. at m.due.0 (Ask m.group m.vid m.ip) ∷ back) (rounds count next_m last gateway (omega arith) ∙ ap (λ d. asked_at m (every_64_seconds count d)) due)

  given_up : (m : NeighRec) (count : ℕ) → m.tries ≡ most_tries → is_gateway conf m ≡ false → m.due.0 < never
      → alone conf (Some m) m.due.0 (suc count) ≡ record { said = at m.due.0 (Gone m.group m.vid m.ip) ∷ []; left = None }
  given_up m count last off below =
      comes conf m count below
      ∙ ap (λ o. before_course (at m.due.0 (if is_some o then Ask m.group m.vid m.ip else Gone m.group m.vid m.ip) ∷ []) (alone conf o (m.due.0 + 1) count)) (next_last conf m false last off)
      ∙ ap (before_course (at m.due.0 (Gone m.group m.vid m.ip) ∷ [])) (none_left conf (m.due.0 + 1) count)

-- ---- the table of moments

both : {a b : ℕ} {xs ys : List ℕ} → a ≡ b → xs ≡ ys → a ∷ xs ≡ b ∷ ys
both {b = b} {xs = xs} p q = ap (λ x. x ∷ xs) p ∙ ap (λ l. b ∷ l) q

moments_are : (d : ℕ) → try_moments 10 0 d ≡ map (λ ms. d + ms) tries_after
moments_are d =
    both (omega arith) (both (omega arith) (both (omega arith) (both (omega arith) (both (omega arith) (both (omega arith) (both (omega arith) (both (omega arith) (both (omega arith) (both (omega arith) refl)))))))))

-- ---- as the laws have it

same_off : (x n : NeighRec) → AreApart x n → is_same n x ≡ false
same_off x n apart = elim (cases_Bool (is_same n x)) [ inl same ↦ absurd (apart (same_back n x (same_true n x same))) | inr off ↦ off ]

key_found : (n : NeighRec) (ns : List NeighRec) → EachBefore AreApart ns → Contains ns n → find (is_same n) ns ≡ Some n
key_found n ns keys there = at_place ns there.0 keys there.1 there.2 where
  at_place : (ns : List NeighRec) (k : ℕ) → EachBefore AreApart ns → k < length ns → get_or ns k n ≡ n → find (is_same n) ns ≡ Some n
  at_place [] k keys within is = absurd (omega arith)
  at_place (x ∷ more) zero keys within is = ap (λ b. cond b (Some x) (find (is_same n) more)) (ap (is_same n) is ∙ same_is n n (same_self n)) ∙ ap Some is
  at_place (x ∷ more) (suc k) keys within is =
      let apart : AreApart x n = subst (AreApart x) is (all_at (AreApart x) more keys.0 k n (omega arith)) in
      ap (λ b. cond b (Some x) (find (is_same n) more)) (same_off x n apart) ∙ at_place more k keys.1 (omega arith) is

none_any : {A : Type 0} (p : A → Bool) (xs : List A) → find p xs ≡ None → list_any p xs ≡ false
none_any p [] is = refl
none_any p (x ∷ xs) is =
    elim (cases_Bool (p x)) [
      | inl passes ↦ let e : Some x ≡ None = sym (ap (λ b. cond b (Some x) (find p xs)) passes) ∙ is in absurd (cc)
      | inr fails ↦ ap (λ b. b || list_any p xs) fails ∙ none_any p xs (sym (ap (λ b. cond b (Some x) (find p xs)) fails) ∙ is)
    ]

module _ (conf : Configuration) (n : NeighRec) (before : List NeighRec) (answers : List (List Due)) (after : List NeighRec) (first : IsFirstRun conf n before answers after) where
  course : (count : ℕ) → length answers ≡ all_tries + count
      → (m : NeighRec) × Tried n m (n.due.0 + all_tries)
      × (said_about n n.due.0 answers ≡ asked_at n (map (λ ms. n.due.0 + ms) tries_after) ++ (alone conf (Some m) m.due.0 count).said)
      × (find (is_same n) after ≡ (alone conf (Some m) m.due.0 count).left)
  course count long =
      let time : try_time 10 n.tries ≡ all_tries = ap (try_time 10) first.not_asked in
      let ten = tens conf 10 n count (omega (arith, first.not_asked)) (omega (arith, time, long, first.below)) in
      let found : find (is_same n) before ≡ Some n = key_found n before first.keys first.there in
      let single = as_alone conf n n.due.0 before answers after first.keys first.run in
      let whole : alone conf (find (is_same n) before) n.due.0 (length answers) ≡ before_course (asked_at n (map (λ ms. n.due.0 + ms) tries_after)) (alone conf (Some ten.0) ten.0.due.0 count) =
      ap (λ o. alone conf o n.due.0 (length answers)) found ∙ ap (alone conf (Some n) n.due.0) (long ∙ ap (λ t. t + count) (sym time)) ∙ ten.2
      ∙ ap (λ moments. before_course (asked_at n moments) (alone conf (Some ten.0) ten.0.due.0 count)) (ap (λ t. try_moments 10 t n.due.0) first.not_asked ∙ moments_are n.due.0) in
      (ten.0, record { group = ten.1.group; vid = ten.1.vid; ip = ten.1.ip; tries = ten.1.tries; due_is = ten.1.due_is ∙ ap (λ t. n.due.0 + t) time }, single.0 ∙ ap (λ course. course.said) whole, single.1 ∙ ap (λ course. course.left) whole)

  same_gateway : (m : NeighRec) (due : ℕ) → Tried n m due → is_gateway conf m ≡ is_gateway conf n
  same_gateway m due tried = ap (λ vid. list_any (λ route. is_same_ip route.gw m.ip) (routes_of conf vid)) tried.vid ∙ ap (λ (ip : Ip). list_any (λ route. is_same_ip route.gw ip) (routes_of conf n.vid)) tried.ip

  same_ask : (m : NeighRec) (due : ℕ) → Tried n m due → (moments : List ℕ) → asked_at m moments ≡ asked_at n moments
  same_ask m due tried moments = ap (λ group. map (λ moment. at moment (Ask group m.vid m.ip)) moments) tried.group ∙ ap (λ vid. map (λ moment. at moment (Ask n.group vid m.ip)) moments) tried.vid ∙ ap (λ ip. map (λ moment. at moment (Ask n.group n.vid ip)) moments) tried.ip

  pub asked_on_and_on : (count : ℕ) → is_gateway conf n ≡ true → length answers ≡ all_tries + 64000 * count
      → said_about n n.due.0 answers ≡ asked_at n (map (λ ms. n.due.0 + ms) tries_after ++ every_64_seconds count (n.due.0 + all_tries))
  asked_on_and_on count gateway long =
      let c = course (64000 * count) long in
      let m = c.0 in
      let more = rounds conf count m c.1.tries (same_gateway m (n.due.0 + all_tries) c.1 ∙ gateway) (omega (arith, c.1.due_is, long, first.below)) in
      c.2 ∙ ap (λ back. asked_at n (map (λ ms. n.due.0 + ms) tries_after) ++ back)
      (more ∙ same_ask m (n.due.0 + all_tries) c.1 (every_64_seconds count m.due.0) ∙ ap (λ d. asked_at n (every_64_seconds count d)) c.1.due_is)
      ∙ sym (map-append (λ moment. at moment (Ask n.group n.vid n.ip)) (map (λ ms. n.due.0 + ms) tries_after) (every_64_seconds count (n.due.0 + all_tries)))

  same_gone : (m : NeighRec) (due : ℕ) → Tried n m due → at m.due.0 (Gone m.group m.vid m.ip) ≡ at due (Gone n.group n.vid n.ip)
  same_gone m due tried =
      ap (λ d. at d (Gone m.group m.vid m.ip)) tried.due_is ∙ ap (λ group. at due (Gone group m.vid m.ip)) tried.group ∙ ap (λ vid. at due (Gone n.group vid m.ip)) tried.vid ∙ ap (λ ip. at due (Gone n.group n.vid ip)) tried.ip

  pub ten_and_gone : is_gateway conf n ≡ false → all_tries < length answers
      → (said_about n n.due.0 answers ≡ asked_at n (map (λ ms. n.due.0 + ms) tries_after) ++ at (n.due.0 + all_tries) (Gone n.group n.vid n.ip) ∷ []) × (list_any (is_same n) after ≡ false)
  ten_and_gone off long =
      let rest = length answers - 319001 in
      let c = course (suc rest) (omega arith) in
      let m = c.0 in
      let end = given_up conf m rest c.1.tries (same_gateway m (n.due.0 + all_tries) c.1 ∙ off) (omega (arith, c.1.due_is, long, first.below)) in (
        c.2 ∙ ap (λ back. asked_at n (map (λ ms. n.due.0 + ms) tries_after) ++ back) (ap (λ course. course.said) end ∙ ap (λ a. a ∷ []) (same_gone m (n.due.0 + all_tries) c.1)),
        none_any (is_same n) after (c.3 ∙ ap (λ course. course.left) end),
      )
