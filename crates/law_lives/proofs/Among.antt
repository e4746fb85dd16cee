-- Which hosts are among those of a list: behind another list, of a part, and behind one that is learned.
use Rattle.std.proofs.Common.{◌≡◌, ℕ, ◌==◌, ◌&&◌, ◌||◌, ◌++◌, Bool, true, false, cond, not, List, [], ◌∷◌, filter, map, inl, inr, refl, sym, ap, ◌∙◌, subst, eq-eqb, true≢false, if◌then◌else◌}
use Rattle.std.specs.Prelude.{◌⊎◌, ◌↔◌}
use Rattle.std.specs.List.{AllByRecursion, list_any}
use Rattle.std.proofs.lemmas.Bool.{and_from, and_parts, cases_Bool, eqb-true}
use Rattle.net_base.specs.declared.numbers.DpId.{DpId}
use Rattle.conf_types.specs.declared.state.HostRec.{HostRec}
use Rattle.conf_types.specs.Configuration.{Configuration}
use Rattle.conf_types.specs.Groups.{group_of}
use Rattle.conf_types.specs.Lists.{EachBefore, is_same}
use Rattle.conf_types.specs.State.{IsSameHost}
use Rattle.host_learn.specs.Learning.{is_heard, is_in_place, is_known, moved, refreshed, stands_there}
use Rattle.law_checks.proofs.Orders.{same_texts}
use Rattle.law_lives.specs.Hosts.{IsAmong}

-- ---- behind another list, and of a part

pub among_both : (h : HostRec) (xs ys : List HostRec) → IsAmong h (xs ++ ys) → IsAmong h xs ⊎ IsAmong h ys
among_both h [] ys is = inr is
among_both h (x ∷ xs) ys is =
    elim is [
      | inl here ↦ inl (inl here)
      | inr later ↦ elim (among_both h xs ys later) [ inl first ↦ inl (inr first) | inr second ↦ inr second ]
    ]

pub among_first : (h : HostRec) (xs ys : List HostRec) → IsAmong h xs → IsAmong h (xs ++ ys)
among_first h [] ys is = absurd is
among_first h (x ∷ xs) ys is = elim is [ inl here ↦ inl here | inr later ↦ inr (among_first h xs ys later) ]

pub among_second : (h : HostRec) (xs ys : List HostRec) → IsAmong h ys → IsAmong h (xs ++ ys)
among_second h [] ys is = is
among_second h (x ∷ xs) ys is = inr (among_second h xs ys is)

module _ (p : HostRec → Bool) where
  pub among_part : (h : HostRec) (xs : List HostRec) → IsAmong h (filter p xs) → IsAmong h xs × (p h ≡ true)
  among_part h [] is = absurd is
  among_part h (x ∷ xs) is =
      elim (cases_Bool (p x)) [
        | inl passes ↦
            let there : (x ≡ h) ⊎ IsAmong h (filter p xs) = subst (λ b. IsAmong h (cond b (x ∷ filter p xs) (filter p xs))) passes is in
            elim there [
              | inl here ↦ (inl here, subst (λ k. p k ≡ true) here passes)
              | inr later ↦ let rest = among_part h xs later in (inr rest.0, rest.1)
            ]
        | inr fails ↦ let rest = among_part h xs (subst (λ b. IsAmong h (cond b (x ∷ filter p xs) (filter p xs))) fails is) in (inr rest.0, rest.1)
      ]

  pub part_among : (h : HostRec) (xs : List HostRec) → IsAmong h xs → p h ≡ true → IsAmong h (filter p xs)
  part_among h [] is passes = absurd is
  part_among h (x ∷ xs) is passes =
      elim is [
        | inl here ↦ subst (λ b. IsAmong h (cond b (x ∷ filter p xs) (filter p xs))) (sym (ap p here ∙ passes)) (inl here)
        | inr later ↦ more (p x) (part_among h xs later passes)
      ]
    where
      more : (b : Bool) → IsAmong h (filter p xs) → IsAmong h (cond b (x ∷ filter p xs) (filter p xs))
      more true there = inr there
      more false there = there

pub of_all : (P : HostRec → Type 0) (h : HostRec) (xs : List HostRec) → AllByRecursion P xs → IsAmong h xs → P h
of_all P h [] all is = absurd is
of_all P h (x ∷ xs) all is = elim is [ inl here ↦ subst P here all.0 | inr later ↦ of_all P h xs all.1 later ]

none_true : (p : HostRec → Bool) (h : HostRec) (xs : List HostRec) → list_any p xs ≡ false → IsAmong h xs → p h ≡ false
none_true p h [] none is = absurd is
none_true p h (x ∷ xs) none is =
    elim is [
      | inl here ↦ subst (λ k. p k ≡ false) here (first (p x) (list_any p xs) none)
      | inr later ↦ none_true p h xs (second (p x) (list_any p xs) none) later
    ]
  where
    first : (a b : Bool) → (a || b) ≡ false → a ≡ false
    first true b e = absurd (true≢false e)
    first false b e = refl

    second : (a b : Bool) → (a || b) ≡ false → b ≡ false
    second true b e = absurd (true≢false e)
    second false b e = e

pub not_true : (b : Bool) → not b ≡ true → b ≡ false
not_true true is = absurd (true≢false (sym is))
not_true false is = refl

pub true_not : (b : Bool) → b ≡ false → not b ≡ true
true_not true is = absurd (true≢false is)
true_not false is = refl

-- ---- behind one that is learned

module _ (conf : Configuration) (l : HostRec) (hosts : List HostRec) where
  abbrev pub IsAnew : List HostRec → Type 0
  IsAnew next = (h : HostRec) → IsAmong h next ↔ ((l ≡ h) ⊎ (IsAmong h hosts × (is_heard conf l h ≡ false)))

  pub learned_anew : is_known conf hosts l ≡ false → IsAnew (hosts ++ l ∷ [])
  learned_anew new h = (
    λ is. elim (among_both h hosts (l ∷ []) is) [
      | inl first ↦ inr (first, none_true (is_heard conf l) h hosts new first)
      | inr second ↦ elim second [ inl here ↦ inl here | inr none ↦ absurd none ]
    ],
    λ is. elim is [
      | inl here ↦ among_second h hosts (l ∷ []) (inl here)
      | inr there ↦ among_first h hosts (l ∷ []) there.0
    ],
  )

  pub moved_anew : IsAnew (moved conf l hosts)
  moved_anew h =
      let left : List HostRec = filter (λ host. not (is_heard conf l host)) hosts in (
        λ is. elim (among_both h left (l ∷ []) is) [
          | inl first ↦ let part = among_part (λ host. not (is_heard conf l host)) h hosts first in inr (part.0, not_true (is_heard conf l h) part.1)
          | inr second ↦ elim second [ inl here ↦ inl here | inr none ↦ absurd none ]
        ],
        λ is. elim is [
          | inl here ↦ among_second h left (l ∷ []) (inl here)
          | inr there ↦ among_first h left (l ∷ []) (part_among (λ host. not (is_heard conf l host)) h hosts there.0 (true_not (is_heard conf l h) there.1))
        ],
      )

  -- ---- at its own place

  abbrev at_place : HostRec → HostRec
  at_place host = if is_in_place l host then record host { learned = l.learned } else host

  record Place (host : HostRec) : Type 0 where
    dp : host.dp ≡ l.dp
    port : host.port ≡ l.port
    vid : host.vid ≡ l.vid
    mac : host.mac.0 ≡ l.mac.0

  place_of : (host : HostRec) → is_in_place l host ≡ true → Place host
  place_of host is =
      let whole = and_parts ((host.dp.0 == l.dp.0 && host.port == l.port) && host.vid == l.vid) (is_same host.mac.0 l.mac.0) is in
      let place = and_parts (host.dp.0 == l.dp.0 && host.port == l.port) (host.vid == l.vid) whole.0 in
      let port = and_parts (host.dp.0 == l.dp.0) (host.port == l.port) place.0 in
      let dp : host.dp.0 ≡ l.dp.0 = eqb-true host.dp.0 l.dp.0 port.0 in
      record { dp = λ i. record { 0 = dp i }; port = eqb-true host.port l.port port.1; vid = eqb-true host.vid l.vid place.1; mac = same_texts host.mac.0 l.mac.0 whole.1 }

  put_in_place : (host : HostRec) → is_in_place l host ≡ true → at_place host ≡ l
  put_in_place host is =
      let at = place_of host is in
      ap (λ (b : Bool). if b then record host { learned = l.learned } else host) is
      ∙ (λ i. record { dp = at.dp i; port = at.port i; vid = at.vid i; mac = record { 0 = at.mac i }; learned = l.learned })

  -- what stands at its place is the one
  place_heard : (host : HostRec) → is_in_place l host ≡ true → is_heard conf l host ≡ true
  place_heard host is =
      let whole = and_parts ((host.dp.0 == l.dp.0 && host.port == l.port) && host.vid == l.vid) (is_same host.mac.0 l.mac.0) is in
      let place = and_parts (host.dp.0 == l.dp.0 && host.port == l.port) (host.vid == l.vid) whole.0 in
      let group : ((group_of conf host.dp).0 == (group_of conf l.dp).0) ≡ true =
      eq-eqb (group_of conf host.dp).0 (group_of conf l.dp).0 (ap (λ (d : DpId). (group_of conf d).0) (place_of host is).dp) in
      and_from ((group_of conf host.dp).0 == (group_of conf l.dp).0 && host.vid == l.vid) (is_same host.mac.0 l.mac.0) (and_from ((group_of conf host.dp).0 == (group_of conf l.dp).0) (host.vid == l.vid) group place.1) whole.1

  same_host : (a b : HostRec) → is_heard conf l a ≡ true → is_heard conf l b ≡ true → IsSameHost conf a b
  same_host a b of_a of_b =
      let one = and_parts ((group_of conf a.dp).0 == (group_of conf l.dp).0 && a.vid == l.vid) (is_same a.mac.0 l.mac.0) of_a in
      let two = and_parts ((group_of conf b.dp).0 == (group_of conf l.dp).0 && b.vid == l.vid) (is_same b.mac.0 l.mac.0) of_b in
      let at_one = and_parts ((group_of conf a.dp).0 == (group_of conf l.dp).0) (a.vid == l.vid) one.0 in
      let at_two = and_parts ((group_of conf b.dp).0 == (group_of conf l.dp).0) (b.vid == l.vid) two.0 in
      record {
        groups = eqb-true (group_of conf a.dp).0 (group_of conf l.dp).0 at_one.0 ∙ sym (eqb-true (group_of conf b.dp).0 (group_of conf l.dp).0 at_two.0);
        vlans = eqb-true a.vid l.vid at_one.1 ∙ sym (eqb-true b.vid l.vid at_two.1);
        macs = same_texts a.mac.0 l.mac.0 one.1 ∙ sym (same_texts b.mac.0 l.mac.0 two.1);
      }

  abbrev AreApart : List HostRec → Type 0
  AreApart xs = EachBefore (λ a b. IsSameHost conf a b → ⊥) xs

  -- where one stands at its place, no other is the one
  only_place : (xs : List HostRec) → AreApart xs → list_any (is_in_place l) xs ≡ true → AllByRecursion (λ host. is_heard conf l host ≡ true → is_in_place l host ≡ true) xs
  only_place [] apart some = tt
  only_place (x ∷ xs) apart some =
      elim (cases_Bool (is_in_place l x)) [
        | inl here ↦ (λ heard. here, others x xs (place_heard x here) apart.0)
        | inr other ↦
            let later : list_any (is_in_place l) xs ≡ true = sym (ap (λ b. b || list_any (is_in_place l) xs) other) ∙ some in
            (λ heard. absurd (not_that x xs heard apart.0 later), only_place xs apart.1 later)
      ]
    where
      others : (a : HostRec) (ys : List HostRec) → is_heard conf l a ≡ true → AllByRecursion (λ b. IsSameHost conf a b → ⊥) ys → AllByRecursion (λ host. is_heard conf l host ≡ true → is_in_place l host ≡ true) ys
      others a [] of_a differ = tt
      others a (y ∷ ys) of_a differ = (λ of_y. absurd (differ.0 (same_host a y of_a of_y)), others a ys of_a differ.1)

      not_that : (a : HostRec) (ys : List HostRec) → is_heard conf l a ≡ true → AllByRecursion (λ b. IsSameHost conf a b → ⊥) ys → list_any (is_in_place l) ys ≡ true → ⊥
      not_that a [] of_a differ any = true≢false (sym any)
      not_that a (y ∷ ys) of_a differ any =
          elim (cases_Bool (is_in_place l y)) [
            | inl here ↦ differ.0 (same_host a y of_a (place_heard y here))
            | inr off ↦ not_that a ys of_a differ.1 (sym (ap (λ b. b || list_any (is_in_place l) ys) off) ∙ any)
          ]

  -- a host of the list behind is the one, or was there and stands elsewhere
  from_refreshed : (h : HostRec) (xs : List HostRec) → IsAmong h (map at_place xs) → (l ≡ h) ⊎ (IsAmong h xs × (is_in_place l h ≡ false))
  from_refreshed h [] is = absurd is
  from_refreshed h (x ∷ xs) is =
      elim is [
        | inl here ↦ elim (cases_Bool (is_in_place l x)) [
          | inl there ↦ inl (sym (put_in_place x there) ∙ here)
          | inr other ↦
              let same : x ≡ h = sym (ap (λ (b : Bool). if b then record x { learned = l.learned } else x) other) ∙ here in
              inr (inl same, subst (λ k. is_in_place l k ≡ false) same other)
        ]
        | inr later ↦ elim (from_refreshed h xs later) [ inl it ↦ inl it | inr there ↦ inr (inr there.0, there.1) ]
      ]

  refreshed_there : (xs : List HostRec) → list_any (is_in_place l) xs ≡ true → IsAmong l (map at_place xs)
  refreshed_there [] some = absurd (true≢false (sym some))
  refreshed_there (x ∷ xs) some =
      elim (cases_Bool (is_in_place l x)) [
        | inl here ↦ inl (put_in_place x here)
        | inr other ↦ inr (refreshed_there xs (sym (ap (λ b. b || list_any (is_in_place l) xs) other) ∙ some))
      ]

  left_there : (h : HostRec) (xs : List HostRec) → IsAmong h xs → is_in_place l h ≡ false → IsAmong h (map at_place xs)
  left_there h [] is off = absurd is
  left_there h (x ∷ xs) is off =
      elim is [
        | inl here ↦ inl (ap (λ (b : Bool). if b then record x { learned = l.learned } else x) (ap (is_in_place l) here ∙ off) ∙ here)
        | inr later ↦ inr (left_there h xs later off)
      ]

  off_place : (h : HostRec) → is_heard conf l h ≡ false → is_in_place l h ≡ false
  off_place h off =
      elim (cases_Bool (is_in_place l h)) [ inl here ↦ absurd (true≢false (sym (place_heard h here) ∙ off)) | inr other ↦ other ]

  pub refreshed_anew : AreApart hosts → stands_there hosts l ≡ true → IsAnew (refreshed l hosts)
  refreshed_anew apart there h = (
    λ is. elim (from_refreshed h hosts is) [
      | inl it ↦ inl it
      | inr was ↦ inr (was.0, unheard was.0 was.1)
    ],
    λ is. elim is [
      | inl here ↦ subst (λ k. IsAmong k (refreshed l hosts)) here (refreshed_there hosts there)
      | inr was ↦ left_there h hosts was.0 (off_place h was.1)
    ],
  )
    where
      unheard : IsAmong h hosts → is_in_place l h ≡ false → is_heard conf l h ≡ false
      unheard among off =
          elim (cases_Bool (is_heard conf l h)) [
            | inl heard ↦ absurd (true≢false (sym (of_all (λ host. is_heard conf l host ≡ true → is_in_place l host ≡ true) h hosts (only_place hosts apart there) among heard) ∙ off))
            | inr other ↦ other
          ]
