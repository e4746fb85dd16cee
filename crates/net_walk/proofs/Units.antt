-- The units of datapaths whose cold start isn't kept yet.
use Rattle.std.proofs.Common.{◌≡◌, ℕ, ◌+◌, ◌≤◌, ◌==◌, Bool, true, false, cond, Option, Some, None, List, [], ◌∷◌, ◌++◌, ◌*◌, find, length, is_some, refl, inl, inr, ap, ◌∙◌, arith}
use Rattle.std.specs.Prelude.{Result, Ok, Err, OnErr, sum_by}
use Rattle.std.specs.Option.{option_map_or}
use Rattle.std.proofs.lemmas.Bool.{cases_Bool, eq-eqb, eqb-true}
use Rattle.std.proofs.lemmas.List.Sums.{sum_by-cons}
use Rattle.net_base.specs.declared.numbers.DpId.{DpId}
use Rattle.conf_types.specs.declared.datapath.Dp.{Dp}
use Rattle.conf_types.specs.Configuration.{Configuration, dp_with}
use Rattle.conf_types.specs.State.{State}
use Rattle.cold_start.specs.Cold.{units_of, units_at}
use Rattle.net_walk.specs.declared.kept.Kept.{Kept}
use Rattle.net_walk.specs.Kept.{is_of, all_units, units_ahead, units_left}

-- what is found stays found behind one more
still_found : (id : DpId) (kept : List Kept) (one : Kept) → is_some (find (is_of id) kept) ≡ true → is_some (find (is_of id) (kept ++ one ∷ [])) ≡ true
still_found id [] one found = absurd cc
still_found id (k ∷ kept) one found = by (is_of id k) found (still_found id kept one)
  where
    by : (b : Bool) → is_some (cond b (Some k) (find (is_of id) kept)) ≡ true → (is_some (find (is_of id) kept) ≡ true → is_some (find (is_of id) (kept ++ one ∷ [])) ≡ true)
        → is_some (cond b (Some k) (find (is_of id) (kept ++ one ∷ []))) ≡ true
    by true found more = refl
    by false found more = more found

-- and one more is found by its own datapath
now_found : (id : DpId) (kept : List Kept) (one : Kept) → is_of id one ≡ true → is_some (find (is_of id) (kept ++ one ∷ [])) ≡ true
now_found id [] one same = rw same refl
now_found id (k ∷ kept) one same = by (is_of id k) (now_found id kept one same)
  where
    by : (b : Bool) → is_some (find (is_of id) (kept ++ one ∷ [])) ≡ true → is_some (cond b (Some k) (find (is_of id) (kept ++ one ∷ []))) ≡ true
    by true more = refl
    by false more = more

module _ (conf : Configuration) (now : State) (kept : List Kept) (one : Kept) (absent : find (is_of one.dp) kept ≡ None) where
  abbrev more : List Kept
  more = kept ++ one ∷ []

  abbrev sum : List Kept → List Dp → ℕ
  sum ks ds = sum_by (units_ahead conf now ks) ds

  no_more : (d : Dp) → units_ahead conf now more d ≤ units_ahead conf now kept d
  no_more d = elim (cases_Bool (is_some (find (is_of d.id) kept))) [
    | inl found ↦ rw (still_found d.id kept one found) (omega arith)
    | inr lost ↦ rw lost (at_most (is_some (find (is_of d.id) more)) (length (units_of conf now d)))
  ]
    where
      at_most : (b : Bool) (n : ℕ) → cond b 0 n ≤ n
      at_most true n = omega arith
      at_most false n = omega arith

  none_more : (ds : List Dp) → sum more ds ≤ sum kept ds
  none_more [] = omega arith
  none_more (d ∷ ds) =
      let here = no_more d in
      let rest = none_more ds in
      let a = sum_by-cons (units_ahead conf now more) d ds in
      let b = sum_by-cons (units_ahead conf now kept) d ds in
      omega (arith, here, rest, a, b)

  -- its own datapath's units are no longer ahead
  made_of : (ds : List Dp) → sum more ds + option_map_or (λ (d : Dp). length (units_of conf now d)) (dp_with ds one.dp) 0 ≤ sum kept ds
  made_of [] = omega arith
  made_of (d ∷ ds) =
      let a = sum_by-cons (units_ahead conf now more) d ds in
      let b = sum_by-cons (units_ahead conf now kept) d ds in
      elim (cases_Bool (d.id.0 == one.dp.0)) [
        | inl same ↦
            let made : ℕ → DpId = λ n. record { 0 = n } in
            let ids : d.id ≡ one.dp = ap made (eqb-true d.id.0 one.dp.0 same) in
            let gone : units_ahead conf now more d ≡ 0 = ap (λ b. cond b 0 (length (units_of conf now d))) (now_found d.id kept one (ap (λ (x : DpId). one.dp.0 == x.0) ids ∙ itself one.dp.0)) in
            let whole : units_ahead conf now kept d ≡ length (units_of conf now d) = ap (λ (x : DpId). cond (is_some (find (is_of x) kept)) 0 (length (units_of conf now d))) ids ∙ ap (λ o. cond (is_some o) 0 (length (units_of conf now d))) absent in
            let rest = none_more ds in
            rw same (omega (arith, a, b, gone, whole, rest))
        | inr other ↦
            let here = no_more d in
            let rest = made_of ds in
            rw other (omega (arith, a, b, here, rest))
      ]
    where
      itself : (n : ℕ) → (n == n) ≡ true
      itself n = eq-eqb n n refl

  pub made_units : units_left conf now more + length (units_at conf now one.dp) ≤ units_left conf now kept
  unfolding units_left
  made_units = let all = made_of conf.dps in let same = moved (dp_with conf.dps one.dp) in omega (arith, all, same)
    where
      moved : (o : Option Dp) → length (option_map_or (units_of conf now) o []) ≡ option_map_or (λ (d : Dp). length (units_of conf now d)) o 0
      moved None = refl
      moved (Some d) = refl

-- where nothing is kept, all are ahead
pub all_left : (conf : Configuration) (now : State) → units_left conf now [] ≡ all_units conf now
unfolding units_left
all_left conf now = refl

-- ---- counts of units, where a cold start is made

pub on_err : {A E : Type 0} {P : Type 0} (r : Result A E) → P → OnErr r P
on_err (Ok x) p = tt
on_err (Err e) p = p

module _ (conf : Configuration) (now : State) (kept : List Kept) (id : DpId) (absent : find (is_of id) kept ≡ None) (before after : ℕ) (most : after ≤ before + 3 * length (units_at conf now id)) where
  pub made_within : after ≤ before + 3 * units_left conf now kept
  made_within =
      let one : Kept = record { dp = id; tables = [] } in
      let made = made_units conf now kept one absent in
      omega (arith, most, made)

  pub made_leaves : (one : Kept) → one.dp ≡ id → (others : List Kept) → others ≡ kept ++ one ∷ [] → after + 3 * units_left conf now others ≤ before + 3 * units_left conf now kept
  made_leaves one same others are =
      let made = made_units conf now kept one (ap (λ x. find (is_of x) kept) same ∙ absent) in
      let number : length (units_at conf now one.dp) ≡ length (units_at conf now id) = ap (λ x. length (units_at conf now x)) same in
      let left : units_left conf now others ≡ units_left conf now (kept ++ one ∷ []) = ap (units_left conf now) are in
      omega (arith, most, made, number, left)

-- where a walk began with nothing kept
pub begun_within : (conf : Configuration) (now : State) (before after n : ℕ) → n ≡ units_left conf now [] → after ≤ before + 3 * n → after ≤ before + 3 * all_units conf now
begun_within conf now before after n is most = let all = all_left conf now in omega (arith, is, most, all)

pub ended_within : (conf : Configuration) (now : State) (before after left n : ℕ) → n ≡ units_left conf now [] → after + 3 * left ≤ before + 3 * n → after ≤ before + 3 * all_units conf now
ended_within conf now before after left n is most = let all = all_left conf now in omega (arith, is, most, all)
