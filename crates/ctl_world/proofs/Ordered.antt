-- Connections that stand by number: where one is, and how they go on standing so.
use Rattle.std.proofs.Common.{◌≡◌, ℕ, zero, suc, ◌+◌, ◌<◌, ◌≤◌, ◌==◌, Bool, true, false, cond, not, Option, Some, None, List, [], ◌∷◌, length, get_or, set, drop, filter, position, nat_lt, nat_le, is_some, refl, inl, inr, sym, ap, ◌∙◌, arith, subst, eq-eqb, if◌then◌else◌}
use Rattle.std.specs.List.{AllByRecursion, position_or_len, prefix_len}
use Rattle.std.specs.List.Sorted.{IsNonDecreasingBy, IsPartitionPoint}
use Rattle.std.specs.Option.{option_map_or}
use Rattle.std.proofs.lemmas.Bool.{cases_Bool, cases_lt, eqb-true, ltb-true, ltb-false, lt-ltb, le-ltb, ne_eqb, true≢false, false≢true}
use Rattle.std.proofs.lemmas.Bool.Decides.{nat_tests}
use Rattle.net_base.specs.declared.numbers.DpId.{DpId}
use Rattle.conf_types.proofs.Found.{before_at}
use Rattle.host_learn.proofs.Lists.{all_both, all_map, all_part, before_part, filter_part}
use Rattle.indexmap.specs.IndexMap.{IndexMap}
use Rattle.ctl_world.specs.declared.conns.Conn.{Conn}
use Rattle.ctl_world.specs.Connections.{conn_of, conn_with, has_number, is_of, is_open, put, upper_bound, without}
use Rattle.ctl_world.specs.Firsts.{AreFrom, AreInOrder, AreKept, begins, first_number, is_begun, lower_bound}
use Rattle.ctl_world.proofs.Noted.{begins_later, le_is, same_dp}

abbrev IsUpTo : Conn → Conn → Type 0
IsUpTo c d = c.number ≤ d.number

pub rises : (xs : List Conn) → AreInOrder xs → IsNonDecreasingBy (λ (c : Conn). c.number) xs
rises xs order i j d le within =
    elim (cases_lt i j) [
      | inl less ↦ before_at IsUpTo xs order i j d less within
      | inr more ↦ let same : i ≡ j = omega (arith, le, more) in omega (arith, ap (λ k. (get_or xs k d).number) same)
    ]

-- ---- places found by halving

point : (p : Conn → Bool) (xs : List Conn) (i : ℕ) → i ≤ length xs → IsPartitionPoint (λ c. p c ≡ true) (λ c. p c ≡ false) xs i → i ≡ prefix_len p xs
point p [] i within parts = omega (arith, within)
point p (x ∷ xs) zero within parts =
    let fails : p x ≡ false = parts.1 0 x (omega arith) (omega arith) in sym (ap (λ b. cond b (1 + prefix_len p xs) 0) fails)
point p (x ∷ xs) (suc i) within parts =
    let passes : p x ≡ true = parts.0 0 x (omega arith) (omega arith) in
    let rest : i ≡ prefix_len p xs =
    point p xs i (omega (arith, within)) ((λ k d low high. parts.0 (suc k) d (omega arith) (omega (arith, high))), (λ k d low high. parts.1 (suc k) d (omega (arith, low)) (omega (arith, high)))) in
    omega (arith, rest, ap (λ b. cond b (1 + prefix_len p xs) 0) passes)

pub lower_is : (number : ℕ) (xs : List Conn) (i : ℕ) → i ≤ length xs → IsPartitionPoint (λ (c : Conn). nat_lt c.number number ≡ true) (λ (c : Conn). nat_lt c.number number ≡ false) xs i → i ≡ lower_bound number xs
lower_is number = point (λ c. nat_lt c.number number)

upper_front : (number : ℕ) (xs : List Conn) → prefix_len (λ (c : Conn). nat_le c.number number) xs ≡ upper_bound number xs
upper_front number [] = refl
upper_front number (x ∷ xs) =
    let front : ℕ = prefix_len (λ (c : Conn). nat_le c.number number) xs in
    let flips : nat_le x.number number ≡ not (nat_lt number x.number) = grind (arith, nat_tests) in
    ap (λ b. cond b (1 + front) 0) flips
    ∙ elim (nat_lt number x.number) as (λ b. cond (not b) (1 + front) 0 ≡ (if b then 0 else suc (upper_bound number xs))) [
      | true ↦ refl
      | false ↦ omega (arith, upper_front number xs)
    ]

pub upper_is : (number : ℕ) (xs : List Conn) (i : ℕ) → i ≤ length xs → IsPartitionPoint (λ (c : Conn). nat_le c.number number ≡ true) (λ (c : Conn). nat_le c.number number ≡ false) xs i → i ≡ upper_bound number xs
upper_is number xs i within parts = point (λ c. nat_le c.number number) xs i within parts ∙ upper_front number xs

module _ (number : ℕ) where
  below_off : (c : Conn) → nat_lt c.number number ≡ true → has_number number c ≡ false
  below_off c less = ne_eqb c.number number (λ same. omega (arith, same, ltb-true c.number number less))

  placed_len : (xs : List Conn) → (i : ℕ) (d : Conn) → i ≡ lower_bound number xs → i < length xs → (get_or xs i d).number ≡ number → position_or_len (has_number number) xs ≡ i
  placed_len [] i d is within here = absurd (omega (arith, within))
  placed_len (x ∷ xs) i d is within here =
      elim (cases_Bool (nat_lt x.number number)) [
        | inl less ↦
            let rest : ℕ = lower_bound number xs in
            let next : i ≡ suc rest = omega (arith, is, ap (λ b. cond b (1 + rest) 0) less) in
            let later : position_or_len (has_number number) xs ≡ rest = placed_len xs rest d refl (omega (arith, within, next)) (subst (λ k. (get_or (x ∷ xs) k d).number ≡ number) next here) in
            omega (arith, next, later, ap (λ b. cond (not b) (1 + position_or_len (has_number number) xs) 0) (below_off x less))
        | inr more ↦
            let front : i ≡ 0 = is ∙ ap (λ b. cond b (1 + lower_bound number xs) 0) more in
            let own : x.number ≡ number = subst (λ k. (get_or (x ∷ xs) k d).number ≡ number) front here in
            ap (λ b. cond (not b) (1 + position_or_len (has_number number) xs) 0) (eq-eqb x.number number own) ∙ sym front
      ]

  above_off : (xs : List Conn) → AllByRecursion (λ (c : Conn). number < c.number) xs → length xs ≤ position_or_len (has_number number) xs
  above_off [] above = omega arith
  above_off (x ∷ xs) above =
      let off : has_number number x ≡ false = ne_eqb x.number number (λ same. omega (arith, same, above.0)) in
      omega (arith, above_off xs above.1, ap (λ b. cond (not b) (1 + position_or_len (has_number number) xs) 0) off)

  unplaced_len : (xs : List Conn) → AreInOrder xs → (i : ℕ) (d : Conn) → i ≡ lower_bound number xs → (i < length xs → (get_or xs i d).number ≡ number → ⊥) → length xs ≤ position_or_len (has_number number) xs
  unplaced_len [] order i d is off = omega arith
  unplaced_len (x ∷ xs) order i d is off =
      elim (cases_Bool (nat_lt x.number number)) [
        | inl less ↦
            let rest : ℕ = lower_bound number xs in
            let next : i ≡ suc rest = omega (arith, is, ap (λ b. cond b (1 + rest) 0) less) in
            let later = unplaced_len xs order.1 rest d refl (λ within own. off (omega (arith, within, next)) (subst (λ k. (get_or (x ∷ xs) k d).number ≡ number) (sym next) own)) in
            omega (arith, later, ap (λ b. cond (not b) (1 + position_or_len (has_number number) xs) 0) (below_off x less))
        | inr more ↦
            let front : i ≡ 0 = is ∙ ap (λ b. cond b (1 + lower_bound number xs) 0) more in
            let other : x.number ≡ number → ⊥ = λ own. off (omega (arith, front)) (subst (λ k. (get_or (x ∷ xs) k d).number ≡ number) (sym front) own) in
            let above : number < x.number =
            elim (cases_lt number x.number) [ inl less ↦ less | inr no_less ↦ absurd (other (omega (arith, no_less, ltb-false x.number number more))) ] in
            let behind : AllByRecursion (λ (c : Conn). number < c.number) xs = all_map (IsUpTo x) (λ (c : Conn). number < c.number) (λ c le. omega (arith, le, above)) xs order.0 in
            omega (arith, above_off xs behind, ap (λ b. cond (not b) (1 + position_or_len (has_number number) xs) 0) (ne_eqb x.number number other))
      ]

  pub placed : (xs : List Conn) (i : ℕ) (d : Conn) → i ≡ lower_bound number xs → i < length xs → (get_or xs i d).number ≡ number → Some i ≡ position (has_number number) xs
  placed xs i d is within here =
      let at = placed_len xs i d is within here in
      let there : nat_lt (position_or_len (has_number number) xs) (length xs) ≡ true = lt-ltb (position_or_len (has_number number) xs) (length xs) (omega (arith, at, within)) in
      ap Some (sym at) ∙ sym (ap (λ b. cond b (Some (position_or_len (has_number number) xs)) None) there)

  pub unplaced : (xs : List Conn) → AreInOrder xs → (i : ℕ) (d : Conn) → i ≡ lower_bound number xs → (i < length xs → (get_or xs i d).number ≡ number → ⊥) → None ≡ position (has_number number) xs
  unplaced xs order i d is off =
      let past = unplaced_len xs order i d is off in
      let none : nat_lt (position_or_len (has_number number) xs) (length xs) ≡ false = le-ltb (position_or_len (has_number number) xs) (length xs) past in
      sym (ap (λ b. cond b (Some (position_or_len (has_number number) xs)) None) none)

  pub unplaced_past : (xs : List Conn) → AreInOrder xs → (i : ℕ) → i ≡ lower_bound number xs → length xs ≤ i → None ≡ position (has_number number) xs
  unplaced_past [] order i is past = refl
  unplaced_past (x ∷ xs) order i is past = unplaced (x ∷ xs) order i x is (λ within own. absurd (omega (arith, past, within)))

  -- ---- what is open, and what is taken out

  pub open_found : (xs : List Conn) → is_some (conn_with xs number) ≡ is_open xs number
  open_found [] = refl
  open_found (x ∷ xs) =
      elim (cases_Bool (has_number number x)) [
        | inl here ↦ rw here refl
        | inr other ↦ rw other (open_found xs)
      ]

  pub without_none : (xs : List Conn) → conn_with xs number ≡ None → without number xs ≡ xs
  without_none [] none = refl
  without_none (x ∷ xs) none =
      elim (cases_Bool (has_number number x)) [
        | inl here ↦ let e = rw here at none in absurd (cc)
        | inr other ↦ rw other (ap (λ cs. x ∷ cs) (without_none xs (rw other at none)))
      ]

-- ---- one is put in, changed or taken out

put_all : (P : Conn → Type 0) (c : Conn) (xs : List Conn) → P c → AllByRecursion P xs → AllByRecursion P (put c xs)
put_all P c [] one all = (one, tt)
put_all P c (x ∷ xs) one all =
    elim (nat_lt c.number x.number) as (λ b. AllByRecursion P (if b then c ∷ x ∷ xs else x ∷ put c xs)) [
      | true ↦ (one, all)
      | false ↦ (all.0, put_all P c xs one all.1)
    ]

put_order : (c : Conn) (xs : List Conn) → AreInOrder xs → AreInOrder (put c xs)
put_order c [] order = (tt, tt)
put_order c (x ∷ xs) order =
    elim (cases_Bool (nat_lt c.number x.number)) [
      | inl less ↦
          let le : IsUpTo c x = omega (arith, ltb-true c.number x.number less) in
          subst (λ b. AreInOrder (if b then c ∷ x ∷ xs else x ∷ put c xs)) (sym less)
          ((le, all_map (IsUpTo x) (IsUpTo c) (λ d more. omega (arith, le, more)) xs order.0), order)
      | inr more ↦
          subst (λ b. AreInOrder (if b then c ∷ x ∷ xs else x ∷ put c xs)) (sym more)
          (put_all (IsUpTo x) c xs (ltb-false c.number x.number more) order.0, put_order c xs order.1)
    ]

set_all : (P : Conn → Type 0) (xs : List Conn) (i : ℕ) (y d : Conn) → (P (get_or xs i d) → P y) → AllByRecursion P xs → AllByRecursion P (set xs i y)
set_all P [] i y d so all = tt
set_all P (x ∷ xs) zero y d so all = (so all.0, all.1)
set_all P (x ∷ xs) (suc i) y d so all = (all.0, set_all P xs i y d so all.1)

set_order : (xs : List Conn) (i : ℕ) (y d : Conn) → y.number ≡ (get_or xs i d).number → AreInOrder xs → AreInOrder (set xs i y)
set_order [] i y d same order = tt
set_order (x ∷ xs) zero y d same order = (all_map (IsUpTo x) (IsUpTo y) (λ c le. omega (arith, same, le)) xs order.0, order.1)
set_order (x ∷ xs) (suc i) y d same order = (set_all (IsUpTo x) xs i y d (λ le. omega (arith, le, same)) order.0, set_order xs i y d same order.1)

abbrev pub Numbers : Type 0 → Type 0
Numbers S = Option (IndexMap DpId ℕ S)

module _ {S : Type 0} where
  abbrev pub IsBegun : Numbers S → Conn → Type 0
  IsBegun firsts c = is_begun firsts c ≡ true

  -- a connection that changes but keeps its number and its datapath
  pub set_kept : (xs : List Conn) (i : ℕ) (y d : Conn) (firsts : Numbers S) → y.number ≡ (get_or xs i d).number → y.dp ≡ (get_or xs i d).dp → AreKept xs firsts → AreKept (set xs i y) firsts
  set_kept xs i y d firsts number dp kept =
      let alike : is_begun firsts y ≡ is_begun firsts (get_or xs i d) = λ k. option_map_or (λ id. begins firsts id (number k)) (dp k) true in
      record { order = set_order xs i y d number kept.order; begun = set_all (IsBegun firsts) xs i y d (λ is. alike ∙ is) kept.begun }

  module _ (old new : Numbers S) where
    begun_more : ((d : DpId) (n : ℕ) → begins old d n ≡ true → begins new d n ≡ true) → (c : Conn) → IsBegun old c → IsBegun new c
    begun_more keeps c is = at c.dp is where
      at : (o : Option DpId) → option_map_or (λ id. begins old id c.number) o true ≡ true → option_map_or (λ id. begins new id c.number) o true ≡ true
      at None is = is
      at (Some id) is = keeps id c.number is

    pub put_kept : (c : Conn) (xs : List Conn) → ((d : DpId) (n : ℕ) → begins old d n ≡ true → begins new d n ≡ true) → IsBegun new c → AreKept xs old → AreKept (put c xs) new
    put_kept c xs keeps one kept =
        record { order = put_order c xs kept.order; begun = put_all (IsBegun new) c xs one (all_map (IsBegun old) (IsBegun new) (begun_more keeps) xs kept.begun) }

    -- one that gets a datapath
    pub set_begun : (xs : List Conn) (i : ℕ) (y d : Conn) → y.number ≡ (get_or xs i d).number → ((d : DpId) (n : ℕ) → begins old d n ≡ true → begins new d n ≡ true) → IsBegun new y → AreKept xs old → AreKept (set xs i y) new
    set_begun xs i y d number keeps one kept = record {
      order = set_order xs i y d number kept.order;
      begun = set_all (IsBegun new) xs i y d (λ is. one) (all_map (IsBegun old) (IsBegun new) (begun_more keeps) xs kept.begun);
    }

    -- ---- a datapath's number is found anew

    module _ (dp : DpId) (others : (d : DpId) (n : ℕ) → (dp.0 == d.0) ≡ false → begins old d n ≡ true → begins new d n ≡ true) where
      anew_one : (m : ℕ) → begins new dp m ≡ true → (n : ℕ) (o : Option DpId) → option_map_or (λ id. begins old id n) o true ≡ true → (option_map_or (λ (d : DpId). d.0 == dp.0) o false ≡ true → m ≤ n)
          → option_map_or (λ id. begins new id n) o true ≡ true
      anew_one m noted n None is from = is
      anew_one m noted n (Some id) is from =
          elim (cases_Bool (dp.0 == id.0)) [
            | inl same ↦
                let it = same_dp dp id same in
                let own : (id.0 == dp.0) ≡ true = eq-eqb id.0 dp.0 (sym (eqb-true dp.0 id.0 same)) in
                ap (λ k. begins new k n) (sym it) ∙ begins_later new dp m n (from own) noted
            | inr other ↦ others id n other is
          ]

      none_of : (xs : List Conn) → conn_of xs dp ≡ None → AllByRecursion (λ c. is_of dp c ≡ false) xs
      none_of [] none = tt
      none_of (x ∷ xs) none =
          elim (cases_Bool (is_of dp x)) [
            | inl here ↦ let e = rw here at none in absurd (cc)
            | inr other ↦ (other, none_of xs (rw other at none))
          ]

      least_of : (xs : List Conn) (first : Conn) → AreInOrder xs → conn_of xs dp ≡ Some first → AreFrom dp first.number xs
      least_of [] first order is = tt
      least_of (x ∷ xs) first order is =
          elim (cases_Bool (is_of dp x)) [
            | inl here ↦
                let e : Some x ≡ Some first = rw here at is in
                let same : x ≡ first = cc in
                let number : x.number ≡ first.number = ap (λ (c : Conn). c.number) same in
                ((λ own. omega (arith, number)), all_map (IsUpTo x) (λ (c : Conn). is_of dp c ≡ true → first.number ≤ c.number) (λ c le own. omega (arith, le, number)) xs order.0)
            | inr other ↦ ((λ own. absurd (true≢false (sym own ∙ other))), least_of xs first order.1 (rw other at is))
          ]

      pub anew_found : (xs : List Conn) (first : Conn) → AreInOrder xs → conn_of xs dp ≡ Some first → begins new dp first.number ≡ true → AllByRecursion (IsBegun old) xs → AllByRecursion (IsBegun new) xs
      anew_found xs first order is noted begun =
          let From : Conn → Type 0 = λ c. is_of dp c ≡ true → first.number ≤ c.number in
          all_map (λ c. IsBegun old c × From c) (IsBegun new) (λ c both. anew_one first.number noted c.number c.dp both.0 both.1) xs (all_both (IsBegun old) From xs begun (least_of xs first order is))

      none_one : (n : ℕ) (o : Option DpId) → option_map_or (λ id. begins old id n) o true ≡ true → option_map_or (λ (d : DpId). d.0 == dp.0) o false ≡ false → option_map_or (λ id. begins new id n) o true ≡ true
      none_one n None is off = is
      none_one n (Some id) is off = others id n (ne_eqb dp.0 id.0 (λ same. true≢false (sym (eq-eqb id.0 dp.0 (sym same)) ∙ off))) is

      pub anew_none : (xs : List Conn) → conn_of xs dp ≡ None → AllByRecursion (IsBegun old) xs → AllByRecursion (IsBegun new) xs
      anew_none xs none begun =
          let Off : Conn → Type 0 = λ c. is_of dp c ≡ false in
          all_map (λ c. IsBegun old c × Off c) (IsBegun new) (λ c both. none_one c.number c.dp both.0 both.1) xs (all_both (IsBegun old) Off xs begun (none_of xs none))

  module _ (firsts : Numbers S) where
    pub part_kept : (p : Conn → Bool) (xs : List Conn) → AreKept xs firsts → AreKept (filter p xs) firsts
    part_kept p xs kept = record {
      order = before_part IsUpTo (filter p xs) xs kept.order (filter_part p xs);
      begun = all_part (IsBegun firsts) (filter p xs) xs kept.begun (filter_part p xs);
    }

    -- ---- a datapath's connection

    module _ (dp : DpId) where
      at_first : (id : DpId) → (id.0 == dp.0) ≡ true → first_number firsts id ≡ first_number firsts dp
      at_first id own = ap (first_number firsts) (same_dp id dp own)

      pub from_first : (number : ℕ) → Some number ≡ first_number firsts dp → (xs : List Conn) → AllByRecursion (IsBegun firsts) xs → AreFrom dp number xs
      from_first number is xs begun = all_map (IsBegun firsts) (λ (c : Conn). is_of dp c ≡ true → number ≤ c.number) (λ c. one c.number c.dp) xs begun where
        one : (n : ℕ) (o : Option DpId) → option_map_or (λ id. begins firsts id n) o true ≡ true → option_map_or (λ (d : DpId). d.0 == dp.0) o false ≡ true → number ≤ n
        one n None begun own = absurd (false≢true own)
        one n (Some id) begun own = le_is number n (ap (λ f. option_map_or (λ m. nat_le m n) f false) (is ∙ sym (at_first id own)) ∙ begun)

      pub none_first : None ≡ first_number firsts dp → (xs : List Conn) → AllByRecursion (IsBegun firsts) xs → conn_of xs dp ≡ None
      none_first is [] begun = refl
      none_first is (x ∷ xs) begun =
          let off : is_of dp x ≡ false = one x.number x.dp begun.0 in
          ap (λ b. cond b (Some x) (conn_of xs dp)) off ∙ none_first is xs begun.1
        where
          one : (n : ℕ) (o : Option DpId) → option_map_or (λ id. begins firsts id n) o true ≡ true → option_map_or (λ (d : DpId). d.0 == dp.0) o false ≡ false
          one n None begun = refl
          one n (Some id) begun =
              elim (cases_Bool (id.0 == dp.0)) [
                | inl own ↦ absurd (false≢true (ap (λ f. option_map_or (λ m. nat_le m n) f false) (is ∙ sym (at_first id own)) ∙ begun))
                | inr other ↦ other
              ]

module _ (dp : DpId) (number : ℕ) where
  passed : (x : Conn) (xs : List Conn) → (is_of dp x ≡ true → number ≤ x.number) → conn_of (drop (lower_bound number xs) xs) dp ≡ conn_of xs dp → (b : Bool) → nat_lt x.number number ≡ b
      → conn_of (drop (cond b (1 + lower_bound number xs) 0) (x ∷ xs)) dp ≡ conn_of (x ∷ xs) dp
  passed x xs from rest false more = refl
  passed x xs from rest true less =
      let off : is_of dp x ≡ false = elim (cases_Bool (is_of dp x)) [ inl own ↦ absurd (omega (arith, from own, ltb-true x.number number less)) | inr other ↦ other ] in
      let more : 1 + lower_bound number xs ≡ suc (lower_bound number xs) = omega arith in
      ap (λ n. conn_of (drop n (x ∷ xs)) dp) more ∙ rest ∙ sym (ap (λ b. cond b (Some x) (conn_of xs dp)) off)

  pub from_bound : (xs : List Conn) → AreFrom dp number xs → conn_of (drop (lower_bound number xs) xs) dp ≡ conn_of xs dp
  from_bound [] from = refl
  from_bound (x ∷ xs) from = passed x xs from.0 (from_bound xs from.1) (nat_lt x.number number) refl
