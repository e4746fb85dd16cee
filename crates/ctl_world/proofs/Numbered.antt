-- What connection has a number, where one is changed, goes or comes.
use Rattle.std.proofs.Common.{◌≡◌, ℕ, ◌==◌, true, false, cond, not, nat_lt, Option, Some, None, List, [], ◌∷◌, inl, inr, refl, sym, ap, ◌∙◌, eq-eqb, true≢false, if◌then◌else◌}
use Rattle.std.specs.Option.{option_map, option_map_or}
use Rattle.std.proofs.lemmas.Bool.{cases_Bool, eqb-true}
use Rattle.net_base.specs.declared.numbers.DpId.{DpId}
use Rattle.ctl_world.specs.declared.conns.Conn.{Conn}
use Rattle.ctl_world.specs.Connections.{change, conn_of, conn_with, has_number, is_of, is_open, put, without}

pub apart : (a b : ℕ) → (a ≡ b → ⊥) → (a == b) ≡ false
apart a b differs = elim (cases_Bool (a == b)) [ inl same ↦ absurd (differs (eqb-true a b same)) | inr other ↦ other ]

pub unlike : (a b : ℕ) → (a == b) ≡ false → a ≡ b → ⊥
unlike a b off is = true≢false (sym (eq-eqb a b is) ∙ off)

pub has_it : (number : ℕ) (conns : List Conn) (c : Conn) → conn_with conns number ≡ Some c → c.number ≡ number
has_it number [] c is = absurd (cc)
has_it number (x ∷ xs) c is =
    elim (cases_Bool (has_number number x)) [
      | inl here ↦ let e : Some x ≡ Some c = rw here at is in let same : x ≡ c = cc in ap (λ (d : Conn). d.number) (sym same) ∙ eqb-true x.number number here
      | inr other ↦ has_it number xs c (rw other at is)
    ]

-- ---- one is changed

pub change_same : (f g : Conn → Conn) (number : ℕ) (conns : List Conn) → ((c : Conn) → conn_with conns number ≡ Some c → f c ≡ g c) → change number f conns ≡ change number g conns
change_same f g number [] same = refl
change_same f g number (x ∷ xs) same =
    elim (cases_Bool (has_number number x)) [
      | inl here ↦ let it : conn_with (x ∷ xs) number ≡ Some x = rw here refl in rw here (ap (λ c. c ∷ xs) (same x it))
      | inr other ↦
          let rest : (c : Conn) → conn_with xs number ≡ Some c → f c ≡ g c = λ c some. same c (rw other some) in
          rw other (ap (λ cs. x ∷ cs) (change_same f g number xs rest))
    ]

pub change_id : (number : ℕ) (conns : List Conn) → change number (λ c. c) conns ≡ conns
change_id number [] = refl
change_id number (x ∷ xs) =
    elim (has_number number x) as (λ b. (if b then x ∷ xs else x ∷ change number (λ c. c) xs) ≡ x ∷ xs) [
      | true ↦ refl
      | false ↦ ap (λ cs. x ∷ cs) (change_id number xs)
    ]

pub change_kept : (f : Conn → Conn) (number : ℕ) (conns : List Conn) → ((c : Conn) → conn_with conns number ≡ Some c → f c ≡ c) → change number f conns ≡ conns
change_kept f number conns kept = change_same f (λ c. c) number conns kept ∙ change_id number conns

module _ (f : Conn → Conn) (same : (c : Conn) → (f c).number ≡ c.number) (number : ℕ) where
  pub changed_own : (conns : List Conn) → conn_with (change number f conns) number ≡ option_map f (conn_with conns number)
  changed_own [] = refl
  changed_own (x ∷ xs) =
      elim (cases_Bool (has_number number x)) [
        | inl here ↦ let there : has_number number (f x) ≡ true = ap (λ n. n == number) (same x) ∙ here in rw (here, there) refl
        | inr other ↦ rw (other, other) (changed_own xs)
      ]

  pub with_seen : {A : Type 0} (g : Conn → A) → ((c : Conn) → g (f c) ≡ g c) → (n : ℕ) (conns : List Conn) (none : A)
      → option_map_or g (conn_with (change number f conns) n) none ≡ option_map_or g (conn_with conns n) none
  with_seen g sees n [] none = refl
  with_seen g sees n (c ∷ cs) none =
      elim (has_number number c) as (λ b. option_map_or g (conn_with (if b then f c ∷ cs else c ∷ change number f cs) n) none ≡ option_map_or g (conn_with (c ∷ cs) n) none) [
        | true ↦ ap (λ k. option_map_or g (cond (k == n) (Some (f c)) (conn_with cs n)) none) (same c)
            ∙ elim (has_number n c) as (λ b. option_map_or g (cond b (Some (f c)) (conn_with cs n)) none ≡ option_map_or g (cond b (Some c) (conn_with cs n)) none) [ true ↦ sees c | false ↦ refl ]
        | false ↦ elim (has_number n c) as (λ b. option_map_or g (cond b (Some c) (conn_with (change number f cs) n)) none ≡ option_map_or g (cond b (Some c) (conn_with cs n)) none) [
          | true ↦ refl
          | false ↦ with_seen g sees n cs none
        ]
      ]

  pub changed_other : (n : ℕ) → (n ≡ number → ⊥) → (conns : List Conn) → conn_with (change number f conns) n ≡ conn_with conns n
  changed_other n differs [] = refl
  changed_other n differs (x ∷ xs) =
      elim (cases_Bool (has_number number x)) [
        | inl here ↦
            let own : x.number ≡ number = eqb-true x.number number here in
            let off : has_number n x ≡ false = apart x.number n (λ is. differs (sym is ∙ own)) in
            let passed : has_number n (f x) ≡ false = ap (λ (k : ℕ). k == n) (same x) ∙ off in
            ap (λ b. conn_with (if b then f x ∷ xs else x ∷ change number f xs) n) here ∙ ap (λ b. cond b (Some (f x)) (conn_with xs n)) passed
            ∙ ap (λ b. cond b (Some x) (conn_with xs n)) (sym off)
        | inr other ↦
            ap (λ b. conn_with (if b then f x ∷ xs else x ∷ change number f xs) n) other ∙ ap (cond (has_number n x) (Some x)) (changed_other n differs xs)
      ]

-- ---- one goes

pub without_own : (number : ℕ) (conns : List Conn) → conn_with (without number conns) number ≡ None
without_own number [] = refl
without_own number (x ∷ xs) =
    elim (cases_Bool (has_number number x)) [
      | inl here ↦ rw here (without_own number xs)
      | inr other ↦ rw (other, other) (without_own number xs)
    ]

pub without_other : (number n : ℕ) → (n ≡ number → ⊥) → (conns : List Conn) → conn_with (without number conns) n ≡ conn_with conns n
without_other number n differs [] = refl
without_other number n differs (x ∷ xs) =
    elim (cases_Bool (has_number number x)) [
      | inl here ↦
          let own : x.number ≡ number = eqb-true x.number number here in
          let off : has_number n x ≡ false = apart x.number n (λ is. differs (sym is ∙ own)) in
          ap (λ b. conn_with (cond (not b) (x ∷ without number xs) (without number xs)) n) here ∙ without_other number n differs xs
          ∙ ap (λ b. cond b (Some x) (conn_with xs n)) (sym off)
      | inr other ↦
          ap (λ b. conn_with (cond (not b) (x ∷ without number xs) (without number xs)) n) other
          ∙ ap (cond (has_number n x) (Some x)) (without_other number n differs xs)
    ]

-- ---- one comes

pub shut_none : (number : ℕ) (conns : List Conn) → is_open conns number ≡ false → conn_with conns number ≡ None
shut_none number [] shut = refl
shut_none number (x ∷ xs) shut =
    elim (cases_Bool (has_number number x)) [
      | inl here ↦ let e = rw here at shut in absurd (cc)
      | inr other ↦ rw other (shut_none number xs (rw other at shut))
    ]

pub put_own : (c : Conn) (conns : List Conn) → conn_with conns c.number ≡ None → conn_with (put c conns) c.number ≡ Some c
put_own c [] none = ap (λ b. cond b (Some c) None) (eq-eqb c.number c.number refl)
put_own c (d ∷ ds) none =
    let it : has_number c.number c ≡ true = eq-eqb c.number c.number refl in
    elim (cases_Bool (has_number c.number d)) [
      | inl here ↦ let e = rw here at none in absurd (cc)
      | inr other ↦ elim (nat_lt c.number d.number) as (λ b. conn_with (if b then c ∷ d ∷ ds else d ∷ put c ds) c.number ≡ Some c) [
        | true ↦ ap (λ b. cond b (Some c) (conn_with (d ∷ ds) c.number)) it
        | false ↦ ap (λ b. cond b (Some d) (conn_with (put c ds) c.number)) other ∙ put_own c ds (rw other at none)
      ]
    ]

pub put_other : (c : Conn) (n : ℕ) → (n ≡ c.number → ⊥) → (conns : List Conn) → conn_with (put c conns) n ≡ conn_with conns n
put_other c n differs [] = ap (λ b. cond b (Some c) None) (apart c.number n (λ is. differs (sym is)))
put_other c n differs (d ∷ ds) =
    elim (nat_lt c.number d.number) as (λ b. conn_with (if b then c ∷ d ∷ ds else d ∷ put c ds) n ≡ conn_with (d ∷ ds) n) [
      | true ↦ ap (λ b. cond b (Some c) (conn_with (d ∷ ds) n)) (apart c.number n (λ is. differs (sym is)))
      | false ↦ ap (cond (has_number n d) (Some d)) (put_other c n differs ds)
    ]

-- ---- the connection of a datapath

pub is_its : (conns : List Conn) (dp : DpId) (c : Conn) → conn_of conns dp ≡ Some c → is_of dp c ≡ true
is_its [] dp c some = absurd (cc)
is_its (x ∷ xs) dp c some =
    elim (cases_Bool (is_of dp x)) [
      | inl here ↦ let e : Some x ≡ Some c = rw here at some in let same : x ≡ c = cc in ap (is_of dp) (sym same) ∙ here
      | inr other ↦ is_its xs dp c (rw other at some)
    ]

named : (o : Option DpId) (dp id : DpId) → option_map_or (λ (k : DpId). k.0 == dp.0) o false ≡ true → option_map_or (λ (k : DpId). k.0 == id.0) o false ≡ true → id ≡ dp
named None dp id a b = absurd (true≢false (sym a))
named (Some k) dp id a b = let e : id.0 ≡ dp.0 = sym (eqb-true k.0 id.0 b) ∙ eqb-true k.0 dp.0 a in λ i. record { 0 = e i }

pub one_of : (c : Conn) (dp id : DpId) → is_of dp c ≡ true → is_of id c ≡ true → id ≡ dp
one_of c dp id a b = named c.dp dp id a b
