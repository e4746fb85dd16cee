-- Changes of one connection among all.
use Rattle.std.proofs.Common.{◌≡◌, ℕ, ◌==◌, true, false, cond, Some, List, [], ◌∷◌, inl, inr, refl, sym, ap, ◌∙◌, arith, if◌then◌else◌}
use Rattle.std.specs.Option.{option_map_or}
use Rattle.std.proofs.lemmas.Bool.{cases_Bool, eqb-true}
use Rattle.std.proofs.lemmas.Bool.Decides.{nat_tests}
use Rattle.net_base.specs.declared.numbers.DpId.{DpId}
use Rattle.ctl_world.specs.declared.conns.Conn.{Conn}
use Rattle.ctl_world.specs.Connections.{change, conn_of, has_number, is_of, without}
use Rattle.ctl_world.proofs.Places.{unchanged}
use Rattle.ctl_world.proofs.Numbered.{without_own}

-- ---- two changes

pub change_twice : (f g : Conn → Conn) → ((c : Conn) → (g c).number ≡ c.number) → (number : ℕ) (conns : List Conn) → change number f (change number g conns) ≡ change number (λ c. f (g c)) conns
change_twice f g same number [] = refl
change_twice f g same number (x ∷ xs) =
    elim (cases_Bool (has_number number x)) [
      | inl here ↦ let there : has_number number (g x) ≡ true = ap (λ n. n == number) (same x) ∙ here in rw (here, there) refl
      | inr other ↦ rw (other, other) (ap (λ cs. x ∷ cs) (change_twice f g same number xs))
    ]

module _ (f g : Conn → Conn) (f_same : (c : Conn) → (f c).number ≡ c.number) (g_same : (c : Conn) → (g c).number ≡ c.number) (either : (c : Conn) → f (g c) ≡ g (f c)) where
  pub change_both : (m n : ℕ) (conns : List Conn) → change n f (change m g conns) ≡ change m g (change n f conns)
  change_both m n [] = refl
  change_both m n (x ∷ xs) =
      let of_f : has_number m (f x) ≡ has_number m x = ap (λ k. k == m) (f_same x) in
      let of_g : has_number n (g x) ≡ has_number n x = ap (λ k. k == n) (g_same x) in
      elim (cases_Bool (has_number n x)) [
        | inl n_here ↦ elim (cases_Bool (has_number m x)) [
          | inl m_here ↦ rw (m_here, n_here, of_g, n_here, of_f, m_here) (ap (λ c. c ∷ xs) (either x))
          | inr m_other ↦ rw (m_other, n_here, of_f, m_other) refl
        ]
        | inr n_other ↦ elim (cases_Bool (has_number m x)) [
          | inl m_here ↦ rw (m_here, n_other, m_here, of_g, n_other) refl
          | inr m_other ↦ rw (m_other, n_other, m_other) (ap (λ cs. x ∷ cs) (change_both m n xs))
        ]
      ]

-- ---- what is found behind a change

module _ (f : Conn → Conn) (same : (c : Conn) → (f c).number ≡ c.number) (number : ℕ) where
  pub of_seen : ((c : Conn) → (f c).dp ≡ c.dp) → {A : Type 0} (g : Conn → A) → ((c : Conn) → g (f c) ≡ g c) → (id : DpId) (conns : List Conn) (none : A)
      → option_map_or g (conn_of (change number f conns) id) none ≡ option_map_or g (conn_of conns id) none
  of_seen dps g sees id [] none = refl
  of_seen dps g sees id (c ∷ cs) none =
      elim (has_number number c) as (λ b. option_map_or g (conn_of (if b then f c ∷ cs else c ∷ change number f cs) id) none ≡ option_map_or g (conn_of (c ∷ cs) id) none) [
        | true ↦ ap (λ o. option_map_or g (cond (option_map_or (λ (d : DpId). d.0 == id.0) o false) (Some (f c)) (conn_of cs id)) none) (dps c)
            ∙ elim (is_of id c) as (λ b. option_map_or g (cond b (Some (f c)) (conn_of cs id)) none ≡ option_map_or g (cond b (Some c) (conn_of cs id)) none) [ true ↦ sees c | false ↦ refl ]
        | false ↦ elim (is_of id c) as (λ b. option_map_or g (cond b (Some c) (conn_of (change number f cs) id)) none ≡ option_map_or g (cond b (Some c) (conn_of cs id)) none) [
          | true ↦ refl
          | false ↦ of_seen dps g sees id cs none
        ]
      ]

  -- ---- one goes

  pub without_changed : (conns : List Conn) → without number (change number f conns) ≡ without number conns
  without_changed [] = refl
  without_changed (x ∷ xs) =
      elim (cases_Bool (has_number number x)) [
        | inl here ↦ let there : has_number number (f x) ≡ true = ap (λ n. n == number) (same x) ∙ here in rw (here, there) refl
        | inr other ↦ rw (other, other) (ap (λ cs. x ∷ cs) (without_changed xs))
      ]

  without_apart : (n : ℕ) (conns : List Conn) → (n == number) ≡ false → without n (change number f conns) ≡ change number f (without n conns)
  without_apart n [] apart = refl
  without_apart n (x ∷ xs) apart =
      elim (cases_Bool (has_number number x)) [
        | inl here ↦
            let stays : has_number n x ≡ false = grind (arith, nat_tests) in
            let stays_changed : has_number n (f x) ≡ false = ap (λ k. k == n) (same x) ∙ stays in
            rw (here, stays_changed, stays, here) refl
        | inr other ↦ elim (cases_Bool (has_number n x)) [
          | inl gone ↦ rw (other, gone) (without_apart n xs apart)
          | inr stays ↦ rw (other, stays, other) (ap (λ cs. x ∷ cs) (without_apart n xs apart))
        ]
      ]

  pub without_any : (n : ℕ) (conns : List Conn) → without n (change number f conns) ≡ change number f (without n conns)
  without_any n conns =
      elim (cases_Bool (n == number)) [
        | inl it ↦
            let e : n ≡ number = eqb-true n number it in
            ap (λ k. without k (change number f conns)) e ∙ without_changed conns ∙ sym (unchanged number f (without number conns) (without_own number conns))
            ∙ ap (λ k. change number f (without k conns)) (sym e)
        | inr apart ↦ without_apart n conns apart
      ]
