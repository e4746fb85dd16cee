-- What a prefix's field takes.
use Rattle.std.proofs.Common.{◌≡◌, ℕ, ◌-◌, ◌*◌, ◌/◌, ◌%◌, ◌^◌, ◌<◌, ◌≤◌, sym, ap, subst, ◌∙◌, arith}
use Rattle.std.specs.Prelude.{bit_and, ◌↔◌}
use Rattle.std.proofs.Math.Nat.{mul-div_cancel, div-mul-le_self, div-eq_of_lt, mod-eq_of_lt}
use Rattle.std.proofs.lemmas.Nat.{pow_pos}
use Rattle.std.proofs.lemmas.Nat.Bits.{and_high_mask}
use Rattle.net_base.specs.declared.field.FieldId.{FieldId}
use Rattle.net_base.specs.Field.{bits, prefix6}

-- numbers of w bits agree above k bits exactly where they agree under the mask of those bits
pub agree_above : (w k ip net : ℕ) → k ≤ w → ip < 2 ^ w → net < 2 ^ w
    → (ip / 2 ^ k ≡ net / 2 ^ k) ↔ (bit_and ip (2 ^ w - 2 ^ k) ≡ bit_and (net / 2 ^ k * 2 ^ k) (2 ^ w - 2 ^ k))
agree_above w k ip net within ip_fits net_fits =
    let positive : 0 < 2 ^ k = pow_pos k in
    let least = div-mul-le_self net (2 ^ k) in
    let cut : bit_and (net / 2 ^ k * 2 ^ k) (2 ^ w - 2 ^ k) ≡ net / 2 ^ k * 2 ^ k =
    and_high_mask w k within (net / 2 ^ k * 2 ^ k) (omega (arith, least, net_fits)) ∙ ap (λ n. n * 2 ^ k) (mul-div_cancel (net / 2 ^ k) positive) in
    let own = and_high_mask w k within ip ip_fits in (
      λ same. own ∙ ap (λ n. n * 2 ^ k) same ∙ sym cut,
      λ same. sym (mul-div_cancel (ip / 2 ^ k) positive) ∙ ap (λ n. n / 2 ^ k) (sym own ∙ same ∙ cut) ∙ mul-div_cancel (net / 2 ^ k) positive,
    )

-- ---- a prefix of no bits

module _ (len : ℕ) (none : len ≡ 0) where
  pub all_held : (a b : ℕ) → a < 2 ^ 128 → b < 2 ^ 128 → a / 2 ^ (128 - len) ≡ b / 2 ^ (128 - len)
  all_held a b a_fits b_fits = let P : ℕ → Type 0 = λ n. a / 2 ^ (128 - n) ≡ b / 2 ^ (128 - n) in subst P (sym none) (div-eq_of_lt a_fits ∙ sym (div-eq_of_lt b_fits))

  pub all_host_bits : (a : ℕ) → a < 2 ^ 128 → a % 2 ^ (128 - len) ≡ a
  all_host_bits a fits = let P : ℕ → Type 0 = λ n. a % 2 ^ (128 - n) ≡ a in subst P (sym none) (mod-eq_of_lt fits)

  pub no_prefix : (id : FieldId) (ip : ℕ) → ip < 2 ^ 128 → prefix6 id ip len ≡ bits id 0
  no_prefix id ip fits =
      let P : ℕ → Type 0 = λ n. prefix6 id ip n ≡ bits id 0 in
      let nothing : ip / 2 ^ 128 * 2 ^ 128 ≡ 0 = ap (λ n. n * 2 ^ 128) (div-eq_of_lt fits) in
      subst P (sym none) (λ i. record { id = id; value = nothing i; mask = 0 })
