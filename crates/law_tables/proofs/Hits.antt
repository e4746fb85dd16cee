-- What a match and its fields take.
use Rattle.std.proofs.Common.{◌≡◌, ℕ, ◌-◌, ◌/◌, ◌%◌, ◌^◌, ◌<◌, ◌==◌, ◌&&◌, Bool, true, false, List, [], ◌∷◌, Some, refl, sym, ◌∙◌, eqb-true, eq-eqb, true≢false, arith}
use Rattle.std.specs.Prelude.{Contains, bit_and, ◌↔◌}
use Rattle.std.specs.List.{AllByRecursion}
use Rattle.std.proofs.lemmas.Bool.{and_parts}
use Rattle.net_base.proofs.Prefixes.{agree_above}
use Rattle.net_base.specs.declared.field.Field.{Field}
use Rattle.net_base.specs.declared.field.FieldId.{FieldId}
use Rattle.net_base.specs.Field.{prefix_in}
use Rattle.of_match.specs.declared.packet.Packet.{Packet}
use Rattle.of_match.specs.Hit.{agrees, hits, value_of}
use Rattle.law_runs.specs.Members.{of_all}

-- a match hits exactly where each of its fields agrees
abbrev pub Agree : List Field → ℕ → Packet → Type 0
Agree fields port p = AllByRecursion (λ f. agrees f (value_of f.id port p) ≡ true) fields

pub each_agrees : (fields : List Field) (port : ℕ) (p : Packet) → hits fields port p ≡ true → Agree fields port p
each_agrees [] port p h = tt
each_agrees (f ∷ fields) port p h =
    let parts = and_parts (agrees f (value_of f.id port p)) (hits fields port p) h in
    (parts.0, each_agrees fields port p parts.1)

pub hits_where : (fields : List Field) (port : ℕ) (p : Packet) → Agree fields port p → hits fields port p ≡ true
hits_where [] port p all = refl
hits_where (f ∷ fields) port p all = rw all.0 (hits_where fields port p all.1)

-- a field of the match that disagrees
pub not_hit : {P : Type 0} (fields : List Field) (port : ℕ) (p : Packet) (f : Field) → Contains fields f → agrees f (value_of f.id port p) ≡ false → hits fields port p ≡ true → P
not_hit fields port p f c is h = absurd (true≢false (sym (of_all (λ f. agrees f (value_of f.id port p) ≡ true) fields (each_agrees fields port p h) f c) ∙ is))

-- of a match of two fields, or of three, each agrees
pub two : (a b : Bool) → (a && (b && true)) ≡ true → (a ≡ true) × (b ≡ true)
two a b is = let x = and_parts a (b && true) is in (x.0, (and_parts b true x.1).0)

pub three : (a b c : Bool) → (a && (b && (c && true))) ≡ true → (a ≡ true) × (b ≡ true) × (c ≡ true)
three a b c is = let x = and_parts a (b && (c && true)) is in let y = two b c x.1 in (x.0, y.0, y.1)

-- a prefix of so many bits takes the addresses that have its bits
pub in_prefix : (width : ℕ) (id : FieldId) (ip net len : ℕ) → ip < 2 ^ width → net < 2 ^ width → agrees (prefix_in width id net len) (Some ip) ≡ (ip / 2 ^ (width - len) == net / 2 ^ (width - len))
in_prefix width id ip net len ip_fits net_fits = by (bit_and ip f.mask == bit_and f.value f.mask) (ip / 2 ^ (width - len) == net / 2 ^ (width - len)) refl refl
  where
    f : Field
    f = prefix_in width id net len

    both : (ip / 2 ^ (width - len) ≡ net / 2 ^ (width - len)) ↔ (bit_and ip f.mask ≡ bit_and f.value f.mask)
    both = agree_above width (width - len) ip net (omega arith) ip_fits net_fits

    by : (x y : Bool) → (bit_and ip f.mask == bit_and f.value f.mask) ≡ x → (ip / 2 ^ (width - len) == net / 2 ^ (width - len)) ≡ y → x ≡ y
    by true true ex ey = refl
    by false false ex ey = refl
    by true false ex ey = sym (eq-eqb (ip / 2 ^ (width - len)) (net / 2 ^ (width - len)) (both.1 (eqb-true (bit_and ip f.mask) (bit_and f.value f.mask) ex))) ∙ ey
    by false true ex ey = sym (sym (eq-eqb (bit_and ip f.mask) (bit_and f.value f.mask) (both.0 (eqb-true (ip / 2 ^ (width - len)) (net / 2 ^ (width - len)) ey))) ∙ ex)
