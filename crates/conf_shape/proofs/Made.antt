-- Networks that are made of an address and a length: the specification cuts a length that is too long, and none is.
use denote.Struct.Props.{props}
use Rattle.std.proofs.Common.{◌≡◌, ◌≤◌, ℕ, Bool, true, false, List, Option, Some, refl, sym, ap, ◌∙◌, subst, eqb-true, eq-eqb}
use Rattle.std.specs.Prelude.{min, ◌==◌, if◌then◌else◌}
use Rattle.std.specs.Option.{option_map}
use Rattle.std.proofs.Math.Nat.{min-eq_left, min-le_right}
use Rattle.net_base.specs.declared.net4.Net4.{Net4}
use Rattle.net_base.specs.declared.net6.Net6.{Net6}
use Rattle.net_base.specs.AddressReading.{net4_of}
use Rattle.net_base.specs.Address6Reading.{net6_of}
use Rattle.conf_types.specs.declared.address.Net.{Net}
use Rattle.conf_types.specs.declared.address.Net.TheVariants as net
use Rattle.conf_shape.specs.Addresses.{net4_with, net6_with, net_in}

same_net4 : (a b : Net4) → a.ip.0 ≡ b.ip.0 → a.len ≡ b.len → a ≡ b
same_net4 a b ip len =
    ap (λ (n : ℕ). record { ip = record { 0 = n }; len = a.len; short = a.short }) ip
    ∙ subst (λ (n : ℕ). (short : n ≤ 32) → ◌≡◌ {A = Net4} (record { ip = b.ip; len = a.len; short = a.short }) (record { ip = b.ip; len = n; short = short })) len
    (λ short. let once : IsProp (a.len ≤ 32) = hlevel props in ap (λ (h : a.len ≤ 32). record { ip = b.ip; len = a.len; short = h }) (once a.short short)) b.short

same_net6 : (a b : Net6) → a.ip.0 ≡ b.ip.0 → a.len ≡ b.len → a ≡ b
same_net6 a b ip len =
    ap (λ (n : ℕ). record { ip = record { 0 = n }; len = a.len; short = a.short }) ip
    ∙ subst (λ (n : ℕ). (short : n ≤ 128) → ◌≡◌ {A = Net6} (record { ip = b.ip; len = a.len; short = a.short }) (record { ip = b.ip; len = n; short = short })) len
    (λ short. let once : IsProp (a.len ≤ 128) = hlevel props in ap (λ (h : a.len ≤ 128). record { ip = b.ip; len = a.len; short = h }) (once a.short short)) b.short

pub made4 : (n : Net4) → net.V4 n ≡ net4_with (n.ip.0, n.len)
made4 n = ap net.V4 (same_net4 n (record { ip = record { 0 = n.ip.0 }; len = min n.len 32; short = min-le_right n.len 32 }) refl (sym (min-eq_left n.short)))

pub made6 : (n : Net6) → net.V6 n ≡ net6_with (n.ip.0, n.len)
made6 n = ap net.V6 (same_net6 n (record { ip = record { 0 = n.ip.0 }; len = min n.len 128; short = min-le_right n.len 128 }) refl (sym (min-eq_left n.short)))

-- what is read of a text, in its family
abbrev read_in : List ℕ → Bool → Option Net
read_in text six = if six then option_map net6_with (net6_of text) else option_map net4_with (net4_of text)

not_six : (width : ℕ) → ¬ (width ≡ 128) → (width == 128) ≡ false
not_six width other = by (width == 128) refl
  where
    by : (is : Bool) → (width == 128) ≡ is → is ≡ false
    by true e = absurd (other (eqb-true width 128 e))
    by false e = refl

pub found6 : (width : ℕ) (text : List ℕ) (n : Net6) → width ≡ 128 → Some (n.ip.0, n.len) ≡ net6_of text → Some (net.V6 n) ≡ net_in width text
found6 width text n six read = ap (λ (m : Net). Some m) (made6 n) ∙ ap (option_map net6_with) read ∙ sym (ap (read_in text) (eq-eqb width 128 six))

pub found4 : (width : ℕ) (text : List ℕ) (n : Net4) → ¬ (width ≡ 128) → Some (n.ip.0, n.len) ≡ net4_of text → Some (net.V4 n) ≡ net_in width text
found4 width text n other read = ap (λ (m : Net). Some m) (made4 n) ∙ ap (option_map net4_with) read ∙ sym (ap (read_in text) (not_six width other))
