-- Prefixes as numbers, of any width.
use Rattle.std.proofs.Common.{◌≡◌, ℕ, ◌+◌, ◌-◌, ◌*◌, ◌/◌, ◌%◌, ◌^◌, ◌<◌, ◌≤◌, ◌==◌, Bool, true, false, cond, Some, None, refl, sym, ap, ◌∙◌, arith}
use Rattle.std.specs.Prelude.{min}
use Rattle.std.proofs.Math.Nat.{div-one, mod-eq-sub-div-mul, div-mul-le_self}
use Rattle.std.proofs.lemmas.Bool.{eqb-true, eqb-false}
use Rattle.net_base.specs.declared.field.Field.{Field}
use Rattle.conf_types.specs.declared.address.Ip.{Ip}
use Rattle.conf_types.specs.declared.address.Net.{Net}
use Rattle.conf_types.specs.declared.address.Net.TheVariants.{V4, V6}
use Rattle.conf_types.specs.declared.family.Family.{Family}
use Rattle.conf_types.specs.Families.{family_of, ip_value, width_of, address_of, len_of, host_bits}
use Rattle.conf_types.specs.Networks.{Holds, HasNoHostBits}
use Rattle.conf_types.specs.Valid.{IsVip}
use Rattle.conf_types.proofs.Families.{coarser, one_ip}
use Rattle.packet_way.specs.declared.routes.RouteItem.{RouteItem}
use Rattle.plan_base.specs.Fields.{ip_dst}
use Rattle.route_compile.specs.Prefixes.{bits_behind, SamePrefix}

pub turned : (a b : RouteItem) → SamePrefix a b → SamePrefix b a
turned a b same = record { family = sym same.family; len = sym same.len; bits = sym same.bits }

same_behind : (a b : RouteItem) → SamePrefix a b → bits_behind b ≡ bits_behind a
same_behind a b same =
    let w : width_of a.ip ≡ width_of b.ip = ap (λ (f : Family). f.width) same.family in
    let e : a.len ≡ b.len = same.len in
    omega (arith, w, e)

-- what lies in a network, lies there with every address of its prefix
pub held_along : (vip : Net) (a b : RouteItem) → len_of vip ≤ a.len → Holds vip a.ip → SamePrefix a b → Holds vip b.ip
held_along vip a b shorter held same =
    let w : width_of a.ip ≡ width_of (address_of vip) = ap (λ (f : Family). f.width) held.family in
    let fewer : bits_behind a ≤ host_bits vip = omega (arith, w, shorter) in
    let near : ip_value a.ip / 2 ^ bits_behind a ≡ ip_value b.ip / 2 ^ bits_behind a = same.bits ∙ ap (λ n. ip_value b.ip / 2 ^ n) (same_behind a b same) in
    record {
      family = sym same.family ∙ held.family;
      prefix = sym (coarser (bits_behind a) (host_bits vip) (ip_value a.ip) (ip_value b.ip) fewer near) ∙ held.prefix;
    }

-- a network without host bits is its prefix
whole : (value size : ℕ) → value % size ≡ 0 → value ≡ value / size * size
whole value size none =
    let e : value % size ≡ value - value / size * size = mod-eq-sub-div-mul value size in
    let le : value / size * size ≤ value = div-mul-le_self value size in
    omega arith

pub along_bits : (net : Net) (a : RouteItem) → HasNoHostBits net → a.ip ≡ address_of net → a.len ≡ len_of net → ip_value (address_of net) ≡ ip_value a.ip / 2 ^ bits_behind a * 2 ^ bits_behind a
along_bits net a none ip len =
    whole (ip_value (address_of net)) (2 ^ host_bits net) none
    ∙ ap (λ (i : Ip). ip_value i / 2 ^ (width_of i - len_of net) * 2 ^ (width_of i - len_of net)) (sym ip)
    ∙ ap (λ (n : ℕ). ip_value a.ip / 2 ^ (width_of a.ip - n) * 2 ^ (width_of a.ip - n)) (sym len)

-- two networks without host bits that have one prefix have one address
pub one_network : (m n : Net) (a b : RouteItem) → HasNoHostBits m → HasNoHostBits n → a.ip ≡ address_of m → a.len ≡ len_of m → b.ip ≡ address_of n → b.len ≡ len_of n
    → SamePrefix a b → address_of m ≡ address_of n
one_network m n a b none none' ip len ip' len' same =
    one_ip (address_of m) (address_of n) (sym (ap family_of ip) ∙ same.family ∙ ap family_of ip')
    (along_bits m a none ip len
    ∙ ap (λ (q : ℕ). q * 2 ^ bits_behind a) same.bits
    ∙ ap (λ (k : ℕ). ip_value b.ip / 2 ^ bits_behind b * 2 ^ k) (sym (same_behind a b same))
    ∙ sym (along_bits n b none' ip' len'))

-- two addresses alone
pub same_address : (a b : RouteItem) → a.len ≡ width_of a.ip → b.len ≡ width_of b.ip → SamePrefix a b → a.ip ≡ b.ip
same_address a b len len' same =
    let none : bits_behind a ≡ 0 = omega (arith, len) in
    let none' : bits_behind b ≡ 0 = omega (arith, len') in
    one_ip a.ip b.ip same.family
    (sym (div-one (ip_value a.ip)) ∙ ap (λ (n : ℕ). ip_value a.ip / 2 ^ n) (sym none) ∙ same.bits ∙ ap (λ (n : ℕ). ip_value b.ip / 2 ^ n) none' ∙ div-one (ip_value b.ip))

-- a VIP's network leaves room for neighbours
pub vip_short : (vip : Net) → IsVip vip → len_of vip < width_of (address_of vip)
vip_short (V4 net) is = let most = is.most in omega (arith, most)
vip_short (V6 net) is = let most = is.most in omega (arith, most)

-- ---- a prefix that is cut to its width

pub cut_prefix : (f : Family) → 0 < f.width → (ip len : ℕ) → ip_dst f ip (min len f.width) ≡ ip_dst f ip len
cut_prefix f some ip len =
    ap (λ (x : Bool). cond x None (Some (made (f.width - min len f.width)))) cut ∙ ap (λ (k : ℕ). cond (len == 0) None (Some (made k))) behind
  where
    cut : (min len f.width == 0) ≡ (len == 0)
    cut = both (min len f.width == 0) (len == 0) refl refl
      where
        both : (x y : Bool) → (min len f.width == 0) ≡ x → (len == 0) ≡ y → x ≡ y
        both true true ex ey = refl
        both false false ex ey = refl
        both true false ex ey = let a = eqb-true (min len f.width) 0 ex in let b = eqb-false len 0 ey in absurd (b (omega (arith, a, some)))
        both false true ex ey = let a = eqb-false (min len f.width) 0 ex in let b = eqb-true len 0 ey in absurd (a (omega (arith, b, some)))

    behind : f.width - min len f.width ≡ f.width - len
    behind = omega arith

    made : ℕ → Field
    made k = let size = 2 ^ k in record { id = f.destination; value = ip / size * size; mask = 2 ^ f.width - size }
