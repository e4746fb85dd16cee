-- Addresses and networks of either family: what tests say of them, and what a prefix keeps.
use Rattle.std.proofs.Common.{◌≡◌, ℕ, ◌+◌, ◌-◌, ◌*◌, ◌/◌, ◌^◌, ◌<◌, ◌≤◌, ◌==◌, true, refl, sym, ap, subst, ◌∙◌, arith, eqb-true, eq-eqb}
use Rattle.std.proofs.Math.Nat.{div-div-eq-div-mul, div-lt_iff_lt-mul}
use Rattle.std.proofs.lemmas.Bool.{and_parts, and_from}
use Rattle.std.proofs.lemmas.Nat.{pow-add, pow_pos}
use Rattle.conf_types.specs.declared.address.Ip.{Ip}
use Rattle.conf_types.specs.declared.address.Ip.TheVariants.{V4, V6}
use Rattle.conf_types.specs.declared.address.Net.{Net}
use Rattle.conf_types.specs.declared.family.Family.{Family}
use Rattle.conf_types.specs.Families.{IsAddress, family_of, ip_value, width_of, is_same_family, is_same_ip, address_of, len_of, host_bits}
use Rattle.conf_types.specs.Networks.{prefix_bits, is_held, Holds}

-- ---- addresses

-- the width tells the families apart
pub one_family : (a b : Ip) → width_of a ≡ width_of b → family_of a ≡ family_of b
one_family (V4 a) (V4 b) e = refl
one_family (V4 a) (V6 b) e = absurd (omega (arith, e))
one_family (V6 a) (V4 b) e = absurd (omega (arith, e))
one_family (V6 a) (V6 b) e = refl

pub same_family : (a b : Ip) → is_same_family a b ≡ true → family_of a ≡ family_of b
same_family a b is = one_family a b (eqb-true (width_of a) (width_of b) is)

pub is_of_family : (a b : Ip) → family_of a ≡ family_of b → is_same_family a b ≡ true
is_of_family a b e = eq-eqb (width_of a) (width_of b) (ap (λ (f : Family). f.width) e)

-- a family and a number are one address
pub one_ip : (a b : Ip) → family_of a ≡ family_of b → ip_value a ≡ ip_value b → a ≡ b
one_ip (V4 a) (V4 b) f e = let made : ℕ → Ip = λ n. V4 (record { 0 = n }) in ap made e
one_ip (V4 a) (V6 b) f e = let w = ap (λ (f : Family). f.width) f in absurd (omega (arith, w))
one_ip (V6 a) (V4 b) f e = let w = ap (λ (f : Family). f.width) f in absurd (omega (arith, w))
one_ip (V6 a) (V6 b) f e = let made : ℕ → Ip = λ n. V6 (record { 0 = n }) in ap made e

pub same_ip : (a b : Ip) → is_same_ip a b ≡ true → a ≡ b
same_ip a b is =
    let parts = and_parts (is_same_family a b) (ip_value a == ip_value b) is in
    one_ip a b (same_family a b parts.0) (eqb-true (ip_value a) (ip_value b) parts.1)

pub is_that_ip : (a b : Ip) → a ≡ b → is_same_ip a b ≡ true
is_that_ip a b e = and_from (is_same_family a b) (ip_value a == ip_value b) (is_of_family a b (ap family_of e)) (eq-eqb (ip_value a) (ip_value b) (ap ip_value e))

-- ---- prefixes as numbers, of any width

-- what agrees in some bits at the front agrees in fewer
pub coarser : (m n x y : ℕ) → m ≤ n → x / 2 ^ m ≡ y / 2 ^ m → x / 2 ^ n ≡ y / 2 ^ n
coarser m n x y le same = steps x ∙ ap (λ q. q / 2 ^ (n - m)) same ∙ sym (steps y)
  where
    sum : n ≡ m + (n - m)
    sum = omega arith

    steps : (z : ℕ) → z / 2 ^ n ≡ z / 2 ^ m / 2 ^ (n - m)
    steps z = ap (λ e. z / 2 ^ e) sum ∙ ap (λ d. z / d) (pow-add 2 m (n - m)) ∙ sym (div-div-eq-div-mul z (2 ^ m) (2 ^ (n - m)))

-- what agrees in a prefix with a number of so many bits has no more bits
pub fits : (width len x y : ℕ) → len ≤ width → y < 2 ^ width → x / 2 ^ (width - len) ≡ y / 2 ^ (width - len) → x < 2 ^ width
fits width len x y short below same =
    let size = 2 ^ (width - len) in
    let some : 0 < size = pow_pos (width - len) in
    let sum : len + (width - len) ≡ width = omega arith in
    let all : 2 ^ len * size ≡ 2 ^ width = sym (pow-add 2 len (width - len)) ∙ ap (λ n. 2 ^ n) sum in
    let y_below : y < 2 ^ len * size = subst (λ (n : ℕ). y < n) (sym all) below in
    let front : x / size < 2 ^ len = subst (λ (n : ℕ). n < 2 ^ len) (sym same) ((div-lt_iff_lt-mul some).1 y_below) in
    subst (λ (n : ℕ). x < n) all ((div-lt_iff_lt-mul some).0 front)

-- ---- networks

pub held : (net : Net) (ip : Ip) → is_held net ip ≡ true → Holds net ip
held net ip is =
    let parts = and_parts (is_same_family ip (address_of net)) (prefix_bits net ip == prefix_bits net (address_of net)) is in
    record { family = same_family ip (address_of net) parts.0; prefix = eqb-true (prefix_bits net ip) (prefix_bits net (address_of net)) parts.1 }

pub is_held_there : (net : Net) (ip : Ip) → Holds net ip → is_held net ip ≡ true
is_held_there net ip h =
    and_from (is_same_family ip (address_of net)) (prefix_bits net ip == prefix_bits net (address_of net))
    (is_of_family ip (address_of net) h.family) (eq-eqb (prefix_bits net ip) (prefix_bits net (address_of net)) h.prefix)

-- a network holds its own address
pub holds_own : (net : Net) → Holds net (address_of net)
holds_own net = record { family = refl; prefix = refl }

-- what a network holds are addresses of its family
pub held_fits : (net : Net) (ip : Ip) → len_of net ≤ width_of (address_of net) → IsAddress (address_of net) → Holds net ip → IsAddress ip
held_fits net ip short below h =
    let w : width_of ip ≡ width_of (address_of net) = ap (λ (f : Family). f.width) h.family in
    subst (λ (w : ℕ). ip_value ip < 2 ^ w) (sym w) (fits (width_of (address_of net)) (len_of net) (ip_value ip) (ip_value (address_of net)) short below h.prefix)

-- of two networks that hold one address the shorter holds the address of the longer
pub shared : (a b : Net) (ip : Ip) → len_of a ≤ len_of b → Holds a ip → Holds b ip → Holds a (address_of b)
shared a b ip le in_a in_b =
    let same : family_of (address_of b) ≡ family_of (address_of a) = sym in_b.family ∙ in_a.family in
    let w : width_of (address_of b) ≡ width_of (address_of a) = ap (λ (f : Family). f.width) same in
    let fewer : host_bits b ≤ host_bits a = omega (arith, w, le) in
    record { family = same; prefix = sym (coarser (host_bits b) (host_bits a) (ip_value ip) (ip_value (address_of b)) fewer in_b.prefix) ∙ in_a.prefix }
