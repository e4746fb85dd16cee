-- The texts of addresses and networks of either family: each is a value, and tells what it is of.
use denote.Struct.Props.{props}
use Rattle.std.proofs.Common.{◌≡◌, ◌<◌, ◌≤◌, ◌/◌, ◌%◌, ◌^◌, ℕ, List, [], ◌∷◌, ◌++◌, refl, sym, ap, ◌∙◌, subst, inl, inr, arith}
use Rattle.std.specs.Prelude.{IsTrue}
use Rattle.std.specs.Char.{is_ascii_hexdigit}
use Rattle.std.specs.List.{AllByRecursion}
use Rattle.std.proofs.lemmas.Bool.Decides.{nat_tests}
use Rattle.net_base.specs.Address.{decimal, ip4_text, net4_text}
use Rattle.net_base.specs.Address6.{SpellsGroups, SpellsIp6, SpellsNet6, ip6_text, net6_text}
use Rattle.net_base.specs.declared.net4.Net4.{Net4}
use Rattle.net_base.specs.declared.net6.Net6.{Net6}
use Rattle.net_base.proofs.Addresses.{Free, free_append, decimal_free, same_ip4, same_net4}
use Rattle.net_base.proofs.Groups.{same_ip6, same_net6}
use Rattle.net_base.proofs.Printed6.{ip6_spelled, net6_spelled}
use Rattle.conf_types.specs.declared.address.Ip.{Ip}
use Rattle.conf_types.specs.declared.address.Ip.TheVariants as ip
use Rattle.conf_types.specs.declared.address.Net.{Net}
use Rattle.conf_types.specs.declared.address.Net.TheVariants as net
use Rattle.conf_types.specs.Families.{IsAddress, address_of}
use Rattle.conf_json.specs.Text.{ip_text, vip_text}
use Rattle.law_json.proofs.Values.{IsValue, quoted_value, same_quoted}

-- ---- points: an address of IPv4 has some, and one of IPv6 none

front_free : (mark : ℕ) (xs ys : List ℕ) → Free mark (xs ++ ys) → Free mark xs
front_free mark [] ys free = tt
front_free mark (x ∷ xs) ys free = (free.0, front_free mark xs ys free.1)

in_middle : (mark : ℕ) (xs ys : List ℕ) → Free mark (xs ++ mark ∷ ys) → ⊥
in_middle mark [] ys free = free.0 refl
in_middle mark (x ∷ xs) ys free = in_middle mark xs ys free.1

has_point : (n : ℕ) → Free 46 (ip4_text n) → ⊥
has_point n free = in_middle 46 (decimal (n / 2 ^ 24)) (decimal (n / 2 ^ 16 % 256) ++ 46 ∷ (decimal (n / 2 ^ 8 % 256) ++ 46 ∷ decimal (n % 256))) free

no_digit : (c : ℕ) → IsTrue (is_ascii_hexdigit c) → c ≡ 46 → ⊥
no_digit c h e = grind (arith, nat_tests)

digits_free : (cs : List ℕ) → AllByRecursion (λ c. IsTrue (is_ascii_hexdigit c)) cs → Free 46 cs
digits_free [] all = tt
digits_free (c ∷ cs) all = (no_digit c all.0, digits_free cs all.1)

colon : ◌≡◌ {A = ℕ} 58 46 → ⊥
colon e = absurd (omega (arith, e))

groups_free : (text groups : List ℕ) → SpellsGroups text groups → Free 46 text
groups_free text [] s = subst (Free 46) (sym s) tt
groups_free text (group ∷ []) s = digits_free text s.each
groups_free text (group ∷ next ∷ groups) s = subst (Free 46) (sym s.2) (free_append 46 s.0 (58 ∷ s.1) (digits_free s.0 s.3.each) (colon, groups_free s.1 (next ∷ groups) s.4))

ip6_free : (text : List ℕ) (n : ℕ) → SpellsIp6 text n → Free 46 text
ip6_free text n (inl s) = groups_free text s.groups s.spelled
ip6_free text n (inr s) = subst (Free 46) (sym s.row) (free_append 46 s.before (58 ∷ 58 ∷ s.behind) (groups_free s.before s.front s.spelled_front) (colon, (colon, groups_free s.behind s.back s.spelled_back)))

net6_free : (text : List ℕ) (n len : ℕ) → SpellsNet6 text n len → Free 46 text
net6_free text n len s = subst (Free 46) (sym s.row) (free_append 46 s.address (47 ∷ decimal len) (ip6_free s.address n s.spelled) ((λ e. absurd (omega (arith, e))), decimal_free 46 len (omega arith)))

ips_apart : (m n : ℕ) → n < 2 ^ 128 → ip4_text m ≡ ip6_text n → ⊥
ips_apart m n below e = has_point m (subst (Free 46) (sym e) (ip6_free (ip6_text n) n (ip6_spelled n below)))

nets_apart : (m k n len : ℕ) → n < 2 ^ 128 → len ≤ 128 → net4_text m k ≡ net6_text n len → ⊥
nets_apart m k n len below short e = has_point m (front_free 46 (ip4_text m) (47 ∷ decimal k) (subst (Free 46) (sym e) (net6_free (net6_text n len) n len (net6_spelled n len below short))))

-- ---- addresses

pub address_value : (a : Ip) → IsValue (ip_text a)
address_value (ip.V4 a) = quoted_value _
address_value (ip.V6 a) = quoted_value _

four : ℕ → Ip
four n = ip.V4 (record { 0 = n })

six : ℕ → Ip
six n = ip.V6 (record { 0 = n })

pub same_address_text : (a b : Ip) → IsAddress a → IsAddress b → ip_text a ≡ ip_text b → a ≡ b
unfolding four six
same_address_text (ip.V4 a) (ip.V4 b) in_a in_b e = ap four (same_ip4 a.0 b.0 in_a in_b (same_quoted _ _ e))
same_address_text (ip.V4 a) (ip.V6 b) in_a in_b e = absurd (ips_apart a.0 b.0 in_b (same_quoted _ _ e))
same_address_text (ip.V6 a) (ip.V4 b) in_a in_b e = absurd (ips_apart b.0 a.0 in_a (sym (same_quoted _ _ e)))
same_address_text (ip.V6 a) (ip.V6 b) in_a in_b e =
    let text : ip6_text a.0 ≡ ip6_text b.0 = same_quoted _ _ e in
    ap six (same_ip6 (ip6_text a.0) a.0 b.0 (ip6_spelled a.0 in_a) (subst (λ (t : List ℕ). SpellsIp6 t b.0) (sym text) (ip6_spelled b.0 in_b)))

-- ---- networks

same_net : (a b : Net4) → a.ip.0 ≡ b.ip.0 → a.len ≡ b.len → a ≡ b
same_net a b ip len =
    ap (λ (n : ℕ). record { ip = record { 0 = n }; len = a.len; short = a.short }) ip
    ∙ subst (λ (n : ℕ). (short : n ≤ 32) → ◌≡◌ {A = Net4} (record { ip = b.ip; len = a.len; short = a.short }) (record { ip = b.ip; len = n; short = short })) len
    (λ short. let once : IsProp (a.len ≤ 32) = hlevel props in ap (λ (h : a.len ≤ 32). record { ip = b.ip; len = a.len; short = h }) (once a.short short)) b.short

same_net_6 : (a b : Net6) → a.ip.0 ≡ b.ip.0 → a.len ≡ b.len → a ≡ b
same_net_6 a b ip len =
    ap (λ (n : ℕ). record { ip = record { 0 = n }; len = a.len; short = a.short }) ip
    ∙ subst (λ (n : ℕ). (short : n ≤ 128) → ◌≡◌ {A = Net6} (record { ip = b.ip; len = a.len; short = a.short }) (record { ip = b.ip; len = n; short = short })) len
    (λ short. let once : IsProp (a.len ≤ 128) = hlevel props in ap (λ (h : a.len ≤ 128). record { ip = b.ip; len = a.len; short = h }) (once a.short short)) b.short

pub vip_value : (n : Net) → IsValue (vip_text n)
vip_value (net.V4 n) = quoted_value _
vip_value (net.V6 n) = quoted_value _

pub same_vip : (a b : Net) → IsAddress (address_of a) → IsAddress (address_of b) → vip_text a ≡ vip_text b → a ≡ b
same_vip (net.V4 a) (net.V4 b) in_a in_b e =
    let both = same_net4 a.ip.0 a.len b.ip.0 b.len in_a a.short in_b b.short (same_quoted _ _ e) in
    ap net.V4 (same_net a b both.0 both.1)
same_vip (net.V4 a) (net.V6 b) in_a in_b e = absurd (nets_apart a.ip.0 a.len b.ip.0 b.len in_b b.short (same_quoted _ _ e))
same_vip (net.V6 a) (net.V4 b) in_a in_b e = absurd (nets_apart b.ip.0 b.len a.ip.0 a.len in_a a.short (sym (same_quoted _ _ e)))
same_vip (net.V6 a) (net.V6 b) in_a in_b e =
    let text : net6_text a.ip.0 a.len ≡ net6_text b.ip.0 b.len = same_quoted _ _ e in
    let both = same_net6 (net6_text a.ip.0 a.len) a.ip.0 a.len b.ip.0 b.len (net6_spelled a.ip.0 a.len in_a a.short) (subst (λ (t : List ℕ). SpellsNet6 t b.ip.0 b.len) (sym text) (net6_spelled b.ip.0 b.len in_b b.short)) in
    ap net.V6 (same_net_6 a b both.0 both.1)
