-- Prefixes at the front of bytes.
use Rattle.std.proofs.Common.{◌≡◌, ℕ, ◌+◌, ◌≤◌, ◌<◌, List, ◌++◌, length, take, drop, sym, ap, ◌∙◌, subst, arith, length-append}
use Rattle.std.proofs.lemmas.List.{length-take-le}
use Rattle.std.specs.Coded.{le_prop}
use Rattle.net_base.specs.declared.address.Ip4.{Ip4}
use Rattle.net_base.specs.declared.net4.Net4.{Net4}
use Rattle.bgp_messages.specs.Numbers.{number_in}
use Rattle.bgp_messages.specs.Grammar.{Begins, BeginsNone}
use Rattle.bgp_messages.specs.Prefixes.{octets, SpellsPrefix}
use Rattle.bgp_messages.proofs.Numbers.{number_of_front, number_of_take, same_number, same_front}
use Rattle.bgp_messages.proofs.Joining.{Alone, HasBytes}

-- ---- one network

long_same : (ip : Ip4) (m n : ℕ) (p : m ≤ 32) (q : n ≤ 32) → m ≡ n → ◌≡◌ {A = Net4} (record { ip = ip; len = m; short = p }) (record { ip = ip; len = n; short = q })
long_same ip m n p q e = subst (λ n. (q : n ≤ 32) → ◌≡◌ {A = Net4} (record { ip = ip; len = m; short = p }) (record { ip = ip; len = n; short = q })) e (λ q. λ i. record { ip = ip; len = m; short = le_prop p q i }) q

pub net_same : (a b : Net4) → a.ip.0 ≡ b.ip.0 → a.len ≡ b.len → a ≡ b
net_same a b e f =
    let ip : a.ip ≡ b.ip = λ i. record { 0 = e i } in
    ap (λ ip. record { ip = ip; len = a.len; short = a.short }) ip ∙ long_same b.ip a.len b.len a.short b.short f

pub prefix_bytes : HasBytes SpellsPrefix
prefix_bytes x f s = omega (arith, s.size)

pub prefix_alone : Alone SpellsPrefix
prefix_alone x y f g a b s t e =
    let some = prefix_bytes x f s in
    let other = prefix_bytes y g t in
    let len : x.len ≡ y.len = sym s.len ∙ same_number 0 1 f g a b (omega arith) (omega arith) e ∙ t.len in
    let same = same_front f g a b (s.size ∙ ap (λ n. 1 + octets n) len ∙ sym t.size) e in
    let ip : x.ip.0 ≡ y.ip.0 = s.address ∙ ap (λ l. number_in 0 4 (drop 1 l)) same.0 ∙ sym t.address in
    (net_same x y ip len, same.1)

-- ---- reading one

pub prefix_begins : (net : Net4) (size : ℕ) (bytes : List ℕ) → number_in 0 1 bytes ≡ net.len → size ≡ 1 + octets net.len → size ≤ length bytes
    → net.ip.0 ≡ number_in 0 4 (drop 1 (take size bytes)) → Begins (SpellsPrefix net) size bytes
prefix_begins net size bytes len is within address = record {
  some = omega (arith, is);
  within = within;
  spelled = record { len = number_of_take 0 1 size bytes (omega (arith, is)) within ∙ len; size = length-take-le size bytes within ∙ is; address = address };
}

told : (bytes : List ℕ) (p : Net4) (f rest : List ℕ) → SpellsPrefix p f → bytes ≡ f ++ rest → p.len ≡ number_in 0 1 bytes
told bytes p f rest s e = sym s.len ∙ sym (number_of_front 0 1 f rest (omega (arith, prefix_bytes p f s))) ∙ ap (number_in 0 1) (sym e)

-- none above 32 bits, and none whose bytes aren't all there
pub prefix_long : (bytes : List ℕ) → 32 < number_in 0 1 bytes → BeginsNone SpellsPrefix bytes
prefix_long bytes h p f rest s e = omega (arith, p.short, told bytes p f rest s e, h)

pub prefix_cut : (bytes : List ℕ) → length bytes < 1 + octets (number_in 0 1 bytes) → BeginsNone SpellsPrefix bytes
prefix_cut bytes h p f rest s e =
    let size : length f ≡ 1 + octets (number_in 0 1 bytes) = s.size ∙ ap (λ n. 1 + octets n) (told bytes p f rest s e) in
    omega (arith, size, h, ap length e, length-append f rest)
