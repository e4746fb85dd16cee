-- What the parsers of addresses find, as the text gives it.
use Rattle.std.proofs.Common.{◌≡◌, ◌≢◌, ℕ, suc, ◌<◌, ◌≤◌, ◌^◌, List, [], ◌∷◌, ◌++◌, length, get_or, Option, Some, None, refl, sym, ap, ◌∙◌, arith}
use Rattle.std.specs.Prelude.{IfSome, IfNone, MatchOption}
use Rattle.std.specs.Borrow.{Bor}
use Rattle.net_base.specs.declared.address.Mac.{Mac}
use Rattle.net_base.specs.Address.{SpellsMac, ip4_text, net4_text}
use Rattle.net_base.specs.Address6.{SpellsIp6, SpellsNet6}
use Rattle.net_base.specs.Address6Reading.{ip6_of, net6_of}
use Rattle.net_base.specs.AddressReading.{◌>>=◌, IsMac, Cuts, spelled_mac, ip4_of, net4_of, cut_at}
use Rattle.net_base.proofs.Addresses.{ip4_again, ip4_ok, net4_again, net4_ok, mac_ok, mac_again}
use Rattle.net_base.proofs.Groups.{ip6_ok, ip6_again, net6_ok, net6_again}
use Rattle.net_base.proofs.Cut.{cut_at_mark, cut_past}

pub ip4_found : (text : List ℕ) (n : ℕ) → n < 2 ^ 32 → text ≡ ip4_text n → Some n ≡ ip4_of text
ip4_found text n small e = sym (ap ip4_of e ∙ ip4_again n small)

pub ip4_not : (text : List ℕ) → ((ip : ℕ) → ip < 2 ^ 32 → text ≡ ip4_text ip → ⊥) → None ≡ ip4_of text
ip4_not text h = by (ip4_of text) refl
  where
    by : (read : Option ℕ) → ip4_of text ≡ read → None ≡ ip4_of text
    by None e = sym e
    by (Some n) e = let ok = ip4_ok text n e in absurd (h n ok.1 ok.0)

pub net4_found : (text : List ℕ) (n len : ℕ) → n < 2 ^ 32 → len ≤ 32 → text ≡ net4_text n len → Some (n, len) ≡ net4_of text
net4_found text n len small short e = sym (ap net4_of e ∙ net4_again n len small short)

pub net4_not : (text : List ℕ) → ((ip len : ℕ) → ip < 2 ^ 32 → len ≤ 32 → text ≡ net4_text ip len → ⊥) → None ≡ net4_of text
net4_not text h = by (net4_of text) refl
  where
    by : (read : Option (ℕ × ℕ)) → net4_of text ≡ read → None ≡ net4_of text
    by None e = sym e
    by (Some net) e = let ok = net4_ok text net e in absurd (h net.0 net.1 ok.1 ok.2 ok.0)

pub ip6_found : (text : List ℕ) (n : ℕ) → SpellsIp6 text n → Some n ≡ ip6_of text
ip6_found text n s = sym (ip6_again text n s)

pub ip6_not : (text : List ℕ) → ((ip : ℕ) → SpellsIp6 text ip → ⊥) → None ≡ ip6_of text
ip6_not text h = by (ip6_of text) refl
  where
    by : (read : Option ℕ) → ip6_of text ≡ read → None ≡ ip6_of text
    by None e = sym e
    by (Some n) e = absurd (h n (ip6_ok text n e))

pub net6_found : (text : List ℕ) (n len : ℕ) → SpellsNet6 text n len → Some (n, len) ≡ net6_of text
net6_found text n len s = sym (net6_again text n len s)

pub net6_not : (text : List ℕ) → ((ip len : ℕ) → SpellsNet6 text ip len → ⊥) → None ≡ net6_of text
net6_not text h = by (net6_of text) refl
  where
    by : (read : Option (ℕ × ℕ)) → net6_of text ≡ read → None ≡ net6_of text
    by None e = sym e
    by (Some net) e = absurd (h net.0 net.1 (net6_ok text net e))

pub mac_parsed : (text : List ℕ) (found : Option Mac) → IfSome found (λ mac. SpellsMac text mac.0) → IfNone found ((bytes : List ℕ) → SpellsMac text bytes → ⊥) → IsMac found (spelled_mac text)
mac_parsed text (Some mac) found none = mac_again text mac.0 found
mac_parsed text None found none = by (spelled_mac text) refl
  where
    by : (read : Option (List ℕ)) → spelled_mac text ≡ read → spelled_mac text ≡ None
    by None e = e
    by (Some bytes) e = absurd (none bytes (mac_ok text bytes e))

-- ---- cutting at a mark

abbrev before : ℕ → Option (List ℕ × List ℕ) → Option (List ℕ × List ℕ)
before b read = read >>= λ cut. Some (b ∷ cut.0, cut.1)

cut_none : (mark : ℕ) (text : List ℕ) → ((i : ℕ) → i < length text → get_or text i 0 ≢ mark) → cut_at mark text ≡ None
cut_none mark [] h = refl
cut_none mark (b ∷ bs) h = cut_past mark b bs (h 0 (omega arith)) ∙ ap (before b) (cut_none mark bs (λ i lt. h (suc i) (omega arith)))

cut_some : (mark : ℕ) (xs ys : List ℕ) → ((i : ℕ) → i < length xs → get_or xs i 0 ≢ mark) → cut_at mark (xs ++ mark ∷ ys) ≡ Some (xs, ys)
cut_some mark [] ys h = cut_at_mark mark mark ys refl
cut_some mark (b ∷ bs) ys h = cut_past mark b (bs ++ mark ∷ ys) (h 0 (omega arith)) ∙ ap (before b) (cut_some mark bs ys (λ i lt. h (suc i) (omega arith)))

pub cuts : (mark : ℕ) (text : List ℕ) (r : Option (Bor (List ℕ) × Bor (List ℕ)))
    → MatchOption r ((i : ℕ) → i < length text → get_or text i 0 ≢ mark) (λ x. (text ≡ x.0.now ++ (mark ∷ x.1.now)) × ((i : ℕ) → i < length x.0.now → get_or x.0.now i 0 ≢ mark))
    → Cuts r (cut_at mark text)
cuts mark text None h = cut_none mark text h
cuts mark text (Some x) h = ap (cut_at mark) h.0 ∙ cut_some mark x.0.now x.1.now h.1
