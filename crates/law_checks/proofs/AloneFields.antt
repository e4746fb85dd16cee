-- Of a rule, no two lists of fields say what its match keys ask for.
use Rattle.std.proofs.Common.{◌≡◌, ℕ, ◌+◌, ◌*◌, ◌/◌, ◌%◌, ◌^◌, Bool, true, false, List, [], ◌∷◌, ◌++◌, length, length-append, Option, Some, None, refl, sym, ap, ap₂, ◌∙◌, inl, inr, ◌⊎◌, subst, arith, ne_eqb}
use Rattle.std.specs.Prelude.{◌==◌, nat_lt, MatchOption, if◌then◌else◌}
use Rattle.std.proofs.lemmas.Bool.{or_from, or_right, true≢false}
use Rattle.std.proofs.lemmas.List.Folds.{list_any-append}
use Rattle.net_base.specs.declared.field.Field.{Field}
use Rattle.net_base.specs.declared.field.FieldId.{FieldId}
use Rattle.net_base.specs.Address.{decimal, ip4_text, net4_text, SpellsBehind, SpellsMac, mac_value}
use Rattle.net_base.specs.Field.{exact, prefix_in}
use Rattle.net_base.proofs.Addresses.{same_mac}
use Rattle.yaml_tree.specs.declared.tree.Pair.{Pair}
use Rattle.yaml_tree.specs.declared.tree.Tree.{Tree}
use Rattle.conf_types.specs.declared.address.Ip.{Ip}
use Rattle.conf_types.specs.declared.address.Ip.TheVariants as ip
use Rattle.conf_types.specs.declared.address.Net.{Net}
use Rattle.conf_types.specs.declared.address.Net.TheVariants as net
use Rattle.conf_types.specs.Families.{ip_value, address_of, len_of}
use Rattle.conf_shape.specs.declared.kinds.Scalar.{Scalar}
use Rattle.conf_shape.specs.declared.kinds.Scalar.TheVariants.{MaskedMac, Prefix, Address}
use Rattle.conf_shape.specs.declared.raw.RawField.{RawField}
use Rattle.conf_shape.specs.Sections.{key_text}
use Rattle.conf_shape.specs.Scalars.{asked_scalar}
use Rattle.conf_shape.specs.Values.{tag_bit, spelled_at, raw_field_or, ahead}
use Rattle.law_checks.specs.Values.{SpellsIp, SpellsNet}
use Rattle.law_checks.specs.Fields.{AsksNumber, AsksMac, AsksMaskedMac, AsksAddress, AsksPrefix, AsksBy, Asks, FieldSays, FieldsSay, other_spellings}
use Rattle.law_checks.proofs.Alone.{IsOne, number_one, text_one, ip_one, net_one}
use Rattle.law_checks.proofs.Texts6.{has_slash, ip6_no_slash, net6_slash}

-- ---- Ethernet addresses

behind_length : (text bytes : List ℕ) → SpellsBehind text bytes → length text ≡ 3 * length bytes
behind_length text [] s = omega (arith, ap length s)
behind_length text (b ∷ bs) s = let more = behind_length s.2 bs s.5 in omega (arith, ap length s.3, more)

mac_length : (text bytes : List ℕ) → SpellsMac text bytes → length text ≡ 17
mac_length text [] s = absurd s
mac_length text (b ∷ bs) s = let more = behind_length s.2 bs s.5 in omega (arith, ap length s.3, more, s.6)

parts_same : (xs ys x y : List ℕ) → length xs ≡ length ys → xs ++ 47 ∷ x ≡ ys ++ 47 ∷ y → (xs ≡ ys) × (x ≡ y)
parts_same [] [] x y l e = (refl, cc)
parts_same [] (b ∷ ys) x y l e = absurd (omega (arith, l))
parts_same (a ∷ xs) [] x y l e = absurd (omega (arith, l))
parts_same (a ∷ xs) (b ∷ ys) x y l e =
    let head : a ≡ b = cc in
    let tail : xs ++ 47 ∷ x ≡ ys ++ 47 ∷ y = cc in
    let more = parts_same xs ys x y (omega (arith, l)) tail in
    (ap₂ (λ (n : ℕ) (ns : List ℕ). n ∷ ns) head more.0, more.1)

module _ (id : FieldId) (t : Tree) (a b : Option Field) where
  not_both : AsksMac id t a → AsksMaskedMac id t b → ⊥
  not_both h k =
      let same = text_one t h.text (k.before ++ 47 ∷ k.behind) h.is k.is in
      let whole = mac_length h.text h.mac h.spelled in
      let part = mac_length k.before k.value k.value_spelled in
      omega (arith, ap length same, length-append k.before (47 ∷ k.behind), whole, part)

  macs_one : AsksMac id t a → AsksMac id t b → a ≡ b
  macs_one h k =
      let same = text_one t h.text k.text h.is k.is in
      let mac = same_mac h.text h.mac k.mac h.spelled (subst (λ text. SpellsMac text k.mac) (sym same) k.spelled) in
      h.field ∙ ap (λ mac. Some (exact id (mac_value (record { 0 = mac })))) mac ∙ sym k.field

  masked_one : AsksMaskedMac id t a → AsksMaskedMac id t b → a ≡ b
  masked_one h k =
      let same = text_one t (h.before ++ 47 ∷ h.behind) (k.before ++ 47 ∷ k.behind) h.is k.is in
      let parts = parts_same h.before k.before h.behind k.behind (mac_length h.before h.value h.value_spelled ∙ sym (mac_length k.before k.value k.value_spelled)) same in
      let value = same_mac h.before h.value k.value h.value_spelled (subst (λ text. SpellsMac text k.value) (sym parts.0) k.value_spelled) in
      let mask = same_mac h.behind h.mask k.mask h.mask_spelled (subst (λ text. SpellsMac text k.mask) (sym parts.1) k.mask_spelled) in
      h.field ∙ ap₂ (λ (value mask : List ℕ). if mac_value (record { 0 = mask }) == 0 then None else Some (record { id = id; value = mac_value (record { 0 = value }); mask = mac_value (record { 0 = mask }) })) value mask ∙ sym k.field

mac_field_one : (id : FieldId) (t : Tree) (a b : Option Field) → AsksMac id t a ⊎ AsksMaskedMac id t a → AsksMac id t b ⊎ AsksMaskedMac id t b → a ≡ b
mac_field_one id t a b (inl h) (inl k) = macs_one id t a b h k
mac_field_one id t a b (inl h) (inr k) = absurd (not_both id t a b h k)
mac_field_one id t a b (inr h) (inl k) = absurd (not_both id t b a k h)
mac_field_one id t a b (inr h) (inr k) = masked_one id t a b h k

-- ---- IP

digit_no_slash : (d : ℕ) → (48 + d == 47) ≡ false
digit_no_slash d = ne_eqb (48 + d) 47 (λ e. omega (arith, e))

decimal_no_slash : (n : ℕ) → has_slash (decimal n) ≡ false
decimal_no_slash n = by (nat_lt n 10) (nat_lt n 100)
  where
    one : (d : ℕ) (rest : List ℕ) → has_slash rest ≡ false → has_slash ((48 + d) ∷ rest) ≡ false
    one d rest none = or_from (48 + d == 47) (has_slash rest) (digit_no_slash d) none

    by : (small middle : Bool) → has_slash (if small then (48 + n) ∷ [] else if middle then (48 + n / 10) ∷ (48 + n % 10) ∷ [] else (48 + n / 100) ∷ (48 + n / 10 % 10) ∷ (48 + n % 10) ∷ []) ≡ false
    by true middle = one n [] refl
    by false true = one (n / 10) ((48 + n % 10) ∷ []) (one (n % 10) [] refl)
    by false false = one (n / 100) ((48 + n / 10 % 10) ∷ (48 + n % 10) ∷ []) (one (n / 10 % 10) ((48 + n % 10) ∷ []) (one (n % 10) [] refl))

dotted_no_slash : (n : ℕ) (rest : List ℕ) → has_slash rest ≡ false → has_slash (decimal n ++ 46 ∷ rest) ≡ false
dotted_no_slash n rest none = list_any-append (λ c. c == 47) (decimal n) (46 ∷ rest) ∙ or_from (has_slash (decimal n)) (has_slash (46 ∷ rest)) (decimal_no_slash n) none

address_no_slash : (ip : ℕ) → has_slash (ip4_text ip) ≡ false
address_no_slash ip =
    dotted_no_slash (ip / 2 ^ 24) _ (dotted_no_slash (ip / 2 ^ 16 % 256) _ (dotted_no_slash (ip / 2 ^ 8 % 256) _ (decimal_no_slash (ip % 256))))

network_slash : (ip len : ℕ) → has_slash (net4_text ip len) ≡ true
network_slash ip len = list_any-append (λ c. c == 47) (ip4_text ip) (47 ∷ decimal len) ∙ or_right (has_slash (ip4_text ip)) true refl

ip_no_slash : (text : List ℕ) (ip : Ip) → SpellsIp text ip → has_slash text ≡ false
ip_no_slash text (ip.V4 a) s = ap has_slash s.0 ∙ address_no_slash a.0
ip_no_slash text (ip.V6 a) s = ip6_no_slash text a.0 s

net_slash : (text : List ℕ) (net : Net) → SpellsNet text net → has_slash text ≡ true
net_slash text (net.V4 n) s = ap has_slash s.0 ∙ network_slash n.ip.0 n.len
net_slash text (net.V6 n) s = net6_slash text n.ip.0 n.len s

module _ (width : ℕ) (id : FieldId) (t : Tree) (a b : Option Field) where
  not_both_ips : AsksAddress width id t a → AsksPrefix width id t b → ⊥
  not_both_ips h k = let same = text_one t h.text k.text h.is k.is in true≢false (sym (net_slash k.text k.net k.spelled) ∙ ap has_slash (sym same) ∙ ip_no_slash h.text h.ip h.spelled)

  addresses_one : AsksAddress width id t a → AsksAddress width id t b → a ≡ b
  addresses_one h k =
      let same = text_one t h.text k.text h.is k.is in
      let ip = ip_one h.text h.ip k.ip (h.family ∙ sym k.family) h.spelled (subst (λ text. SpellsIp text k.ip) (sym same) k.spelled) in
      h.field ∙ ap (λ (ip : Ip). Some (exact id (ip_value ip))) ip ∙ sym k.field

  prefixes_one : AsksPrefix width id t a → AsksPrefix width id t b → a ≡ b
  prefixes_one h k =
      let same = text_one t h.text k.text h.is k.is in
      let net = net_one h.text h.net k.net (h.family ∙ sym k.family) h.spelled (subst (λ text. SpellsNet text k.net) (sym same) k.spelled) in
      h.field ∙ ap (λ (net : Net). if len_of net == 0 then None else Some (prefix_in width id (ip_value (address_of net)) (len_of net))) net ∙ sym k.field

ip_field_one : (width : ℕ) (id : FieldId) (t : Tree) (a b : Option Field) → AsksAddress width id t a ⊎ AsksPrefix width id t a → AsksAddress width id t b ⊎ AsksPrefix width id t b → a ≡ b
ip_field_one width id t a b (inl h) (inl k) = addresses_one width id t a b h k
ip_field_one width id t a b (inl h) (inr k) = absurd (not_both_ips width id t a b h k)
ip_field_one width id t a b (inr h) (inl k) = absurd (not_both_ips width id t b a k h)
ip_field_one width id t a b (inr h) (inr k) = prefixes_one width id t a b h k

number_field_one : (id : FieldId) (t : Tree) (a b : Option Field) → AsksNumber id t a → AsksNumber id t b → a ≡ b
number_field_one id t a b h k = h.2 ∙ ap (λ n. Some (exact id (tag_bit id + n))) (number_one t h.0 k.0 h.1 k.1) ∙ sym k.2

-- ---- the fields

asked_by_one : (s : Scalar) (id : FieldId) → IsOne (AsksBy s id)
asked_by_one MaskedMac id t a b h k = mac_field_one id t a b h k
asked_by_one (Prefix width) id t a b h k = ip_field_one width id t a b h k
asked_by_one (Address width) id t a b h k = addresses_one width id t a b h k
asked_by_one s id t a b h k = number_field_one id t a b h k

asked_one : (id : FieldId) → IsOne (Asks id)
asked_one id = asked_by_one (asked_scalar id) id

pub fields_one : (ks : List (List ℕ × FieldId)) → IsOne (FieldsSay ks)
fields_one [] pairs a b h k = h ∙ sym k
fields_one (q ∷ ks) pairs a b h k = by (spelled_at other_spellings q.0 pairs) h k (fields_one ks pairs)
  where
    by : (o : Option Pair) → MatchOption o (FieldsSay ks pairs a) (λ p. FieldSays q.1 p (FieldsSay ks pairs) a) → MatchOption o (FieldsSay ks pairs b) (λ p. FieldSays q.1 p (FieldsSay ks pairs) b)
        → ((a b : List RawField) → FieldsSay ks pairs a → FieldsSay ks pairs b → a ≡ b) → a ≡ b
    by None h k later = later a b h k
    by (Some p) h k later = h.3 ∙ ap₂ (λ (asked : Option Field) (rest : List RawField). ahead (raw_field_or (key_text p.key) asked) rest) (asked_one q.1 p.value h.0 k.0 h.1 k.1) (later h.2 k.2 h.4 k.4) ∙ sym k.3
