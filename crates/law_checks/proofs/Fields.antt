-- The fields of a rule with no fault: each asks what it may, and none stands twice.
use Rattle.std.proofs.Common.{◌≡◌, ℕ, pos, ◌-◌, ◌*◌, ◌/◌, ◌%◌, ◌^◌, ◌<◌, ◌≤◌, ◌&&◌, not, Bool, true, false, List, [], ◌∷◌, ◌++◌, Option, Some, None, Ok, Err, refl, sym, ap, ◌∙◌, inl, inr, subst, arith, eqb-true, div-add-mod'}
use Rattle.std.specs.Prelude.{map, IfSome, ◌==◌, if◌then◌else◌, bit_and}
use Rattle.std.specs.List.{AllByRecursion, list_any}
use Rattle.std.specs.Option.{option_map}
use Rattle.std.specs.Str.{bytes_eq}
use Rattle.std.proofs.lemmas.Bool.{and_parts, or_parts, not-true, eqb-false}
use Rattle.std.proofs.lemmas.Slice.Eq.{bytes_eq-Decides}
use Rattle.std.proofs.lemmas.Nat.{and_mask}
use Rattle.net_base.specs.declared.field.Field.{Field}
use Rattle.net_base.specs.declared.field.FieldId.{FieldId}
use Rattle.net_base.specs.Address.{mac_value}
use Rattle.net_base.specs.AddressReading.{spelled_mac, cut_at}
use Rattle.net_base.specs.Field.{exact, prefix_in}
use Rattle.net_base.specs.FieldId as ids
use Rattle.net_base.proofs.Macs.{mac_below}
use Rattle.yaml_tree.specs.declared.tree.Tree.{Tree}
use Rattle.yaml_tree.specs.declared.tree.Key.{Key}
use Rattle.yaml_tree.specs.declared.tree.Key.TheVariants as key
use Rattle.yaml_tree.specs.declared.tree.Pair.{Pair}
use Rattle.conf_types.specs.declared.address.Ip.{Ip}
use Rattle.conf_types.specs.declared.address.Net.{Net}
use Rattle.conf_types.specs.Families.{ip_value, width_of, address_of, len_of, host_bits}
use Rattle.conf_types.specs.Lists.{EachBefore, is_among}
use Rattle.conf_types.specs.RuleFields.{IsMasked, IsPrefix, MayAsk}
use Rattle.conf_shape.specs.declared.refused.ConfCause.TheVariants.{LeftOut, Duplicate, BadText}
use Rattle.conf_shape.specs.declared.kinds.Kind.TheVariants.{One}
use Rattle.conf_shape.specs.declared.kinds.Scalar.TheVariants.{Number, MaskedMac, Prefix, Address}
use Rattle.conf_shape.specs.declared.kinds.MapKind.TheVariants as maps
use Rattle.conf_shape.specs.declared.raw.RawField.{RawField}
use Rattle.conf_shape.specs.Addresses.{is_masked, mac_fault, masked_fault, masked_parts, ip_in, net_in, other_cause, has_no_host_bits, network_fault, address_or, prefix_cause, address_cause}
use Rattle.conf_shape.specs.Keys.{KeyRow, Keys, keys_of, match_keys}
use Rattle.conf_shape.specs.Sections.{key_text, canonical, row_at, spells, row_kind, text_kind, under_key}
use Rattle.conf_shape.specs.Faults.{faults_of, entry_of, map_faults}
use Rattle.conf_shape.specs.Scalars.{within, asked_scalar}
use Rattle.conf_shape.specs.Values.{number_field, mac_number, masked, mac_parts, mac_field, prefix_of, ip_field, text_field, field_in, field_of, spelled_at, raw_field_or, raw_field, ahead, fields_by}
use Rattle.conf_shape.specs.Written.{IsRight}
use Rattle.law_checks.proofs.AskedForms.{scalar_right, IsWidth, HasForm, IsKey, every_key}
use Rattle.law_checks.proofs.Right.{HasKind, entry_right}
use Rattle.law_checks.proofs.Values.{within_again, number_right, text_right}
use Rattle.law_checks.proofs.Addresses.{spelled_six, masked_value, ip_ok, net_ok}

-- ---- what a field asks

record IsAsked (id : FieldId) (field : Field) : Type 0 where
  is : field.id ≡ id
  may : MayAsk id field

number_asked : (id : FieldId) (low high : ℕ) → high ≤ 0xffff → ((k : ℕ) → low ≤ k → k ≤ high → IsAsked id (number_field id k)) → (t : Tree) → faults_of t (One (Number low high)) ≡ [] → IfSome (field_of id t) (IsAsked id)
number_asked id low high small each t h =
    let r = number_right low high t h in
    let fits : r.0 ≤ 0xffff = omega (arith, r.3) in
    let read : within 0 0xffff (pos r.0) ≡ Some r.0 = within_again 0 0xffff r.0 (omega arith) fits in
    subst (λ x. IfSome (field_in id x) (IsAsked id)) (sym r.1) (subst (λ o. IfSome (option_map (number_field id) o) (IsAsked id)) (sym read) (each r.0 r.2 r.3))

-- ---- Ethernet addresses

module _ (id : FieldId) (whole : ids.all_ones id ≡ 2 ^ 48 - 1) (may : (field : Field) → IsMasked 48 field → MayAsk id field) where
  mac_asked : (bytes text : List ℕ) → spelled_mac text ≡ Some bytes → IsAsked id (exact id (mac_value (record { 0 = bytes })))
  mac_asked bytes text e =
      let below = mac_below (record { 0 = bytes }) (spelled_six text bytes e) in
      let all : bit_and (mac_value (record { 0 = bytes })) (ids.all_ones id) ≡ mac_value (record { 0 = bytes }) = ap (bit_and (mac_value (record { 0 = bytes }))) whole ∙ and_mask (mac_value (record { 0 = bytes })) 48 ∙ omega (arith, below) in
      record { is = refl; may = may _ (record { some = omega (arith, whole); most = omega (arith, whole); within = all }) }

  mask_asked : (value mask before behind : List ℕ) → spelled_mac before ≡ Some value → spelled_mac behind ≡ Some mask → is_masked value mask ≡ true → IfSome (masked id (mac_number (Some value)) (mac_number (Some mask))) (IsAsked id)
  mask_asked value mask before behind e f is = by (mac_value (record { 0 = mask }) == 0) refl
    where
      by : (zero : Bool) → (mac_value (record { 0 = mask }) == 0) ≡ zero → IfSome (if zero then None else Some (record { id = id; value = mac_value (record { 0 = value }); mask = mac_value (record { 0 = mask }) })) (IsAsked id)
      by true z = tt
      by false z =
          let six = spelled_six behind mask f in
          let below = mac_below (record { 0 = mask }) six in
          let some : mac_value (record { 0 = mask }) ≡ 0 → ⊥ = eqb-false (mac_value (record { 0 = mask })) 0 z in
          record { is = refl; may = may _ (record { some = omega (arith, some); most = below; within = masked_value value mask (spelled_six before value e) six is }) }

  mac_parts_asked : (text : List ℕ) (o : Option (List ℕ × List ℕ)) → masked_parts text o ≡ None → IfSome (mac_parts id text o) (IsAsked id)
  mac_parts_asked text None h = by (spelled_mac text) refl h
    where
      by : (read : Option (List ℕ)) → spelled_mac text ≡ read → mac_fault read ≡ None → IfSome (option_map (exact id) (mac_number read)) (IsAsked id)
      by None r h = absurd cc
      by (Some bytes) r h = mac_asked bytes text r
  mac_parts_asked text (Some parts) h = by (spelled_mac parts.0) (spelled_mac parts.1) refl refl h
    where
      tested : (value mask : List ℕ) → spelled_mac parts.0 ≡ Some value → spelled_mac parts.1 ≡ Some mask → (is : Bool) → is_masked value mask ≡ is → (if is then None else Some BadText) ≡ None → IfSome (masked id (mac_number (Some value)) (mac_number (Some mask))) (IsAsked id)
      tested value mask v m true is h = mask_asked value mask parts.0 parts.1 v m is
      tested value mask v m false is h = absurd cc

      by : (value mask : Option (List ℕ)) → spelled_mac parts.0 ≡ value → spelled_mac parts.1 ≡ mask → masked_fault value mask ≡ None → IfSome (masked id (mac_number value) (mac_number mask)) (IsAsked id)
      by (Some value) (Some mask) v m h = tested value mask v m (is_masked value mask) refl h
      by (Some value) None v m h = absurd cc
      by None mask v m h = absurd cc

  macs_asked : ((text : List ℕ) → text_field id text ≡ mac_field id text) → (t : Tree) → faults_of t (One MaskedMac) ≡ [] → IfSome (field_of id t) (IsAsked id)
  macs_asked by_mac t h =
      let r = text_right MaskedMac (record { no_flag = refl; no_number = λ n. refl }) t h in
      let here : IfSome (mac_field id r.0) (IsAsked id) = mac_parts_asked r.0 (cut_at 47 r.0) r.2 in
      subst (λ x. IfSome (field_in id x) (IsAsked id)) (sym r.1) (subst (λ o. IfSome o (IsAsked id)) (sym (by_mac r.0)) here)

-- ---- IP

module _ (id : FieldId) (width : ℕ) (known : IsWidth width) where
  module _ (some : 0 < width) (whole : ids.all_ones id ≡ 2 ^ width - 1) (may : (field : Field) → IsPrefix width field → MayAsk id field) where
    ip_asked : (n : ℕ) → n < 2 ^ width → IsAsked id (exact id n)
    ip_asked n below = record { is = refl; may = may (exact id n) (record { host_bits = 0; long = some; mask = whole; most = below; zeros = omega arith }) }

    net_asked : (n len : ℕ) → n < 2 ^ width → len ≤ width → n % 2 ^ (width - len) ≡ 0 → (len ≡ 0 → ⊥) → IsAsked id (prefix_in width id n len)
    net_asked n len below short zeros there =
        let parts = div-add-mod' n (2 ^ (width - len)) in
        let same : n / 2 ^ (width - len) * 2 ^ (width - len) ≡ n = omega (arith, parts, zeros) in
        record { is = refl; may = may (prefix_in width id n len) (record { host_bits = width - len; long = omega (arith, there, some, short); mask = refl; most = subst (λ (m : ℕ). m < 2 ^ width) (sym same) below; zeros = ap (λ n. n % 2 ^ (width - len)) same ∙ zeros }) }

    prefix_asked : (text : List ℕ) → prefix_cause width text ≡ None → IfSome (ip_field id (ip_in width text) (net_in width text)) (IsAsked id)
    prefix_asked text h = by (ip_in width text) (net_in width text) refl refl h
      where
        by_net : (net : Net) → net_in width text ≡ Some net → (bits : Bool) → has_no_host_bits net ≡ bits → (if bits then None else Some BadText) ≡ None → (all : Bool) → (len_of net == 0) ≡ all → IfSome (if all then None else Some (prefix_of id net)) (IsAsked id)
        by_net net r bits b h true a = tt
        by_net net r false b h false a = absurd cc
        by_net net r true b h false a =
            let ok = net_ok width text net r in
            let n = ip_value (address_of net) in
            let len = len_of net in
            let family : width_of (address_of net) ≡ width = ok.family ∙ known in
            let zeros : n % 2 ^ (width - len) ≡ 0 = subst (λ (w : ℕ). n % 2 ^ (w - len) ≡ 0) family (eqb-true (n % 2 ^ host_bits net) 0 b) in
            let asked : IsAsked id (prefix_in width id n len) = net_asked n len (subst (λ (w : ℕ). n < 2 ^ w) family ok.fits) (subst (λ (w : ℕ). len ≤ w) family ok.short) zeros (eqb-false len 0 a) in
            subst (λ (w : ℕ). IsAsked id (prefix_in w id n len)) (sym family) asked

        by : (ip : Option Ip) (net : Option Net) → ip_in width text ≡ ip → net_in width text ≡ net → address_or (network_fault (other_cause width text) net) ip ≡ None → IfSome (ip_field id ip net) (IsAsked id)
        by (Some ip) net i n h = let ok = ip_ok width text ip i in let family : width_of ip ≡ width = ok.family ∙ known in ip_asked (ip_value ip) (subst (λ (w : ℕ). ip_value ip < 2 ^ w) family ok.fits)
        by None None i n h = absurd cc
        by None (Some net) i n h = by_net net n (has_no_host_bits net) refl h (len_of net == 0) refl

    prefixes_asked : ((text : List ℕ) → text_field id text ≡ ip_field id (ip_in width text) (net_in width text)) → (t : Tree) → faults_of t (One (Prefix width)) ≡ [] → IfSome (field_of id t) (IsAsked id)
    prefixes_asked by_ip t h =
        let r = text_right (Prefix width) (record { no_flag = refl; no_number = λ n. refl }) t h in
        subst (λ x. IfSome (field_in id x) (IsAsked id)) (sym r.1) (subst (λ o. IfSome o (IsAsked id)) (sym (by_ip r.0)) (prefix_asked r.0 r.2))

  -- an address alone
  module _ (may : (n : ℕ) → n < 2 ^ width → MayAsk id (exact id n)) where
    address_asked : (text : List ℕ) → address_cause width text ≡ None → IfSome (ip_field id (ip_in width text) (net_in width text)) (IsAsked id)
    address_asked text h = by (ip_in width text) refl h
      where
        by : (ip : Option Ip) → ip_in width text ≡ ip → address_or (Some BadText) ip ≡ None → IfSome (ip_field id ip (net_in width text)) (IsAsked id)
        by (Some ip) i h =
            let ok = ip_ok width text ip i in
            let family : width_of ip ≡ width = ok.family ∙ known in
            record { is = refl; may = may (ip_value ip) (subst (λ (w : ℕ). ip_value ip < 2 ^ w) family ok.fits) }
        by None i h = absurd cc

    addresses_asked : ((text : List ℕ) → text_field id text ≡ ip_field id (ip_in width text) (net_in width text)) → (t : Tree) → faults_of t (One (Address width)) ≡ [] → IfSome (field_of id t) (IsAsked id)
    addresses_asked by_ip t h =
        let r = text_right (Address width) (record { no_flag = refl; no_number = λ n. refl }) t h in
        subst (λ x. IfSome (field_in id x) (IsAsked id)) (sym r.1) (subst (λ o. IfSome o (IsAsked id)) (sym (by_ip r.0)) (address_asked r.0 r.2))

-- ---- the entry of a field, in any of its spellings

row_there : (name : List ℕ) (r : KeyRow) → row_at name (keys_of maps.Rule).rows ≡ Some r → (earlier : List Key) (text : List ℕ) → canonical (keys_of maps.Rule).spellings text ≡ name → (t : Tree) → HasKind t (text_kind (keys_of maps.Rule) None earlier text) → faults_of t r.kind ≡ []
row_there name r at earlier text same t h = by (list_any (λ name. bytes_eq name text) (keys_of maps.Rule).left_out) h
  where
    keys : Keys
    keys = keys_of maps.Rule

    once : (twice : Bool) → HasKind t (if twice then Err Duplicate else Ok r.kind) → faults_of t r.kind ≡ []
    once true h = absurd (cc (h.1))
    once false h = let is : h.0 ≡ r.kind = cc (h.1) in subst (λ kind. faults_of t kind ≡ []) is h.2

    by : (left_out : Bool) → HasKind t (if left_out then Err LeftOut else row_kind keys None earlier (row_at (canonical keys.spellings text) keys.rows)) → faults_of t r.kind ≡ []
    by true h = absurd (cc (h.1))
    by false h =
        let there : row_at (canonical keys.spellings text) keys.rows ≡ Some r = ap (λ name. row_at name keys.rows) same ∙ at in
        once (list_any (spells keys.spellings r.key) earlier) (subst (λ o. HasKind t (row_kind keys None earlier o)) there h)

module _ (name : List ℕ) (r : KeyRow) (there : row_at name (keys_of maps.Rule).rows ≡ Some r) where
  pub spelled_right : (earlier : List Key) (pairs : List Pair) → map_faults maps.Rule earlier (map entry_of pairs) ≡ [] → IfSome (spelled_at (keys_of maps.Rule).spellings name pairs) (λ p. faults_of p.value r.kind ≡ [])
  spelled_right earlier [] h = tt
  spelled_right earlier (p ∷ ps) h = let e = entry_right maps.Rule earlier p ps h in by p.key (spells (keys_of maps.Rule).spellings name p.key) refl e.0 (spelled_right (earlier ++ p.key ∷ []) ps e.1)
    where
      by : (k : Key) (is : Bool) → spells (keys_of maps.Rule).spellings name k ≡ is → HasKind p.value (under_key maps.Rule earlier k) → IfSome (spelled_at (keys_of maps.Rule).spellings name ps) (λ p. faults_of p.value r.kind ≡ []) → IfSome (if is then Some p else spelled_at (keys_of maps.Rule).spellings name ps) (λ p. faults_of p.value r.kind ≡ [])
      by k false s here later = later
      by (key.Int n) true s here later = absurd cc
      by (key.Text text) true s here later = row_there name r there earlier text ((bytes_eq-Decides (canonical (keys_of maps.Rule).spellings text) name).0 s) p.value here

abbrev Asks : List Pair → List ℕ × FieldId → Type 0
Asks pairs k = IfSome (raw_field k.1 (spelled_at (keys_of maps.Rule).spellings k.0 pairs)) (λ f. IsAsked k.1 f.field)

asks : (pairs : List Pair) (name : List ℕ) (id : FieldId) (r : KeyRow) → IsRight maps.Rule pairs → row_at name (keys_of maps.Rule).rows ≡ Some r → ((t : Tree) → faults_of t r.kind ≡ [] → IfSome (field_of id t) (IsAsked id)) → Asks pairs (name, id)
asks pairs name id r right at each = by (spelled_at (keys_of maps.Rule).spellings name pairs) (spelled_right name r at [] pairs right)
  where
    named : (text : List ℕ) (o : Option Field) → IfSome o (IsAsked id) → IfSome (raw_field_or text o) (λ f. IsAsked id f.field)
    named text None h = tt
    named text (Some field) h = h

    by : (o : Option Pair) → IfSome o (λ p. faults_of p.value r.kind ≡ []) → IfSome (raw_field id o) (λ f. IsAsked id f.field)
    by None h = tt
    by (Some p) h = named (key_text p.key) (field_of id p.value) (each p.value h)

-- ---- all fields of a rule

-- no two of the numbers are equal
abbrev are_apart : List ℕ → Bool
are_apart [] = true
are_apart (n ∷ ns) = not (is_among ns n) && are_apart ns

module _ (pairs : List Pair) where
  fields_ask : (ks : List (List ℕ × FieldId)) → AllByRecursion (Asks pairs) ks → AllByRecursion (λ f. MayAsk f.field.id f.field) (fields_by (keys_of maps.Rule).spellings ks pairs)
  fields_ask [] all = tt
  fields_ask (k ∷ ks) all = by (raw_field k.1 (spelled_at (keys_of maps.Rule).spellings k.0 pairs)) all.0 (fields_ask ks all.1)
    where
      by : (o : Option RawField) → IfSome o (λ f. IsAsked k.1 f.field) → AllByRecursion (λ f. MayAsk f.field.id f.field) (fields_by (keys_of maps.Rule).spellings ks pairs) → AllByRecursion (λ f. MayAsk f.field.id f.field) (ahead o (fields_by (keys_of maps.Rule).spellings ks pairs))
      by None h more = more
      by (Some f) h more = (subst (λ id. MayAsk id f.field) (sym h.is) h.may, more)

  others : (number : ℕ) (ks : List (List ℕ × FieldId)) → is_among (map (λ k. ids.number_of k.1) ks) number ≡ false → AllByRecursion (Asks pairs) ks → AllByRecursion (λ g. number ≡ ids.number_of g.field.id → ⊥) (fields_by (keys_of maps.Rule).spellings ks pairs)
  others number [] none all = tt
  others number (k ∷ ks) none all = let parts = or_parts (ids.number_of k.1 == number) _ none in by (raw_field k.1 (spelled_at (keys_of maps.Rule).spellings k.0 pairs)) all.0 (eqb-false (ids.number_of k.1) number parts.0) (others number ks parts.1 all.1)
    where
      by : (o : Option RawField) → IfSome o (λ f. IsAsked k.1 f.field) → (ids.number_of k.1 ≡ number → ⊥) → AllByRecursion (λ g. number ≡ ids.number_of g.field.id → ⊥) (fields_by (keys_of maps.Rule).spellings ks pairs) → AllByRecursion (λ g. number ≡ ids.number_of g.field.id → ⊥) (ahead o (fields_by (keys_of maps.Rule).spellings ks pairs))
      by None h apart more = more
      by (Some f) h apart more = ((λ same. apart (sym (same ∙ ap ids.number_of h.is))), more)

  fields_once : (ks : List (List ℕ × FieldId)) → are_apart (map (λ k. ids.number_of k.1) ks) ≡ true → AllByRecursion (Asks pairs) ks → EachBefore (λ f g. ids.number_of f.field.id ≡ ids.number_of g.field.id → ⊥) (fields_by (keys_of maps.Rule).spellings ks pairs)
  fields_once [] apart all = tt
  fields_once (k ∷ ks) apart all =
      let parts = and_parts (not (is_among (map (λ k. ids.number_of k.1) ks) (ids.number_of k.1))) _ apart in
      by (raw_field k.1 (spelled_at (keys_of maps.Rule).spellings k.0 pairs)) all.0 (others (ids.number_of k.1) ks (not-true (is_among (map (λ k. ids.number_of k.1) ks) (ids.number_of k.1)) parts.0) all.1) (fields_once ks parts.1 all.1)
    where
      by : (o : Option RawField) → IfSome o (λ f. IsAsked k.1 f.field) → AllByRecursion (λ g. ids.number_of k.1 ≡ ids.number_of g.field.id → ⊥) (fields_by (keys_of maps.Rule).spellings ks pairs) → EachBefore (λ f g. ids.number_of f.field.id ≡ ids.number_of g.field.id → ⊥) (fields_by (keys_of maps.Rule).spellings ks pairs) → EachBefore (λ f g. ids.number_of f.field.id ≡ ids.number_of g.field.id → ⊥) (ahead o (fields_by (keys_of maps.Rule).spellings ks pairs))
      by None h rest more = more
      by (Some f) h rest more = (subst (λ number. AllByRecursion (λ g. number ≡ ids.number_of g.field.id → ⊥) (fields_by (keys_of maps.Rule).spellings ks pairs)) (sym (ap ids.number_of h.is)) rest, more)

-- ---- each match key

-- by the form of the field
value_asked : (id : FieldId) → HasForm id → (t : Tree) → faults_of t (One (asked_scalar id)) ≡ [] → IfSome (field_of id t) (IsAsked id)
value_asked id (inl mac) t h = macs_asked id mac.whole mac.may mac.reads t (subst (λ s. faults_of t (One s) ≡ []) mac.scalar h)
value_asked id (inr (inl ip)) t h = prefixes_asked id ip.width ip.known ip.some ip.whole ip.may ip.reads t (subst (λ s. faults_of t (One s) ≡ []) ip.scalar h)
value_asked id (inr (inr (inl ip))) t h = addresses_asked id ip.width ip.known ip.may ip.reads t (subst (λ s. faults_of t (One s) ≡ []) ip.scalar h)
value_asked id (inr (inr (inr number))) t h =
    number_asked id number.low number.high number.small (λ k least most. record { is = refl; may = number.may k least most }) t (subst (λ s. faults_of t (One s) ≡ []) number.scalar h)

module _ (pairs : List Pair) (right : IsRight maps.Rule pairs) where
  key_asks : (k : List ℕ × FieldId) → IsKey k → Asks pairs k
  key_asks k key = asks pairs k.0 k.1 key.row right key.at (λ t h. value_asked k.1 key.form t (scalar_right k.1 t (subst (λ kind. faults_of t kind ≡ []) key.kind h)))

  all_ask : (ks : List (List ℕ × FieldId)) → AllByRecursion IsKey ks → AllByRecursion (Asks pairs) ks
  all_ask [] keys = tt
  all_ask (k ∷ ks) keys = (key_asks k keys.0, all_ask ks keys.1)

  every_field : AllByRecursion (Asks pairs) match_keys
  every_field = all_ask match_keys every_key

  pub fields_may : AllByRecursion (λ f. MayAsk f.field.id f.field) (fields_by (keys_of maps.Rule).spellings match_keys pairs)
  fields_may = fields_ask pairs match_keys every_field

  pub fields_apart : EachBefore (λ f g. ids.number_of f.field.id ≡ ids.number_of g.field.id → ⊥) (fields_by (keys_of maps.Rule).spellings match_keys pairs)
  fields_apart = fields_once pairs match_keys refl every_field
