-- How a match key's value asks for its field: by an Ethernet address, by one of IP, or by a number.
use Rattle.std.proofs.Common.{◌≡◌, ℕ, ◌-◌, ◌*◌, ◌^◌, ◌<◌, ◌≤◌, ◌==◌, ◌&&◌, ◌||◌, not, Bool, true, false, List, [], ◌∷◌, Option, Some, None, refl, sym, ap, ◌∙◌, inl, inr, ◌⊎◌, subst, arith, eqb-true}
use Rattle.std.specs.Prelude.{nat_le, if◌then◌else◌}
use Rattle.std.specs.List.{AllByRecursion, list_all}
use Rattle.std.proofs.Math.Nat.{pow-le-pow_right}
use Rattle.std.proofs.lemmas.Bool.{and_parts, or_cases, not-true, leb-true, lt-ltb}
use Rattle.net_base.specs.declared.field.Field.{Field}
use Rattle.net_base.specs.declared.field.FieldId.{FieldId}
use Rattle.net_base.specs.declared.field.FieldId.TheVariants.{InPort, VlanVid}
use Rattle.net_base.specs.Field.{exact}
use Rattle.net_base.specs.FieldId.{number_of, bits_of, byte_len_of, may_be_masked, all_ones}
use Rattle.net_base.proofs.Rows.{same_field}
use Rattle.yaml_tree.specs.declared.tree.Pair.{Pair}
use Rattle.yaml_tree.specs.declared.tree.Tree.{Tree, roll-Tree, out-Tree, roll-out-Tree}
use Rattle.yaml_tree.specs.declared.tree.Tree.TheOpen.{Tree-F}
use Rattle.yaml_tree.specs.declared.tree.Tree.TheOpen as tree
use Rattle.yaml_tree.specs.declared.tree.Tree.TheFolds.{fold-roll-Tree}
use Rattle.conf_types.specs.RuleFields.{IsMasked, IsPrefix, IsAddress, MayAskBits, MayAsk}
use Rattle.conf_shape.specs.declared.kinds.TheConstants.{MOST_VID}
use Rattle.conf_shape.specs.declared.kinds.Kind.{Kind}
use Rattle.conf_shape.specs.declared.kinds.Kind.TheVariants.{One, Asked}
use Rattle.conf_shape.specs.declared.kinds.Scalar.TheVariants.{Number, MaskedMac, Prefix, Address}
use Rattle.conf_shape.specs.declared.kinds.MapKind.TheVariants as maps
use Rattle.conf_shape.specs.Addresses.{ip_in, net_in}
use Rattle.conf_shape.specs.Keys.{KeyRow, keys_of, match_keys}
use Rattle.conf_shape.specs.Sections.{row_at}
use Rattle.conf_shape.specs.Faults.{Faults, Entry, tree_step, pair_step, faults_of}
use Rattle.conf_shape.specs.Scalars.{bits_scalar, asked_scalar}
use Rattle.conf_shape.specs.Values.{tag_bit, number_field, mac_field, ip_field, text_field}

-- ---- what is asked has no fault where its scalar has none

same_faults : (id : FieldId) (x : Tree-F Tree Pair) → faults_of (roll-Tree x) (Asked id) ≡ faults_of (roll-Tree x) (One (asked_scalar id))
same_faults id tree.Null = ap (λ (f : Faults). f (Asked id)) (fold-roll-Tree Faults Entry tree_step pair_step tree.Null) ∙ sym (ap (λ (f : Faults). f (One (asked_scalar id))) (fold-roll-Tree Faults Entry tree_step pair_step tree.Null))
same_faults id x = ap (λ (f : Faults). f (Asked id)) (fold-roll-Tree Faults Entry tree_step pair_step x) ∙ sym (ap (λ (f : Faults). f (One (asked_scalar id))) (fold-roll-Tree Faults Entry tree_step pair_step x))

pub scalar_right : (id : FieldId) (t : Tree) → faults_of t (Asked id) ≡ [] → faults_of t (One (asked_scalar id)) ≡ []
scalar_right id t h = sym (subst (λ t. faults_of t (Asked id) ≡ faults_of t (One (asked_scalar id))) (roll-out-Tree t) (same_faults id (out-Tree t))) ∙ h

-- ---- the forms

pub record IsMacField (id : FieldId) : Type 0 where
  pub scalar : asked_scalar id ≡ MaskedMac
  pub whole : all_ones id ≡ 2 ^ 48 - 1
  pub reads : (text : List ℕ) → text_field id text ≡ mac_field id text
  pub may : (field : Field) → IsMasked 48 field → MayAsk id field

-- the width is that of a family
abbrev pub IsWidth : ℕ → Type 0
IsWidth width = (if width == 128 then 128 else 32) ≡ width

pub record IsIpField (id : FieldId) : Type 0 where
  pub width : ℕ
  pub known : IsWidth width
  pub some : 0 < width
  pub scalar : asked_scalar id ≡ Prefix width
  pub whole : all_ones id ≡ 2 ^ width - 1
  pub reads : (text : List ℕ) → text_field id text ≡ ip_field id (ip_in width text) (net_in width text)
  pub may : (field : Field) → IsPrefix width field → MayAsk id field

-- of which no bits may be left out
pub record IsAddressField (id : FieldId) : Type 0 where
  pub width : ℕ
  pub known : IsWidth width
  pub scalar : asked_scalar id ≡ Address width
  pub reads : (text : List ℕ) → text_field id text ≡ ip_field id (ip_in width text) (net_in width text)
  pub may : (n : ℕ) → n < 2 ^ width → MayAsk id (exact id n)

pub record IsNumberField (id : FieldId) : Type 0 where
  pub low : ℕ
  pub high : ℕ
  pub scalar : asked_scalar id ≡ Number low high
  pub small : high ≤ 0xffff
  pub may : (n : ℕ) → low ≤ n → n ≤ high → MayAsk id (number_field id n)

abbrev pub HasForm : FieldId → Type 0
HasForm id = IsMacField id ⊎ (IsIpField id ⊎ (IsAddressField id ⊎ IsNumberField id))

abbrev is_mac : FieldId → Bool
is_mac id = may_be_masked id && (bits_of id == 48 && byte_len_of id == 6)

abbrev has_size : FieldId → ℕ → ℕ → Bool
has_size id bits bytes = bits_of id == bits && byte_len_of id == bytes

abbrev is_ip : FieldId → Bool
is_ip id = may_be_masked id && (has_size id 32 4 || has_size id 128 16)

abbrev is_address : FieldId → Bool
is_address id = not (may_be_masked id) && has_size id 128 16

abbrev is_number : FieldId → Bool
is_number id = not (may_be_masked id) && nat_le (bits_of id) 16

abbrev is_askable : FieldId → Bool
is_askable id = not (number_of id == 0) && ((number_of id == 6) || (is_mac id || (is_ip id || (is_address id || is_number id))))

by_row : (id : FieldId) → (number_of id == 0) ≡ false → (number_of id == 6) ≡ false → (asked_scalar id ≡ bits_scalar (bits_of id) (may_be_masked id)) × (tag_bit id ≡ 0) × ((field : Field) → MayAskBits (bits_of id) (may_be_masked id) field → MayAsk id field)
by_row InPort port tag = absurd cc
by_row VlanVid port tag = absurd cc
by_row id port tag = (refl, refl, λ field h. h)

vlan_form : IsNumberField VlanVid
vlan_form = record { low = 1; high = MOST_VID; scalar = refl; small = omega arith; may = λ n least most. record { from = omega arith; to = omega arith; whole = refl } }

module _ (id : FieldId) (port : (number_of id == 0) ≡ false) (tag : (number_of id == 6) ≡ false) where
  mac_form : is_mac id ≡ true → IsMacField id
  mac_form is =
      let row = by_row id port tag in
      let masked = and_parts (may_be_masked id) (bits_of id == 48 && byte_len_of id == 6) is in
      let sizes = and_parts (bits_of id == 48) (byte_len_of id == 6) masked.1 in
      let bits = eqb-true (bits_of id) 48 sizes.0 in
      let bytes = eqb-true (byte_len_of id) 6 sizes.1 in
      record {
        scalar = row.0 ∙ (λ i. bits_scalar (bits i) (masked.0 i));
        whole = ap (λ n. 2 ^ (8 * n) - 1) bytes;
        reads = λ text. ap (λ n. if n == 48 then mac_field id text else ip_field id (ip_in n text) (net_in n text)) bits;
        may = λ field h. row.2 field (subst (λ may. MayAskBits (bits_of id) may field) (sym masked.0) (subst (λ n. MayAskBits n true field) (sym bits) h));
      }

  sized_form : (width bytes : ℕ) → IsWidth width → 0 < width → (width == 48) ≡ false → 8 * bytes ≡ width → may_be_masked id ≡ true → has_size id width bytes ≡ true → IsIpField id
  sized_form width bytes known some other eight masked is =
      let row = by_row id port tag in
      let sizes = and_parts (bits_of id == width) (byte_len_of id == bytes) is in
      let bits = eqb-true (bits_of id) width sizes.0 in
      let len = eqb-true (byte_len_of id) bytes sizes.1 in
      record {
        width = width;
        known = known;
        some = some;
        scalar = row.0 ∙ (λ i. bits_scalar (bits i) (masked i)) ∙ ap (λ b. if b then MaskedMac else Prefix width) other;
        whole = ap (λ n. 2 ^ (8 * n) - 1) len ∙ ap (λ n. 2 ^ n - 1) eight;
        reads = λ text. ap (λ n. if n == 48 then mac_field id text else ip_field id (ip_in n text) (net_in n text)) bits
            ∙ ap (λ b. if b then mac_field id text else ip_field id (ip_in width text) (net_in width text)) other;
        may = λ field h. row.2 field (subst (λ may. MayAskBits (bits_of id) may field) (sym masked) (subst (λ n. MayAskBits n true field) (sym bits) (subst (λ b. IsAddress b width field) (sym other) h)));
      }

  ip_form : is_ip id ≡ true → IsIpField id
  ip_form is =
      let parts = and_parts (may_be_masked id) (has_size id 32 4 || has_size id 128 16) is in
      elim (or_cases (has_size id 32 4) (has_size id 128 16) parts.1) [
        | inl four ↦ sized_form 32 4 refl (omega arith) refl refl parts.0 four
        | inr six ↦ sized_form 128 16 refl (omega arith) refl refl parts.0 six
      ]

  address_form : is_address id ≡ true → IsAddressField id
  address_form is =
      let row = by_row id port tag in
      let parts = and_parts (not (may_be_masked id)) (has_size id 128 16) is in
      let unmasked : may_be_masked id ≡ false = not-true (may_be_masked id) parts.0 in
      let bits = eqb-true (bits_of id) 128 (and_parts (bits_of id == 128) (byte_len_of id == 16) parts.1).0 in
      record {
        width = 128;
        known = refl;
        scalar = row.0 ∙ (λ i. bits_scalar (bits i) (unmasked i));
        reads = λ text. ap (λ n. if n == 48 then mac_field id text else ip_field id (ip_in n text) (net_in n text)) bits;
        may = λ n below. row.2 (exact id n) (subst (λ may. MayAskBits (bits_of id) may (exact id n)) (sym unmasked) (subst (λ m. MayAskBits m false (exact id n)) (sym bits) (record { from = omega arith; to = omega (arith, below); whole = refl })));
      }

  number_form : is_number id ≡ true → IsNumberField id
  number_form is =
      let row = by_row id port tag in
      let parts = and_parts (not (may_be_masked id)) (nat_le (bits_of id) 16) is in
      let unmasked : may_be_masked id ≡ false = not-true (may_be_masked id) parts.0 in
      let few : 2 ^ bits_of id ≤ 2 ^ 16 = pow-le-pow_right {n = 2} (omega arith) (leb-true (bits_of id) 16 parts.1) in
      record {
        low = 0;
        high = 2 ^ bits_of id - 1;
        scalar = row.0 ∙ ap (bits_scalar (bits_of id)) unmasked ∙ ap (λ b. if b then Number 0 (2 ^ bits_of id - 1) else Address (bits_of id)) (lt-ltb (bits_of id) 64 (omega (arith, leb-true (bits_of id) 16 parts.1)));
        small = omega (arith, few);
        may = λ n least most. row.2 (number_field id n) (subst (λ may. MayAskBits (bits_of id) may (number_field id n)) (sym unmasked)
            (let bit = row.1 in record { from = omega arith; to = omega (arith, most, bit); whole = refl }));
      }

has_form : (id : FieldId) → is_askable id ≡ true → HasForm id
has_form id is =
    let parts = and_parts (not (number_of id == 0)) ((number_of id == 6) || (is_mac id || (is_ip id || (is_address id || is_number id)))) is in
    by (not-true (number_of id == 0) parts.0) (number_of id == 6) refl parts.1
  where
    unmasked : (number_of id == 0) ≡ false → (number_of id == 6) ≡ false → (is_address id ≡ true) ⊎ (is_number id ≡ true) → HasForm id
    unmasked port tag (inl address) = inr (inr (inl (address_form id port tag address)))
    unmasked port tag (inr number) = inr (inr (inr (number_form id port tag number)))

    among : (number_of id == 0) ≡ false → (number_of id == 6) ≡ false → (is_mac id ≡ true) ⊎ ((is_ip id || (is_address id || is_number id)) ≡ true) → HasForm id
    among port tag (inl mac) = inl (mac_form id port tag mac)
    among port tag (inr more) = elim (or_cases (is_ip id) (is_address id || is_number id) more) [
      | inl ip ↦ inr (inl (ip_form id port tag ip))
      | inr rest ↦ unmasked port tag (or_cases (is_address id) (is_number id) rest)
    ]

    by : (number_of id == 0) ≡ false → (b : Bool) → (number_of id == 6) ≡ b → (b || (is_mac id || (is_ip id || (is_address id || is_number id)))) ≡ true → HasForm id
    by port true tag able = subst HasForm (sym (same_field id VlanVid (eqb-true (number_of id) 6 tag))) (inr (inr (inr vlan_form)))
    by port false tag able = among port tag (or_cases (is_mac id) (is_ip id || (is_address id || is_number id)) able)

-- ---- the match keys

-- the key's row asks for its field, which has a form
pub record IsKey (k : List ℕ × FieldId) : Type 0 where
  pub row : KeyRow
  pub at : row_at k.0 (keys_of maps.Rule).rows ≡ Some row
  pub kind : row.kind ≡ Asked k.1
  pub form : HasForm k.1

abbrev asks_for : Kind → FieldId → Bool
asks_for (Asked other) id = number_of other == number_of id
asks_for kind id = false

asked_kind : (kind : Kind) (id : FieldId) → asks_for kind id ≡ true → kind ≡ Asked id
asked_kind (Asked other) id is = ap Asked (same_field other id (eqb-true (number_of other) (number_of id) is))
asked_kind kind id is = absurd cc

abbrev row_asks : Option KeyRow → FieldId → Bool
row_asks (Some r) id = asks_for r.kind id
row_asks None id = false

abbrev is_key : List ℕ × FieldId → Bool
is_key k = row_asks (row_at k.0 (keys_of maps.Rule).rows) k.1 && is_askable k.1

key_is : (k : List ℕ × FieldId) → is_key k ≡ true → IsKey k
key_is k is = let parts = and_parts (row_asks (row_at k.0 (keys_of maps.Rule).rows) k.1) (is_askable k.1) is in by (row_at k.0 (keys_of maps.Rule).rows) refl parts.0 (has_form k.1 parts.1)
  where
    by : (o : Option KeyRow) → row_at k.0 (keys_of maps.Rule).rows ≡ o → row_asks o k.1 ≡ true → HasForm k.1 → IsKey k
    by None at asks form = absurd cc
    by (Some r) at asks form = record { row = r; at = at; kind = asked_kind r.kind k.1 asks; form = form }

all_passed : {A : Type 0} (p : A → Bool) (P : A → Type 0) → ((x : A) → p x ≡ true → P x) → (xs : List A) → list_all p xs ≡ true → AllByRecursion P xs
all_passed p P each [] is = tt
all_passed p P each (x ∷ xs) is = let parts = and_parts (p x) (list_all p xs) is in (each x parts.0, all_passed p P each xs parts.1)

-- a test of the table of keys, which computing answers
pub every_key : AllByRecursion IsKey match_keys
every_key = all_passed is_key IsKey key_is match_keys refl
