-- When packets agree with the fields of flow entries: questions on their headers.
use Rattle.std.specs.Prelude.{◌≡◌, ℕ, ◌+◌, ◌-◌, ◌/◌, ◌%◌, ◌^◌, ◌<◌, ◌≤◌, ◌==◌, ◌&&◌, Bool, true, false, List, [], ◌∷◌, Option, Some}
use Rattle.std.specs.List.{AllByRecursion}
use Rattle.std.proofs.Common.{refl, sym, ap, ◌∙◌, arith, eqb-true, eq-eqb}
use Rattle.std.specs.Option.{option_map_or}
use Rattle.std.proofs.lemmas.Map.Text.{is_eq-slice_cmp}
use Rattle.std.proofs.lemmas.Slice.Eq.{bytes_eq-Decides}
use Rattle.net_base.specs.declared.address.Mac.{Mac}
use Rattle.net_base.specs.declared.field.Field.{Field}
use Rattle.net_base.specs.declared.field.FieldId.TheVariants.{InPort, EthDst, EthSrc, EthType, VlanVid}
use Rattle.net_base.specs.Address.{IsSixBytes, mac_value, mac_of}
use Rattle.net_base.specs.Numbers.{IsVid, IsPortNo}
use Rattle.net_base.proofs.Macs.{mac_below}
use Rattle.of_match.specs.declared.packet.Packet.{Packet}
use Rattle.of_match.specs.declared.packet.Tag.{Tag}
use Rattle.of_match.specs.Hit.{agrees, hits, value_of, vid_value, outermost}
use Rattle.of_match.specs.Shaped.{IsShaped, IsTag}
use Rattle.conf_types.specs.Lists.{is_same}
use Rattle.plan_base.specs.Fields.{in_port, eth_dst, eth_src, eth_type, vid_field, untagged}
use Rattle.law_runs.specs.Tests.{agrees_exact}

-- ---- texts and addresses

and_true : (b : Bool) → (b && true) ≡ b
and_true true = refl
and_true false = refl

-- one field, and more
pub hits_one : (f : Field) (port : ℕ) (p : Packet) → hits (f ∷ []) port p ≡ agrees f (value_of f.id port p)
hits_one f port p = and_true (agrees f (value_of f.id port p))

-- six bytes are those of their number (IEEE 802, 8.1)
bytes_again : (bytes : List ℕ) → IsSixBytes bytes → ◌≡◌ {A = List ℕ} (mac_of (mac_value (record { 0 = bytes }))).0 bytes
bytes_again [] six = absurd (omega (arith, six.count))
bytes_again (a ∷ []) six = absurd (omega (arith, six.count))
bytes_again (a ∷ b ∷ []) six = absurd (omega (arith, six.count))
bytes_again (a ∷ b ∷ c ∷ []) six = absurd (omega (arith, six.count))
bytes_again (a ∷ b ∷ c ∷ d ∷ []) six = absurd (omega (arith, six.count))
bytes_again (a ∷ b ∷ c ∷ d ∷ e ∷ []) six = absurd (omega (arith, six.count))
bytes_again (a ∷ b ∷ c ∷ d ∷ e ∷ f ∷ []) six =
    let v = mac_value (record { 0 = a ∷ b ∷ c ∷ d ∷ e ∷ f ∷ [] }) in
    let ea : v / 2 ^ 40 % 256 ≡ a = omega (arith, six.each) in
    let eb : v / 2 ^ 32 % 256 ≡ b = omega (arith, six.each) in
    let ec : v / 2 ^ 24 % 256 ≡ c = omega (arith, six.each) in
    let ed : v / 2 ^ 16 % 256 ≡ d = omega (arith, six.each) in
    let ee : v / 2 ^ 8 % 256 ≡ e = omega (arith, six.each) in
    let ef : v % 256 ≡ f = omega (arith, six.each) in
    λ i. ea i ∷ eb i ∷ ec i ∷ ed i ∷ ee i ∷ ef i ∷ []
bytes_again (a ∷ b ∷ c ∷ d ∷ e ∷ f ∷ g ∷ more) six = absurd (omega (arith, six.count))

pub mac_again : (mac : Mac) → IsSixBytes mac.0 → mac_of (mac_value mac) ≡ mac
mac_again mac six = ap (λ (bytes : List ℕ). let made : Mac = record { 0 = bytes } in made) (bytes_again mac.0 six)

-- two texts or addresses have the same bytes exactly where they are equal
pub same_bytes : (a b : List ℕ) → is_same a b ≡ true → a ≡ b
same_bytes a b is = (bytes_eq-Decides a b).0 (sym (is_eq-slice_cmp a b) ∙ is)

pub equal_bytes : (a b : List ℕ) → a ≡ b → is_same a b ≡ true
equal_bytes a b is = is_eq-slice_cmp a b ∙ (bytes_eq-Decides a b).1 is

-- so do addresses, as numbers
pub same_address : (a b : Mac) → IsSixBytes a.0 → IsSixBytes b.0 → (mac_value a == mac_value b) ≡ is_same a.0 b.0
same_address a b sa sb = by (mac_value a == mac_value b) (is_same a.0 b.0) refl refl
  where
    by : (x y : Bool) → (mac_value a == mac_value b) ≡ x → is_same a.0 b.0 ≡ y → x ≡ y
    by true true ex ey = refl
    by false false ex ey = refl
    by true false ex ey =
        let values = eqb-true (mac_value a) (mac_value b) ex in
        let bytes : a.0 ≡ b.0 = sym (bytes_again a.0 sa) ∙ ap (λ v. (mac_of v).0) values ∙ bytes_again b.0 sb in
        sym (equal_bytes a.0 b.0 bytes) ∙ ey
    by false true ex ey =
        let bytes = same_bytes a.0 b.0 ey in
        sym (sym (eq-eqb (mac_value a) (mac_value b) (ap (λ (bs : List ℕ). mac_value (record { 0 = bs })) bytes)) ∙ ex)

-- ---- fields

module _ (port : ℕ) (p : Packet) (shaped : IsShaped p) where
  pub by_port : port < 2 ^ 32 → (number : ℕ) → IsPortNo number → agrees (in_port number) (value_of InPort port p) ≡ (port == number)
  by_port fits number is = agrees_exact InPort number port fits (omega (arith, is.most))

  pub from_address : (mac : Mac) → IsSixBytes mac.0 → agrees (eth_src mac) (value_of EthSrc port p) ≡ is_same p.src.0 mac.0
  from_address mac six = agrees_exact EthSrc (mac_value mac) (mac_value p.src) (mac_below p.src shaped.src) (mac_below mac six) ∙ same_address p.src mac shaped.src six

  pub to_address : (mac : Mac) → IsSixBytes mac.0 → agrees (eth_dst mac) (value_of EthDst port p) ≡ is_same p.dst.0 mac.0
  to_address mac six = agrees_exact EthDst (mac_value mac) (mac_value p.dst) (mac_below p.dst shaped.dst) (mac_below mac six) ∙ same_address p.dst mac shaped.dst six

  pub of_type : (number : ℕ) → number < 2 ^ 16 → agrees (eth_type number) (value_of EthType port p) ≡ (p.eth_type == number)
  of_type number less = agrees_exact EthType number p.eth_type shaped.eth_type less

  vid_fits : (tags : List Tag) → AllByRecursion IsTag tags → vid_value tags < 2 ^ 16
  vid_fits [] all = omega arith
  vid_fits (tag ∷ tags) all = let fits = (all.0).vid in omega (arith, fits)

  pub in_vlan : (vid : ℕ) → IsVid vid → agrees (vid_field vid) (value_of VlanVid port p) ≡ (vid_value p.tags == 0x1000 + vid)
  in_vlan vid is = agrees_exact VlanVid (0x1000 + vid) (vid_value p.tags) (vid_fits p.tags shaped.tags) (omega (arith, is.most))

  pub without_a_tag : agrees untagged (value_of VlanVid port p) ≡ (vid_value p.tags == 0)
  without_a_tag = agrees_exact VlanVid 0 (vid_value p.tags) (vid_fits p.tags shaped.tags) (omega arith)

-- the identifier of a packet's outermost tag, as a field
pub tagged_value : (p : Packet) (tag : Tag) → outermost p.tags ≡ Some tag → vid_value p.tags ≡ 0x1000 + tag.vid
tagged_value p tag is = ap (λ (o : Option Tag). option_map_or (λ (t : Tag). 0x1000 + t.vid) o 0) is

-- which VLAN it names
pub names_vlan : (p : Packet) (tag : Tag) (vid : ℕ) → outermost p.tags ≡ Some tag → (vid_value p.tags == 0x1000 + vid) ≡ (tag.vid == vid)
names_vlan p tag vid is = ap (λ n. n == 0x1000 + vid) (tagged_value p tag is) ∙ by (0x1000 + tag.vid == 0x1000 + vid) (tag.vid == vid) refl refl
  where
    by : (x y : Bool) → (0x1000 + tag.vid == 0x1000 + vid) ≡ x → (tag.vid == vid) ≡ y → x ≡ y
    by true true ex ey = refl
    by false false ex ey = refl
    by true false ex ey = let e = eqb-true (0x1000 + tag.vid) (0x1000 + vid) ex in let same : tag.vid ≡ vid = omega (arith, e) in sym (eq-eqb tag.vid vid same) ∙ ey
    by false true ex ey = let e = eqb-true tag.vid vid ey in let same : 0x1000 + tag.vid ≡ 0x1000 + vid = omega (arith, e) in sym (sym (eq-eqb (0x1000 + tag.vid) (0x1000 + vid) same) ∙ ex)
