-- Packets that are admitted, and the tag that they go on with.
use Rattle.std.proofs.Common.{◌≡◌, ℕ, zero, suc, ◌+◌, ◌%◌, ◌^◌, ◌==◌, ◌||◌, Bool, true, false, List, [], ◌∷◌, Option, Some, None, refl, sym, ap, ◌∙◌, eqb-true, eq-eqb, arith, if◌then◌else◌}
use Rattle.std.specs.Prelude.{Contains, option_and_then}
use Rattle.std.specs.List.{AllByRecursion, filter_map, cons_option}
use Rattle.std.specs.Option.{option_map_or}
use Rattle.std.proofs.lemmas.Option.{none-some}
use Rattle.net_base.specs.declared.field.FieldId.TheVariants.{VlanVid}
use Rattle.net_base.specs.Numbers.{IsVid}
use Rattle.of_match.specs.declared.packet.L4.{L4}
use Rattle.of_match.specs.declared.packet.L4.TheVariants.{None as NoL4, Tcp, Udp, Icmp, Icmp6}
use Rattle.of_match.specs.declared.packet.Packet.{Packet}
use Rattle.of_match.specs.declared.packet.Tag.{Tag}
use Rattle.of_match.specs.declared.packet.Upper.{Upper}
use Rattle.of_match.specs.declared.packet.Upper.TheVariants.{None as NoUpper, Arp, V4, V6}
use Rattle.of_match.specs.Act.{act_left, act_sends, set_upper, set_l4, set_tags, pushed}
use Rattle.of_match.specs.Hit.{outermost}
use Rattle.conf_types.specs.declared.datapath.Port.{Port}
use Rattle.conf_types.specs.declared.vlan.Vlan.{Vlan}
use Rattle.conf_types.specs.Configuration.{Configuration, vlan_with}
use Rattle.conf_types.specs.Lists.{is_among}
use Rattle.conf_types.specs.Membership.{is_native_in, is_tagged_in}
use Rattle.packet_way.specs.Admission.{admitted_to, is_tagged, with_tag, tagged_with}
use Rattle.of_match.specs.declared.ether_type.TheConstants.{VLAN_TAG}
use Rattle.plan_base.specs.Actions.{push_tag, set_vid}
use Rattle.vlan_compile.specs.Vlans.{native_vlan}
use Rattle.plan_units.specs.Facts.{found}

-- ---- what a new tag leaves

same_l4 : (n : ℕ) (l4 : L4) → set_l4 VlanVid n l4 ≡ l4
same_l4 n NoL4 = refl
same_l4 n (Tcp s t) = refl
same_l4 n (Udp s t) = refl
same_l4 n (Icmp kind code) = refl
same_l4 n (Icmp6 kind code target) = refl

-- a tag's field is in no other header
pub same_upper : (n : ℕ) (upper : Upper) → set_upper VlanVid n upper ≡ upper
same_upper n NoUpper = refl
same_upper n (Arp op spa tpa) = refl
same_upper n (V4 src dst proto ttl l4) = ap (V4 src dst proto ttl) (same_l4 n l4)
same_upper n (V6 src dst proto hops l4) = ap (V6 src dst proto hops) (same_l4 n l4)

-- a packet without a tag goes on with one of the VLAN
pub tag_left : (p : Packet) (vid : ℕ) → IsVid vid → p.tags ≡ [] → act_left (push_tag ∷ set_vid vid ∷ []) p ≡ Some (with_tag vid p)
tag_left p vid is none =
    let made : List Tag → Upper → Packet = λ tags upper. record p { tags = tags; upper = upper } in
    let tag : ℕ → Tag = λ n. record { tpid = 0x8100; pcp = 0; dei = false; vid = n } in
    let low : (0x1000 + vid) % 2 ^ 12 ≡ vid = let most = is.most in omega (arith, most) in
    let tags : set_tags VlanVid (0x1000 + vid) (pushed VLAN_TAG p.tags) ≡ tag vid ∷ p.tags = ap (λ ts. set_tags VlanVid (0x1000 + vid) (pushed VLAN_TAG ts)) none ∙ ap (λ n. tag n ∷ []) low ∙ ap (λ ts. tag vid ∷ ts) (sym none) in
    ap (λ upper. Some (made (set_tags VlanVid (0x1000 + vid) (pushed VLAN_TAG p.tags)) upper)) (same_upper (0x1000 + vid) p.upper) ∙ ap (λ ts. Some (made ts p.upper)) tags

pub tag_sends : (port : ℕ) (p : Packet) (vid : ℕ) → act_sends (push_tag ∷ set_vid vid ∷ []) port p ≡ []
tag_sends port p vid = refl

-- ---- with which tag an admitted packet goes on

pub untagged_with : (p : Packet) (vid : ℕ) → p.tags ≡ [] → tagged_with vid p ≡ with_tag vid p
untagged_with p vid none = ap (λ tags. if is_tagged tags then p else with_tag vid p) none

pub tagged_is : (p : Packet) (vid : ℕ) (tag : Tag) (tags : List Tag) → p.tags ≡ tag ∷ tags → tagged_with vid p ≡ p
tagged_is p vid tag tags is = ap (λ ts. if is_tagged ts then p else with_tag vid p) is

-- ---- which VLAN admits it

any_is : (xs : List ℕ) (n : ℕ) → Contains xs n → is_among xs n ≡ true
any_is [] n (k, lt, is) = absurd (omega (arith, lt))
any_is (x ∷ xs) n (zero, lt, is) = rw (eq-eqb x n is) refl
any_is (x ∷ xs) n (suc k, lt, is) = by (x == n) (any_is xs n (k, omega (arith, lt), is))
  where
    by : (b : Bool) → is_among xs n ≡ true → (b || is_among xs n) ≡ true
    by true more = refl
    by false more = more

-- each of some VLANs that are named
pub all_named : (vlans : List Vlan) (P : Vlan → Type 0) (vids : List ℕ) → ((n : ℕ) (w : Vlan) → Contains vids n → vlan_with vlans n ≡ Some w → P w) → AllByRecursion P (filter_map (vlan_with vlans) vids)
all_named vlans P [] each = tt
all_named vlans P (n ∷ vids) each = one (vlan_with vlans n) refl (all_named vlans P vids (λ m w (k, lt, is). each m w (suc k, omega (arith, lt), is)))
  where
    one : (o : Option Vlan) → vlan_with vlans n ≡ o → AllByRecursion P (filter_map (vlan_with vlans) vids) → AllByRecursion P (cons_option o (filter_map (vlan_with vlans) vids))
    one None is more = more
    one (Some w) is more = (each n w (zero, omega arith, refl) is, more)

module _ (conf : Configuration) (i : Port) (p : Packet) where
  abbrev pub admitted : Option Vlan
  admitted = option_and_then (vlan_with conf.vlans) (admitted_to i p)

  by_native : p.tags ≡ [] → admitted ≡ native_vlan conf i
  by_native none = ap (λ tags. option_and_then (vlan_with conf.vlans) (option_map_or (λ tag. if is_tagged_in i tag.vid then Some tag.vid else None) (outermost tags) i.native)) none

  by_tag : (tag : Tag) (tags : List Tag) → p.tags ≡ tag ∷ tags → admitted ≡ option_and_then (vlan_with conf.vlans) (if is_tagged_in i tag.vid then Some tag.vid else None)
  by_tag tag tags is = ap (λ ts. option_and_then (vlan_with conf.vlans) (option_map_or (λ tag. if is_tagged_in i tag.vid then Some tag.vid else None) (outermost ts) i.native)) is

  -- without a tag it is the native VLAN
  pub admits_native : (w : Vlan) → p.tags ≡ [] → native_vlan conf i ≡ Some w → admitted ≡ Some w
  admits_native w none is = by_native none ∙ is

  -- with a tag the one that the tag names
  pub admits_tagged : (w : Vlan) (tag : Tag) (tags : List Tag) (n : ℕ) → p.tags ≡ tag ∷ tags → Contains i.tagged n → vlan_with conf.vlans n ≡ Some w → tag.vid ≡ w.vid → admitted ≡ Some w
  admits_tagged w tag tags n is named found_it same =
      let number : w.vid ≡ n = eqb-true w.vid n (found (λ y. y.vid == n) conf.vlans w found_it).passes in
      by_tag tag tags is ∙ ap (λ b. option_and_then (vlan_with conf.vlans) (if b then Some tag.vid else None)) (ap (is_tagged_in i) (same ∙ number) ∙ any_is i.tagged n named) ∙ ap (vlan_with conf.vlans) (same ∙ number) ∙ found_it

  -- what an admitted packet is
  pub data Is (v : Vlan) : Type 0 where
    native : p.tags ≡ [] → native_vlan conf i ≡ Some v → is_native_in i v.vid ≡ true → vlan_with conf.vlans v.vid ≡ Some v → Is v
    tagged : (tag : Tag) (tags : List Tag) → p.tags ≡ tag ∷ tags → tag.vid ≡ v.vid → is_tagged_in i v.vid ≡ true → vlan_with conf.vlans v.vid ≡ Some v → Is v

  number_of : (n : ℕ) (v : Vlan) → vlan_with conf.vlans n ≡ Some v → v.vid ≡ n
  number_of n v is = eqb-true v.vid n (found (λ y. y.vid == n) conf.vlans v is).passes

  pub is_admitted : (v : Vlan) → admitted ≡ Some v → Is v
  is_admitted v is = by p.tags refl
    where
      of_native : p.tags ≡ [] → (o : Option ℕ) → i.native ≡ o → option_and_then (vlan_with conf.vlans) o ≡ Some v → Is v
      of_native none None e found_it = absurd (none-some v found_it)
      of_native none (Some n) e found_it =
          let same = number_of n v found_it in
          native none (ap (option_and_then (vlan_with conf.vlans)) e ∙ found_it) (ap (λ o. option_map_or (λ m. m == v.vid) o false) e ∙ eq-eqb n v.vid (sym same)) (ap (vlan_with conf.vlans) same ∙ found_it)

      of_tag : (tag : Tag) (tags : List Tag) → p.tags ≡ tag ∷ tags → (b : Bool) → is_tagged_in i tag.vid ≡ b → option_and_then (vlan_with conf.vlans) (if b then Some tag.vid else None) ≡ Some v → Is v
      of_tag tag tags e false not_in found_it = absurd (none-some v found_it)
      of_tag tag tags e true in_it found_it =
          let same = number_of tag.vid v found_it in
          tagged tag tags e (sym same) (ap (is_tagged_in i) same ∙ in_it) (ap (vlan_with conf.vlans) same ∙ found_it)

      by : (ts : List Tag) → p.tags ≡ ts → Is v
      by [] e = of_native e i.native refl (sym (by_native e) ∙ is)
      by (tag ∷ tags) e = of_tag tag tags e (is_tagged_in i tag.vid) refl (sym (by_tag tag tags e) ∙ is)
