-- What the entries of gateways ask of a packet's headers, and what routing makes of them.
use Rattle.std.proofs.Common.{◌≡◌, ◌⊎◌, ℕ, ◌+◌, ◌-◌, ◌%◌, ◌^◌, ◌<◌, ◌==◌, ◌&&◌, ◌||◌, inl, inr, Bool, true, false, List, [], ◌∷◌, Option, Some, None, refl, sym, ap, ◌∙◌, subst, true≢false, eqb-true, eq-eqb, arith, if◌then◌else◌}
use Rattle.std.specs.Prelude.{Contains, nat_lt, option_and_then}
use Rattle.std.specs.List.{AllByRecursion}
use Rattle.std.specs.Option.{option_map, option_map_or}
use Rattle.std.proofs.lemmas.Bool.{and_parts, or_cases, or_left, or_right}
use Rattle.std.proofs.lemmas.Option.{same_Some, none-some}
use Rattle.net_base.specs.declared.address.Mac.{Mac}
use Rattle.net_base.specs.declared.address.Ip4.{Ip4}
use Rattle.net_base.specs.declared.address6.Ip6.{Ip6}
use Rattle.net_base.specs.declared.field.FieldId.TheVariants.{VlanVid, IpProto, Ipv4Dst, Icmpv4Type, ArpTpa, Ipv6Dst, Icmpv6Type, Ipv6NdTarget}
use Rattle.net_base.specs.Address.{IsSixBytes, mac_value, mac_of}
use Rattle.of_match.specs.declared.packet.L4.{L4}
use Rattle.of_match.specs.declared.packet.L4.TheVariants.{None as NoL4, Tcp, Udp, Icmp, Icmp6}
use Rattle.of_match.specs.declared.packet.Packet.{Packet}
use Rattle.of_match.specs.declared.packet.Sent.{Sent}
use Rattle.of_match.specs.declared.packet.Tag.{Tag}
use Rattle.of_match.specs.declared.packet.Upper.{Upper}
use Rattle.of_match.specs.declared.packet.Upper.TheVariants.{None as NoUpper, Arp, V4, V6}
use Rattle.of_match.specs.Act.{act_sends, act_left, left_by, set_tags, set_upper, lowered}
use Rattle.of_match.specs.Hit.{agrees, value_of, upper_value, l4_value, outermost}
use Rattle.of_match.specs.Shaped.{IsTag, AgreesWithType, FitsUpper}
use Rattle.conf_types.specs.declared.address.Ip.{Ip}
use Rattle.conf_types.specs.declared.address.Ip.TheVariants as ip
use Rattle.conf_types.specs.declared.address.Net.{Net}
use Rattle.conf_types.specs.declared.family.Family.{Family}
use Rattle.conf_types.specs.Families.{IsAddress, ipv4, ipv6, family_of, ip_value, is_same_ip, address_of}
use Rattle.conf_types.proofs.Families.{one_ip, same_ip, is_that_ip}
use Rattle.packet_way.specs.Routes.{destination, is_arp_for, is_target, is_solicited, is_solicitation_for, is_echo_or_advert, is_told, hop_less, moved_to}
use Rattle.plan_base.specs.Actions.{set_eth_src, set_eth_dst, set_vid, dec_ttl}
use Rattle.plan_base.specs.Families.{IsFamily}
use Rattle.plan_base.proofs.Families.{of_families}
use Rattle.plan_base.specs.Fields.{ip_proto, icmpv4_type, arp_tpa, icmpv6_type, nd_target}
use Rattle.law_runs.specs.Tests.{agrees_exact}
use Rattle.plan_units.specs.Facts.{some_passes}
use Rattle.plan_units.specs.Agrees.{mac_again}
use Rattle.law_tables.proofs.Items.{any_true}
use Rattle.law_tables.proofs.Tags.{same_upper}

pub both : (a b : Bool) → a ≡ true → b ≡ true → (a && b) ≡ true
both true true ea eb = refl
both true false ea eb = absurd (true≢false (sym eb))
both false b ea eb = absurd (true≢false (sym ea))

-- ---- destinations

no_ipv4 : (l4 : L4) → l4_value Ipv4Dst l4 ≡ None
no_ipv4 NoL4 = refl
no_ipv4 (Tcp src dst) = refl
no_ipv4 (Udp src dst) = refl
no_ipv4 (Icmp kind code) = refl
no_ipv4 (Icmp6 kind code target) = refl

no_ipv6 : (l4 : L4) → l4_value Ipv6Dst l4 ≡ None
no_ipv6 NoL4 = refl
no_ipv6 (Tcp src dst) = refl
no_ipv6 (Udp src dst) = refl
no_ipv6 (Icmp kind code) = refl
no_ipv6 (Icmp6 kind code target) = refl

-- behind a family's EtherType a destination is one of the family, and what its field holds
pub record IsSeen (f : Family) (a : Ip) (seen : Option ℕ) : Type 0 where
  pub family : family_of a ≡ f
  pub value : seen ≡ Some (ip_value a)

seen4 : (upper : Upper) (a : Ip) → AgreesWithType 0x0800 upper → destination upper ≡ Some a → IsSeen ipv4 a (upper_value Ipv4Dst upper)
seen4 NoUpper a own is = absurd (none-some a is)
seen4 (Arp op spa tpa) a own is = absurd (none-some a is)
seen4 (V4 src dst proto ttl l4) a own is = subst (λ (b : Ip). IsSeen ipv4 b (Some dst.0)) (same_Some (ip.V4 dst) a is) (record { family = refl; value = refl })
seen4 (V6 src dst proto hops l4) a own is = absurd (let t = own.0 in omega (arith, t))

seen6 : (upper : Upper) (a : Ip) → AgreesWithType 0x86dd upper → destination upper ≡ Some a → IsSeen ipv6 a (upper_value Ipv6Dst upper)
seen6 NoUpper a own is = absurd (none-some a is)
seen6 (Arp op spa tpa) a own is = absurd (none-some a is)
seen6 (V4 src dst proto ttl l4) a own is = absurd (let t = own.0 in omega (arith, t))
seen6 (V6 src dst proto hops l4) a own is = subst (λ (b : Ip). IsSeen ipv6 b (Some dst.0)) (same_Some (ip.V6 dst) a is) (record { family = refl; value = refl })

pub dst_seen : (f : Family) → IsFamily f → (port : ℕ) (p : Packet) (a : Ip) → AgreesWithType f.ether_type p.upper → destination p.upper ≡ Some a → IsSeen f a (value_of f.destination port p)
dst_seen f fam port p a = of_families (λ f. AgreesWithType f.ether_type p.upper → destination p.upper ≡ Some a → IsSeen f a (value_of f.destination port p)) (seen4 p.upper a) (seen6 p.upper a) f fam

unseen4 : (upper : Upper) → destination upper ≡ None → upper_value Ipv4Dst upper ≡ None
unseen4 NoUpper none = refl
unseen4 (Arp op spa tpa) none = refl
unseen4 (V4 src dst proto ttl l4) none = absurd (none-some (ip.V4 dst) (sym none))
unseen4 (V6 src dst proto hops l4) none = no_ipv4 l4

unseen6 : (upper : Upper) → destination upper ≡ None → upper_value Ipv6Dst upper ≡ None
unseen6 NoUpper none = refl
unseen6 (Arp op spa tpa) none = refl
unseen6 (V4 src dst proto ttl l4) none = no_ipv6 l4
unseen6 (V6 src dst proto hops l4) none = absurd (none-some (ip.V6 dst) (sym none))

pub dst_unseen : (f : Family) → IsFamily f → (port : ℕ) (p : Packet) → destination p.upper ≡ None → value_of f.destination port p ≡ None
dst_unseen f fam port p none = of_families (λ f. value_of f.destination port p ≡ None) (unseen4 p.upper none) (unseen6 p.upper none) f fam

pub dst_fits : (upper : Upper) → FitsUpper upper → (a : Ip) → destination upper ≡ Some a → IsAddress a
dst_fits NoUpper f a is = absurd (none-some a is)
dst_fits (Arp op spa tpa) f a is = absurd (none-some a is)
dst_fits (V4 src dst proto ttl l4) f a is = subst IsAddress (same_Some (ip.V4 dst) a is) f.1
dst_fits (V6 src dst proto hops l4) f a is = subst IsAddress (same_Some (ip.V6 dst) a is) f.1

-- without a destination there is no hop left
pub no_hop : (upper : Upper) → destination upper ≡ None → hop_less upper ≡ None
no_hop NoUpper none = refl
no_hop (Arp op spa tpa) none = refl
no_hop (V4 src dst proto ttl l4) none = absurd (none-some (ip.V4 dst) (sym none))
no_hop (V6 src dst proto hops l4) none = absurd (none-some (ip.V6 dst) (sym none))

-- ---- who asks for a VIP, by ARP

no_arp : (l4 : L4) → l4_value ArpTpa l4 ≡ None
no_arp NoL4 = refl
no_arp (Tcp src dst) = refl
no_arp (Udp src dst) = refl
no_arp (Icmp kind code) = refl
no_arp (Icmp6 kind code target) = refl

-- a packet that agrees with the field of a VIP asks for it
pub asks : (vips : List Net) (upper : Upper) → FitsUpper upper → (vip : Net) → Contains vips vip → (a : Ip4) → address_of vip ≡ ip.V4 a → a.0 < 2 ^ 32
    → agrees (arp_tpa a.0) (upper_value ArpTpa upper) ≡ true → is_arp_for vips upper ≡ true
asks vips NoUpper f vip c a is fits hit = absurd (true≢false (sym hit))
asks vips (Arp op spa tpa) f vip c a is fits hit =
    let e : tpa.0 ≡ a.0 = eqb-true tpa.0 a.0 (sym (agrees_exact ArpTpa a.0 tpa.0 f.2 fits) ∙ hit) in
    any_true (λ (x : Net). is_same_ip (address_of x) (ip.V4 tpa)) vips vip c (is_that_ip (address_of vip) (ip.V4 tpa) (is ∙ one_ip (ip.V4 a) (ip.V4 tpa) refl (sym e)))
asks vips (V4 src dst proto ttl l4) f vip c a is fits hit = absurd (true≢false (sym hit ∙ ap (agrees (arp_tpa a.0)) (no_arp l4)))
asks vips (V6 src dst proto hops l4) f vip c a is fits hit = absurd (true≢false (sym hit ∙ ap (agrees (arp_tpa a.0)) (no_arp l4)))

pub record Asked (vips : List Net) (upper : Upper) : Type 0 where
  pub target : Ip4
  pub vip : Net
  pub vip_in : Contains vips vip
  pub address : address_of vip ≡ ip.V4 target
  pub asked : agrees (arp_tpa target.0) (upper_value ArpTpa upper) ≡ true

pub asked_for : (vips : List Net) (upper : Upper) → FitsUpper upper → is_arp_for vips upper ≡ true → Asked vips upper
asked_for vips NoUpper f is = absurd (true≢false (sym is))
asked_for vips (Arp op spa tpa) f is =
    let x = some_passes (λ (y : Net). is_same_ip (address_of y) (ip.V4 tpa)) vips is in
    record {
      target = tpa;
      vip = x.0;
      vip_in = (x.1).within;
      address = same_ip (address_of x.0) (ip.V4 tpa) (x.1).passes;
      asked = agrees_exact ArpTpa tpa.0 tpa.0 f.2 f.2 ∙ eq-eqb tpa.0 tpa.0 refl;
    }
asked_for vips (V4 src dst proto ttl l4) f is = absurd (true≢false (sym is))
asked_for vips (V6 src dst proto hops l4) f is = absurd (true≢false (sym is))

-- ARP has its own type
pub arp_type : (vips : List Net) (upper : Upper) (number : ℕ) → AgreesWithType number upper → is_arp_for vips upper ≡ true → number ≡ 0x0806
arp_type vips NoUpper number own is = absurd (true≢false (sym is))
arp_type vips (Arp op spa tpa) number own is = own
arp_type vips (V4 src dst proto ttl l4) number own is = absurd (true≢false (sym is))
arp_type vips (V6 src dst proto hops l4) number own is = absurd (true≢false (sym is))

-- ---- who asks for a VIP, by a solicitation

-- a packet that agrees with the fields of a VIP solicits it
pub solicits : (vips : List Net) (upper : Upper) (number : ℕ) → AgreesWithType number upper → FitsUpper upper → (vip : Net) → Contains vips vip → (a : Ip6) → address_of vip ≡ ip.V6 a → a.0 < 2 ^ 128
    → agrees (icmpv6_type 135) (upper_value Icmpv6Type upper) ≡ true → agrees (nd_target a.0) (upper_value Ipv6NdTarget upper) ≡ true → is_solicitation_for vips upper ≡ true
solicits vips NoUpper number own f vip c a is fits kind hit = absurd (true≢false (sym hit))
solicits vips (Arp op spa tpa) number own f vip c a is fits kind hit = absurd (true≢false (sym hit))
solicits vips (V4 src dst proto ttl NoL4) number own f vip c a is fits kind hit = absurd (true≢false (sym hit))
solicits vips (V4 src dst proto ttl (Tcp from to)) number own f vip c a is fits kind hit = absurd (true≢false (sym hit))
solicits vips (V4 src dst proto ttl (Udp from to)) number own f vip c a is fits kind hit = absurd (true≢false (sym hit))
solicits vips (V4 src dst proto ttl (Icmp sort code)) number own f vip c a is fits kind hit = absurd (true≢false (sym hit))
solicits vips (V4 src dst proto ttl (Icmp6 sort code target)) number own f vip c a is fits kind hit = absurd own.1
solicits vips (V6 src dst proto hops NoL4) number own f vip c a is fits kind hit = absurd (true≢false (sym hit))
solicits vips (V6 src dst proto hops (Tcp from to)) number own f vip c a is fits kind hit = absurd (true≢false (sym hit))
solicits vips (V6 src dst proto hops (Udp from to)) number own f vip c a is fits kind hit = absurd (true≢false (sym hit))
solicits vips (V6 src dst proto hops (Icmp sort code)) number own f vip c a is fits kind hit = absurd own.1
solicits vips (V6 src dst proto hops (Icmp6 sort code None)) number own f vip c a is fits kind hit = absurd (true≢false (sym hit))
solicits vips (V6 src dst proto hops (Icmp6 sort code (Some t))) number own f vip c a is fits kind hit =
    let next = own.1 in
    let l = f.4 in
    let e : t.0 ≡ a.0 = eqb-true t.0 a.0 (sym (agrees_exact Ipv6NdTarget a.0 t.0 l.2 fits) ∙ hit) in
    both (proto == 58) (sort == 135 && is_target vips (Some t)) (eq-eqb proto 58 next.0)
    (both (sort == 135) (is_target vips (Some t)) (sym (agrees_exact Icmpv6Type 135 sort l.0 (omega arith)) ∙ kind)
    (any_true (λ (x : Net). is_same_ip (address_of x) (ip.V6 t)) vips vip c (is_that_ip (address_of vip) (ip.V6 t) (is ∙ one_ip (ip.V6 a) (ip.V6 t) refl (sym e)))))

pub record Solicited (vips : List Net) (upper : Upper) : Type 0 where
  pub target : Ip6
  pub vip : Net
  pub vip_in : Contains vips vip
  pub address : address_of vip ≡ ip.V6 target
  pub next : agrees (ip_proto 58) (upper_value IpProto upper) ≡ true
  pub kind : agrees (icmpv6_type 135) (upper_value Icmpv6Type upper) ≡ true
  pub asked : agrees (nd_target target.0) (upper_value Ipv6NdTarget upper) ≡ true

solicited_l4 : (vips : List Net) (src dst : Ip6) (proto hops : ℕ) (l4 : L4) → FitsUpper (V6 src dst proto hops l4) → (proto == 58) ≡ true → is_solicited vips l4 ≡ true → Solicited vips (V6 src dst proto hops l4)
solicited_l4 vips src dst proto hops NoL4 f next is = absurd (true≢false (sym is))
solicited_l4 vips src dst proto hops (Tcp from to) f next is = absurd (true≢false (sym is))
solicited_l4 vips src dst proto hops (Udp from to) f next is = absurd (true≢false (sym is))
solicited_l4 vips src dst proto hops (Icmp sort code) f next is = absurd (true≢false (sym is))
solicited_l4 vips src dst proto hops (Icmp6 sort code None) f next is = absurd (true≢false (sym (and_parts (sort == 135) false is).1))
solicited_l4 vips src dst proto hops (Icmp6 sort code (Some t)) f next is =
    let parts = and_parts (sort == 135) (is_target vips (Some t)) is in
    let x = some_passes (λ (y : Net). is_same_ip (address_of y) (ip.V6 t)) vips parts.1 in
    let l = f.4 in
    record {
      target = t;
      vip = x.0;
      vip_in = (x.1).within;
      address = same_ip (address_of x.0) (ip.V6 t) (x.1).passes;
      next = agrees_exact IpProto 58 proto f.2 (omega arith) ∙ next;
      kind = agrees_exact Icmpv6Type 135 sort l.0 (omega arith) ∙ parts.0;
      asked = agrees_exact Ipv6NdTarget t.0 t.0 l.2 l.2 ∙ eq-eqb t.0 t.0 refl;
    }

pub solicited_for : (vips : List Net) (upper : Upper) → FitsUpper upper → is_solicitation_for vips upper ≡ true → Solicited vips upper
solicited_for vips NoUpper f is = absurd (true≢false (sym is))
solicited_for vips (Arp op spa tpa) f is = absurd (true≢false (sym is))
solicited_for vips (V4 src dst proto ttl l4) f is = absurd (true≢false (sym is))
solicited_for vips (V6 src dst proto hops l4) f is = let parts = and_parts (proto == 58) (is_solicited vips l4) is in solicited_l4 vips src dst proto hops l4 f parts.0 parts.1

-- it is IPv6
pub solicitation_type : (vips : List Net) (upper : Upper) (number : ℕ) → AgreesWithType number upper → is_solicitation_for vips upper ≡ true → number ≡ 0x86dd
solicitation_type vips NoUpper number own is = absurd (true≢false (sym is))
solicitation_type vips (Arp op spa tpa) number own is = absurd (true≢false (sym is))
solicitation_type vips (V4 src dst proto ttl l4) number own is = absurd (true≢false (sym is))
solicitation_type vips (V6 src dst proto hops l4) number own is = own.0

-- and told where it is for the gateway
pub solicitation_told : (vips : List Net) (upper : Upper) → is_solicitation_for vips upper ≡ true → is_told vips upper ≡ true
solicitation_told vips NoUpper is = absurd (true≢false (sym is))
solicitation_told vips (Arp op spa tpa) is = absurd (true≢false (sym is))
solicitation_told vips (V4 src dst proto ttl l4) is = absurd (true≢false (sym is))
solicitation_told vips (V6 src dst proto hops l4) is =
    let parts = and_parts (proto == 58) (is_solicited vips l4) is in
    both (proto == 58) (is_solicited vips l4 || is_echo_or_advert l4) parts.0 (or_left (is_solicited vips l4) (is_echo_or_advert l4) parts.1)

-- ---- what is told of what is for a VIP

abbrev pub AgreesEcho : Upper → Type 0
AgreesEcho upper = (agrees (ip_proto 1) (upper_value IpProto upper) ≡ true) × (agrees (icmpv4_type 8) (upper_value Icmpv4Type upper) ≡ true)

abbrev pub AgreesMessage : ℕ → Upper → Type 0
AgreesMessage kind upper = (agrees (ip_proto 58) (upper_value IpProto upper) ≡ true) × (agrees (icmpv6_type kind) (upper_value Icmpv6Type upper) ≡ true)

-- by IPv4
pub echoes : (vips : List Net) (upper : Upper) → AgreesWithType 0x0800 upper → FitsUpper upper → is_told vips upper ≡ true → AgreesEcho upper
echoes vips NoUpper own f is = absurd (true≢false (sym is))
echoes vips (Arp op spa tpa) own f is = absurd (true≢false (sym is))
echoes vips (V6 src dst proto hops l4) own f is = absurd (let t = own.0 in omega (arith, t))
echoes vips (V4 src dst proto ttl NoL4) own f is = absurd (true≢false (sym (and_parts (proto == 1) false is).1))
echoes vips (V4 src dst proto ttl (Tcp from to)) own f is = absurd (true≢false (sym (and_parts (proto == 1) false is).1))
echoes vips (V4 src dst proto ttl (Udp from to)) own f is = absurd (true≢false (sym (and_parts (proto == 1) false is).1))
echoes vips (V4 src dst proto ttl (Icmp6 sort code target)) own f is = absurd own.1
echoes vips (V4 src dst proto ttl (Icmp sort code)) own f is =
    let x = and_parts (proto == 1) (sort == 8) is in
    let l = f.4 in
    (agrees_exact IpProto 1 proto f.2 (omega arith) ∙ x.0, agrees_exact Icmpv4Type 8 sort l.0 (omega arith) ∙ x.1)

pub is_echoed : (vips : List Net) (upper : Upper) (number : ℕ) → AgreesWithType number upper → FitsUpper upper → AgreesEcho upper → is_told vips upper ≡ true
is_echoed vips NoUpper number own f a = absurd (true≢false (sym a.0))
is_echoed vips (Arp op spa tpa) number own f a = absurd (true≢false (sym a.0))
is_echoed vips (V4 src dst proto ttl NoL4) number own f a = absurd (true≢false (sym a.1))
is_echoed vips (V4 src dst proto ttl (Tcp from to)) number own f a = absurd (true≢false (sym a.1))
is_echoed vips (V4 src dst proto ttl (Udp from to)) number own f a = absurd (true≢false (sym a.1))
is_echoed vips (V4 src dst proto ttl (Icmp6 sort code target)) number own f a = absurd (true≢false (sym a.1))
is_echoed vips (V6 src dst proto hops NoL4) number own f a = absurd (true≢false (sym a.1))
is_echoed vips (V6 src dst proto hops (Tcp from to)) number own f a = absurd (true≢false (sym a.1))
is_echoed vips (V6 src dst proto hops (Udp from to)) number own f a = absurd (true≢false (sym a.1))
is_echoed vips (V6 src dst proto hops (Icmp sort code)) number own f a = absurd own.1
is_echoed vips (V6 src dst proto hops (Icmp6 sort code target)) number own f a = absurd (true≢false (sym a.1))
is_echoed vips (V4 src dst proto ttl (Icmp sort code)) number own f a =
    let l = f.4 in
    both (proto == 1) (sort == 8) (sym (agrees_exact IpProto 1 proto f.2 (omega arith)) ∙ a.0) (sym (agrees_exact Icmpv4Type 8 sort l.0 (omega arith)) ∙ a.1)

-- by IPv6
pub data Told (vips : List Net) (upper : Upper) : Type 0 where
  solicited : Solicited vips upper → Told vips upper
  echo : AgreesMessage 128 upper → Told vips upper
  advert : AgreesMessage 136 upper → Told vips upper

told_l4 : (vips : List Net) (src dst : Ip6) (proto hops : ℕ) (l4 : L4) → FitsUpper (V6 src dst proto hops l4) → (proto == 58) ≡ true → is_echo_or_advert l4 ≡ true → Told vips (V6 src dst proto hops l4)
told_l4 vips src dst proto hops NoL4 f next is = absurd (true≢false (sym is))
told_l4 vips src dst proto hops (Tcp from to) f next is = absurd (true≢false (sym is))
told_l4 vips src dst proto hops (Udp from to) f next is = absurd (true≢false (sym is))
told_l4 vips src dst proto hops (Icmp sort code) f next is = absurd (true≢false (sym is))
told_l4 vips src dst proto hops (Icmp6 sort code target) f next is =
    let l = f.4 in
    let by = agrees_exact IpProto 58 proto f.2 (omega arith) ∙ next in
    elim (or_cases (sort == 128) (sort == 136) is) [
      | inl first ↦ echo (by, agrees_exact Icmpv6Type 128 sort l.0 (omega arith) ∙ first)
      | inr second ↦ advert (by, agrees_exact Icmpv6Type 136 sort l.0 (omega arith) ∙ second)
    ]

pub tells : (vips : List Net) (upper : Upper) → AgreesWithType 0x86dd upper → FitsUpper upper → is_told vips upper ≡ true → Told vips upper
tells vips NoUpper own f is = absurd (true≢false (sym is))
tells vips (Arp op spa tpa) own f is = absurd (true≢false (sym is))
tells vips (V4 src dst proto ttl l4) own f is = absurd (let t = own.0 in omega (arith, t))
tells vips (V6 src dst proto hops l4) own f is =
    let parts = and_parts (proto == 58) (is_solicited vips l4 || is_echo_or_advert l4) is in
    elim (or_cases (is_solicited vips l4) (is_echo_or_advert l4) parts.1) [
      | inl asks ↦ solicited (solicited_l4 vips src dst proto hops l4 f parts.0 asks)
      | inr other ↦ told_l4 vips src dst proto hops l4 f parts.0 other
    ]

-- of the types 128 and 136 each message is told
pub is_message : (vips : List Net) (kind : ℕ) → (kind ≡ 128) ⊎ (kind ≡ 136) → (upper : Upper) (number : ℕ) → AgreesWithType number upper → FitsUpper upper → AgreesMessage kind upper → is_told vips upper ≡ true
is_message vips kind one NoUpper number own f a = absurd (true≢false (sym a.0))
is_message vips kind one (Arp op spa tpa) number own f a = absurd (true≢false (sym a.0))
is_message vips kind one (V4 src dst proto ttl NoL4) number own f a = absurd (true≢false (sym a.1))
is_message vips kind one (V4 src dst proto ttl (Tcp from to)) number own f a = absurd (true≢false (sym a.1))
is_message vips kind one (V4 src dst proto ttl (Udp from to)) number own f a = absurd (true≢false (sym a.1))
is_message vips kind one (V4 src dst proto ttl (Icmp sort code)) number own f a = absurd (true≢false (sym a.1))
is_message vips kind one (V4 src dst proto ttl (Icmp6 sort code target)) number own f a = absurd own.1
is_message vips kind one (V6 src dst proto hops NoL4) number own f a = absurd (true≢false (sym a.1))
is_message vips kind one (V6 src dst proto hops (Tcp from to)) number own f a = absurd (true≢false (sym a.1))
is_message vips kind one (V6 src dst proto hops (Udp from to)) number own f a = absurd (true≢false (sym a.1))
is_message vips kind one (V6 src dst proto hops (Icmp sort code)) number own f a = absurd own.1
is_message vips kind one (V6 src dst proto hops (Icmp6 sort code target)) number own f a =
    let l = f.4 in
    let next = own.1 in
    let is : sort ≡ kind = eqb-true sort kind (sym (agrees_exact Icmpv6Type kind sort l.0 (omega (arith, one))) ∙ a.1) in
    both (proto == 58) (is_solicited vips (Icmp6 sort code target) || is_echo_or_advert (Icmp6 sort code target)) (eq-eqb proto 58 next.0)
    (or_right (is_solicited vips (Icmp6 sort code target)) (is_echo_or_advert (Icmp6 sort code target)) (elim one [
      | inl first ↦ or_left (sort == 128) (sort == 136) (eq-eqb sort 128 (is ∙ first))
      | inr second ↦ or_right (sort == 128) (sort == 136) (eq-eqb sort 136 (is ∙ second))
    ]))

-- ---- one hop less

pub lowered_is : (upper : Upper) → lowered upper ≡ hop_less upper
lowered_is NoUpper = refl
lowered_is (Arp op spa tpa) = refl
lowered_is (V4 src dst proto ttl l4) = refl
lowered_is (V6 src dst proto hops l4) = refl

-- the outermost tag names the VLAN
tags_moved : (vid : ℕ) → vid < 2 ^ 12 → (tags : List Tag) → set_tags VlanVid (0x1000 + vid) tags ≡ moved_to vid tags
tags_moved vid less [] = refl
tags_moved vid less (tag ∷ tags) = let same : (0x1000 + vid) % 2 ^ 12 ≡ vid = omega (arith, less) in ap (λ (n : ℕ). record tag { vid = n } ∷ tags) same

-- the packet that goes on to a neighbour
abbrev pub moved : ℕ → Mac → Mac → Packet → Upper → Packet
moved vid gateway mac p upper = record p { dst = mac; src = gateway; tags = moved_to vid p.tags; upper = upper }

abbrev made : Packet → Mac → Mac → List Tag → Option Upper → Option Packet
made p m g tags o = option_and_then (act_left []) (option_map (λ upper. record p { dst = m; src = g; tags = tags; upper = upper }) o)

pub moved_left : (vid : ℕ) (gateway mac : Mac) (p : Packet) → vid < 2 ^ 12 → IsSixBytes gateway.0 → IsSixBytes mac.0
    → act_left (set_eth_src gateway ∷ set_eth_dst mac ∷ set_vid vid ∷ dec_ttl ∷ []) p ≡ option_map (moved vid gateway mac p) (hop_less p.upper)
moved_left vid gateway mac p less six_gateway six_mac =
    ap (λ (m : Mac). made p m (mac_of (mac_value gateway)) (set_tags VlanVid (0x1000 + vid) p.tags) (lowered (set_upper VlanVid (0x1000 + vid) p.upper))) (mac_again mac six_mac)
    ∙ ap (λ (g : Mac). made p mac g (set_tags VlanVid (0x1000 + vid) p.tags) (lowered (set_upper VlanVid (0x1000 + vid) p.upper))) (mac_again gateway six_gateway)
    ∙ ap (λ (tags : List Tag). made p mac gateway tags (lowered (set_upper VlanVid (0x1000 + vid) p.upper))) (tags_moved vid less p.tags)
    ∙ ap (λ (upper : Upper). made p mac gateway (moved_to vid p.tags) (lowered upper)) (same_upper (0x1000 + vid) p.upper)
    ∙ ap (made p mac gateway (moved_to vid p.tags)) (lowered_is p.upper)
    ∙ by (hop_less p.upper)
  where
    by : (o : Option Upper) → option_and_then (act_left []) (option_map (moved vid gateway mac p) o) ≡ option_map (moved vid gateway mac p) o
    by None = refl
    by (Some upper) = refl

-- nothing is sent on the way
pub moved_sends : (vid : ℕ) (gateway mac : Mac) (port : ℕ) (p : Packet) → act_sends (set_eth_src gateway ∷ set_eth_dst mac ∷ set_vid vid ∷ dec_ttl ∷ []) port p ≡ []
moved_sends vid gateway mac port p = by (left_by dec_ttl (record p { dst = mac_of (mac_value mac); src = mac_of (mac_value gateway); tags = set_tags VlanVid (0x1000 + vid) p.tags; upper = set_upper VlanVid (0x1000 + vid) p.upper }))
  where
    by : (o : Option Packet) → ◌≡◌ {A = List Sent} (option_map_or (act_sends [] port) o []) []
    by None = refl
    by (Some q) = refl

-- it is a packet as well
pub tags_fit : (vid : ℕ) → vid < 2 ^ 12 → (tags : List Tag) → AllByRecursion IsTag tags → AllByRecursion IsTag (moved_to vid tags)
tags_fit vid less [] all = tt
tags_fit vid less (tag ∷ tags) all = let is = all.0 in (record { tpid = is.tpid; pcp = is.pcp; vid = less }, all.1)

pub upper_fits : (number : ℕ) (u upper : Upper) → hop_less u ≡ Some upper → AgreesWithType number u → FitsUpper u → AgreesWithType number upper × FitsUpper upper
upper_fits number NoUpper upper is a f = absurd (none-some upper is)
upper_fits number (Arp op spa tpa) upper is a f = absurd (none-some upper is)
upper_fits number (V4 src dst proto ttl l4) upper is a f = by (nat_lt ttl 2) is
  where
    by : (b : Bool) → (if b then None else Some (V4 src dst proto (ttl - 1) l4)) ≡ Some upper → AgreesWithType number upper × FitsUpper upper
    by true is = absurd (none-some upper is)
    by false is = let less = f.3 in subst (λ x. AgreesWithType number x × FitsUpper x) (same_Some (V4 src dst proto (ttl - 1) l4) upper is) (a, (f.0, f.1, f.2, omega (arith, less), f.4))
upper_fits number (V6 src dst proto hops l4) upper is a f = by (nat_lt hops 2) is
  where
    by : (b : Bool) → (if b then None else Some (V6 src dst proto (hops - 1) l4)) ≡ Some upper → AgreesWithType number upper × FitsUpper upper
    by true is = absurd (none-some upper is)
    by false is = let less = f.3 in subst (λ x. AgreesWithType number x × FitsUpper x) (same_Some (V6 src dst proto (hops - 1) l4) upper is) (a, (f.0, f.1, f.2, omega (arith, less), f.4))

-- and of that VLAN
pub moved_tag : (vid : ℕ) (tags : List Tag) (tag : Tag) → outermost tags ≡ Some tag → (t : Tag) × (outermost (moved_to vid tags) ≡ Some t) × (t.vid ≡ vid)
moved_tag vid [] tag is = absurd (none-some tag is)
moved_tag vid (first ∷ tags) tag is = (record first { vid = vid }, refl, refl)
