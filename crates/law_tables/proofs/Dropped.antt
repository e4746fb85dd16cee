-- Which packets the entries of a datapath's drops take: those that its settings name.
use Rattle.std.proofs.Common.{◌≡◌, ℕ, ◌^◌, ◌<◌, ◌≤◌, ◌==◌, ◌&&◌, ◌||◌, not, Bool, true, false, cond, List, [], ◌∷◌, map, filter, refl, sym, ap, ◌∙◌, arith, if◌then◌else◌}
use Rattle.std.specs.Prelude.{Contains}
use Rattle.std.specs.List.{AllByRecursion, list_any}
use Rattle.std.proofs.lemmas.List.Folds.{list_any-append}
use Rattle.net_base.specs.declared.address.Mac.{Mac}
use Rattle.net_base.specs.declared.field.FieldId.TheVariants.{EthDst, EthSrc}
use Rattle.net_base.specs.declared.field.Field.{Field}
use Rattle.net_base.specs.Address.{mac_value}
use Rattle.net_base.specs.Field.{exact}
use Rattle.of_match.specs.declared.entry.Entry.{Entry}
use Rattle.of_match.specs.declared.packet.Packet.{Packet}
use Rattle.of_match.specs.Hit.{hits}
use Rattle.of_match.specs.Shaped.{IsShaped}
use Rattle.conf_types.specs.declared.datapath.Dp.{Dp}
use Rattle.conf_types.specs.declared.vlan.Vlan.{Vlan}
use Rattle.conf_types.specs.Configuration.{Configuration}
use Rattle.conf_types.specs.Lists.{is_same}
use Rattle.conf_types.specs.State.{is_gateway_address}
use Rattle.conf_types.specs.Valid.{IsValid, IsVlan}
use Rattle.of_match.specs.declared.ether_type.TheConstants.{LLDP}
use Rattle.packet_way.specs.declared.drops.TheConstants.{BROADCAST, PVST_GROUP, BRIDGE_GROUP}
use Rattle.packet_way.specs.Drops.{is_dropped, is_of_bridges}
use Rattle.plan_base.specs.Fields.{eth_src, eth_type}
use Rattle.law_runs.specs.Members.{of_all, all_by, all_joined, all_mapped, all_if}
use Rattle.law_runs.specs.Tests.{agrees_exact}
use Rattle.net_base.proofs.Macs.{mac_below}
use Rattle.plan_units.specs.Agrees.{hits_one, from_address, of_type, same_bytes, equal_bytes}
use Rattle.plan_units.specs.Fixed.{drop, drops, bridge_drops, lldp_drops, broadcast_drops, spoofed_drops, gateways, once}

-- ---- whether a test passes somewhere

any_mapped : {A B : Type 0} (test : B → Bool) (f : A → B) (xs : List A) → list_any test (map f xs) ≡ list_any (λ x. test (f x)) xs
any_mapped test f [] = refl
any_mapped test f (x ∷ xs) = ap (λ b. test (f x) || b) (any_mapped test f xs)

any_alike : {A : Type 0} (f g : A → Bool) (xs : List A) → AllByRecursion (λ x. f x ≡ g x) xs → list_any f xs ≡ list_any g xs
any_alike f g [] all = refl
any_alike f g (x ∷ xs) all = ap (λ b. b || list_any f xs) all.0 ∙ ap (λ b. g x || b) (any_alike f g xs all.1)

any_then : {A : Type 0} (test : A → Bool) (b : Bool) (xs : List A) → list_any test (if b then xs else []) ≡ b && list_any test xs
any_then test true xs = refl
any_then test false xs = refl

-- a test that goes by the bytes of addresses passes somewhere among those that stand once exactly where it
-- does among all
module _ (test : Mac → Bool) (alike : (a b : Mac) → is_same a.0 b.0 ≡ true → test a ≡ test b) where
  any_others : (mac : Mac) (macs : List Mac) → test mac ≡ false → list_any test (filter (λ m. not (is_same m.0 mac.0)) macs) ≡ list_any test macs
  any_others mac [] fails = refl
  any_others mac (m ∷ macs) fails = by (is_same m.0 mac.0) refl (any_others mac macs fails)
    where
      by : (b : Bool) → is_same m.0 mac.0 ≡ b → list_any test (filter (λ m. not (is_same m.0 mac.0)) macs) ≡ list_any test macs
          → list_any test (cond (not b) (m ∷ filter (λ m. not (is_same m.0 mac.0)) macs) (filter (λ m. not (is_same m.0 mac.0)) macs)) ≡ (test m || list_any test macs)
      by true is more = more ∙ ap (λ b. b || list_any test macs) (sym (alike m mac is ∙ fails))
      by false is more = ap (λ b. test m || b) more

  any_once : (macs : List Mac) → list_any test (once macs) ≡ list_any test macs
  any_once [] = refl
  any_once (mac ∷ macs) = by (test mac) refl (any_once macs)
    where
      by : (b : Bool) → test mac ≡ b → list_any test (once macs) ≡ list_any test macs → (test mac || list_any test (filter (λ m. not (is_same m.0 mac.0)) (once macs))) ≡ (test mac || list_any test macs)
      by true is more = rw is refl
      by false is more = ap (λ b. test mac || b) (any_others mac (once macs) is ∙ more)

-- ---- what is dropped

-- each entry of the drops ends what it takes
pub all_drops : (conf : Configuration) (d : Dp) (Q : Entry → Type 0) → ((priority : ℕ) (field : Field) → 30 ≤ priority → priority ≤ 33 → Q (drop priority field)) → AllByRecursion Q (drops conf d)
all_drops conf d Q each =
    all_joined Q (bridge_drops d) _ (all_if Q d.drop_bpdu _ [] (λ is. (each 33 _ (omega arith) (omega arith), (each 33 _ (omega arith) (omega arith), tt))) (λ is. tt))
    (all_joined Q (lldp_drops d) _ (all_if Q d.drop_lldp _ [] (λ is. (each 32 _ (omega arith) (omega arith), tt)) (λ is. tt))
    (all_joined Q (broadcast_drops d) _ (all_if Q d.drop_broadcast _ [] (λ is. (each 31 _ (omega arith) (omega arith), tt)) (λ is. tt))
    (all_if Q d.drop_spoofed _ [] (λ is. all_mapped Q (λ mac. drop 30 (eth_src mac)) (gateways conf) (all_by (λ mac. Q (drop 30 (eth_src mac))) (gateways conf) (λ mac c. each 30 (eth_src mac) (omega arith) (omega arith)))) (λ is. tt))))

module _ (conf : Configuration) (valid : IsValid conf) (d : Dp) (port : ℕ) (p : Packet) (shaped : IsShaped p) where
  abbrev taken : Entry → Bool
  taken e = hits e.key.fields port p

  to_number : (n : ℕ) → n < 2 ^ 48 → hits (exact EthDst n ∷ []) port p ≡ (mac_value p.dst == n)
  to_number n fits = hits_one (exact EthDst n) port p ∙ agrees_exact EthDst n (mac_value p.dst) (mac_below p.dst shaped.dst) fits

  or_turned : (a b : Bool) → (a || (b || false)) ≡ (b || a)
  or_turned true true = refl
  or_turned true false = refl
  or_turned false true = refl
  or_turned false false = refl

  of_bridges : list_any taken (bridge_drops d) ≡ d.drop_bpdu && is_of_bridges p
  of_bridges =
      any_then taken d.drop_bpdu (drop 33 (exact EthDst PVST_GROUP) ∷ drop 33 (exact EthDst BRIDGE_GROUP) ∷ [])
      ∙ ap (λ b. d.drop_bpdu && b) (ap (λ b. b || (hits (exact EthDst BRIDGE_GROUP ∷ []) port p || false)) (to_number PVST_GROUP (omega arith)) ∙ ap (λ b. (mac_value p.dst == PVST_GROUP) || (b || false)) (to_number BRIDGE_GROUP (omega arith)) ∙ or_turned (mac_value p.dst == PVST_GROUP) (mac_value p.dst == BRIDGE_GROUP))

  or_alone : (b : Bool) → (b || false) ≡ b
  or_alone true = refl
  or_alone false = refl

  of_lldp : list_any taken (lldp_drops d) ≡ d.drop_lldp && p.eth_type == LLDP
  of_lldp = any_then taken d.drop_lldp (drop 32 (eth_type LLDP) ∷ []) ∙ ap (λ b. d.drop_lldp && b) (or_alone (hits (eth_type LLDP ∷ []) port p) ∙ hits_one (eth_type LLDP) port p ∙ of_type port p shaped LLDP (omega arith))

  of_broadcast : list_any taken (broadcast_drops d) ≡ d.drop_broadcast && mac_value p.src == BROADCAST
  of_broadcast =
      any_then taken d.drop_broadcast (drop 31 (exact EthSrc BROADCAST) ∷ [])
      ∙ ap (λ b. d.drop_broadcast && b) (or_alone (hits (exact EthSrc BROADCAST ∷ []) port p) ∙ hits_one (exact EthSrc BROADCAST) port p ∙ agrees_exact EthSrc BROADCAST (mac_value p.src) (mac_below p.src shaped.src) (omega arith))

  abbrev from_it : Mac → Bool
  from_it mac = hits (eth_src mac ∷ []) port p

  alike : (a b : Mac) → is_same a.0 b.0 ≡ true → from_it a ≡ from_it b
  alike a b is =
      let made : List ℕ → Mac = λ bytes. record { 0 = bytes } in
      ap (λ bytes. from_it (made bytes)) (same_bytes a.0 b.0 is)

  same_turned : (a b : List ℕ) → is_same a b ≡ is_same b a
  same_turned a b = by (is_same a b) (is_same b a) refl refl
    where
      by : (x y : Bool) → is_same a b ≡ x → is_same b a ≡ y → x ≡ y
      by true true ex ey = refl
      by false false ex ey = refl
      by true false ex ey = sym (equal_bytes b a (sym (same_bytes a b ex))) ∙ ey
      by false true ex ey = sym ex ∙ equal_bytes a b (sym (same_bytes b a ey))

  of_gateway : (v : Vlan) → Contains conf.vlans v → from_it v.mac ≡ is_same v.mac.0 p.src.0
  of_gateway v c =
      let station = (of_all IsVlan conf.vlans valid.vlans.each v c).mac in
      hits_one (eth_src v.mac) port p ∙ from_address port p shaped v.mac (record { count = station.six; each = station.each }) ∙ same_turned p.src.0 v.mac.0

  of_spoofed : list_any taken (spoofed_drops conf d) ≡ d.drop_spoofed && is_gateway_address conf p.src.0
  of_spoofed =
      any_then taken d.drop_spoofed (map (λ mac. drop 30 (eth_src mac)) (gateways conf))
      ∙ ap (λ b. d.drop_spoofed && b)
      (any_mapped taken (λ mac. drop 30 (eth_src mac)) (gateways conf) ∙ any_once from_it alike (map (λ v. v.mac) conf.vlans) ∙ any_mapped from_it (λ (v : Vlan). v.mac) conf.vlans
      ∙ any_alike (λ (v : Vlan). from_it v.mac) (λ v. is_same v.mac.0 p.src.0) conf.vlans (all_by (λ v. from_it v.mac ≡ is_same v.mac.0 p.src.0) conf.vlans of_gateway))

  or_grouped : (a b c e : Bool) → (a || (b || (c || e))) ≡ (((a || b) || c) || e)
  or_grouped true b c e = refl
  or_grouped false true c e = refl
  or_grouped false false true e = refl
  or_grouped false false false e = refl

  -- some entry of the drops takes a packet exactly where the datapath drops it
  pub drops_take : list_any taken (drops conf d) ≡ is_dropped conf d p
  drops_take =
      list_any-append taken (bridge_drops d) _ ∙ ap (λ b. list_any taken (bridge_drops d) || b) (list_any-append taken (lldp_drops d) _ ∙ ap (λ b. list_any taken (lldp_drops d) || b) (list_any-append taken (broadcast_drops d) (spoofed_drops conf d)))
      ∙ ap (λ b. b || (list_any taken (lldp_drops d) || (list_any taken (broadcast_drops d) || list_any taken (spoofed_drops conf d)))) of_bridges
      ∙ ap (λ b. (d.drop_bpdu && is_of_bridges p) || (b || (list_any taken (broadcast_drops d) || list_any taken (spoofed_drops conf d)))) of_lldp
      ∙ ap (λ b. (d.drop_bpdu && is_of_bridges p) || ((d.drop_lldp && p.eth_type == LLDP) || (b || list_any taken (spoofed_drops conf d)))) of_broadcast
      ∙ ap (λ b. (d.drop_bpdu && is_of_bridges p) || ((d.drop_lldp && p.eth_type == LLDP) || ((d.drop_broadcast && mac_value p.src == BROADCAST) || b))) of_spoofed
      ∙ or_grouped (d.drop_bpdu && is_of_bridges p) (d.drop_lldp && p.eth_type == LLDP) (d.drop_broadcast && mac_value p.src == BROADCAST) (d.drop_spoofed && is_gateway_address conf p.src.0)
