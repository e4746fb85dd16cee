-- Where a network of a VLAN's VIPs holds an address, it can be asked for.
use Rattle.std.proofs.Common.{◌≡◌, ℕ, ◌||◌, Bool, true, false, cond, Option, Some, None, List, [], ◌∷◌, find, is_some, inl, inr, refl, sym, ap, ◌∙◌, arith}
use Rattle.std.specs.List.{list_any}
use Rattle.std.specs.Option.{option_and_then, option_map}
use Rattle.std.proofs.lemmas.Bool.{and_parts, cases_Bool, false≢true}
use Rattle.net_base.specs.declared.address.Mac.{Mac}
use Rattle.conf_types.specs.declared.address.Ip.{Ip}
use Rattle.conf_types.specs.declared.address.Ip.TheVariants.{V4, V6}
use Rattle.conf_types.specs.declared.address.Net.{Net}
use Rattle.conf_types.specs.declared.datapath.Dp.{Dp}
use Rattle.conf_types.specs.declared.family.Family.{Family}
use Rattle.conf_types.specs.declared.vlan.Vlan.{Vlan}
use Rattle.conf_types.specs.Families.{address_of, family_of}
use Rattle.conf_types.specs.Membership.{has_edge_member}
use Rattle.conf_types.specs.Networks.{is_held, is_neighbour_address}
use Rattle.conf_types.proofs.Families.{held}
use Rattle.neighbour_resolve.specs.declared.asks.Outgoing.{Outgoing}
use Rattle.neighbour_resolve.specs.Asks.{ask_on, asking, asking_in, native_ports, send_in, tagged_ports}

asking_some : (mac : Mac) (own target : Ip) → family_of target ≡ family_of own → is_some (asking mac own target) ≡ true
asking_some mac (V4 own) (V4 target) same = refl
asking_some mac (V4 own) (V6 target) same = let width = ap (λ (f : Family). f.width) same in absurd (omega (arith, width))
asking_some mac (V6 own) (V4 target) same = let width = ap (λ (f : Family). f.width) same in absurd (omega (arith, width))
asking_some mac (V6 own) (V6 target) same = refl

module _ (mac : Mac) (target : Ip) where
  abbrev by_vip : Net → Option (List ℕ)
  by_vip vip = asking mac (address_of vip) target

  abbrev holds : Net → Bool
  holds vip = is_held vip target

  by_one : (vips : List Net) → list_any holds vips ≡ true → is_some (option_and_then by_vip (find holds vips)) ≡ true
  by_one [] is = absurd (false≢true is)
  by_one (vip ∷ vips) is =
      elim (cases_Bool (holds vip)) [
        | inl here ↦ ap (λ b. is_some (option_and_then by_vip (cond b (Some vip) (find holds vips)))) here ∙ asking_some mac (address_of vip) target (held vip target here).family
        | inr other ↦ ap (λ b. is_some (option_and_then by_vip (cond b (Some vip) (find holds vips)))) other ∙ by_one vips (sym (ap (λ b. b || list_any holds vips) other) ∙ is)
      ]

mapped_some : {A B : Type 0} (f : A → B) (o : Option A) → is_some o ≡ true → is_some (option_map f o) ≡ true
mapped_some f (Some a) is = refl
mapped_some f None is = absurd (false≢true is)

pub neighbour_asked : (d : Dp) (v : Vlan) (ip : Ip) → has_edge_member d v.vid ≡ true → is_neighbour_address v.vips ip ≡ true → is_some (ask_on d v ip) ≡ true
neighbour_asked d v ip edge is =
    let out : List ℕ → Outgoing = λ frame. record { frame = frame; actions = send_in v.vid (native_ports d v.vid) (tagged_ports d v.vid) } in
    let there = and_parts (list_any (λ vip. is_held vip ip) v.vips) _ is in
    ap (λ b. is_some (cond b (option_map out (asking_in v ip)) None)) edge ∙ mapped_some out (asking_in v ip) (by_one v.mac ip v.vips there.0)
