-- The datapaths of one connected part are of one group, so they know the same hosts.
use Rattle.std.proofs.Common.{◌≡◌, ℕ, zero, suc, ◌==◌, ◌&&◌, Bool, true, false, Option, Some, None, find, refl, inl, inr, sym, ap, ◌∙◌, subst, arith}
use Rattle.std.specs.Prelude.{List}
use Rattle.std.specs.Option.{option_map_or}
use Rattle.std.proofs.lemmas.Bool.{both_ways, eqb-true, eq-eqb, cases_Bool}
use Rattle.std.proofs.lemmas.Option.{none-some}
use Rattle.net_base.specs.declared.address.Mac.{Mac}
use Rattle.net_base.specs.declared.numbers.DpId.{DpId}
use Rattle.stack_paths.specs.Chosen.{hop_of}
use Rattle.stack_paths.specs.Stack.{Stack, HasLink, Walk, IsJoined, IsDistance}
use Rattle.stack_paths.proofs.ChosenHops.{next_hop_found, next_hop_here}
use Rattle.stack_paths.proofs.LawLemmas.{joined_trans, distance_exists, hop_exists}
use Rattle.conf_types.proofs.LinksUp.{listed_is_up}
use Rattle.conf_types.proofs.Reached.{same_id, group_is}
use Rattle.conf_types.specs.declared.datapath.Dp.{Dp}
use Rattle.conf_types.specs.declared.datapath.StackEnd.{StackEnd}
use Rattle.conf_types.specs.declared.state.HostRec.{HostRec}
use Rattle.conf_types.specs.declared.state.UpRec.{UpRec}
use Rattle.conf_types.specs.Configuration.{Configuration}
use Rattle.conf_types.specs.Groups.{IsDp, IsLinked, group_of}
use Rattle.conf_types.specs.Links.{IsEndUp}
use Rattle.conf_types.specs.Lists.{is_same}
use Rattle.conf_types.specs.State.{is_host_in}
use Rattle.conf_types.specs.Valid.{IsValid}
use Rattle.packet_way.specs.declared.known.Onward.TheVariants.{ByPort, OverStack, Everywhere}
use Rattle.packet_way.specs.Known.{stack_of, host_with, onward_to, onward}
use Rattle.law_network.proofs.Ports.{is}

module _ (conf : Configuration) (valid : IsValid conf) (ups : List UpRec) where
  abbrev s : Stack
  s = stack_of conf ups

  there : (here far : StackEnd) → IsEndUp conf ups here far → IsDp conf here.dp
  there here far e = record { dp = e.dp; here = e.is_dp; id_is = e.dp_is }

  leads : (here far : StackEnd) → IsEndUp conf ups here far → IsLinked conf here.dp far.dp
  leads here far e = record { dp = e.dp; port = e.port; far = far; here = e.is_dp; id_is = e.dp_is; has = e.is_port; leads = e.leads; far_is = refl }

  one_group : (a b : DpId) → IsDp conf a → IsDp conf b → IsLinked conf a b → IsLinked conf b a → group_of conf a ≡ group_of conf b
  one_group a b da db ab ba =
      let ga = group_is conf a da in
      let gb = group_is conf b db in
      let least = ga.least (group_of conf b) (suc gb.joined.0, (b, ab, gb.joined.1)) in
      let least_too = gb.least (group_of conf a) (suc ga.joined.0, (a, ba, ga.joined.1)) in
      same_id (group_of conf a) (group_of conf b) (omega (arith, least, least_too))

  linked_group : (d : DpId) (p : ℕ) (e : DpId) (q : ℕ) → HasLink s d p e q → group_of conf d ≡ group_of conf e
  linked_group d p e q (l, c, j) =
      let up = listed_is_up conf ups valid l c in
      let same = one_group l.a l.b (there _ _ up.forth) (there _ _ up.back) (leads _ _ up.forth) (leads _ _ up.back) in
      elim j [
        | inl x ↦ ap (group_of conf) (sym x.0) ∙ same ∙ ap (group_of conf) x.2
        | inr x ↦ ap (group_of conf) (sym x.0) ∙ sym same ∙ ap (group_of conf) x.2
      ]

  walk_group : (n : ℕ) (d e : DpId) → Walk s d e n → group_of conf d ≡ group_of conf e
  walk_group zero d e w = ap (group_of conf) w.1
  walk_group (suc n) d e (c, p, q, link, w) = linked_group d p c q link ∙ walk_group n c e w

  -- they know the same hosts
  pub host_shared : (hosts : List HostRec) (d e : Dp) (vid : ℕ) (mac : Mac) → IsJoined s d.id e.id → host_with conf hosts e vid mac ≡ host_with conf hosts d vid mac
  host_shared hosts d e vid mac joined = ap (λ g. find (λ (h : HostRec). is_host_in conf g vid h && is_same h.mac.0 mac.0) hosts) (sym (walk_group joined.0 d.id e.id joined.1))

  -- ---- next hops

  hop_joins : (a b : DpId) (p : ℕ) → hop_of s a b ≡ Some p → IsJoined s a b
  hop_joins a b p some = let near = (next_hop_found s (is conf valid ups) a b p some).2.nearer in (suc near.rest, near.from_here.walk)

  no_hop : (a b : DpId) → hop_of s a b ≡ None → (a ≡ b → ⊥) → IsJoined s a b → ⊥
  no_hop a b none apart joined =
      let far = distance_exists s a b joined in
      by far.0 far.1
    where
      by : (n : ℕ) → IsDistance s a b n → ⊥
      by zero far = apart far.walk.1
      by (suc n) far =
          let hop = hop_exists s (is conf valid ups) a b n far in
          none-some hop.0 (sym none ∙ next_hop_here s (is conf valid ups) a b hop.0 (hop.1, hop.2, hop.3))

  -- what is flooded at a datapath is flooded at each one that is joined to it
  flood_to : (d e : Dp) (h : HostRec) → IsJoined s d.id e.id → onward_to s d h ≡ Everywhere → onward_to s e h ≡ Everywhere
  flood_to d e h joined flooded =
      elim (cases_Bool (h.dp.0 == d.id.0)) [
        | inl here ↦ absurd (not_by_port (rw here at flooded))
        | inr other ↦
            let far : option_map_or OverStack (hop_of s d.id h.dp) Everywhere ≡ Everywhere = rw other at flooded in
            let apart : IsJoined s d.id h.dp → ⊥ = no_hop d.id h.dp (no_over (hop_of s d.id h.dp) far) (λ same. both_ways (h.dp.0 == d.id.0) other (eq-eqb h.dp.0 d.id.0 (ap (λ (x : DpId). x.0) (sym same)))) in
            let elsewhere : (h.dp.0 == e.id.0) ≡ false = by_id (h.dp.0 == e.id.0) refl apart in
            rw elsewhere (no_way (hop_of s e.id h.dp) refl apart)
      ]
    where
      not_by_port : ByPort h.port ≡ Everywhere → ⊥
      not_by_port e = cc

      no_over : (o : Option ℕ) → option_map_or OverStack o Everywhere ≡ Everywhere → o ≡ None
      no_over None e = refl
      no_over (Some n) e = absurd cc

      by_id : (b : Bool) → (h.dp.0 == e.id.0) ≡ b → (IsJoined s d.id h.dp → ⊥) → b ≡ false
      by_id false is apart = refl
      by_id true is apart = absurd (apart (subst (λ x. IsJoined s d.id x) (sym (same_id h.dp e.id (eqb-true h.dp.0 e.id.0 is))) joined))

      no_way : (o : Option ℕ) → hop_of s e.id h.dp ≡ o → (IsJoined s d.id h.dp → ⊥) → option_map_or OverStack o Everywhere ≡ Everywhere
      no_way None none apart = refl
      no_way (Some n) some apart = absurd (apart (joined_trans s joined.0 d.id e.id h.dp joined.1 (hop_joins e.id h.dp n some)))

  pub flood_shared : (hosts : List HostRec) (d e : Dp) (vid : ℕ) (mac : Mac) → IsJoined s d.id e.id → onward conf hosts s d vid mac ≡ Everywhere → onward conf hosts s e vid mac ≡ Everywhere
  unfolding onward
  flood_shared hosts d e vid mac joined flooded =
      ap (λ o. option_map_or (onward_to s e) o Everywhere) (host_shared hosts d e vid mac joined) ∙ by (host_with conf hosts d vid mac) flooded
    where
      by : (o : Option HostRec) → option_map_or (onward_to s d) o Everywhere ≡ Everywhere → option_map_or (onward_to s e) o Everywhere ≡ Everywhere
      by None flooded = refl
      by (Some h) flooded = flood_to d e h joined flooded

  -- where a host is known, it is the one that every datapath of the part sends to
  pub host_onward : (hosts : List HostRec) (d e : Dp) (vid : ℕ) (mac : Mac) (h : HostRec) → IsJoined s d.id e.id → host_with conf hosts d vid mac ≡ Some h → onward conf hosts s e vid mac ≡ onward_to s e h
  unfolding onward
  host_onward hosts d e vid mac h joined some = ap (λ o. option_map_or (onward_to s e) o Everywhere) (host_shared hosts d e vid mac joined ∙ some)
