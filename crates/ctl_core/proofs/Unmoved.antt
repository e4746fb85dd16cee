-- From two states between which nothing differs, changes reach the same.
use Rattle.std.proofs.Common.{◌≡◌, ℕ, suc, ◌==◌, ◌&&◌, ◌||◌, nat_le, Bool, true, false, List, [], ◌∷◌, filter, length, Option, Some, None, count_by, refl, sym, ap, ◌∙◌, arith}
use Rattle.std.specs.Prelude.{Contains}
use Rattle.std.specs.Option.{option_map, option_map_or}
use Rattle.net_base.specs.declared.address.Mac.{Mac}
use Rattle.net_base.specs.declared.numbers.DpId.{DpId}
use Rattle.conf_types.specs.declared.change.Change.{Change}
use Rattle.conf_types.specs.declared.change.Change.TheVariants as change
use Rattle.conf_types.specs.declared.datapath.Dp.{Dp}
use Rattle.conf_types.specs.declared.state.HostRec.{HostRec}
use Rattle.conf_types.specs.declared.vlan.Vlan.{Vlan}
use Rattle.conf_types.specs.Changes.{AreNamed, Standing, host_by, standing, standing_of}
use Rattle.conf_types.specs.Configuration.{Configuration, dp_with, vlan_with}
use Rattle.conf_types.specs.State.{IsValidState, State, is_host_in, is_table_full, is_vlan_full, most_hosts}
use Rattle.cold_start.specs.Cold.{units_of}
use Rattle.law_units.specs.Reach.{has_vlan, is_full_in}
use Rattle.law_names.proofs.Reaching.{reached_alike}
use Rattle.law_units.specs.Reached.{is_other, is_ours, stands_at, touches_port}
use Rattle.law_units.proofs.Hosts.{ReadsPlace, same_count, same_length, stable_standing}
use Rattle.warm_plan.specs.Kept.{reached_at}

all_pass : (xs : List HostRec) → length (filter (λ (h : HostRec). true) xs) ≡ length xs
all_pass [] = refl
all_pass (x ∷ xs) = ap suc (all_pass xs)

module _ (conf : Configuration) (s t : State) (valid_s : IsValidState conf s) (valid_t : IsValidState conf t) (none : AreNamed conf s t []) where
  nothing : (c : Change) → Contains [] c → ⊥
  nothing c (k, lt, is) = absurd (omega (arith, lt))

  pub still_standing : (group : DpId) (vid : ℕ) (mac : Mac) → standing_of conf s group vid mac ≡ standing_of conf t group vid mac
  still_standing group vid mac = stable_standing (standing_of conf s group vid mac) (standing_of conf t group vid mac) (λ other. nothing (change.Host group vid mac) (none.hosts group vid mac other))

  -- ---- how many hosts there are

  count_same : (p : HostRec → Bool) → ReadsPlace conf p (λ h. 0) → count_by p s.hosts ≡ count_by p t.hosts
  count_same p reads =
      same_count conf s t valid_s.host_keys valid_t.host_keys p (λ h. 0) reads
      (λ h c passes. still_standing _ h.vid h.mac) (λ h c passes. still_standing _ h.vid h.mac)

  in_vlan : (group : DpId) (vid : ℕ) → ReadsPlace conf (is_host_in conf group vid) (λ h. 0)
  in_vlan group vid = record {
    test = λ a b same dps ports. λ i. same.groups i == group.0 && same.vlans i == vid;
    number = λ a b same dps ports. refl;
  }

  any_host : ReadsPlace conf (λ h. true) (λ h. 0)
  any_host = record { test = λ a b same dps ports. refl; number = λ a b same dps ports. refl }

  vlan_same : (group : DpId) (v : Vlan) → is_vlan_full conf s.hosts group v ≡ is_vlan_full conf t.hosts group v
  vlan_same group v = ap (nat_le v.max_hosts) (count_same (is_host_in conf group v.vid) (in_vlan group v.vid))

  table_same : is_table_full s.hosts ≡ is_table_full t.hosts
  table_same =
      ap (nat_le most_hosts)
      (sym (all_pass s.hosts)
      ∙ same_length conf s t valid_s.host_keys valid_t.host_keys (λ h. true) (λ h. 0) any_host (λ h c passes. still_standing _ h.vid h.mac) (λ h c passes. still_standing _ h.vid h.mac)
      ∙ all_pass t.hosts)

  module _ (new : State) (d : Dp) where
    full_same : (group : DpId) (vid : ℕ) → is_full_in conf s new d s group vid ≡ is_full_in conf t new d t group vid
    full_same group vid = ap (λ (f : Vlan → Bool). option_map_or f (vlan_with conf.vlans vid) false) (λ i v. vlan_same group v i)

    -- ---- where one stands

    abbrev by_standing : ℕ → Option Standing → Bool
    by_standing number o = option_map_or (λ x. x.dp.0 == d.id.0 && x.port == number) o false

    stood_by : (now old : State) (group : DpId) (vid : ℕ) (mac : Mac) (number : ℕ) → stands_at conf old new d now group vid mac number ≡ by_standing number (standing_of conf now group vid mac)
    stood_by now old group vid mac number =
        elim (host_by conf now.hosts group vid mac) as (λ o. option_map_or (λ (h : HostRec). h.dp.0 == d.id.0 && h.port == number) o false ≡ by_standing number (option_map (standing conf now) o)) [ Some h ↦ refl | None ↦ refl ]

    stands_same : (group : DpId) (vid : ℕ) (mac : Mac) (number : ℕ) → stands_at conf s new d s group vid mac number ≡ stands_at conf t new d t group vid mac number
    stands_same group vid mac number = stood_by s s group vid mac number ∙ ap (by_standing number) (still_standing group vid mac) ∙ sym (stood_by t t group vid mac number)

    touches_same : (group : DpId) (vid : ℕ) (mac : Mac) (number : ℕ) → touches_port conf s new d group vid mac number ≡ touches_port conf t new d group vid mac number
    touches_same group vid mac number = λ i.
        (stands_same group vid mac number i || stands_at conf s new d new group vid mac number)
        || ((is_ours conf s new d group && (has_vlan conf s new d number vid && is_other (full_same group vid i) (is_full_in conf s new d new group vid)))
        || is_other (table_same i) (is_table_full new.hosts))

  pub reach_same : (new : State) (id : DpId) (changes : List Change) → reached_at conf s new id changes ≡ reached_at conf t new id changes
  reach_same new id changes = λ i. option_map_or (λ d. filter (reached_alike conf s t new d (touches_same new d) changes i) (units_of conf new d)) (dp_with conf.dps id) []
