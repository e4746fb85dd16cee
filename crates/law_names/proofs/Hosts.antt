-- Hosts that are learned, go, or turn stale.
use Rattle.std.proofs.Common.{◌≡◌, ℕ, Bool, true, false, ◌==◌, ◌&&◌, not, List, [], ◌∷◌, map, filter, inl, inr, refl, sym, ap, ◌∙◌, subst, eqb-true, true≢false}
use Rattle.std.specs.Prelude.{Contains}
use Rattle.std.specs.List.{find}
use Rattle.std.specs.Option.{option_map}
use Rattle.std.proofs.lemmas.Bool.{and_parts, cases_Bool}
use Rattle.net_base.specs.declared.address.Mac.{Mac}
use Rattle.net_base.specs.declared.numbers.DpId.{DpId}
use Rattle.conf_types.specs.declared.state.HostRec.{HostRec}
use Rattle.conf_types.specs.Configuration.{Configuration}
use Rattle.conf_types.specs.Groups.{group_of}
use Rattle.conf_types.specs.Lists.{is_same}
use Rattle.conf_types.specs.State.{State, is_fresh, is_host_at, is_host_in}
use Rattle.host_learn.specs.declared.learn.Learn.{Learn}
use Rattle.host_learn.specs.declared.learn.Learn.TheVariants.{Learned, Moved, Refreshed, Full, NotLearnable}
use Rattle.host_learn.specs.Learning.{hosts_after, is_heard, is_in_place}
use Rattle.law_runs.specs.Members.{head_of}
use Rattle.plan_units.specs.Agrees.{same_bytes}
use Rattle.conf_types.specs.declared.change.Change.TheVariants as change
use Rattle.conf_types.specs.Changes.{host_by, standing}
use Rattle.law_units.specs.Reached.{is_other}
use Rattle.law_units.proofs.Hosts.{HasKey, keyed}
use Rattle.law_names.specs.Differing.{host}
use Rattle.law_names.proofs.Joined.{same_bool}
use Rattle.law_names.proofs.Left.{appended, filtered, left_named, mapped, seen_named}

module _ (conf : Configuration) (group : DpId) (vid : ℕ) (mac : Mac) where
  abbrev pub key : HostRec → Bool
  key h = is_host_in conf group vid h && is_same h.mac.0 mac.0

  pub key_named : (h : HostRec) → key h ≡ true → host conf h ≡ change.Host group vid mac
  key_named h is =
      let k = keyed conf group vid mac h is in
      λ i. change.Host (record { 0 = k.groups i }) (k.vids i) (record { 0 = k.macs i })

  -- ---- some go

  pub gone_named : (now : State) (keep : HostRec → Bool) (hosts : List HostRec)
      → (option_map (standing conf now) (host_by conf hosts group vid mac) ≡ option_map (standing conf now) (host_by conf (filter keep hosts) group vid mac) → ⊥)
      → Contains (map (host conf) (filter (λ h. not (keep h)) hosts)) (change.Host group vid mac)
  gone_named now keep hosts other = left_named (option_map (standing conf now)) key keep (host conf) (change.Host group vid mac) key_named hosts other

  -- ---- the clock shows another moment

  pub turned_named : (old new : State) (hosts : List HostRec)
      → (option_map (standing conf old) (host_by conf hosts group vid mac) ≡ option_map (standing conf new) (host_by conf hosts group vid mac) → ⊥)
      → Contains (map (host conf) (filter (λ h. is_other (is_fresh conf old.moment h) (is_fresh conf new.moment h)) hosts)) (change.Host group vid mac)
  turned_named old new hosts other =
      seen_named (standing conf old) (standing conf new) key (λ h. is_other (is_fresh conf old.moment h) (is_fresh conf new.moment h)) (host conf) (change.Host group vid mac) key_named
      (λ h is. let fresh = same_bool (is_fresh conf old.moment h) (is_fresh conf new.moment h) is in λ i. record { dp = h.dp; port = h.port; is_fresh = fresh i }) hosts other

  -- ---- one is heard

  -- of one key, whatever else
  like : (a b : HostRec) → HasKey conf (group_of conf b.dp) b.vid b.mac a → key a ≡ key b
  like a b k = λ i. ((k.groups i == group.0) && (k.vids i == vid)) && is_same (k.macs i) mac.0

  heard_like : (heard h : HostRec) → is_heard conf heard h ≡ true → key h ≡ key heard
  heard_like heard h is = like h heard (keyed conf (group_of conf heard.dp) heard.vid heard.mac h is)

  place_like : (heard h : HostRec) → is_in_place heard h ≡ true → key h ≡ key heard
  place_like heard h is =
      let outer = and_parts (is_host_at heard.dp heard.port h && h.vid == heard.vid) (is_same h.mac.0 heard.mac.0) is in
      let inner = and_parts (is_host_at heard.dp heard.port h) (h.vid == heard.vid) outer.0 in
      let at = and_parts (h.dp.0 == heard.dp.0) (h.port == heard.port) inner.0 in
      let dp : h.dp.0 ≡ heard.dp.0 = eqb-true h.dp.0 heard.dp.0 at.0 in
      like h heard (record {
        groups = ap (λ (n : ℕ). (group_of conf (record { 0 = n })).0) dp;
        vids = eqb-true h.vid heard.vid inner.1;
        macs = same_bytes h.mac.0 heard.mac.0 outer.1;
      })

  others_stay : (heard : HostRec) → key heard ≡ false → (hosts : List HostRec) (o : Learn) → find key (hosts_after conf heard hosts o) ≡ find key hosts
  others_stay heard out hosts Learned = appended key heard out hosts
  others_stay heard out hosts Moved =
      appended key heard out (filter (λ h. not (is_heard conf heard h)) hosts) ∙ filtered key (λ h. not (is_heard conf heard h)) (λ h is. heard_like heard h (was h is) ∙ out) hosts
    where
      was : (h : HostRec) → not (is_heard conf heard h) ≡ false → is_heard conf heard h ≡ true
      was h is = elim (is_heard conf heard h) as (λ b. not b ≡ false → b ≡ true) [ true ↦ λ e. refl | false ↦ λ e. absurd (true≢false e) ] is
  others_stay heard out hosts Refreshed =
      mapped key (is_in_place heard) (λ h. record h { learned = heard.learned }) (λ h is. record { before = place_like heard h is ∙ out; after = place_like heard h is ∙ out }) hosts
  others_stay heard out hosts Full = refl
  others_stay heard out hosts NotLearnable = refl

  pub learned_named : (now : State) (heard : HostRec) (hosts : List HostRec) (o : Learn)
      → (option_map (standing conf now) (host_by conf hosts group vid mac) ≡ option_map (standing conf now) (host_by conf (hosts_after conf heard hosts o) group vid mac) → ⊥)
      → Contains (host conf heard ∷ []) (change.Host group vid mac)
  learned_named now heard hosts o other = elim (cases_Bool (key heard)) [
    | inl is ↦ subst (λ c. Contains (host conf heard ∷ []) c) (key_named heard is) (head_of (host conf heard) [])
    | inr out ↦ absurd (other (ap (option_map (standing conf now)) (sym (others_stay heard out hosts o))))
  ]
