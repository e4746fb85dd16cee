-- What is taken out of a plan: the hosts that changes name, and what is made again.
use Rattle.std.proofs.Common.{◌≡◌, ◌∙◌, ◌==◌, ◌&&◌, inl, inr, Bool, true, false, List, [], ◌∷◌, ◌++◌, map, Option, Some, None, is_some, if◌then◌else◌, refl, sym, ap, subst, arith, true≢false, eq-eqb}
use Rattle.std.specs.Prelude.{Contains}
use Rattle.std.specs.Option.{option_map}
use Rattle.std.proofs.lemmas.List.Elements.{Contains-append_cases}
use Rattle.std.proofs.lemmas.Option.{none-some}
use Rattle.conf_types.specs.declared.datapath.Dp.{Dp}
use Rattle.conf_types.specs.declared.state.HostRec.{HostRec}
use Rattle.conf_types.specs.Changes.{host_by, standing, standing_of, AreNamed}
use Rattle.conf_types.specs.Configuration.{Configuration}
use Rattle.conf_types.specs.Groups.{group_of}
use Rattle.conf_types.specs.State.{State}
use Rattle.law_runs.specs.Members.{head_of, of_all, all_by, in_front, behind, in_mapped, in_flat, in_then}
use Rattle.plan_units.specs.declared.unit.Unit.{Unit as PlanUnit}
use Rattle.plan_units.specs.declared.unit.Unit.TheVariants as unit
use Rattle.plan_units.specs.Agrees.{equal_bytes}
use Rattle.plan_units.specs.Units.{hosts_of}
use Rattle.cold_start.specs.Cold.{units_of}
use Rattle.conf_types.specs.declared.change.Change.{Change}
use Rattle.conf_types.specs.declared.change.Change.TheVariants as change
use Rattle.law_units.specs.Reached.{is_reached}
use Rattle.warm_plan.specs.declared.effect.Effect.{Effect}
use Rattle.warm_plan.specs.declared.effect.Effect.TheVariants.{Nothing, Host, Stack, Routes}
use Rattle.warm_plan.specs.Effects.{effect_of, effect_reaches, reached_by, named_unit, named_units}
use Rattle.warm_plan.specs.Parts.{AreReached, AreTakenOut}
use Rattle.warm_plan.specs.Places.{Places}
use Rattle.warm_plan.proofs.Commands.{of_cons, of_flat}
use Rattle.warm_plan.proofs.Listed.{dp_listed, port_listed, vlan_listed, route_listed, by_member, held, held_unit, some_reaches}

module _ (conf : Configuration) (d : Dp) where
  -- a host that is named is reached
  named_reached : (e : Effect) (u : PlanUnit) → Contains (named_unit e) u → effect_reaches conf d e u ≡ true
  named_reached Nothing u (k, lt, is) = absurd (omega (arith, lt))
  named_reached (Host h) u c = at h.is_ours refl c
    where
      at : (b : Bool) → h.is_ours ≡ b → Contains (if b then unit.Host h.vid h.mac ∷ [] else []) u → effect_reaches conf d (Host h) u ≡ true
      at true ours there = elim (of_cons (unit.Host h.vid h.mac) [] u there) [
        | inl same ↦ subst (λ (w : PlanUnit). effect_reaches conf d (Host h) w ≡ true) same (λ i. ours i && (eq-eqb h.vid h.vid refl i && equal_bytes h.mac.0 h.mac.0 refl i))
        | inr more ↦ none more
      ]
        where
          none : Contains [] u → effect_reaches conf d (Host h) u ≡ true
          none (k, lt, is) = absurd (omega (arith, lt))
      at false ours (k, lt, is) = absurd (omega (arith, lt))
  named_reached Stack u (k, lt, is) = absurd (omega (arith, lt))
  named_reached (Routes vid) u (k, lt, is) = absurd (omega (arith, lt))

  module _ (old new : State) (changes : List Change) (named : AreNamed conf old new changes) (stood : Places) (effects : List Effect) (are : effects ≡ map (effect_of conf d stood new.hosts) changes)
      (tells : (u : PlanUnit) → reached_by conf d effects u ≡ is_reached conf old new d changes u)
      (again : List PlanUnit) (into : AreReached conf old new d changes again) where
    abbrev gone : List PlanUnit
    gone = named_units effects ++ again

    out_reached : (u : PlanUnit) → Contains gone u → is_reached conf old new d changes u ≡ true
    out_reached u c = elim (Contains-append_cases (named_units effects) again u c) [
      | inl one ↦ let of = of_flat named_unit effects u one in sym (tells u) ∙ some_reaches conf new d effects u of.from of.within (named_reached of.from u of.here)
      | inr other ↦ of_all (λ w. is_reached conf old new d changes w ≡ true) again into.reached u other
    ]

    -- what is there in both states is made again
    both : (u : PlanUnit) → Contains (units_of conf new d) u → is_reached conf old new d changes u ≡ true → Contains gone u
    both u c is = behind (named_units effects) again u (into.whole u c is)

    -- a host that is gone is named
    host_out : (h : HostRec) → Contains (hosts_of conf old d) h → is_reached conf old new d changes (unit.Host h.vid h.mac) ≡ true → Contains gone (unit.Host h.vid h.mac)
    host_out h c is = at (host_by conf new.hosts (group_of conf d.id) h.vid h.mac) refl
      where
        was : (o : Option HostRec) → is_some o ≡ true → host_by conf old.hosts (group_of conf d.id) h.vid h.mac ≡ o → host_by conf new.hosts (group_of conf d.id) h.vid h.mac ≡ None
            → standing_of conf old (group_of conf d.id) h.vid h.mac ≡ standing_of conf new (group_of conf d.id) h.vid h.mac → ⊥
        was None some stood none same = absurd (true≢false (sym some))
        was (Some g) some stood none same = none-some _ (sym (ap (option_map (standing conf new)) none) ∙ sym same ∙ ap (option_map (standing conf old)) stood)

        at : (o : Option HostRec) → host_by conf new.hosts (group_of conf d.id) h.vid h.mac ≡ o → Contains gone (unit.Host h.vid h.mac)
        at (Some g) here = both (unit.Host h.vid h.mac) (held_unit conf new d h.vid h.mac (ap is_some here)) is
        at None here =
            let change_in = named.hosts (group_of conf d.id) h.vid h.mac (was (host_by conf old.hosts (group_of conf d.id) h.vid h.mac) (held conf old d h c) refl here) in
            let its = change.Host (group_of conf d.id) h.vid h.mac in
            let effect_in = subst (λ (es : List Effect). Contains es (effect_of conf d stood new.hosts its)) (sym are) (in_mapped (effect_of conf d stood new.hosts) changes its change_in) in
            in_front (named_units effects) again (unit.Host h.vid h.mac) (in_flat named_unit effects (effect_of conf d stood new.hosts its) (unit.Host h.vid h.mac) effect_in
            (in_then ((group_of conf d.id).0 == (group_of conf d.id).0) (unit.Host h.vid h.mac ∷ []) [] (unit.Host h.vid h.mac) (eq-eqb (group_of conf d.id).0 (group_of conf d.id).0 refl) (head_of (unit.Host h.vid h.mac) [])))

    pub are_out : AreTakenOut conf old new d changes gone
    are_out = record {
      reached = all_by (λ u. is_reached conf old new d changes u ≡ true) gone out_reached;
      whole = by_member conf old d (λ u. is_reached conf old new d changes u ≡ true → Contains gone u) (both unit.Dp (dp_listed conf new d))
          (λ i c. both (unit.Port i.no) (port_listed conf new d i c)) (λ v c. both (unit.Vlan v.vid) (vlan_listed conf new d v c)) host_out
          (λ v c. both (unit.Route v.vid) (route_listed conf new d v c));
    }
