-- Table 2, case by case.
use Rattle.std.proofs.Common.{◌≡◌, ℕ, zero, suc, ◌+◌, ◌==◌, ◌&&◌, ◌||◌, not, Bool, true, false, List, [], ◌∷◌, length, map, Option, refl, sym, ap, ◌∙◌, subst, true≢false, eqb-true, eq-eqb, arith, if◌then◌else◌, ne_eqb}
use Rattle.std.specs.Prelude.{Contains}
use Rattle.std.specs.List.{AllByRecursion, list_any, flat_map}
use Rattle.net_base.specs.declared.field.FieldId.TheVariants.{VlanVid}
use Rattle.of_match.specs.declared.packet.Packet.{Packet}
use Rattle.of_match.specs.declared.packet.Sent.{Sent}
use Rattle.of_match.specs.Hit.{hits, agrees, value_of}
use Rattle.conf_types.specs.declared.datapath.Dp.{Dp}
use Rattle.conf_types.specs.declared.datapath.Port.{Port}
use Rattle.conf_types.specs.declared.vlan.Vlan.{Vlan}
use Rattle.conf_types.specs.Attached.{rules_of}
use Rattle.conf_types.specs.Configuration.{Configuration}
use Rattle.conf_types.specs.Membership.{is_edge_member, has_edge_member}
use Rattle.conf_types.specs.State.{State}
use Rattle.packet_way.specs.Verdict.{acl_sends, is_allowed}
use Rattle.plan_base.specs.Fields.{vid_field}
use Rattle.acl_compile.specs.declared.place.Place.TheVariants.{AtVlan}
use Rattle.acl_compile.specs.Slices.{acl_entries, vlan_acl, has_acls}
use Rattle.law_runs.specs.Decided.{IsDecided}
use Rattle.law_runs.specs.Members.{in_front, behind, in_mapped, in_flat, in_filtered, all_if, of_all}
use Rattle.plan_units.specs.Agrees.{in_vlan, names_vlan, tagged_value}
use Rattle.plan_units.specs.Facts.{port_in, vlan_in, one_vlan, vlan_number}
use Rattle.plan_units.specs.Fixed.{fixed}
use Rattle.plan_units.specs.Laws.{IsSetting, IsOf, VlanAclLaw}
use Rattle.plan_units.specs.Steps.{followed}
use Rattle.plan_units.specs.Tables.{vlan_acl_in}
use Rattle.plan_units.specs.Units.{plan, of_port, of_vlan}
use Rattle.law_tables.proofs.FirstRule.{none_elsewhere}
use Rattle.law_tables.proofs.AclsLead.{Part, Leads, NoneHits, to_next, no_part, few, acls_lead}
use Rattle.law_tables.proofs.AclFamilies.{at_2, sends_then}

module _ (conf : Configuration) (now : State) (d : Dp) (setting : IsSetting conf now d) where
  module _ (port : ℕ) (p : Packet) (i : Port) (v : Vlan) (o : IsOf conf now d port p i v) (has : v.acls ≡ [] → ⊥) where
    v_in : Contains conf.vlans v
    v_in = vlan_in conf setting.valid d setting.is_dp v.vid v o.is_vlan

    some : (length v.acls == 0) ≡ false
    some = ne_eqb (length v.acls) 0 (λ e. has (empty v.acls e))
      where
        empty : (xs : List (List ℕ)) → length xs ≡ 0 → xs ≡ []
        empty [] e = refl
        empty (x ∷ xs) e = absurd (omega (arith, e))

    attaches : has_edge_member d v.vid ≡ true
    attaches = any d.ports (port_in conf setting.valid d setting.is_dp port i o.is_port)
      where
        put : (q : Port) (qs : List Port) (b : Bool) → list_any (λ r. is_edge_member r v.vid) qs ≡ true → (b || list_any (λ r. is_edge_member r v.vid) qs) ≡ true
        put q qs true more = refl
        put q qs false more = more

        any : (qs : List Port) → Contains qs i → list_any (λ r. is_edge_member r v.vid) qs ≡ true
        any [] (k, lt, is) = absurd (omega (arith, lt))
        any (q ∷ qs) (zero, lt, is) = rw (subst (λ x. is_edge_member x v.vid ≡ true) (sym is) o.member) refl
        any (q ∷ qs) (suc k, lt, is) = put q qs (is_edge_member q v.vid) (any qs (k, omega (arith, lt), is))

    of_vlan_is : vlan_acl conf d v ≡ acl_entries (AtVlan v.vid) conf d v.acls
    of_vlan_is =
        ap (λ b. if not b && has_edge_member d v.vid then acl_entries (AtVlan v.vid) conf d v.acls else []) some
        ∙ ap (λ b. if b then acl_entries (AtVlan v.vid) conf d v.acls else []) attaches

    none_of : (w : Vlan) → Contains conf.vlans w → (v.vid ≡ w.vid → ⊥) → NoneHits port p (vlan_acl conf d w)
    none_of w c apart =
        let tag = (o.is_in).0 in
        let misses : agrees (vid_field w.vid) (value_of VlanVid port p) ≡ false =
        in_vlan port p o.shaped w.vid (vlan_number conf setting.valid d setting.is_dp w c) ∙ names_vlan p tag w.vid (o.is_in).1 ∙ ne_eqb tag.vid w.vid (λ e. apart (sym (o.is_in).2 ∙ e)) in
        all_if (λ e. hits e.key.fields port p ≡ false) (has_acls w.acls && has_edge_member d w.vid) (acl_entries (AtVlan w.vid) conf d w.acls) [] (λ is. none_elsewhere (AtVlan w.vid) d port p misses 0 (rules_of conf w.acls)) (λ is. tt)

    leads : Leads 2 port p (vlan_acl conf d v) (acl_sends conf d v.acls port p) (to_next (AtVlan v.vid) p (is_allowed conf v.acls port p))
    leads =
        subst (λ es. Leads 2 port p es (acl_sends conf d v.acls port p) (to_next (AtVlan v.vid) p (is_allowed conf v.acls port p))) (sym of_vlan_is)
        (acls_lead conf setting.valid d setting.is_dp (AtVlan v.vid) port p (vlan_number conf setting.valid d setting.is_dp v v_in, tagged_value p (o.is_in).0 (o.is_in).1 ∙ ap (λ (n : ℕ). 0x1000 + n) (o.is_in).2) v.acls some
        (few conf setting.valid d setting.is_dp v.acls some (behind (map (λ (q : Port). q.acls) d.ports) _ v.acls (in_mapped (λ (w : Vlan). w.acls) _ v (in_filtered (λ w. has_edge_member d w.vid) conf.vlans v v_in attaches)))))

    vlans_decide : (sent : List Sent) (on : Option (ℕ × Packet)) → Leads 2 port p (vlan_acl conf d v) sent on → IsDecided 2 port p (plan conf now d) sent on
    vlans_decide sent on l = record {
      by = l.by;
      within = behind (fixed conf d) _ l.by (behind (flat_map (of_port conf now d) d.ports) _ l.by (in_front (flat_map (of_vlan conf now d) conf.vlans) _ l.by (in_flat (of_vlan conf now d) conf.vlans v l.by v_in (in_front (vlan_acl conf d v) _ l.by l.within))));
      hit = rw (eq-eqb l.by.key.table 2 (of_all (λ e. e.key.table ≡ 2) (vlan_acl conf d v) (vlan_acl_in conf d v) l.by l.within)) l.hit;
      all = followed 2 port p l.by.key.priority sent on (plan conf now d) (at_2 conf now d (Part 2 port p l.by.key.priority sent on) (λ w c. one w c (v.vid == w.vid) refl));
    }
      where
        one : (w : Vlan) → Contains conf.vlans w → (b : Bool) → (v.vid == w.vid) ≡ b → AllByRecursion (Part 2 port p l.by.key.priority sent on) (vlan_acl conf d w)
        one w c true e = subst (λ x. AllByRecursion (Part 2 port p l.by.key.priority sent on) (vlan_acl conf d x)) (one_vlan conf setting.valid d setting.is_dp v w v_in c (eqb-true v.vid w.vid e)) l.all
        one w c false e = no_part 2 port p l.by.key.priority sent on (vlan_acl conf d w) (none_of w c (λ same. true≢false (sym (eq-eqb v.vid w.vid same) ∙ e)))

  pub law : VlanAclLaw conf now d
  law = record {
    acls = λ port p i v o has rest more.
        sends_then conf now d 2 3 port p (acl_sends conf d v.acls port p) (is_allowed conf v.acls port p) rest (vlans_decide port p i v o has (acl_sends conf d v.acls port p) (to_next (AtVlan v.vid) p (is_allowed conf v.acls port p)) (leads port p i v o has)) more;
  }
