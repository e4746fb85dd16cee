-- Rules 1 to 3 and 5: what is found where something is named twice.
use Rattle.std.specs.Prelude.{◌≡◌, ℕ, ◌==◌, true, false, List, [], ◌∷◌, codes, Some, None, Option}
use Rattle.std.specs.Option.{option_map_or}
use Rattle.std.proofs.Common.{inl, inr, refl, sym, ap, ◌∙◌, true≢false, eqb-true}
use Rattle.yaml_tree.specs.declared.tree.Pair.{Pair}
use Rattle.yaml_tree.specs.declared.tree.Tree.{Tree, out-Tree}
use Rattle.yaml_tree.specs.declared.tree.Key.{Key}
use Rattle.conf_types.specs.Lists.{is_same}
use Rattle.conf_shape.specs.declared.raw.RawDp.{RawDp}
use Rattle.conf_shape.specs.declared.raw.RawConf.{RawConf}
use Rattle.conf_shape.specs.declared.raw.RawNames.{RawNames}
use Rattle.conf_shape.specs.declared.raw.RawPort.{RawPort}
use Rattle.conf_shape.specs.declared.raw.RawVlan.{RawVlan}
use Rattle.conf_shape.specs.declared.raw.VlanRef.{VlanRef}
use Rattle.conf_shape.specs.declared.refused.ConfCause.TheVariants.{Duplicate}
use Rattle.conf_shape.specs.Reads.{value_at}
use Rattle.conf_resolve.specs.declared.ordered.OrderedConf.{OrderedConf}
use Rattle.conf_resolve.specs.declared.ordered.PlacedVlan.{PlacedVlan}
use Rattle.conf_resolve.specs.InOrder.{dp_site, port_site, ordered}
use Rattle.conf_resolve.specs.Resolved.{to_list, vid_of}
use Rattle.conf_rules.specs.Names.{vid_site, repeated_vlan, repeated_vlans, repeated_dp, repeated_dps, number_site, repeated_port, repeated_ports_of, repeated_ports, is_same_vlan, named_again, twice_of_port, twice_of_dp, vlans_twice}
use Rattle.conf_rules.specs.Places.{fault_if, under, name_site, each_at, with_earlier, is_repeat}
use Rattle.law_checks.specs.Says.{Says, NamesSay, PortSays}
use Rattle.law_checks.specs.Values.{IsNumber, IsText, HasEntries}
use Rattle.law_checks.proofs.Empty.{values_at}
use Rattle.law_checks.proofs.Kept.{is_value, of_earlier}
use Rattle.law_checks.proofs.Orders.{same_texts}
use Rattle.law_documents.specs.Forms.{IsOwn}
use Rattle.law_documents.proofs.Leads.{Reaches, onward, there, needed, behind_earlier}
use Rattle.law_documents.proofs.Own.{section, some_given, some_number}
use Rattle.law_documents.proofs.Parts.{IsPart, IsDp, dp_leads}
use Rattle.law_documents.proofs.Vlans.{VlanAt, tagged_leads, IsVlan, vlan_leads}
use Rattle.law_breaks.specs.Found.{PathsBreak, ToldAs, ByKey}
use Rattle.law_breaks.specs.Names.{HasName, HasNumber, RepeatsVlan, RepeatsDatapath, RepeatsInterface, NameOneVlan, RepeatsTagged}
use Rattle.law_breaks.proofs.Found.{told_if, each, both, by_key, contains, repeats, item_of}

-- ---- a name that is written

module _ (t : Tree) (site : List (List ℕ)) (names : RawNames) (Part : Tree → Type 0) (r : Reaches t site Part) (own : (u : Tree) → Part u → IsOwn (out-Tree u)) where
  -- the entries of the part say its names, or it has none
  abbrev pub Named : Tree → Type 0
  Named u = names.has_name ≡ true → (k : Key) × (pairs : List Pair) × HasEntries (out-Tree u) pairs × NamesSay k pairs names

  pub name_found : ((u : Tree) → Part u → Named u) → Reaches t (name_site site names) (HasName site names (name_site site names))
  name_found says = there t (name_site site names) (ByKey names.has_name (λ v. IsText v names.name)) (HasName site names (name_site site names))
      (by_key t site names.has_name (codes "name") (λ v. IsText v names.name) Part r own (λ u p has.
      let s = says u p has in
      needed u (codes "name") (λ v. IsText v names.name) s.1 s.2 (some_given (value_at (codes "name") s.1) (names.name ≡ names.key) (λ v. IsText v names.name) (sym s.3.has_name ∙ has) s.3.name)))
      (λ v at. record { path = refl; value = at })

same_number : (a b : ℕ) → (a == b) ≡ true → a ≡ b
same_number a b is = eqb-true a b is

module _ (t : Tree) (raw : RawConf) (says : Says t raw) where
  abbrev o : OrderedConf
  o = ordered raw

  -- ---- rule 1

  own_vlan : (v : RawVlan) (u : Tree) → IsVlan v u → IsOwn (out-Tree u)
  own_vlan v u (inl part) = inr (section (out-Tree u) part.1.0 part.1.1)
  own_vlan v u (inr made) = inl made.0

  vlan_number : (v : RawVlan) (u : Tree) → IsVlan v u → v.has_vid ≡ true → Reaches u (codes "vid" ∷ []) (λ w. IsNumber w v.vid)
  vlan_number v u (inl part) has = needed u (codes "vid") (λ w. IsNumber w v.vid) part.1.0 part.1.1 (some_number part.0 (value_at (codes "vid") part.1.0) v.vid (sym part.1.2.has_vid ∙ has) part.1.2.vid)
  vlan_number v u (inr made) has = absurd (true≢false (sym has ∙ ap (λ (v : RawVlan). v.has_vid) made.1.1))

  vlan_named : (v : RawVlan) (u : Tree) → IsVlan v u → v.names.has_name ≡ true → (k : Key) × (pairs : List Pair) × HasEntries (out-Tree u) pairs × NamesSay k pairs v.names
  vlan_named v u (inl part) has = (part.0, part.1.0, part.1.1, part.1.2.names)
  vlan_named v u (inr made) has = absurd (true≢false (sym has ∙ ap (λ (v : RawVlan). v.names.has_name) made.1.1))

  pub rule1 : PathsBreak t (ToldAs Duplicate (RepeatsVlan (ordered raw))) (repeated_vlans (ordered raw))
  rule1 = each t (ToldAs Duplicate (RepeatsVlan o)) repeated_vlan (with_earlier [] o.vlans) (λ e i.
      let v : PlacedVlan = e.1 in
      let r = vlan_leads t raw says v (of_earlier [] o.vlans e i) in
      both t (ToldAs Duplicate (RepeatsVlan o))
      (fault_if (is_repeat (λ (a b : PlacedVlan). a.vlan.vid == b.vlan.vid) e) Duplicate (vid_site v))
      (fault_if (is_repeat (λ (a b : PlacedVlan). is_same a.vlan.names.name b.vlan.names.name) e) Duplicate (name_site v.site v.vlan.names))
      (told_if t (RepeatsVlan o) (is_repeat (λ (a b : PlacedVlan). a.vlan.vid == b.vlan.vid) e) Duplicate (vid_site v) (λ is.
      there t (vid_site v) (ByKey v.vlan.has_vid (λ w. IsNumber w v.vlan.vid)) (RepeatsVlan o (vid_site v))
      (by_key t v.site v.vlan.has_vid (codes "vid") (λ w. IsNumber w v.vlan.vid) (IsVlan v.vlan) r (own_vlan v.vlan) (vlan_number v.vlan)) (λ u at.
      inl (repeats (λ (a b : PlacedVlan). a.vlan.vid == b.vlan.vid) (λ a b. a.vlan.vid ≡ b.vlan.vid) (λ w. HasNumber (vid_site w) w.vlan.has_vid w.vlan.vid (vid_site v) u) (λ a b. same_number a.vlan.vid b.vlan.vid) [] o.vlans e i is (record { path = refl; value = at })))))
      (told_if t (RepeatsVlan o) (is_repeat (λ (a b : PlacedVlan). is_same a.vlan.names.name b.vlan.names.name) e) Duplicate (name_site v.site v.vlan.names) (λ is.
      there t (name_site v.site v.vlan.names) (HasName v.site v.vlan.names (name_site v.site v.vlan.names)) (RepeatsVlan o (name_site v.site v.vlan.names))
      (name_found t v.site v.vlan.names (IsVlan v.vlan) r (own_vlan v.vlan) (vlan_named v.vlan)) (λ u at.
      inr (repeats (λ (a b : PlacedVlan). is_same a.vlan.names.name b.vlan.names.name) (λ a b. a.vlan.names.name ≡ b.vlan.names.name) (λ w. HasName w.site w.vlan.names (name_site v.site v.vlan.names) u) (λ a b. same_texts a.vlan.names.name b.vlan.names.name) [] o.vlans e i is at)))))

  -- ---- rule 2

  pub rule2 : PathsBreak t (ToldAs Duplicate (RepeatsDatapath (ordered raw))) (repeated_dps (ordered raw))
  rule2 = each t (ToldAs Duplicate (RepeatsDatapath o)) repeated_dp (with_earlier [] o.dps) (λ e i.
      let d : RawDp = e.1 in
      let r = (dp_leads t raw says d (of_earlier [] o.dps e i)).itself in
      let id_site = under (dp_site d) (codes "dp_id") in
      let names_at = name_site (dp_site d) d.names in
      both t (ToldAs Duplicate (RepeatsDatapath o))
      (fault_if (is_repeat (λ (a b : RawDp). a.id.0 == b.id.0) e) Duplicate id_site)
      (fault_if (is_repeat (λ (a b : RawDp). is_same a.names.name b.names.name) e) Duplicate names_at)
      (told_if t (RepeatsDatapath o) (is_repeat (λ (a b : RawDp). a.id.0 == b.id.0) e) Duplicate id_site (λ is.
      there t id_site (λ w. IsNumber w d.id.0) (RepeatsDatapath o id_site)
      (onward t (dp_site d) (IsDp d) (codes "dp_id" ∷ []) (λ w. IsNumber w d.id.0) r (λ u h. needed u (codes "dp_id") (λ w. IsNumber w d.id.0) h.pairs h.has h.id)) (λ u at.
      inl (repeats (λ (a b : RawDp). a.id.0 == b.id.0) (λ a b. a.id.0 ≡ b.id.0) (λ d. HasNumber (under (dp_site d) (codes "dp_id")) true d.id.0 id_site u) (λ a b. same_number a.id.0 b.id.0) [] o.dps e i is (record { path = refl; value = at })))))
      (told_if t (RepeatsDatapath o) (is_repeat (λ (a b : RawDp). is_same a.names.name b.names.name) e) Duplicate names_at (λ is.
      there t names_at (HasName (dp_site d) d.names names_at) (RepeatsDatapath o names_at)
      (name_found t (dp_site d) d.names (IsDp d) r (λ u h. inr (section (out-Tree u) h.pairs h.has)) (λ u h has. (h.key, h.pairs, h.has, h.names))) (λ u at.
      inr (repeats (λ (a b : RawDp). is_same a.names.name b.names.name) (λ a b. a.names.name ≡ b.names.name) (λ d. HasName (dp_site d) d.names names_at u) (λ a b. same_texts a.names.name b.names.name) [] o.dps e i is at)))))

  -- ---- rule 3

  own_port : (p : RawPort) (u : Tree) → IsPart PortSays p u → IsOwn (out-Tree u)
  own_port p u part = inr (section (out-Tree u) part.1.0 part.1.1)

  port_number : (p : RawPort) (u : Tree) → IsPart PortSays p u → p.has_number ≡ true → Reaches u (codes "number" ∷ []) (λ w. IsNumber w p.no)
  port_number p u part has = needed u (codes "number") (λ w. IsNumber w p.no) part.1.0 part.1.1 (some_number part.0 (value_at (codes "number") part.1.0) p.no (sym part.1.2.has_number ∙ has) part.1.2.number)

  pub rule3 : PathsBreak t (ToldAs Duplicate (RepeatsInterface (ordered raw))) (repeated_ports (ordered raw))
  rule3 = each t (ToldAs Duplicate (RepeatsInterface o)) repeated_ports_of o.dps (λ d c. each t (ToldAs Duplicate (RepeatsInterface o)) (repeated_port d) (with_earlier [] d.ports) (λ e i.
      let p : RawPort = e.1 in
      let r = (dp_leads t raw says d c).port p (of_earlier [] d.ports e i) in
      let number_at = number_site d p in
      let names_at = name_site (port_site d p) p.names in
      both t (ToldAs Duplicate (RepeatsInterface o))
      (fault_if (is_repeat (λ (a b : RawPort). a.no == b.no) e) Duplicate number_at)
      (fault_if (is_repeat (λ (a b : RawPort). is_same a.names.name b.names.name) e) Duplicate names_at)
      (told_if t (RepeatsInterface o) (is_repeat (λ (a b : RawPort). a.no == b.no) e) Duplicate number_at (λ is.
      there t number_at (ByKey p.has_number (λ w. IsNumber w p.no)) (RepeatsInterface o number_at)
      (by_key t (port_site d p) p.has_number (codes "number") (λ w. IsNumber w p.no) (IsPart PortSays p) r (own_port p) (port_number p)) (λ u at.
      (d, contains o.dps d c, inl (repeats (λ (a b : RawPort). a.no == b.no) (λ a b. a.no ≡ b.no) (λ p. HasNumber (number_site d p) p.has_number p.no number_at u) (λ a b. same_number a.no b.no) [] d.ports e i is (record { path = refl; value = at }))))))
      (told_if t (RepeatsInterface o) (is_repeat (λ (a b : RawPort). is_same a.names.name b.names.name) e) Duplicate names_at (λ is.
      there t names_at (HasName (port_site d p) p.names names_at) (RepeatsInterface o names_at)
      (name_found t (port_site d p) p.names (IsPart PortSays p) r (own_port p) (λ u h has. (h.0, h.1.0, h.1.1, h.1.2.names))) (λ u at.
      (d, contains o.dps d c, inr (repeats (λ (a b : RawPort). is_same a.names.name b.names.name) (λ a b. a.names.name ≡ b.names.name) (λ p. HasName (port_site d p) p.names names_at u) (λ a b. same_texts a.names.name b.names.name) [] d.ports e i is at)))))))

  -- ---- rule 5

  one_vlan : (a b : VlanRef) → is_same_vlan o a b ≡ true → NameOneVlan o a b
  one_vlan a b is = by (vid_of o.vlans a) (vid_of o.vlans b) refl refl is
    where
      by : (m n : Option ℕ) → vid_of o.vlans a ≡ m → vid_of o.vlans b ≡ n → option_map_or (λ m. option_map_or (λ n. m == n) n false) m false ≡ true → NameOneVlan (ordered raw) a b
      by None n am bn is = absurd (true≢false (sym is))
      by (Some m) None am bn is = absurd (true≢false (sym is))
      by (Some m) (Some n) am bn is = (m, am, bn ∙ ap Some (sym (same_number m n is)))

  pub rule5 : PathsBreak t (ToldAs Duplicate (RepeatsTagged (ordered raw))) (vlans_twice (ordered raw))
  rule5 = each t (ToldAs Duplicate (RepeatsTagged o)) (twice_of_dp o) o.dps (λ d c. each t (ToldAs Duplicate (RepeatsTagged o)) (twice_of_port o d) d.ports (λ p j.
      let site = under (port_site d p) (codes "tagged_vlans") in
      let here = tagged_leads t d p ((dp_leads t raw says d c).port p j) in
      each t (ToldAs Duplicate (RepeatsTagged o)) (named_again o) (each_at site (with_earlier (to_list p.native) p.tagged)) (λ item i.
      told_if t (RepeatsTagged o) (is_repeat (is_same_vlan o) item.1) Duplicate item.0 (λ is.
      let tagged : List (List ℕ) × VlanRef = (item.0, item.1.1) in
      let among = behind_earlier site (to_list p.native) p.tagged item i in
      there t item.0 (λ u. VlanAt u item.1.1) (RepeatsTagged o item.0) (here tagged among) (λ u names.
      record {
        dp = d;
        is_dp = contains o.dps d c;
        port = p;
        is_port = contains d.ports p j;
        again = repeats (is_same_vlan o) (NameOneVlan o) _ one_vlan (to_list p.native) p.tagged item.1 (is_value (each_at site (with_earlier (to_list p.native) p.tagged)) (with_earlier (to_list p.native) p.tagged) (values_at site (with_earlier (to_list p.native) p.tagged)) item i) is (item_of site p.tagged tagged among, names);
      })))))
