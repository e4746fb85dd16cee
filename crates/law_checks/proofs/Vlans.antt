-- The VLANs of a configuration that breaks no rule are valid, and those that are named by a number are there.
use Rattle.std.specs.Prelude.{◌≡◌, ℕ, ◌+◌, ◌<◌, Bool, true, false, List, [], ◌∷◌, ◌++◌, map, codes, Option, Some, None, IfSome, nat_lt, if◌then◌else◌}
use Rattle.std.specs.Fmt.{decimal}
use Rattle.std.specs.List.{AllByRecursion, flat_map, enumerate_from}
use Rattle.std.specs.Option.{option_map_or}
use Rattle.std.proofs.Common.{◌⊎◌, inl, inr, refl, sym, ap, ◌∙◌, subst}
use Rattle.net_base.specs.Numbers.{IsVid}
use Rattle.conf_types.specs.declared.vlan.Vlan.{Vlan}
use Rattle.conf_types.specs.Lists.{EachBefore, is_among}
use Rattle.conf_types.specs.Valid.{IsVlan, VlansAreValid}
use Rattle.conf_shape.specs.declared.raw.VlanRef.{VlanRef}
use Rattle.conf_shape.specs.declared.raw.VlanRef.TheVariants.{Vid, Name}
use Rattle.conf_shape.specs.declared.raw.RawPort.{RawPort}
use Rattle.conf_shape.specs.declared.raw.RawDp.{RawDp}
use Rattle.conf_shape.specs.declared.raw.RawVlan.{RawVlan}
use Rattle.conf_shape.specs.declared.raw.RawBgp.{RawBgp}
use Rattle.conf_shape.specs.declared.raw.RawRouter.{RawRouter}
use Rattle.conf_shape.specs.declared.raw.RawConf.{RawConf}
use Rattle.conf_resolve.specs.declared.ordered.PlacedVlan.{PlacedVlan}
use Rattle.conf_resolve.specs.InOrder.{ports_in_order, dps_in_order, routers_in_order, port_site, router_site, bgp_site, made_vlan, by_number, by_numbers, of_port, of_router, named, further, written, vlans_in_order, ordered}
use Rattle.conf_resolve.specs.InRange.{IsInRange, NamesVlan, VlanIsInRange, DpIsInRange, PortIsInRange, BgpIsInRange, RouterIsInRange}
use Rattle.conf_resolve.specs.Resolved.{vlan_of, resolved, to_list}
use Rattle.law_checks.proofs.Apart.{vids_differ, vlan_names_differ}
use Rattle.law_checks.proofs.Kept.{before_unmapped}
use Rattle.law_checks.proofs.Made.{made_number, made_in_range}
use Rattle.law_checks.proofs.Members.{IsIn, of_all, all_by, all_mapped, of_joined, in_front, behind, of_mapped, in_mapped, of_flat, in_flat, is_one_of, before_mapped, before_both}
use Rattle.law_checks.proofs.Orders.{of_order, into_order, all_ordered, sorted, number_order, rises_apart}
use Rattle.law_checks.proofs.Unbroken.{BreaksNone}

-- ---- the VLANs that are made

-- it is made of a number in range
record IsMade (v : PlacedVlan) : Type 0 where
  vid : ℕ
  is_vid : IsVid vid
  made : made_vlan vid ≡ v.vlan

by_number_made : (site : List (List ℕ)) (name : VlanRef) (v : PlacedVlan) → NamesVlan name → IsIn (by_number site name) v → IsMade v
by_number_made site (Vid vid) v is (inl e) = record { vid = vid; is_vid = is; made = ap (λ (w : PlacedVlan). w.vlan) e }
by_number_made site (Vid vid) v is (inr i) = absurd i
by_number_made site (Name name) v is i = absurd i

by_numbers_made : (site : List (List ℕ)) (n : ℕ) (names : List VlanRef) (v : PlacedVlan) → AllByRecursion NamesVlan names → IsIn (flat_map (λ item. by_number (site ++ decimal item.0 ∷ []) item.1) (enumerate_from n names)) v → IsMade v
by_numbers_made site n [] v all i = absurd i
by_numbers_made site n (name ∷ names) v all i = by (λ j. by_numbers_made site (n + 1) names v all.1 j) (of_joined (by_number (site ++ decimal n ∷ []) name) _ v i)
  where
    by : (IsIn (flat_map (λ item. by_number (site ++ decimal item.0 ∷ []) item.1) (enumerate_from (n + 1) names)) v → IsMade v)
        → IsIn (by_number (site ++ decimal n ∷ []) name) v ⊎ IsIn (flat_map (λ item. by_number (site ++ decimal item.0 ∷ []) item.1) (enumerate_from (n + 1) names)) v → IsMade v
    by more (inl j) = by_number_made (site ++ decimal n ∷ []) name v all.0 j
    by more (inr j) = more j

native_made : (site : List (List ℕ)) (native : Option VlanRef) (v : PlacedVlan) → IfSome native NamesVlan → IsIn (option_map_or (by_number site) native []) v → IsMade v
native_made site None v is i = absurd i
native_made site (Some name) v is i = by_number_made site name v is i

of_port_made : (d : RawDp) (p : RawPort) (v : PlacedVlan) → PortIsInRange p → IsIn (of_port d p) v → IsMade v
of_port_made d p v range i = by (of_joined (option_map_or (by_number (port_site d p ++ codes "native_vlan" ∷ [])) p.native []) _ v i)
  where
    by : IsIn (option_map_or (by_number (port_site d p ++ codes "native_vlan" ∷ [])) p.native []) v ⊎ IsIn (by_numbers (port_site d p ++ codes "tagged_vlans" ∷ []) p.tagged) v → IsMade v
    by (inl j) = native_made (port_site d p ++ codes "native_vlan" ∷ []) p.native v range.native j
    by (inr j) = by_numbers_made (port_site d p ++ codes "tagged_vlans" ∷ []) 0 p.tagged v range.tagged j

peer_made : (site : List (List ℕ)) (bgp : Option RawBgp) (v : PlacedVlan) → IfSome bgp BgpIsInRange → IsIn (option_map_or (λ bgp. by_number site bgp.vlan) bgp []) v → IsMade v
peer_made site None v is i = absurd i
peer_made site (Some bgp) v is i = by_number_made site bgp.vlan v is.vlan i

of_router_made : (r : RawRouter) (v : PlacedVlan) → RouterIsInRange r → IsIn (of_router r) v → IsMade v
of_router_made r v range i = by (of_joined (by_numbers (router_site r ++ codes "vlans" ∷ []) r.vlans) _ v i)
  where
    by : IsIn (by_numbers (router_site r ++ codes "vlans" ∷ []) r.vlans) v ⊎ IsIn (option_map_or (λ bgp. by_number (bgp_site r) bgp.vlan) r.bgp []) v → IsMade v
    by (inl j) = by_numbers_made (router_site r ++ codes "vlans" ∷ []) 0 r.vlans v range.vlans j
    by (inr j) = peer_made (bgp_site r) r.bgp v range.bgp j

-- one of those that are further is one of all
pub of_further : (vids : List ℕ) (vs : List PlacedVlan) (w : PlacedVlan) → IsIn (further vids vs) w → IsIn vs w
of_further vids [] w i = i
of_further vids (v ∷ more) w i = by (is_among vids v.vlan.vid) (λ j. of_further vids more w j) (λ j. of_further (v.vlan.vid ∷ vids) more w j) i
  where
    by : (b : Bool) → (IsIn (further vids more) w → IsIn more w) → (IsIn (further (v.vlan.vid ∷ vids) more) w → IsIn more w) → IsIn (if b then further vids more else v ∷ further (v.vlan.vid ∷ vids) more) w → IsIn (v ∷ more) w
    by true f g j = inr (f j)
    by false f g (inl e) = inl e
    by false f g (inr j) = inr (g j)

-- a number is among these, or that of one of the VLANs
abbrev Stays : PlacedVlan → List ℕ → List PlacedVlan → Type 0
Stays v ns ws = IsIn ns v.vlan.vid ⊎ ((w : PlacedVlan) × IsIn ws w × (w.vlan.vid ≡ v.vlan.vid))

-- a number that is named is among these, or stays
stays : (vids : List ℕ) (vs : List PlacedVlan) (v : PlacedVlan) → IsIn vs v → Stays v vids (further vids vs)
stays vids [] v i = absurd i
stays vids (u ∷ more) v i = by (is_among vids u.vlan.vid) refl (λ j. stays vids more v j) (λ j. stays (u.vlan.vid ∷ vids) more v j) i
  where
    new : Stays v (u.vlan.vid ∷ vids) (further (u.vlan.vid ∷ vids) more) → Stays v vids (u ∷ further (u.vlan.vid ∷ vids) more)
    new (inl (inl e)) = inr (u, inl refl, e)
    new (inl (inr j)) = inl j
    new (inr m) = inr (m.0, inr m.1, m.2)

    by : (b : Bool) → is_among vids u.vlan.vid ≡ b → (IsIn more v → Stays v vids (further vids more)) → (IsIn more v → Stays v (u.vlan.vid ∷ vids) (further (u.vlan.vid ∷ vids) more)) → IsIn (u ∷ more) v → Stays v vids (if b then further vids more else u ∷ further (u.vlan.vid ∷ vids) more)
    by true is f g (inl e) = inl (subst (λ (w : PlacedVlan). IsIn vids w.vlan.vid) e (is_one_of vids u.vlan.vid is))
    by true is f g (inr j) = f j
    by false is f g (inl e) = inr (u, inl refl, ap (λ (w : PlacedVlan). w.vlan.vid) e)
    by false is f g (inr j) = new (g j)

module _ (raw : RawConf) (range : IsInRange raw) where
  dps_in_range : AllByRecursion DpIsInRange (dps_in_order raw)
  dps_in_range = all_ordered DpIsInRange _ (map ports_in_order raw.dps) (all_mapped DpIsInRange ports_in_order raw.dps (all_by _ raw.dps (λ d i. let r = of_all DpIsInRange raw.dps range.dps d i in record {
    id = r.id;
    names = r.names;
    timeout = r.timeout;
    arp_timeout = r.arp_timeout;
    stack_priority = r.stack_priority;
    lldp = r.lldp;
    ports = all_ordered PortIsInRange _ d.ports r.ports;
  })))

  pub dp_in_range : (d : RawDp) → IsIn (dps_in_order raw) d → DpIsInRange d
  dp_in_range d i = of_all DpIsInRange (dps_in_order raw) dps_in_range d i

  routers_in_range : AllByRecursion RouterIsInRange (routers_in_order raw)
  routers_in_range = all_ordered RouterIsInRange _ raw.routers range.routers

  pub router_in_range : (r : RawRouter) → IsIn (routers_in_order raw) r → RouterIsInRange r
  router_in_range r i = of_all RouterIsInRange (routers_in_order raw) routers_in_range r i

  named_made : (v : PlacedVlan) → IsIn (named (dps_in_order raw) (routers_in_order raw)) v → IsMade v
  named_made v i = by (of_joined (flat_map (λ d. flat_map (of_port d) d.ports) (dps_in_order raw)) _ v i)
    where
      by : IsIn (flat_map (λ d. flat_map (of_port d) d.ports) (dps_in_order raw)) v ⊎ IsIn (flat_map of_router (routers_in_order raw)) v → IsMade v
      by (inl j) =
          let m = of_flat (λ (d : RawDp). flat_map (of_port d) d.ports) (dps_in_order raw) v j in
          let n = of_flat (of_port m.0) m.0.ports v m.2 in
          of_port_made m.0 n.0 v (of_all PortIsInRange m.0.ports (dp_in_range m.0 m.1).ports n.0 n.1) n.2
      by (inr j) =
          let m = of_flat of_router (routers_in_order raw) v j in
          of_router_made m.0 v (router_in_range m.0 m.1) m.2

  abbrev new_vlans : List PlacedVlan
  new_vlans = further (map (λ v. v.vid) raw.vlans) (named (dps_in_order raw) (routers_in_order raw))

  pub vlan_in_range : (v : PlacedVlan) → IsIn (vlans_in_order raw) v → VlanIsInRange v.vlan
  vlan_in_range v i = by (of_joined (map written raw.vlans) new_vlans v (of_order (λ (v w : PlacedVlan). nat_lt v.vlan.vid w.vlan.vid) _ v i))
    where
      by : IsIn (map written raw.vlans) v ⊎ IsIn new_vlans v → VlanIsInRange v.vlan
      by (inl j) =
          let m = of_mapped written raw.vlans v j in
          subst (λ (w : PlacedVlan). VlanIsInRange w.vlan) m.2 (of_all VlanIsInRange raw.vlans range.vlans m.0 m.1)
      by (inr j) =
          let m = named_made v (of_further (map (λ v. v.vid) raw.vlans) (named (dps_in_order raw) (routers_in_order raw)) v j) in
          subst VlanIsInRange m.made (made_in_range m.vid m.is_vid)

  -- the VLAN of a number that is named is there
  has_number : (v : PlacedVlan) → IsIn (named (dps_in_order raw) (routers_in_order raw)) v → (w : PlacedVlan) × IsIn (vlans_in_order raw) w × (w.vlan.vid ≡ v.vlan.vid)
  has_number v i = by (stays (map (λ v. v.vid) raw.vlans) (named (dps_in_order raw) (routers_in_order raw)) v i)
    where
      by : IsIn (map (λ v. v.vid) raw.vlans) v.vlan.vid ⊎ ((w : PlacedVlan) × IsIn new_vlans w × (w.vlan.vid ≡ v.vlan.vid)) → (w : PlacedVlan) × IsIn (vlans_in_order raw) w × (w.vlan.vid ≡ v.vlan.vid)
      by (inl j) =
          let m = of_mapped (λ (v : RawVlan). v.vid) raw.vlans v.vlan.vid j in
          (written m.0, into_order (λ (v w : PlacedVlan). nat_lt v.vlan.vid w.vlan.vid) _ (written m.0) (in_front (map written raw.vlans) new_vlans (written m.0) (in_mapped written raw.vlans m.0 m.1)), m.2)
      by (inr m) = (m.0, into_order (λ (v w : PlacedVlan). nat_lt v.vlan.vid w.vlan.vid) _ m.0 (behind (map written raw.vlans) new_vlans m.0 m.1), m.2)

  -- of a number in range that an interface or a router names
  numbers_named : (site : List (List ℕ)) (n : ℕ) (names : List VlanRef) (vid : ℕ) → IsIn names (Vid vid) → (v : PlacedVlan) × IsIn (flat_map (λ item. by_number (site ++ decimal item.0 ∷ []) item.1) (enumerate_from n names)) v × (v.vlan ≡ made_vlan vid)
  numbers_named site n [] vid i = absurd i
  numbers_named site n (name ∷ names) vid (inl e) =
      let v : PlacedVlan = record { site = site ++ decimal n ∷ []; vlan = made_vlan vid } in
      let here : IsIn (by_number (site ++ decimal n ∷ []) name) v = subst (λ (m : VlanRef). IsIn (by_number (site ++ decimal n ∷ []) m) v) (sym e) (inl refl) in
      (v, in_front (by_number (site ++ decimal n ∷ []) name) _ v here, refl)
  numbers_named site n (name ∷ names) vid (inr i) =
      let m = numbers_named site (n + 1) names vid i in
      (m.0, behind (by_number (site ++ decimal n ∷ []) name) _ m.0 m.1, m.2)

  native_named : (site : List (List ℕ)) (native : Option VlanRef) (vid : ℕ) → IsIn (to_list native) (Vid vid) → (v : PlacedVlan) × IsIn (option_map_or (by_number site) native []) v × (v.vlan ≡ made_vlan vid)
  native_named site None vid i = absurd i
  native_named site (Some name) vid (inl e) =
      let v : PlacedVlan = record { site = site; vlan = made_vlan vid } in
      (v, subst (λ (m : VlanRef). IsIn (by_number site m) v) (sym e) (inl refl), refl)
  native_named site (Some name) vid (inr i) = absurd i

  port_names : (d : RawDp) (p : RawPort) (vid : ℕ) → IsIn (to_list p.native ++ p.tagged) (Vid vid) → (v : PlacedVlan) × IsIn (of_port d p) v × (v.vlan ≡ made_vlan vid)
  port_names d p vid i = by (of_joined (to_list p.native) p.tagged (Vid vid) i)
    where
      by : IsIn (to_list p.native) (Vid vid) ⊎ IsIn p.tagged (Vid vid) → (v : PlacedVlan) × IsIn (of_port d p) v × (v.vlan ≡ made_vlan vid)
      by (inl j) =
          let m = native_named (port_site d p ++ codes "native_vlan" ∷ []) p.native vid j in
          (m.0, in_front (option_map_or (by_number (port_site d p ++ codes "native_vlan" ∷ [])) p.native []) (by_numbers (port_site d p ++ codes "tagged_vlans" ∷ []) p.tagged) m.0 m.1, m.2)
      by (inr j) =
          let m = numbers_named (port_site d p ++ codes "tagged_vlans" ∷ []) 0 p.tagged vid j in
          (m.0, behind (option_map_or (by_number (port_site d p ++ codes "native_vlan" ∷ [])) p.native []) (by_numbers (port_site d p ++ codes "tagged_vlans" ∷ []) p.tagged) m.0 m.1, m.2)

  -- some VLAN has the number
  abbrev pub HasVlan : ℕ → Type 0
  HasVlan vid = (w : PlacedVlan) × IsIn (vlans_in_order raw) w × (w.vlan.vid ≡ vid)

  pub number_of_port : (d : RawDp) → IsIn (dps_in_order raw) d → (p : RawPort) → IsIn d.ports p → (vid : ℕ) → IsVid vid → IsIn (to_list p.native ++ p.tagged) (Vid vid) → HasVlan vid
  number_of_port d cd p cp vid is i =
      let m = port_names d p vid i in
      let here = in_front (flat_map (λ d. flat_map (of_port d) d.ports) (dps_in_order raw)) (flat_map of_router (routers_in_order raw)) m.0
      (in_flat (λ (d : RawDp). flat_map (of_port d) d.ports) (dps_in_order raw) d m.0 cd (in_flat (of_port d) d.ports p m.0 cp m.1)) in
      let w = has_number m.0 here in
      (w.0, w.1, w.2 ∙ ap (λ (v : RawVlan). v.vid) m.2 ∙ made_number vid is)

  -- of a number that a router names
  named_by : (r : RawRouter) → IsIn (routers_in_order raw) r → (vid : ℕ) → IsVid vid → (v : PlacedVlan) × IsIn (of_router r) v × (v.vlan ≡ made_vlan vid) → HasVlan vid
  named_by r cr vid is m =
      let here = behind (flat_map (λ d. flat_map (of_port d) d.ports) (dps_in_order raw)) (flat_map of_router (routers_in_order raw)) m.0 (in_flat of_router (routers_in_order raw) r m.0 cr m.1) in
      let w = has_number m.0 here in
      (w.0, w.1, w.2 ∙ ap (λ (v : RawVlan). v.vid) m.2 ∙ made_number vid is)

  pub number_of_router : (r : RawRouter) → IsIn (routers_in_order raw) r → (vid : ℕ) → IsVid vid → IsIn r.vlans (Vid vid) → HasVlan vid
  number_of_router r cr vid is i =
      let m = numbers_named (router_site r ++ codes "vlans" ∷ []) 0 r.vlans vid i in
      named_by r cr vid is (m.0, in_front (by_numbers (router_site r ++ codes "vlans" ∷ []) r.vlans) _ m.0 m.1, m.2)

  pub number_of_peer : (r : RawRouter) → IsIn (routers_in_order raw) r → (bgp : RawBgp) → r.bgp ≡ Some bgp → (vid : ℕ) → IsVid vid → bgp.vlan ≡ Vid vid → HasVlan vid
  number_of_peer r cr bgp has vid is names =
      let v : PlacedVlan = record { site = bgp_site r; vlan = made_vlan vid } in
      let here : IsIn (by_number (bgp_site r) bgp.vlan) v = subst (λ (m : VlanRef). IsIn (by_number (bgp_site r) m) v) (sym names) (inl refl) in
      let at : IsIn (option_map_or (λ bgp. by_number (bgp_site r) bgp.vlan) r.bgp []) v = subst (λ (o : Option RawBgp). IsIn (option_map_or (λ bgp. by_number (bgp_site r) bgp.vlan) o []) v) (sym has) here in
      named_by r cr vid is (v, behind (by_numbers (router_site r ++ codes "vlans" ∷ []) r.vlans) _ v at, refl)

  -- ---- they are valid

  module _ (whole : BreaksNone (ordered raw) (resolved (ordered raw))) where
    pub vlans_rise : EachBefore (λ (v w : PlacedVlan). v.vlan.vid < w.vlan.vid) (vlans_in_order raw)
    vlans_rise =
        before_both (λ (v w : PlacedVlan). nat_lt w.vlan.vid v.vlan.vid ≡ false) (λ v w. v.vlan.vid ≡ w.vlan.vid → ⊥) (λ v w. v.vlan.vid < w.vlan.vid) (vlans_in_order raw)
        (sorted (λ (v w : PlacedVlan). nat_lt v.vlan.vid w.vlan.vid) (number_order (λ (v : PlacedVlan). v.vlan.vid)) (map written raw.vlans ++ new_vlans))
        (before_unmapped (λ (v w : Vlan). v.vid ≡ w.vid → ⊥) (λ (v : PlacedVlan). vlan_of v.vlan) (vlans_in_order raw) (vids_differ (ordered raw) whole.vlans_differ)) (λ v w not other. rises_apart v.vlan.vid w.vlan.vid not other)

    pub vlans_valid : VlansAreValid (resolved (ordered raw))
    vlans_valid = record {
      each = all_mapped IsVlan (λ (v : PlacedVlan). vlan_of v.vlan) (vlans_in_order raw) (all_by _ (vlans_in_order raw) (λ v i. let r = vlan_in_range v i in record {
        number = r.number;
        name = r.names.name;
        description = r.names.description;
        mac = r.mac;
        vips = r.vips;
        routes = r.routes;
        hosts = r.hosts;
        most_hosts = r.most_hosts;
      }));
      in_order = before_mapped (λ (v w : Vlan). v.vid < w.vid) (λ (v : PlacedVlan). vlan_of v.vlan) (vlans_in_order raw) vlans_rise;
      names = vlan_names_differ (ordered raw) whole.vlans_differ;
    }
