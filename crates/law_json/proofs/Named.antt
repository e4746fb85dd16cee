-- What an object has under a name.
use Rattle.std.proofs.Common.{◌≡◌, ◌≢◌, inl, inr, ℕ, zero, suc, Bool, true, false, not, ◌&&◌, List, [], ◌∷◌, ◌++◌, length, fold, map, Option, Some, None, refl, sym, ap, ◌∙◌, subst, arith, decimal, codes}
use Rattle.std.specs.List.{AllByRecursion, list_all}
use Rattle.std.specs.Prelude.{Contains}
use Rattle.std.specs.Option.{option_map_or}
use Rattle.std.specs.Str.{bytes_eq}
use Rattle.std.proofs.lemmas.Bool.{and_parts}
use Rattle.std.proofs.lemmas.Slice.Eq.{bytes_eq-Decides}
use Rattle.conf_types.specs.declared.acl.Acl.{Acl}
use Rattle.conf_types.specs.declared.datapath.Dp.{Dp}
use Rattle.conf_types.specs.declared.datapath.Port.{Port}
use Rattle.conf_types.specs.declared.datapath.StackEnd.{StackEnd}
use Rattle.conf_types.specs.declared.vlan.Route.{Route}
use Rattle.conf_types.specs.declared.vlan.Router.{Router}
use Rattle.conf_types.specs.declared.vlan.Vlan.{Vlan}
use Rattle.conf_types.specs.Configuration.{Configuration}
use Rattle.conf_types.specs.Lists.{EachBefore, IsTextBefore}
use Rattle.conf_types.specs.Valid.{IsValid}
use Rattle.conf_json.specs.Json.{Member, null, quoted, with_member, object}
use Rattle.conf_json.specs.Text.{far_end_text, far_name, number_or_null, ip_text, lldp_members, port_members, port_member, port_text, dp_members, dp_member, dp_text, vlan_members, vlan_member, vlan_text, acl_member, router_member, route_text, json_text, vip_text, numbers_text}
use Rattle.law_json.specs.Named.{Has, Leads, ShowsFarEnd, ShowsPort, ShowsDp, ShowsRoute, ShowsVlan}
use Rattle.law_json.proofs.Alike.{each_before, own_names}
use Rattle.law_json.proofs.Datapaths.{ports_are, text_apart, dps_are}
use Rattle.law_json.proofs.Members.{IsIn, all_in, in_all, in_map, HaveOwnNames, of_fold, in_fold}
use Rattle.law_json.proofs.Vlans.{vlans_are}

-- ---- members

contains : {A : Type 0} (xs : List A) (x : A) → IsIn x xs → Contains xs x
contains [] x at = absurd at
contains (y ∷ ys) x (inl e) = (zero, omega arith, sym e)
contains (y ∷ ys) x (inr at) = let c = contains ys x at in (suc c.0, omega (arith, c.1), c.2)

is_in : {A : Type 0} (xs : List A) (x : A) → Contains xs x → IsIn x xs
is_in [] x (k, lt, is) = absurd (omega (arith, lt))
is_in (y ∷ ys) x (zero, lt, is) = inl (sym is)
is_in (y ∷ ys) x (suc k, lt, is) = inr (is_in ys x (k, omega (arith, lt), is))

-- of two members with one name both have one value
one_value : (ms : List Member) → HaveOwnNames ms → (x y : Member) → IsIn x ms → IsIn y ms → x.0 ≡ y.0 → x.1 ≡ y.1
one_value [] own x y at_x at_y e = absurd at_x
one_value (m ∷ ms) own x y (inl p) (inl q) e = ap (λ (w : Member). w.1) (p ∙ sym q)
one_value (m ∷ ms) own x y (inl p) (inr q) e = absurd (in_all (λ (w : Member). m.0 ≢ w.0) ms own.0 y q (ap (λ (w : Member). w.0) (sym p) ∙ e))
one_value (m ∷ ms) own x y (inr p) (inl q) e = absurd (in_all (λ (w : Member). m.0 ≢ w.0) ms own.0 x p (ap (λ (w : Member). w.0) (sym q) ∙ sym e))
one_value (m ∷ ms) own x y (inr p) (inr q) e = one_value ms own.1 x y p q e

pub has : (ms : List Member) → HaveOwnNames ms → (name value : List ℕ) → IsIn (name, value) ms → Has (object ms) name value
has ms own name value at = record {
  members = fold with_member [] ms;
  object = refl;
  there = contains (fold with_member [] ms) (name, value) (in_fold ms [] (name, value) own at);
  alone = λ m c same. elim (of_fold ms [] m (is_in (fold with_member [] ms) m c)) [ inl none ↦ absurd none | inr there ↦ one_value ms own m (name, value) there at same ];
}

-- ---- names that are written differ

abbrev differs : List ℕ → List Member → Bool
differs name ms = list_all (λ m. not (bytes_eq name m.0)) ms

abbrev differ : List Member → Bool
differ [] = true
differ (m ∷ ms) = differs m.0 ms && differ ms

no_equal : (b : Bool) → not b ≡ true → b ≡ true → ⊥
no_equal true h e = absurd cc
no_equal false h e = absurd cc

apart_from : (name : List ℕ) (ms : List Member) → differs name ms ≡ true → AllByRecursion (λ m. name ≢ m.0) ms
apart_from name [] h = tt
apart_from name (m ∷ ms) h =
    let both = and_parts (not (bytes_eq name m.0)) (differs name ms) h in
    (λ same. no_equal (bytes_eq name m.0) both.0 ((bytes_eq-Decides name m.0).1 same), apart_from name ms both.1)

own : (ms : List Member) → differ ms ≡ true → HaveOwnNames ms
own [] h = tt
own (m ∷ ms) h = let both = and_parts (differs m.0 ms) (differ ms) h in (apart_from m.0 ms both.0, own ms both.1)

-- ---- parts

far_shown : (conf : Configuration) (far : StackEnd) → ShowsFarEnd conf far (far_end_text conf far)
far_shown conf far =
    let ms : List Member = (codes "dp", quoted (far_name conf far)) ∷ (codes "port", decimal far.port) ∷ [] in
    record { dp = has ms (own ms refl) (codes "dp") _ (inl refl); port = has ms (own ms refl) (codes "port") _ (inr (inl refl)) }

port_has : (conf : Configuration) (p : Port) (name value : List ℕ) → IsIn (name, value) (port_members conf p) → Has (port_text conf p) name value
unfolding port_text
port_has conf p name value at = has (port_members conf p) (own (port_members conf p) refl) name value at

no_stack_shown : (conf : Configuration) (p : Port) → p.stack ≡ None → Has (port_text conf p) (codes "stack") null
no_stack_shown conf p e =
    subst (λ (o : Option StackEnd). Has (port_text conf p) (codes "stack") (option_map_or (far_end_text conf) o null)) e
    (port_has conf p (codes "stack") _ (inr (inr (inr (inr (inr (inr (inr (inr (inr (inr (inr (inl refl)))))))))))))

stack_shown : (conf : Configuration) (p : Port) (far : StackEnd) → p.stack ≡ Some far → Leads (port_text conf p) (codes "stack" ∷ []) (ShowsFarEnd conf far)
stack_shown conf p far e = (
  far_end_text conf far,
  subst (λ (o : Option StackEnd). Has (port_text conf p) (codes "stack") (option_map_or (far_end_text conf) o null)) e
      (port_has conf p (codes "stack") _ (inr (inr (inr (inr (inr (inr (inr (inr (inr (inr (inr (inl refl))))))))))))),
  far_shown conf far,
)

port_shown : (conf : Configuration) (p : Port) → ShowsPort conf p (port_text conf p)
port_shown conf p = record {
  acls = port_has conf p (codes "acls_in") _ (inl refl);
  description = port_has conf p (codes "description") _ (inr (inl refl));
  enabled = port_has conf p (codes "enabled") _ (inr (inr (inl refl)));
  hairpin = port_has conf p (codes "hairpin") _ (inr (inr (inr (inl refl))));
  max_hosts = port_has conf p (codes "max_hosts") _ (inr (inr (inr (inr (inl refl)))));
  mirror = port_has conf p (codes "mirror") _ (inr (inr (inr (inr (inr (inl refl))))));
  name = port_has conf p (codes "name") _ (inr (inr (inr (inr (inr (inr (inl refl)))))));
  native = port_has conf p (codes "native_vlan") _ (inr (inr (inr (inr (inr (inr (inr (inl refl))))))));
  opstatus_reconf = port_has conf p (codes "opstatus_reconf") _ (inr (inr (inr (inr (inr (inr (inr (inr (inl refl)))))))));
  output_only = port_has conf p (codes "output_only") _ (inr (inr (inr (inr (inr (inr (inr (inr (inr (inl refl))))))))));
  permanent_learn = port_has conf p (codes "permanent_learn") _ (inr (inr (inr (inr (inr (inr (inr (inr (inr (inr (inl refl)))))))))));
  no_stack = no_stack_shown conf p;
  stack = stack_shown conf p;
  tagged = port_has conf p (codes "tagged_vlans") _ (inr (inr (inr (inr (inr (inr (inr (inr (inr (inr (inr (inr (inl refl)))))))))))));
  unicast_flood = port_has conf p (codes "unicast_flood") _ (inr (inr (inr (inr (inr (inr (inr (inr (inr (inr (inr (inr (inr (inl refl))))))))))))));
}

dp_own : (conf : Configuration) (d : Dp) (lldp : Option ℕ) → HaveOwnNames (dp_members conf (record d { lldp = lldp }))
dp_own conf d None = own (dp_members conf (record d { lldp = None })) refl
dp_own conf d (Some seconds) = own (dp_members conf (record d { lldp = Some seconds })) refl

-- behind the member that may be missing
behind_lldp : (lldp : Option ℕ) (ms : List Member) (m : Member) → IsIn m ms → IsIn m (lldp_members lldp ++ ms)
behind_lldp None ms m at = at
behind_lldp (Some seconds) ms m at = inr at

dp_has : (conf : Configuration) (d : Dp) (name value : List ℕ) → IsIn (name, value) (dp_members conf d) → Has (dp_text conf d) name value
unfolding dp_text
dp_has conf d name value at = has (dp_members conf d) (dp_own conf d d.lldp) name value at

abbrev last_of : Dp → List Member
last_of d = (codes "stack_priority", number_or_null d.stack_priority) ∷ (codes "timeout", decimal d.timeout) ∷ []

dp_shown : (conf : Configuration) (d : Dp) → ShowsDp d (dp_text conf d)
dp_shown conf d = record {
  arp_timeout = dp_has conf d (codes "arp_neighbor_timeout") _ (inl refl);
  description = dp_has conf d (codes "description") _ (inr (inl refl));
  id = dp_has conf d (codes "dp_id") _ (inr (inr (inl refl)));
  drop_bpdu = dp_has conf d (codes "drop_bpdu") _ (inr (inr (inr (inl refl))));
  drop_broadcast = dp_has conf d (codes "drop_broadcast_source_address") _ (inr (inr (inr (inr (inl refl)))));
  drop_lldp = dp_has conf d (codes "drop_lldp") _ (inr (inr (inr (inr (inr (inl refl))))));
  drop_spoofed = dp_has conf d (codes "drop_spoofed_faucet_mac") _ (inr (inr (inr (inr (inr (inr (inl refl)))))));
  hardware = dp_has conf d (codes "hardware") _ (inr (inr (inr (inr (inr (inr (inr (inl refl))))))));
  lldp = λ seconds e. dp_has conf d (codes "lldp_beacon") (decimal seconds) (inr (inr (inr (inr (inr (inr (inr (inr (inr (subst (λ lldp. IsIn (codes "lldp_beacon", decimal seconds) (lldp_members lldp ++ last_of d)) (sym e) (inl refl)))))))))));
  stack_priority = dp_has conf d (codes "stack_priority") _ (inr (inr (inr (inr (inr (inr (inr (inr (inr (behind_lldp d.lldp (last_of d) _ (inl refl)))))))))));
  timeout = dp_has conf d (codes "timeout") _ (inr (inr (inr (inr (inr (inr (inr (inr (inr (behind_lldp d.lldp (last_of d) _ (inr (inl refl))))))))))));
}

vlan_has : (v : Vlan) (name value : List ℕ) → IsIn (name, value) (vlan_members v) → Has (vlan_text v) name value
unfolding vlan_text
vlan_has v name value at = has (vlan_members v) (own (vlan_members v) refl) name value at

vlan_shown : (v : Vlan) → ShowsVlan v (vlan_text v)
vlan_shown v = record {
  acls = vlan_has v (codes "acls_in") _ (inl refl);
  description = vlan_has v (codes "description") _ (inr (inl refl));
  mac = vlan_has v (codes "faucet_mac") _ (inr (inr (inl refl)));
  vips = vlan_has v (codes "faucet_vips") _ (inr (inr (inr (inl refl))));
  max_hosts = vlan_has v (codes "max_hosts") _ (inr (inr (inr (inr (inl refl)))));
  name = vlan_has v (codes "name") _ (inr (inr (inr (inr (inr (inl refl))))));
  routes = vlan_has v (codes "routes") _ (inr (inr (inr (inr (inr (inr (inl refl)))))));
  unicast_flood = vlan_has v (codes "unicast_flood") _ (inr (inr (inr (inr (inr (inr (inr (inl refl))))))));
}

pub route_shown : (route : Route) → ShowsRoute route (route_text route)
route_shown route =
    let ms : List Member = (codes "ip_dst", vip_text route.dst) ∷ (codes "ip_gw", ip_text route.gw) ∷ [] in
    record { dst = has ms (own ms refl) (codes "ip_dst") _ (inl refl); gw = has ms (own ms refl) (codes "ip_gw") _ (inr (inl refl)) }

-- ---- the whole

abbrev sections : Configuration → List Member
sections conf =
    (codes "acls", object (map acl_member conf.acls))
    ∷ (codes "dps", object (map (dp_member conf) conf.dps))
    ∷ (codes "routers", object (map router_member conf.routers))
    ∷ (codes "vlans", object (map vlan_member conf.vlans)) ∷ []

section_has : (conf : Configuration) (name value : List ℕ) → IsIn (name, value) (sections conf) → Has (json_text conf) name value
unfolding json_text
section_has conf name value at = has (sections conf) (own (sections conf) refl) name value at

-- one of a list stands under its name
item_has : {A : Type 0} (f : A → Member) (xs : List A) → EachBefore (λ x y. (f x).0 ≢ (f y).0) xs → (x : A) → Contains xs x → Has (object (map f xs)) (f x).0 (f x).1
item_has f xs apart x c = has (map f xs) (own_names f xs apart) (f x).0 (f x).1 (in_map f xs x (is_in xs x c))

dp_led : (conf : Configuration) → IsValid conf → (d : Dp) → Contains conf.dps d → Has (object (map (dp_member conf) conf.dps)) d.name (dp_text conf d)
dp_led conf valid d c = item_has (dp_member conf) conf.dps (dps_are conf valid).apart d c

pub dp_leads : (conf : Configuration) → IsValid conf → (d : Dp) → Contains conf.dps d → Leads (json_text conf) (codes "dps" ∷ d.name ∷ []) (ShowsDp d)
dp_leads conf valid d c = (object (map (dp_member conf) conf.dps), section_has conf (codes "dps") _ (inr (inl refl)), (dp_text conf d, dp_led conf valid d c, dp_shown conf d))

pub port_leads : (conf : Configuration) → IsValid conf → (d : Dp) → Contains conf.dps d → (p : Port) → Contains d.ports p
    → Leads (json_text conf) (codes "dps" ∷ d.name ∷ codes "interfaces" ∷ decimal p.no ∷ []) (ShowsPort conf p)
port_leads conf valid d in_dps p in_ports = (
  object (map (dp_member conf) conf.dps),
  section_has conf (codes "dps") _ (inr (inl refl)),
  (
    dp_text conf d,
    dp_led conf valid d in_dps,
    (
      object (map (port_member conf) d.ports),
      dp_has conf d (codes "interfaces") _ (inr (inr (inr (inr (inr (inr (inr (inr (inl refl))))))))),
      (port_text conf p, item_has (port_member conf) d.ports (ports_are conf valid d (is_in conf.dps d in_dps)).apart p in_ports, port_shown conf p),
    ),
  ),
)

pub vlan_leads : (conf : Configuration) → IsValid conf → (v : Vlan) → Contains conf.vlans v → Leads (json_text conf) (codes "vlans" ∷ decimal v.vid ∷ []) (ShowsVlan v)
vlan_leads conf valid v c = (
  object (map vlan_member conf.vlans),
  section_has conf (codes "vlans") _ (inr (inr (inr (inl refl)))),
  (vlan_text v, item_has vlan_member conf.vlans (vlans_are conf valid).apart v c, vlan_shown v),
)

-- names in order differ
in_order : {A : Type 0} (name : A → List ℕ) (xs : List A) → EachBefore (λ x y. IsTextBefore (name x) (name y)) xs → EachBefore (λ x y. name x ≢ name y) xs
in_order {A = A} name xs before =
    each_before (λ (x y : A). IsTextBefore (name x) (name y)) (λ (x y : A). name x ≢ name y) (λ (x : A). Unit {0}) (λ x y p q b. text_apart (name x) (name y) b) xs
    (all_in (λ (x : A). Unit {0}) xs (λ x at. tt)) before

pub acl_leads : (conf : Configuration) → IsValid conf → (acl : Acl) → Contains conf.acls acl → Leads (json_text conf) (codes "acls" ∷ acl.name ∷ []) (λ text. text ≡ decimal (length acl.rules))
acl_leads conf valid acl c = (
  object (map acl_member conf.acls),
  section_has conf (codes "acls") _ (inl refl),
  (decimal (length acl.rules), item_has acl_member conf.acls (in_order (λ (a : Acl). a.name) conf.acls valid.acls.in_order) acl c, refl),
)

pub router_leads : (conf : Configuration) → IsValid conf → (r : Router) → Contains conf.routers r → Leads (json_text conf) (codes "routers" ∷ r.name ∷ []) (λ text. text ≡ numbers_text r.vlans)
router_leads conf valid r c = (
  object (map router_member conf.routers),
  section_has conf (codes "routers") _ (inr (inr (inl refl))),
  (numbers_text r.vlans, item_has router_member conf.routers (in_order (λ (s : Router). s.name) conf.routers valid.routing.in_order) r c, refl),
)
