-- What each rule of a configuration asks, by itself.
use Rattle.std.specs.Prelude.{◌≡◌, true, false, IsTrue, IfSome, is_some}
use Rattle.std.specs.List.{AllByRecursion}
use Rattle.net_base.specs.WellFormed.{has_prerequisite}
use Rattle.conf_types.specs.declared.acl.Rule.{Rule}
use Rattle.conf_types.specs.declared.datapath.Dp.{Dp}
use Rattle.conf_types.specs.declared.vlan.Route.{Route}
use Rattle.conf_types.specs.declared.vlan.Router.{Router}
use Rattle.conf_types.specs.Attached.{rules_of}
use Rattle.conf_types.specs.Configuration.{Configuration}
use Rattle.conf_types.specs.Lists.{EachBefore, is_among}
use Rattle.conf_types.specs.Membership.{has_edge_member}
use Rattle.conf_types.specs.Networks.{AreApart, AreApartOrLocal, AreSame}
use Rattle.conf_types.specs.Routing.{routing_set, vips_in, routes_in}
use Rattle.conf_types.specs.Valid.{AclsExist, NamePortsOf}
use Rattle.conf_shape.specs.declared.raw.VlanRef.{VlanRef}
use Rattle.conf_resolve.specs.declared.ordered.OrderedConf.{OrderedConf}
use Rattle.conf_resolve.specs.Resolved.{vid_of, items_of, number_named, far_end}

-- rule 1
pub record VlansDiffer (conf : Configuration) : Type 0 where
  pub numbers : EachBefore (λ v w. v.vid ≡ w.vid → ⊥) conf.vlans
  pub names : EachBefore (λ v w. v.name ≡ w.name → ⊥) conf.vlans

-- rule 2
pub record DatapathsDiffer (conf : Configuration) : Type 0 where
  pub ids : EachBefore (λ d e. d.id.0 ≡ e.id.0 → ⊥) conf.dps
  pub names : EachBefore (λ d e. d.name ≡ e.name → ⊥) conf.dps

-- rule 3, of each datapath
pub record InterfacesDiffer (d : Dp) : Type 0 where
  pub numbers : EachBefore (λ p q. p.no ≡ q.no → ⊥) d.ports
  pub names : EachBefore (λ p q. p.name ≡ q.name → ⊥) d.ports

-- rule 4: what names a VLAN stands for a number
abbrev pub StandsForVlan : OrderedConf → VlanRef → Type 0
StandsForVlan o name = IsTrue (is_some (vid_of o.vlans name))

pub record VlansExist (o : OrderedConf) : Type 0 where
  pub native : AllByRecursion (λ d. AllByRecursion (λ p. IfSome p.native (StandsForVlan o)) d.ports) o.dps
  pub tagged : AllByRecursion (λ d. AllByRecursion (λ p. AllByRecursion (StandsForVlan o) p.tagged) d.ports) o.dps
  pub routed : AllByRecursion (λ r. AllByRecursion (StandsForVlan o) r.vlans) o.routers
  pub of_peers : AllByRecursion (λ r. IfSome r.bgp (λ bgp. StandsForVlan o bgp.vlan)) o.routers

-- rule 6
pub record NamedAclsExist (conf : Configuration) : Type 0 where
  pub of_vlans : AllByRecursion (λ v. AclsExist conf v.acls) conf.vlans
  pub of_ports : AllByRecursion (λ d. AllByRecursion (λ p. AclsExist conf p.acls) d.ports) conf.dps

-- rule 8: what is attached names interfaces of the datapath that are no ends of stack links
pub record AttachedPortsExist (conf : Configuration) : Type 0 where
  pub ports_on : AllByRecursion (λ d. AllByRecursion (λ p. NamePortsOf d (rules_of conf p.acls)) d.ports) conf.dps
  pub vlans_on : AllByRecursion (λ d. AllByRecursion (λ v. has_edge_member d v.vid ≡ true → NamePortsOf d (rules_of conf v.acls)) conf.vlans) conf.dps

-- rule 9: each field of a rule has what it asks of the others (OpenFlow 1.3, 7.2.3.6)
abbrev pub HasWhatItAsks : Rule → Type 0
HasWhatItAsks rule = AllByRecursion (λ f. IsTrue (has_prerequisite f.id rule.fields)) rule.fields

-- rule 10: what is mirrored is an interface of the datapath
abbrev pub MirroredAreNamed : OrderedConf → Type 0
MirroredAreNamed o = AllByRecursion (λ d. AllByRecursion (λ p. AllByRecursion (λ name. IsTrue (is_some (number_named d name))) (items_of p.mirror)) d.ports) o.dps

-- rule 11: the far end of a stack link is an interface of a datapath
abbrev pub FarEndsAreNamed : OrderedConf → Type 0
FarEndsAreNamed o = AllByRecursion (λ d. AllByRecursion (λ p. IfSome p.stack (λ end. IsTrue (is_some (far_end o.dps end)))) d.ports) o.dps

-- rule 12: the networks of the VIPs of a VLAN don't overlap, nor do those of the VLANs of a router, but for
-- link-local ones of different VLANs
pub record VipsAreApart (conf : Configuration) : Type 0 where
  pub alone : AllByRecursion (λ v. EachBefore AreApart v.vips) conf.vlans
  pub together : AllByRecursion (λ r. EachBefore AreApartOrLocal (vips_in conf r.vlans)) conf.routers

-- of the VLANs between which packets are routed
pub record SetsAreApart (conf : Configuration) : Type 0 where
  pub alone : AllByRecursion (λ v. EachBefore AreApart v.vips) conf.vlans
  pub together : AllByRecursion (λ v. EachBefore AreApartOrLocal (vips_in conf (routing_set conf v.vid))) conf.vlans

-- rule 13, of two routers
abbrev pub ShareNone : Router → Router → Type 0
ShareNone r s = AllByRecursion (λ vid. is_among s.vlans vid ≡ false) r.vlans

-- rule 15, of two routes: they lead to different networks
abbrev pub LeadApart : Route → Route → Type 0
LeadApart r s = AreSame r.dst s.dst → ⊥

-- the routes of a VLAN, and of the VLANs of a router
pub record RoutesDiffer (conf : Configuration) : Type 0 where
  pub alone : AllByRecursion (λ v. EachBefore LeadApart v.routes) conf.vlans
  pub together : AllByRecursion (λ r. EachBefore LeadApart (routes_in conf r.vlans)) conf.routers
