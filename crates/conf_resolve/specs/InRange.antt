-- What holds of a raw configuration by its shape: each value is in the range of its key, and the names that
-- are keys of one map are distinct.
use Rattle.std.specs.Prelude.{◌≡◌, ◌<◌, ◌≤◌, ◌^◌, IfSome}
use Rattle.std.specs.List.{AllByRecursion}
use Rattle.net_base.specs.FieldId.{number_of}
use Rattle.net_base.specs.Numbers.{IsVid, IsPortNo}
use Rattle.conf_types.specs.Lists.{EachBefore, IsLabel}
use Rattle.conf_types.specs.RuleFields.{MayAsk}
use Rattle.conf_types.specs.Valid.{IsTimeout, IsInterval, IsStation, IsVip, IsRoute, NamesPort, IsAs}
use Rattle.conf_shape.specs.declared.raw.VlanRef.{VlanRef}
use Rattle.conf_shape.specs.declared.raw.VlanRef.TheVariants.{Vid, Name}
use Rattle.conf_shape.specs.declared.raw.RawNames.{RawNames}
use Rattle.conf_shape.specs.declared.raw.RawPort.{RawPort}
use Rattle.conf_shape.specs.declared.raw.RawDp.{RawDp}
use Rattle.conf_shape.specs.declared.raw.RawVlan.{RawVlan}
use Rattle.conf_shape.specs.declared.raw.RawOutput.{RawOutput}
use Rattle.conf_shape.specs.declared.raw.RawRule.{RawRule}
use Rattle.conf_shape.specs.declared.raw.RawBgp.{RawBgp}
use Rattle.conf_shape.specs.declared.raw.RawRouter.{RawRouter}
use Rattle.conf_shape.specs.declared.raw.RawConf.{RawConf}
use Rattle.conf_resolve.specs.Resolved.{items_of}

-- a VLAN that is named by its number
abbrev pub NamesVlan : VlanRef → Type 0
NamesVlan (Vid vid) = IsVid vid
NamesVlan (Name name) = Unit {0}

pub record AreNames (n : RawNames) : Type 0 where
  pub name : IsLabel n.name
  pub description : IsLabel n.description

pub record PortIsInRange (p : RawPort) : Type 0 where
  pub number : IsPortNo p.no
  pub names : AreNames p.names
  pub hosts : 1 ≤ p.max_hosts
  pub most_hosts : p.max_hosts ≤ 16384
  pub native : IfSome p.native NamesVlan
  pub tagged : AllByRecursion NamesVlan p.tagged

pub record DpIsInRange (d : RawDp) : Type 0 where
  pub id : d.id.0 < 2 ^ 64
  pub names : AreNames d.names
  pub timeout : IsTimeout d.timeout
  pub arp_timeout : IsTimeout d.arp_timeout
  pub stack_priority : IfSome d.stack_priority (λ priority. priority < 2 ^ 32)
  pub lldp : IfSome d.lldp IsInterval
  pub ports : AllByRecursion PortIsInRange d.ports

pub record VlanIsInRange (v : RawVlan) : Type 0 where
  pub number : IsVid v.vid
  pub names : AreNames v.names
  pub mac : IsStation v.mac.0
  pub vips : AllByRecursion IsVip v.vips
  pub routes : AllByRecursion IsRoute v.routes
  pub hosts : 1 ≤ v.max_hosts
  pub most_hosts : v.max_hosts ≤ 16384

pub record OutputIsInRange (o : RawOutput) : Type 0 where
  pub port : IfSome o.port NamesPort
  pub ports : AllByRecursion NamesPort o.ports

pub record RuleIsInRange (r : RawRule) : Type 0 where
  pub each : AllByRecursion (λ f. MayAsk f.field.id f.field) r.fields
  -- no field twice
  pub once : EachBefore (λ f g. number_of f.field.id ≡ number_of g.field.id → ⊥) r.fields
  pub mirror : IfSome r.mirror NamesPort
  pub output : AllByRecursion OutputIsInRange (items_of r.output)

pub record BgpIsInRange (b : RawBgp) : Type 0 where
  pub ours : IsAs b.our_as
  pub theirs : IsAs b.neighbor_as
  pub identified : 1 ≤ b.routerid.0
  pub address : b.routerid.0 < 2 ^ 32
  pub vlan : NamesVlan b.vlan

pub record RouterIsInRange (r : RawRouter) : Type 0 where
  pub vlans : AllByRecursion NamesVlan r.vlans
  pub bgp : IfSome r.bgp BgpIsInRange

pub record IsInRange (raw : RawConf) : Type 0 where
  pub dps : AllByRecursion DpIsInRange raw.dps
  pub vlans : AllByRecursion VlanIsInRange raw.vlans
  pub acls : AllByRecursion (λ a. AllByRecursion RuleIsInRange a.rules) raw.acls
  pub acl_names : EachBefore (λ a b. a.name ≡ b.name → ⊥) raw.acls
  pub routers : AllByRecursion RouterIsInRange raw.routers
  pub router_names : EachBefore (λ r s. r.name ≡ s.name → ⊥) raw.routers
