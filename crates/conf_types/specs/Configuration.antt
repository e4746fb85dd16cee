-- A configuration as contracts see it, and what is looked up in it.
use Rattle.std.specs.Prelude.{ℕ, ◌==◌, Option, List}
use Rattle.std.specs.List.{find}
use Rattle.std.specs.Option.{option_and_then}
use Rattle.net_base.specs.declared.numbers.DpId.{DpId}
use Rattle.conf_types.specs.declared.acl.Acl.{Acl}
use Rattle.conf_types.specs.declared.datapath.Dp.{Dp}
use Rattle.conf_types.specs.declared.datapath.Port.{Port}
use Rattle.conf_types.specs.declared.vlan.Router.{Router}
use Rattle.conf_types.specs.declared.vlan.Vlan.{Vlan}

pub record Configuration : Type 0 where
  pub dps : List Dp
  pub vlans : List Vlan
  pub acls : List Acl
  pub routers : List Router

-- the datapath with an identifier
abbrev pub dp_with : List Dp → DpId → Option Dp
dp_with dps id = find (λ d. d.id.0 == id.0) dps

-- the interface with a number
abbrev pub port_with : List Port → ℕ → Option Port
port_with ports number = find (λ p. p.no == number) ports

-- the VLAN with an identifier
abbrev pub vlan_with : List Vlan → ℕ → Option Vlan
vlan_with vlans vid = find (λ v. v.vid == vid) vlans

-- the interface of a datapath with a number
abbrev pub port_at : Configuration → DpId → ℕ → Option Port
port_at conf id number = option_and_then (λ d. port_with d.ports number) (dp_with conf.dps id)
