-- The configuration of the story: one datapath, whose 48 interfaces are native in one VLAN, with room for 16,384 hosts at each and in all.
use Rattle.std.specs.Prelude.{ℕ, zero, suc, true, false, List, [], ◌∷◌, ◌++◌, Some, None, codes}
use Rattle.std.specs.Fmt.{decimal}
use Rattle.conf_types.specs.declared.datapath.Dp.{Dp}
use Rattle.conf_types.specs.declared.datapath.Port.{Port}
use Rattle.conf_types.specs.declared.vlan.Vlan.{Vlan}
use Rattle.conf_types.specs.Configuration.{Configuration}
use Rattle.conf_types.specs.Worked as worked

-- it is named by its number
abbrev pub vlan : Vlan
vlan = record {
  vid = 100;
  name = codes "100";
  description = codes "100";
  mac = record { 0 = 14 ∷ 0 ∷ 0 ∷ 0 ∷ 0 ∷ 1 ∷ [] };
  vips = [];
  routes = [];
  acls = [];
  max_hosts = 16384;
  unicast_flood = true;
}

-- so is an interface
abbrev pub interface : ℕ → Port
interface number = record (worked.edge number (Some 100) []) { name = decimal number; description = decimal number; max_hosts = 16384 }

-- the first so many
unfoldable pub interfaces : ℕ → List Port
interfaces zero = []
interfaces (suc n) = interfaces n ++ interface (suc n) ∷ []

-- all else is as where a file says nothing of it
abbrev pub datapath : Dp
datapath = record (worked.datapath 1 None (interfaces 48)) { name = codes "bench"; description = codes "bench"; hardware = codes "Open vSwitch" }

unfoldable pub configuration : Configuration
configuration = record { dps = datapath ∷ []; vlans = vlan ∷ []; acls = []; routers = [] }
