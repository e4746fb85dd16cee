use Rattle.std.proofs.Common.{◌≡◌, ◌++◌, take}
use Rattle.std.specs.List.{filter_map}
use Rattle.std.specs.Option.{option_map}
use Rattle.conf_types.specs.Configuration.{vlan_with}
use Rattle.vlan_compile.specs.Misses.{miss}
use Rattle.vlan_compile.proofs.counted.Place.push_tagged.Given as goal

-- the entries so far are those of the VLANs so far
abbrev pub invariant-loop-vid : goal.invariant-loop-vid
invariant-loop-vid g l = l.made ≡ l.fn.made ++ filter_map (λ vid. option_map (miss l.self.conf.now (g.C.CountsHosts.hosts l.self.hosts.now) l.self.dp.now l.self.port.now) (vlan_with l.self.conf.now.vlans vid)) (take l.vid-index l.vid-items)
