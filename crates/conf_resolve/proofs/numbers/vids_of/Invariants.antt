use Rattle.std.proofs.Common.{◌≡◌, ◌++◌, drop}
use Rattle.std.specs.List.{filter_map}
use Rattle.conf_resolve.specs.Resolved.{vid_of}
use Rattle.conf_resolve.proofs.numbers.vids_of.Given as goal

-- what is left completes the list
abbrev pub invariant-loop-name : goal.invariant-loop-name
invariant-loop-name l = l.vids ++ filter_map (vid_of l.conf.vlans) (drop l.name-index l.names) ≡ filter_map (vid_of l.conf.vlans) l.names
