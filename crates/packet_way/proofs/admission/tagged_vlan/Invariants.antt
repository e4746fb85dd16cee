use Rattle.std.proofs.Common.{◌≡◌, false, take}
use Rattle.conf_types.specs.Lists.{is_among}
use Rattle.packet_way.proofs.admission.tagged_vlan.Given as goal

-- none so far has the number
abbrev pub invariant-loop-tagged : goal.invariant-loop-tagged
invariant-loop-tagged l = is_among (take l.tagged-index l.tagged-items) l.vid ≡ false
