use Rattle.std.proofs.Common.{◌≡◌, ◌||◌, ◌&&◌, ℕ, List, take}
use Rattle.std.specs.BTreeSet.{contains_text}
use Rattle.std.specs.List.{list_any}
use Rattle.conf_types.specs.Membership.{has_edge_member}
use Rattle.conf_rules.specs.Ports.{is_in}
use Rattle.conf_names.proofs.attached.see_vlans.Given as goal

-- those of the VLANs so far are seen
abbrev pub invariant-loop-vlan : goal.invariant-loop-vlan
invariant-loop-vlan l = (t : List ℕ) → contains_text l.seen t ≡ (contains_text l.fn.seen t || list_any (λ v. is_in t v.acls && has_edge_member l.edges v.vid) (take l.vlan-index l.vlans))
