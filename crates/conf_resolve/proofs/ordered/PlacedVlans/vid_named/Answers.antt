use Rattle.std.proofs.Common.{List, ap, ◌∙◌}
use Rattle.std.specs.BTreeMap.{get_by_text}
use Rattle.conf_resolve.specs.declared.ordered.PlacedVlan.{PlacedVlan}
use Rattle.conf_resolve.specs.Indexed.{first_named}
use Rattle.conf_resolve.proofs.ordered.PlacedVlans.vid_named.Goals as goal

pub returns : goal.returns
returns c =
    let name = c.args.name.now in
    c.copied.ensures ∙ c.get.ensures.value ∙ ap (get_by_text c.self.inside.vids) c.as_str.ensures ∙ c.self.invariant.first name ∙ ap (λ (vlans : List PlacedVlan). first_named (λ (v : PlacedVlan). v.vlan.names.name) (λ (v : PlacedVlan). v.vlan.vid) vlans name) c.self.view_is
