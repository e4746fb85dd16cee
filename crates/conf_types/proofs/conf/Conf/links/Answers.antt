use Rattle.std.proofs.Common.{◌∙◌, ap, take_all}
use Rattle.std.specs.List.{flat_map}
use Rattle.conf_types.specs.Links.{links_of}
use Rattle.conf_types.proofs.conf.Conf.links.Goals as goal

-- at the end every datapath is behind it
pub returns : goal.returns
returns c =
    let f = links_of c.args.self.now c.args.ups.now in
    c.loop-dp.invariant ∙ ap (flat_map f) (take_all _ _ c.loop-dp-test.false ∙ c.as_slice-dp-items.ensures ∙ c.dps.ensures.lists)
