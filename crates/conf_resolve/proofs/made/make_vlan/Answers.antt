use Rattle.std.proofs.Common.{[], ◌∷◌, None, true, false, ◌∙◌, sym}
use Rattle.conf_resolve.specs.InOrder.{made_vlan}
use Rattle.conf_resolve.proofs.Unwritten.{made_vid, made_rest}
use Rattle.conf_resolve.proofs.made.make_vlan.Goals as goal

pub returns-clause-made : goal.returns-clause-made
returns-clause-made c =
    ◌∙◌ {b = record { names = (made_vlan c.args.vid).names; has_vid = false; vid = (made_vlan c.args.vid).vid; acls = record { one = None; list = None }; mac = record { 0 = 14 ∷ 0 ∷ 0 ∷ 0 ∷ 0 ∷ 1 ∷ [] }; vips = []; routes = []; max_hosts = 255; unicast_flood = true }} (λ i. record {
      names = c.in_ok-names.ensures i;
      has_vid = false;
      vid = sym (made_vid c.args.vid c.get.ensures.range) i;
      acls = record { one = None; list = None };
      mac = record { 0 = 14 ∷ 0 ∷ 0 ∷ 0 ∷ 0 ∷ 1 ∷ [] };
      vips = c.new.ensures i;
      routes = c.new-2.ensures i;
      max_hosts = 255;
      unicast_flood = true;
    }) (sym (made_rest c.args.vid))
