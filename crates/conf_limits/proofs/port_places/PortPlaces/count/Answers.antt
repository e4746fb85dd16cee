use Rattle.std.proofs.Common.{◌≡◌, ℕ, IfOk, subst, ap, ◌∙◌}
use Rattle.std.specs.List.{list_any}
use Rattle.conf_types.specs.declared.datapath.Port.{Port}
use Rattle.conf_types.specs.Attached.{is_named, names_in}
use Rattle.conf_types.specs.Lists.{different}
use Rattle.conf_limits.proofs.PortPlaces.{different-places, places-named}
use Rattle.conf_limits.proofs.port_places.PortPlaces.count.Goals as goal

pub returns : goal.returns
returns c =
    let ports = c.args.self.now.dp.now.ports in
    let names = names_in c.args.rule.now in
    subst (λ (n : ℕ). IfOk c.different_len.result (λ count. count ≡ n))
    (ap different c.as_slice.ensures.value ∙ different-places c.in_ok-places.places.items ports (λ (p : Port). list_any (λ name. is_named name p) names) (λ at. c.in_ok-places.ensures at ∙ places-named 0 ports names at))
    c.different_len.ensures
