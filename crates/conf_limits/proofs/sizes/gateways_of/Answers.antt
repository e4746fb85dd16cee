use Rattle.std.proofs.Common.{◌+◌, List, min, ap, ◌∙◌}
use Rattle.conf_types.specs.declared.vlan.Route.{Route}
use Rattle.conf_types.specs.Lists.{different}
use Rattle.conf_limits.specs.Sizes.{values_of}
use Rattle.conf_limits.proofs.sizes.gateways_of.Goals as goal

pub returns : goal.returns
returns c =
    let cap = c.args.cap in
    let routes = c.args.vlan.now.routes in
    let of_ipv4 = c.in_ok-of_ipv4.ensures ∙ ap (λ (rs : List Route). different (values_of 32 rs)) c.as_slice-routes.ensures in
    let of_ipv6 = c.in_ok-of_ipv6.ensures ∙ ap (λ (rs : List Route). different (values_of 128 rs)) c.as_slice-routes.ensures in
    c.add.ensures
    ∙ ap (λ m. min cap (m + c.in_ok-of_ipv6.of_ipv6)) of_ipv4
    ∙ ap (λ n. min cap (different (values_of 32 routes) + n)) of_ipv6
