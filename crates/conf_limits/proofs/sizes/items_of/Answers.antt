use Rattle.std.proofs.Common.{ℕ, length, min, ap, sym, ◌∙◌, arith}
use Rattle.std.proofs.lemmas.List.Concat.{length-flat_map}
use Rattle.conf_types.specs.Routing.{vips_of, routes_of}
use Rattle.conf_limits.proofs.Capped.{capped-sum}
use Rattle.conf_limits.proofs.sizes.items_of.Goals as goal

pub returns : goal.returns
returns c =
    let conf = c.args.conf.now in
    let cap = c.args.cap in
    let vids = c.args.vids.now in
    let vips = c.add_vips.ensures ∙ capped-sum cap (λ (vid : ℕ). length (vips_of conf vid)) vids ∙ ap (min cap) (sym (length-flat_map (vips_of conf) vids)) in
    let routes = c.add_routes_of.ensures ∙ capped-sum cap (λ (vid : ℕ). length (routes_of conf vid)) vids ∙ ap (min cap) (sym (length-flat_map (routes_of conf) vids)) in
    let sum = c.add.ensures in
    omega arith
