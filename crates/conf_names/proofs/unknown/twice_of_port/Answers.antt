use Rattle.std.proofs.Common.{◌==◌, false, codes, map, option_and_then, refl, sym, ap, ◌∙◌}
use Rattle.std.specs.Option.{option_map_or}
use Rattle.std.proofs.Math.Bool.{or-false}
use Rattle.conf_resolve.specs.InOrder.{port_site}
use Rattle.conf_resolve.specs.Resolved.{vid_of}
use Rattle.conf_rules.specs.Places.{first, under}
use Rattle.conf_names.proofs.Numbers.{by_numbers}
use Rattle.conf_names.proofs.SeenTagged.{walked_tagged, vids_more}
use Rattle.conf_names.proofs.unknown.twice_of_port.Goals as goal

pub loop-i-init : goal.loop-i-init
loop-i-init c = (
  ap first (by_numbers c.args.ordered.now c.args.port.now.native (under (port_site c.args.dp.now c.args.port.now) (codes "tagged_vlans")) c.args.port.now.tagged _ _ refl
      (c.as_slice-vid-items.ensures.value ∙ c.in_ok-made.ensures ∙ ap (map (vid_of c.args.ordered.now.vlans)) c.as_slice.ensures)),
  λ n below. c.seen_once-seen.ensures n below ∙ ap (λ o. option_map_or (λ v. v == n) o false) c.native_vid-native.ensures ∙ sym (or-false _),
)

pub returns-in-Some : goal.returns-in-Some
returns-in-Some c =
    let native = option_and_then (vid_of c.args.ordered.now.vlans) c.args.port.now.native in
    let vids = c.as_slice-vid-items.result.now in
    let step = walked_tagged (under (port_site c.args.dp.now c.args.port.now) (codes "tagged_vlans")) native vids c.loop-i.i c.vid-item.result c.loop-i.seen _ _ c.loop-i-test.true c.vid-item.is c.loop-i.invariant.1 c.see_some-is_again.ensures.within c.see_some-is_again.ensures.was c.loop-i.invariant.0 in
    step.1 c.in-Some.found (sym c.in_ok-found.ensures ∙ c.in-Some.is)

pub loop-i-preserved : goal.loop-i-preserved
loop-i-preserved c =
    let native = option_and_then (vid_of c.args.ordered.now.vlans) c.args.port.now.native in
    let vids = c.as_slice-vid-items.result.now in
    let step = walked_tagged (under (port_site c.args.dp.now c.args.port.now) (codes "tagged_vlans")) native vids c.loop-i.i c.vid-item.result c.loop-i.seen _ _ c.loop-i-test.true c.vid-item.is c.loop-i.invariant.1 c.see_some-is_again.ensures.within c.see_some-is_again.ensures.was c.loop-i.invariant.0 in (
      step.0 (sym c.in_ok-found.ensures ∙ c.in_default.is),
      vids_more c.loop-i.seen _ native vids vids c.loop-i.i c.vid-item.result refl c.loop-i-test.true c.vid-item.is c.loop-i.invariant.1 c.see_some-is_again.ensures.is,
    )
