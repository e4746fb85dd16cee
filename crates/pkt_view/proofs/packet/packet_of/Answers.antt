use Rattle.std.proofs.Common.{◌≡◌, ap, sym, subst, ◌∙◌, IfSome, Option, Some, arith}
use Rattle.std.specs.Option.{option_map}
use Rattle.of_match.specs.declared.packet.Packet.{Packet}
use Rattle.pkt_view.specs.Frame.{shown}
use Rattle.pkt_view.specs.Packets.{packet_of_parts, packet}
use Rattle.of_match.specs.Shaped.{IsShaped}
use Rattle.pkt_view.proofs.Shapes.{packet_shaped}
use Rattle.pkt_view.proofs.packet.packet_of.Goals as goal

pub returns-in_ok-packet_from-in-Some-clause-shaped :
    goal.returns-in_ok-packet_from-in-Some-clause-shaped
returns-in_ok-packet_from-in-Some-clause-shaped c =
    let made : c.in_ok-packet_from-in-Some.field-0 ≡ packet_of_parts (shown c.in-Some.view) = c.in_ok-packet_from-in-Some.ensures in
    let read : Some (packet_of_parts (shown c.in-Some.view)) ≡ packet c.args.frame.now = ap (option_map packet_of_parts) c.in-Some.ensures.parts in
    let P : Option Packet → Type 0 = λ o. IfSome o IsShaped in
    subst P (sym (ap (λ (p : Packet). Some p) made ∙ read)) (packet_shaped c.args.frame.now (λ i. omega (arith, c.type_inv.frame i)))
