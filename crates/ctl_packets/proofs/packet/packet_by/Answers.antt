use Rattle.std.proofs.Common.{◌≡◌, ℕ, Some, ap, ◌∙◌}
use Rattle.std.specs.Option.{option_map_or}
use Rattle.std.proofs.lemmas.Result.{on_ok_weaker}
use Rattle.net_base.specs.declared.numbers.DpId.{DpId}
use Rattle.of13_codec.specs.declared.packet_in.PacketIn.{PacketIn}
use Rattle.pkt_view.specs.Frame.{FrameParts, parts, shown}
use Rattle.neighbour_resolve.specs.Counted.{counted_vid}
use Rattle.ctl_world.specs.World.{World}
use Rattle.ctl_packets.specs.Packets.{packet_at, packet_by, packet_of_table}
use Rattle.ctl_packets.proofs.packet.packet_by.Goals as goal

-- a frame that counts does what its table says
counts : (m : PacketIn) (number : ℕ) (dp : DpId) (w : World) (port vid : ℕ) (frame : FrameParts) → Some frame ≡ parts m.payload → Some vid ≡ counted_vid w.conf dp port frame
    → packet_of_table m.table number dp port vid frame w ≡ packet_by m number dp w port
counts m number dp w port vid frame read counted =
    ap (λ o. option_map_or (λ v. packet_of_table m.table number dp port v frame w) o w) counted ∙ ap (λ o. option_map_or (packet_at m number dp w port) o w) read

pub returns-in-Some-counted_vid-clause-done : goal.returns-in-Some-counted_vid-clause-done
returns-in-Some-counted_vid-clause-done c =
    on_ok_weaker c.packet_of_table.result
    (λ e. e ∙ counts c.args.packet.now c.args.conn c.args.dp c.args.world.now c.args.port c.in-Some-counted_vid.vid (shown c.in-Some.frame) (c.in-Some.ensures.parts ∙ ap parts c.as_slice.ensures) c.in-Some-counted_vid.ensures)
    c.packet_of_table.ensures.done
