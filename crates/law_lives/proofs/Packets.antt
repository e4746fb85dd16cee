-- What a message does that tells of a packet keeps whatever each message that goes out with a packet keeps, and each change of
-- what is known of hosts and neighbours.
use Rattle.std.specs.Prelude.{ℕ, Option, Some}
use Rattle.net_base.specs.declared.numbers.DpId.{DpId}
use Rattle.host_learn.specs.Table.{Table as Hosts}
use Rattle.of13_codec.specs.declared.message.Message.{Message}
use Rattle.of13_codec.specs.declared.message.Message.TheVariants as messages
use Rattle.of13_codec.specs.declared.packet_in.PacketIn.{PacketIn}
use Rattle.neighbour_resolve.specs.declared.asks.Outgoing.{Outgoing}
use Rattle.neighbour_resolve.specs.Table.{Table as Neighbours}
use Rattle.ctl_world.specs.Saying.{packet_out, say}
use Rattle.ctl_world.specs.World.{World}
use Rattle.ctl_packets.proofs.Keeping.{packet_in_kept}
use Rattle.ctl_core.specs.Hearing.{packet}

module _ (K : World → Type 0) (sends : (number : ℕ) (out : Outgoing) (w : World) → K w → K (say number (packet_out out) w))
    (knows : (hosts : Hosts) (neighbours : Neighbours) (w : World) → K w → K (record w { hosts = hosts; neighbours = neighbours })) where
  pub packet_kept : (m : Message) (number : ℕ) (dp : Option DpId) (w : World) → K w → K (packet m number dp w)
  packet_kept (messages.PacketIn m) number (Some dp) w holds = packet_in_kept K sends knows m number dp w holds
  packet_kept m number dp w holds = holds
