use Rattle.std.proofs.Common.{◌≡◌, ℕ, Option, sym, ap, subst, ◌∙◌}
use Rattle.net_base.specs.declared.address.Mac.{Mac}
use Rattle.net_base.specs.declared.numbers.DpId.{DpId}
use Rattle.of13_codec.specs.declared.packet_in.PacketIn.{PacketIn}
use Rattle.ctl_packets.specs.Packets.{packet_in}
use Rattle.ctl_world.specs.World.{World}
use Rattle.ctl_core.specs.declared.found.Found.{Found}
use Rattle.ctl_core.specs.declared.compared.Standing.{Standing}
use Rattle.ctl_core.specs.Found.{Tells, by_packet, or_again}
use Rattle.ctl_core.specs.Told.{IsExact, address_of, exactly, exactly_by, place_of}
use Rattle.ctl_core.proofs.Exactly.{exactly_exact, exactly_tells, told_of}
use Rattle.ctl_core.proofs.HeardAgain.{again_tells}
use Rattle.ctl_core.proofs.hearing.take_packet.Goals as goal

module _ (m : PacketIn) (conn : ℕ) (dp : DpId) (w v : World) (found : Found) (done : v ≡ packet_in m conn dp w) (is : found ≡ or_again w (by_packet m dp w)) where
  abbrev told : Found
  told = or_again w (by_packet m dp w)

  told_tells : Tells w v told
  told_tells = subst (λ (u : World). Tells w u told) (sym done) (again_tells m conn dp w)

  module _ (place : Option Standing) (address : Option Mac) (result : Found) (at : place ≡ place_of w found) (mac : address ≡ address_of w found) (out : result ≡ exactly_by place address v found) where
    result_is : result ≡ exactly w v told
    result_is = out ∙ (λ i. exactly_by ((at ∙ ap (place_of w) is) i) ((mac ∙ ap (address_of w) is) i) v (is i))

    tells : Tells w v result
    tells = subst (λ (x : Found). Tells w v x) (sym result_is) (exactly_tells w v told told_tells)

    exact : IsExact w v result
    exact = subst (λ (x : Found). IsExact w v x) (sym result_is) (exactly_exact w v told (told_of m dp w) told_tells)

pub returns-then-branch-clause-tells : goal.returns-then-branch-clause-tells
returns-then-branch-clause-tells c =
    tells c.args.packet.now c.args.conn c.args.dp c.args.world.now c.packet_in.new.world c.or_again-found.result c.in_ok-packet_in.ensures.done (c.or_again-found.ensures ∙ ap (or_again c.args.world.now) c.by_packet.ensures)
    c.place_of-place.result c.address_of-address.result c.exactly.result c.place_of-place.ensures c.address_of-address.ensures c.exactly.ensures

pub returns-then-branch-clause-exact : goal.returns-then-branch-clause-exact
returns-then-branch-clause-exact c =
    exact c.args.packet.now c.args.conn c.args.dp c.args.world.now c.packet_in.new.world c.or_again-found.result c.in_ok-packet_in.ensures.done (c.or_again-found.ensures ∙ ap (or_again c.args.world.now) c.by_packet.ensures)
    c.place_of-place.result c.address_of-address.result c.exactly.result c.place_of-place.ensures c.address_of-address.ensures c.exactly.ensures
