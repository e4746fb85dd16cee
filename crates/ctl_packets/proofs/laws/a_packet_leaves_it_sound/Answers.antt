use Rattle.ctl_packets.proofs.Sound.{packet_sound}
use Rattle.ctl_packets.proofs.laws.a_packet_leaves_it_sound.Goals as goal

pub returns : goal.returns
returns c = packet_sound
