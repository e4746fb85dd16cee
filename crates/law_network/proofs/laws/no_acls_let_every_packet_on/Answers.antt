use Rattle.std.proofs.Common.{refl}
use Rattle.law_network.proofs.laws.no_acls_let_every_packet_on.Goals as goal

pub returns : goal.returns
returns c = λ conf d port p. record { allows = refl; sends = refl }
