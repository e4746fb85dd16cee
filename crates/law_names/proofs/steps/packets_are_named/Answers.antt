use Rattle.law_names.proofs.Packets.{packet_named}
use Rattle.law_names.proofs.Stepped.{learn_named}
use Rattle.law_names.proofs.steps.packets_are_named.Goals as goal

pub returns : goal.returns
returns c = record { packet = packet_named; host = learn_named }
