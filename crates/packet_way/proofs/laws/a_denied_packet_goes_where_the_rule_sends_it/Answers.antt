use Rattle.std.proofs.Common.{◌∙◌}
use Rattle.packet_way.proofs.Ports.{accepting_is_no_stack}
use Rattle.packet_way.proofs.Taking.{sends_from, denied}
use Rattle.packet_way.proofs.laws.a_denied_packet_goes_where_the_rule_sends_it.Goals as goal

pub returns : goal.returns
returns c = λ conf now id port d i p dp_is port_is accepting deny.
    sends_from conf now p id port d i dp_is port_is ∙ denied conf now p d i (accepting_is_no_stack i accepting) accepting deny
