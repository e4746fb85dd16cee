use Rattle.std.proofs.Common.{◌∙◌}
use Rattle.packet_way.proofs.Ports.{at_port, port_within, takes_output_only, takes_mirror}
use Rattle.packet_way.proofs.Taking.{sends_at, silent}
use Rattle.packet_way.proofs.laws.a_port_that_takes_nothing_in_sends_nothing.Goals as goal

pub returns-clause-output_only : goal.returns-clause-output_only
returns-clause-output_only c = λ conf now id port i p valid is only.
    let at = at_port conf id port i is in
    let none = takes_output_only conf valid id at.dp at.dp_is i (port_within conf id port i at) only in
    sends_at conf now p id port i at ∙ silent conf now p at.dp i none.0 none.1

pub returns-clause-mirror : goal.returns-clause-mirror
returns-clause-mirror c = λ conf now id port i p valid is mirrors.
    let at = at_port conf id port i is in
    let none = takes_mirror conf valid id at.dp at.dp_is i (port_within conf id port i at) mirrors in
    sends_at conf now p id port i at ∙ silent conf now p at.dp i none.0 none.1
