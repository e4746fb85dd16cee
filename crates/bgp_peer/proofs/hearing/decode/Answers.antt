use Rattle.std.proofs.Common.{sym}
use Rattle.bgp_messages.proofs.Decoding.{read_is_decoded, fault_is_decoded}
use Rattle.bgp_peer.proofs.hearing.decode.Goals as goal

pub returns-in-Ok : goal.returns-in-Ok
returns-in-Ok c = sym (read_is_decoded c.args.peer c.args.kind c.args.body.now c.in-Ok.message c.in-Ok.ensures)

pub returns-in-Err-Fault : goal.returns-in-Err-Fault
returns-in-Err-Fault c = sym (fault_is_decoded c.args.peer c.args.kind c.args.body.now c.in-Err-Fault.fault (rw c.in-Err-Fault.field-0-is at c.in-Err-Fault.ensures))
