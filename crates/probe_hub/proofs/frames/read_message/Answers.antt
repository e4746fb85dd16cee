use Rattle.std.proofs.Common.{arith}
use Rattle.probe_hub.proofs.Heard.{nothing_spelled, said_as_spelled}
use Rattle.probe_hub.proofs.frames.read_message.Goals as goal

pub returns-in-Ok : goal.returns-in-Ok
returns-in-Ok c = said_as_spelled c.args.frame.now c.in-Ok.said c.in-Ok.ensures.spelled

pub returns-in-Err-Version : goal.returns-in-Err-Version
returns-in-Err-Version c =
    let none = rw c.in-Err-Version.field-0-is at c.in-Err-Version.ensures.complete in
    nothing_spelled c.args.frame.now (λ i. omega (arith, c.type_inv.frame i)) none

pub returns-in-Err-Length : goal.returns-in-Err-Length
returns-in-Err-Length c =
    let none = rw c.in-Err-Length.field-0-is at c.in-Err-Length.ensures.complete in
    nothing_spelled c.args.frame.now (λ i. omega (arith, c.type_inv.frame i)) none

pub returns-in-Err-Body : goal.returns-in-Err-Body
returns-in-Err-Body c =
    let none = rw c.in-Err-Body.field-0-is at c.in-Err-Body.ensures.complete in
    nothing_spelled c.args.frame.now (λ i. omega (arith, c.type_inv.frame i)) none
