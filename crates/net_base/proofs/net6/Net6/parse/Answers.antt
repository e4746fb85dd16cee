use Rattle.std.proofs.Common.{◌≡◌, ◌∙◌, ap, sym, Some, None}
use Rattle.net_base.specs.Address6Reading.{net6_of}
use Rattle.net_base.proofs.Groups.{net6_ok, net6_none}
use Rattle.net_base.proofs.net6.Net6.parse.Goals as goal

pub invariant_of-result : goal.invariant_of-result
invariant_of-result c =
    let read : net6_of c.args.text.now ≡ Some (c.in-Some.ip, c.in-Some.len) = ap net6_of (sym c.as_bytes.ensures.value) ∙ sym c.in-Some.ensures in
    record { short = (net6_ok c.args.text.now (c.in-Some.ip, c.in-Some.len) read).most }

pub returns-in-Some-clause-found : goal.returns-in-Some-clause-found
returns-in-Some-clause-found c =
    let read : net6_of c.args.text.now ≡ Some (c.in-Some.ip, c.in-Some.len) = ap net6_of (sym c.as_bytes.ensures.value) ∙ sym c.in-Some.ensures in
    net6_ok c.args.text.now (c.in-Some.ip, c.in-Some.len) read

pub returns-in-None-clause-none : goal.returns-in-None-clause-none
returns-in-None-clause-none c =
    let read : net6_of c.args.text.now ≡ None = ap net6_of (sym c.as_bytes.ensures.value) ∙ sym c.in-None.ensures in
    net6_none c.args.text.now read
