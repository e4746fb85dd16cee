use Rattle.std.proofs.Common.{◌≡◌, ◌∙◌, ap, sym, Some, None}
use Rattle.net_base.specs.AddressReading.{net4_of}
use Rattle.net_base.proofs.Addresses.{net4_ok, net4_none}
use Rattle.net_base.proofs.net4.Net4.parse.Goals as goal

pub invariant_of-result : goal.invariant_of-result
invariant_of-result c =
    let read : net4_of c.args.text.now ≡ Some (c.in-Some.ip, c.in-Some.len) = ap net4_of (sym c.as_bytes.ensures.value) ∙ sym c.in-Some.ensures in
    record { short = (net4_ok c.args.text.now (c.in-Some.ip, c.in-Some.len) read).2 }

pub returns-in-Some-clause-found : goal.returns-in-Some-clause-found
returns-in-Some-clause-found c =
    let read : net4_of c.args.text.now ≡ Some (c.in-Some.ip, c.in-Some.len) = ap net4_of (sym c.as_bytes.ensures.value) ∙ sym c.in-Some.ensures in
    (net4_ok c.args.text.now (c.in-Some.ip, c.in-Some.len) read).0

pub returns-in-None-clause-none : goal.returns-in-None-clause-none
returns-in-None-clause-none c =
    let read : net4_of c.args.text.now ≡ None = ap net4_of (sym c.as_bytes.ensures.value) ∙ sym c.in-None.ensures in
    net4_none c.args.text.now read
