use Rattle.std.proofs.Common.{◌≡◌, ◌∙◌, ap, sym, Some, None}
use Rattle.net_base.specs.AddressReading.{ip4_of}
use Rattle.net_base.proofs.Addresses.{ip4_ok, ip4_none}
use Rattle.net_base.proofs.address.Ip4.parse.Goals as goal

pub returns-in-Some-clause-found : goal.returns-in-Some-clause-found
returns-in-Some-clause-found c =
    let read : ip4_of c.args.text.now ≡ Some c.in-Some.ip = ap ip4_of (sym c.as_bytes.ensures.value) ∙ sym c.in-Some.ensures in
    (ip4_ok c.args.text.now c.in-Some.ip read).0

pub returns-in-None-clause-none : goal.returns-in-None-clause-none
returns-in-None-clause-none c =
    let read : ip4_of c.args.text.now ≡ None = ap ip4_of (sym c.as_bytes.ensures.value) ∙ sym c.in-None.ensures in
    ip4_none c.args.text.now read
