use Rattle.std.proofs.Common.{◌≡◌, ◌∙◌, ap, sym, Some, None}
use Rattle.net_base.specs.Address6Reading.{ip6_of}
use Rattle.net_base.proofs.Groups.{ip6_ok, ip6_none}
use Rattle.net_base.proofs.address6.Ip6.parse.Goals as goal

pub returns-in-Some-clause-found : goal.returns-in-Some-clause-found
returns-in-Some-clause-found c =
    let read : ip6_of c.args.text.now ≡ Some c.in-Some.ip = ap ip6_of (sym c.as_bytes.ensures.value) ∙ sym c.in-Some.ensures in
    ip6_ok c.args.text.now c.in-Some.ip read

pub returns-in-None-clause-none : goal.returns-in-None-clause-none
returns-in-None-clause-none c =
    let read : ip6_of c.args.text.now ≡ None = ap ip6_of (sym c.as_bytes.ensures.value) ∙ sym c.in-None.ensures in
    ip6_none c.args.text.now read
