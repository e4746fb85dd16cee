use Rattle.std.proofs.Common.{◌∙◌, sym}
use Rattle.pkt_view.proofs.UpperLaws.{ipv6_parts}
use Rattle.pkt_view.proofs.frame.upper_of.Goals as goal

pub returns-then-is_ipv6-clause-parts : goal.returns-then-is_ipv6-clause-parts
returns-then-is_ipv6-clause-parts c =
    c.ipv6_view.ensures.parts
    ∙ ipv6_parts c.args.eth_type c.args.payload.now (sym c.is_arp.ensures ∙ c.if-is_arp.false) (sym c.is_ipv4.ensures ∙ c.if-is_ipv4.false) (sym c.is_ipv6.ensures.value ∙ c.if-is_ipv6.true)
