use Rattle.conf_shape.proofs.Parsed.{mac_parsed}
use Rattle.conf_shape.proofs.addresses.parse_mac.Goals as goal

pub returns : goal.returns
returns c = mac_parsed c.args.text.now _ c.parse.ensures.found c.parse.ensures.none
