-- How long what is said is.
use Rattle.std.proofs.Common.{◌^◌, ◌<◌, length, lit<}
use Rattle.bgp_messages.specs.declared.said.Said.{Said}
use Rattle.bgp_messages.specs.declared.said.Said.TheVariants.{Open, KeepAlive, Notification}
use Rattle.bgp_messages.specs.Numbers.{number}
use Rattle.bgp_messages.specs.Said.{body_said}

pub said_is_short : (said : Said) → length (body_said said) < 2 ^ 8
unfolding number
said_is_short (Open o) = lit< tt
said_is_short KeepAlive = lit< tt
said_is_short (Notification fault) = lit< tt
