-- What is said on connections, and why one is closed.
use Rattle.std.specs.Prelude.{ℕ}
use Rattle.fg_outside.specs.declared.hub.EndCause.{EndCause}
use Rattle.fg_outside.specs.declared.hub.EndCause.TheVariants as ends
use Rattle.bgp_messages.specs.declared.fault.Fault.{Fault}
use Rattle.bgp_messages.specs.declared.said.Said.{Said}
use Rattle.bgp_messages.specs.Faults.{code_of, subcode_of}
use Rattle.bgp_messages.specs.Said.{written}
use Rattle.bgp_peer.specs.declared.saying.BgpClosing.{BgpClosing}
use Rattle.bgp_peer.specs.declared.saying.BgpClosing.TheVariants.{Sent, Overfull, LinkFault, End}
use Rattle.bgp_peer.specs.declared.saying.BgpSaying.{BgpSaying}
use Rattle.bgp_peer.specs.declared.saying.BgpSaying.TheVariants.{Send}

-- a message on a connection, in its one spelling
abbrev pub sends : (conn : ℕ) → Said → BgpSaying
sends conn message = Send conn (written message)

-- a NOTIFICATION of this was said
abbrev pub refusal : Fault → BgpClosing
refusal fault = Sent (code_of fault) (subcode_of fault)

-- the connection ended so
abbrev pub closing_for : EndCause → BgpClosing
closing_for ends.End = End
closing_for ends.LinkFault = LinkFault
closing_for ends.Overfull = Overfull
