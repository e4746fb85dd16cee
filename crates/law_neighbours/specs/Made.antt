-- What becomes of a frame, untagged, that a neighbour sent in a VLAN.
use Rattle.std.specs.Prelude.{ℕ, List, Option}
use Rattle.std.specs.Option.{option_and_then, option_map}
use Rattle.conf_types.specs.declared.vlan.Vlan.{Vlan}
use Rattle.conf_types.specs.Configuration.{Configuration}
use Rattle.pkt_view.specs.Frame.{parts}
use Rattle.neighbour_resolve.specs.declared.answers.Reply.{Reply}
use Rattle.neighbour_resolve.specs.declared.hearing.Sender.{Sender}
use Rattle.neighbour_resolve.specs.Answers.{answer_in}
use Rattle.neighbour_resolve.specs.Hearing.{heard_sender}

abbrev pub heard : Configuration → (vid : ℕ) → (frame : List ℕ) → Option Sender
heard conf vid frame = option_and_then (heard_sender conf vid) (parts frame)

abbrev pub answered : Configuration → Vlan → (frame : List ℕ) → Option Reply
answered conf vlan frame = option_map (λ p. answer_in conf p vlan) (parts frame)
