-- What is to be told of ports in the stream of their switch.
use Rattle.std.specs.Prelude.{ℕ, ◌==◌, not, if◌then◌else◌, List, [], ◌∷◌, filter, Option, Some, None}
use Rattle.of_wire.specs.Parts.{zeros}
use Rattle.of13_codec.specs.declared.message.Message.TheVariants.{PortStatus}
use Rattle.of13_codec.specs.declared.ports.PortDesc.{PortDesc}
use Rattle.of13_codec.specs.Messages.{written}
use Rattle.probe_hub.specs.declared.notices.Notice.{Notice}

-- the first one, and those behind it
abbrev pub first_of : List Notice → Option Notice
first_of [] = None
first_of (n ∷ ns) = Some n

abbrev pub rest_of : List Notice → List Notice
rest_of [] = []
rest_of (n ∷ ns) = ns

abbrev pub without_port : (port : ℕ) → List Notice → List Notice
without_port port notices = filter (λ n. not (n.port == port)) notices

-- a port with nothing but its number, and that it has no link (OpenFlow 1.3, 7.2.1)
abbrev pub port_of : Notice → PortDesc
port_of n = record {
  no = n.port;
  hw = record { 0 = zeros 6 };
  name = zeros 16;
  config = 0;
  state = if n.up then 0 else 1;
  rest = zeros 24;
}

-- the piece that tells it: a PORT_STATUS (7.4.3) of reason 2, MODIFY, with the transaction id 0
abbrev pub piece_of : Notice → List ℕ
piece_of n = written (PortStatus 2 (port_of n)) 0
