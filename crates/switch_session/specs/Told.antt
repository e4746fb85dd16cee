-- What a switch told of its ports (OpenFlow 1.3, 7.2.1), in the order in which it told them first.
use Rattle.std.specs.Prelude.{◌≢◌, ◌≤◌, ℕ, Bool, not, ◌&&◌, ◌||◌, ◌==◌, nat_lt, nat_le, if◌then◌else◌, List, [], ◌∷◌, ◌++◌, length, map, filter, Option, Some, None, bit_and}
use Rattle.std.specs.List.{list_any, AllByRecursion}
use Rattle.of13_codec.specs.declared.ports.PortDesc.{PortDesc}
use Rattle.switch_session.specs.declared.ports.PortTold.{PortTold}

-- bit 0 of the config, OFPPC_PORT_DOWN, and bit 0 of the state, OFPPS_LINK_DOWN, are clear
abbrev pub is_up : PortDesc → Bool
is_up port = (bit_and port.config 1 == 0) && (bit_and port.state 1 == 0)

-- the numbers above OFPP_MAX, 0xffffff00, are those of no port; so is 0
abbrev pub is_port_no : ℕ → Bool
is_port_no n = nat_le 1 n && nat_le n 0xffffff00

abbrev pub told_of : PortDesc → Option PortTold
told_of port = if is_port_no port.no then Some (record { no = port.no; up = is_up port }) else None

-- a port of this number was told
abbrev pub knows : List PortTold → ℕ → Bool
knows ports n = list_any (λ port. port.no == n) ports

-- a port that was told is told anew, in its place
abbrev pub told_anew : List PortTold → PortTold → List PortTold
told_anew ports port = map (λ told. if told.no == port.no then port else told) ports

-- at most 4,096 ports are told
abbrev pub takes : List PortTold → ℕ → Bool
takes ports n = knows ports n || nat_lt (length ports) 4096

-- the ports with one told, which is passed over where it isn't taken
unfoldable pub tell : List PortTold → PortTold → List PortTold
tell ports port =
    if knows ports port.no then told_anew ports port else (
    if nat_lt (length ports) 4096 then ports ++ port ∷ [] else ports)

-- the ports without that of a number
abbrev pub forget : List PortTold → ℕ → List PortTold
forget ports n = filter (λ port. not (port.no == n)) ports

abbrev pub tell_if : List PortTold → Option PortTold → List PortTold
tell_if ports None = ports
tell_if ports (Some port) = tell ports port

-- one after the other; what is no port is passed over
abbrev pub tell_all : List PortTold → List PortDesc → List PortTold
tell_all ports [] = ports
tell_all ports (port ∷ more) = tell_all (tell_if ports (told_of port)) more

-- no two ports have one number
abbrev pub AreApart : List PortTold → Type 0
AreApart [] = Unit {0}
AreApart (port ∷ ports) = AllByRecursion (λ other. other.no ≢ port.no) ports × AreApart ports

-- what a session keeps of its ports
pub record AreTold (ports : List PortTold) : Type 0 where
  pub most : length ports ≤ 4096
  pub apart : AreApart ports
