-- Probes of stack links: LLDP frames (IEEE 802.1AB-2016, 8) with a datapath's identifier and a port's number.
use Rattle.std.specs.Prelude.{◌≡◌, ℕ, ◌≤◌, nat_le, ◌==◌, ◌&&◌, Bool, if◌then◌else◌, Option, Some, None, List, [], ◌∷◌, ◌++◌, length}
use Rattle.net_base.specs.declared.numbers.DpId.{DpId}
use Rattle.of_wire.specs.Grammar.{◌▷◌, Number, Ignored}
use Rattle.of_wire.specs.Numbers.{number_in}
use Rattle.of_wire.specs.Parts.{number}
use Rattle.lldp_probe.specs.declared.frame.Probe.{Probe}

-- ---- what a frame begins with

-- the group address of the nearest bridges (7.1), and an address that is administered locally
abbrev pub nearest_bridges : ℕ
nearest_bridges = 0x0180c200000e

abbrev pub sender : ℕ
sender = 0x0e0000000001

-- the EtherType (7.3)
abbrev pub lldp : ℕ
lldp = 0x88cc

-- a chassis (8.5.2) and a port (8.5.3), each named as the sender likes (subtype 7), of 8 and of 4 bytes; how long that
-- counts, in 2 bytes (8.5.4); nothing more (8.5.1)
abbrev pub chassis : ℕ
chassis = 0x020907

abbrev pub port_of_chassis : ℕ
port_of_chassis = 0x040507

abbrev pub time_to_live : ℕ
time_to_live = 0x0602

abbrev pub end : ℕ
end = 0

-- ---- frames

-- bytes that aren't looked into
abbrev pub Anything : List ℕ → Type 0
Anything bytes = Unit {0}

-- from any source, with any time to live, whatever stands behind
abbrev pub SpellsProbe : Probe → List ℕ → Type 0
SpellsProbe probe frame =
    (Number 6 nearest_bridges ▷ Ignored 6 ▷ Number 2 lldp ▷ Number 3 chassis ▷ Number 8 probe.dp.0
    ▷ Number 3 port_of_chassis ▷ Number 4 probe.port ▷ Number 2 time_to_live ▷ Ignored 2 ▷ Anything) frame

-- up to the port's number
abbrev pub ids : DpId → ℕ → List ℕ
ids dp port =
    number 6 nearest_bridges ++ number 6 sender ++ number 2 lldp ++ number 3 chassis ++ number 8 dp.0 ++ number 3 port_of_chassis ++ number 4 port

-- the probe that is sent from a port of a datapath, which counts for so many seconds
abbrev pub probe_frame : DpId → (port ttl : ℕ) → List ℕ
probe_frame dp port ttl = ids dp port ++ number 2 time_to_live ++ number 2 ttl ++ number 2 end

-- that of the first port of the first datapath, for 15 seconds, byte by byte
abbrev pub first_probe : List ℕ
first_probe =
    0x01 ∷ 0x80 ∷ 0xc2 ∷ 0x00 ∷ 0x00 ∷ 0x0e ∷ 0x0e ∷ 0x00 ∷ 0x00 ∷ 0x00 ∷ 0x00 ∷ 0x01 ∷ 0x88 ∷ 0xcc ∷
    0x02 ∷ 0x09 ∷ 0x07 ∷ 0x00 ∷ 0x00 ∷ 0x00 ∷ 0x00 ∷ 0x00 ∷ 0x00 ∷ 0x00 ∷ 0x01 ∷
    0x04 ∷ 0x05 ∷ 0x07 ∷ 0x00 ∷ 0x00 ∷ 0x00 ∷ 0x01 ∷ 0x06 ∷ 0x02 ∷ 0x00 ∷ 0x0f ∷ 0x00 ∷ 0x00 ∷ []

-- ---- how one is told

-- what is the same in every probe stands in its places
pub record IsLaidOut (frame : List ℕ) : Type 0 where
  pub long : 36 ≤ length frame
  pub group : number_in 0 6 frame ≡ nearest_bridges
  pub kind : number_in 12 2 frame ≡ lldp
  pub chassis : number_in 14 3 frame ≡ chassis
  pub port : number_in 25 3 frame ≡ port_of_chassis
  pub ttl : number_in 32 2 frame ≡ time_to_live

abbrev pub is_laid_out : List ℕ → Bool
is_laid_out frame =
    nat_le 36 (length frame) && (number_in 0 6 frame == nearest_bridges) && (number_in 12 2 frame == lldp) && (number_in 14 3 frame == chassis)
    && (number_in 25 3 frame == port_of_chassis) && (number_in 32 2 frame == time_to_live)

-- the numbers of ports are 1 to 0xffffff00 (OpenFlow 1.3, 7.2.1)
abbrev pub is_port_no : ℕ → Bool
is_port_no n = nat_le 1 n && nat_le n 0xffffff00

-- which probe a frame is; None where it is none, or its port has no number of one
abbrev pub probe_of : List ℕ → Option Probe
probe_of frame =
    if is_laid_out frame && is_port_no (number_in 28 4 frame)
    then Some (record { dp = record { 0 = number_in 17 8 frame }; port = number_in 28 4 frame })
    else None
