-- What is shown of a packet that comes in by a port of a datapath.
use Rattle.std.specs.Prelude.{ℕ, if◌then◌else◌, List, [], ◌++◌, codes}
use Rattle.std.specs.List.{flat_map}
use Rattle.std.specs.Option.{option_map_or}
use Rattle.net_base.specs.declared.numbers.DpId.{DpId}
use Rattle.of_match.specs.Pipeline.{first_run}
use Rattle.of_match.specs.declared.packet.Packet.{Packet}
use Rattle.of_match.specs.declared.packet.Sent.{Sent}
use Rattle.conf_types.specs.declared.datapath.Dp.{Dp}
use Rattle.conf_types.specs.Configuration.{Configuration, dp_with}
use Rattle.net_walk.specs.declared.arrival.Arrival.{Arrival}
use Rattle.net_walk.specs.Arrivals.{arrivals}
use Rattle.sent_lines.specs.Lines.{sent_line}
use Rattle.ctl_world.specs.World.{World, now}
use Rattle.ctl_core.specs.Story.{tables_of}
use Rattle.trace_story.specs.declared.showing.How.{How}
use Rattle.trace_story.specs.declared.showing.How.TheVariants.{Trace, Walk}
use Rattle.trace_story.specs.declared.showing.Shown.{Shown}
use Rattle.trace_story.specs.declared.showing.Shown.TheVariants.{Lines, NotReady}
use Rattle.trace_story.specs.Entry.{dp_named}
use Rattle.trace_story.specs.Ready.{is_ready, unready}

-- ---- what a datapath sends

abbrev pub line_of_sent : Sent → List ℕ
line_of_sent s = sent_line s.port s.packet

-- by the run that takes the first in key order, over what its switch holds once it has done all that was said
abbrev pub sends_of : World → DpId → (port : ℕ) → Packet → List Sent
sends_of w id port p = option_map_or (λ tables. first_run tables port p) (tables_of w id) []

-- a line for each send, where the datapath is ready
abbrev pub traced_at : World → Dp → (port : ℕ) → Packet → Shown
traced_at w d port p = if is_ready w d.id then Lines (flat_map line_of_sent (sends_of w d.id port p)) else NotReady d.name

-- ---- where it arrives

-- the datapath's name in front
abbrev pub arrival_line : Configuration → Arrival → List ℕ
arrival_line conf a = option_map_or (λ d. d.name) (dp_with conf.dps a.dp) [] ++ codes " " ++ sent_line a.port a.packet

-- a line for each arrival, where all datapaths are ready that links join to this one
abbrev pub walked_from : World → Dp → (port : ℕ) → Packet → Shown
walked_from w d port p =
    option_map_or (λ e. NotReady e.name) (unready w d.id) (Lines (flat_map (arrival_line w.conf) (arrivals w.conf (now w) 64 d.id port p)))

-- ---- either

abbrev pub shown_at : How → World → Dp → (port : ℕ) → Packet → Shown
shown_at Trace w d port p = traced_at w d port p
shown_at Walk w d port p = walked_from w d port p

-- a datapath that isn't in the configuration isn't ready
abbrev pub shown : How → World → (dp : List ℕ) → (port : ℕ) → Packet → Shown
shown how w dp port p = option_map_or (λ d. shown_at how w d port p) (dp_named w.conf.dps dp) (NotReady dp)
