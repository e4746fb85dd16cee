-- What a message tells of which Gauge writes.
use Rattle.std.specs.Prelude.{ℕ, ◌==◌, Bool, true, false, is_some, if◌then◌else◌, List, Option, Some, None, Result, Ok, Err, option_and_then, unwrap_or}
use Rattle.of_wire.specs.declared.fault.PartFault.{PartFault}
use Rattle.of13_codec.specs.declared.message.Message.{Message}
use Rattle.of13_codec.specs.declared.message.Message.TheVariants as messages
use Rattle.flow_stats.specs.declared.flow.FlowPart.{FlowPart}
use Rattle.flow_stats.specs.Reading.{part_at}
use Rattle.ctl_life.specs.Life.{says}
use Rattle.gauge_conf.specs.declared.gauge.WatchKind.{WatchKind}
use Rattle.gauge_conf.specs.declared.gauge.WatchKind.TheVariants.{PortStats, FlowTable}
use Rattle.gauge_poll.specs.declared.telling.Telling.{Telling}
use Rattle.gauge_poll.specs.declared.telling.Telling.TheVariants.{Ports, Flows, State, Nothing}

-- ---- flow statistics (OpenFlow 1.3, 7.3.5.2)

-- what is told where this was read of a part; nothing is told where one of its flow entries is wrong
abbrev pub telling_of : Result (Option FlowPart) PartFault → Option Telling
telling_of (Ok (Some part)) = Some (Flows part)
telling_of (Ok None) = Some Nothing
telling_of (Err fault) = None

-- ---- a message

abbrev pub telling : Message → Option Telling
telling (messages.PortStatsReply more stats) = Some (Ports more stats)
telling (messages.PortStatus reason port) = Some (State reason port)
telling (messages.Other kind body) = if kind == 19 then telling_of (part_at body) else Some Nothing
telling m = Some Nothing

abbrev pub told_by : Message → Telling
told_by m = unwrap_or (telling m) Nothing

-- a message of which a flow entry is wrong is none
abbrev pub understood : Message × ℕ → Option (Message × ℕ)
understood told = if is_some (telling told.0) then Some told else None

abbrev pub reads : (frame : List ℕ) → Option (Message × ℕ)
reads frame = option_and_then understood (says frame)

-- ---- replies

-- what was asked for is told
abbrev pub answers : WatchKind → Telling → Bool
answers PortStats (Ports more stats) = true
answers FlowTable (Flows part) = true
answers kind told = false

-- counters, or the state of a port
abbrev pub is_telling : Telling → Bool
is_telling Nothing = false
is_telling told = true
