-- Where connections are listened for.
use Rattle.std.specs.Prelude.{Option, Some, None}
use Rattle.command_line.specs.declared.meaning.Job.{Job}
use Rattle.command_line.specs.declared.meaning.Job.TheVariants.{Bench, Check, Gauge, GaugeServe, Plan, Replay, Serve, Trace, Walk, Bgp, BgpServe}
use Rattle.command_line.specs.declared.values.Listen.{Listen}

-- where a job asks for it, if it does
abbrev pub listen_in : Option Job → Option Listen
listen_in None = None
listen_in (Some (Check names)) = None
listen_in (Some (Plan config dp)) = None
listen_in (Some (Replay config recording)) = None
listen_in (Some (Serve config events reload_ms listen)) = Some listen
listen_in (Some (Gauge config recording)) = None
listen_in (Some (GaugeServe config events listen)) = Some listen
listen_in (Some (Bench hosts)) = None
listen_in (Some (Trace config recording dp port frame)) = None
listen_in (Some (Walk config recording dp port frame)) = None
listen_in (Some (Bgp config router recording)) = None
listen_in (Some (BgpServe config router events listen)) = Some listen
