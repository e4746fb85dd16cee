-- Where a frame is to come in.
use Rattle.std.specs.Prelude.{ℕ, if◌then◌else◌, List, Option, Some, None, is_some}
use Rattle.std.specs.List.{find}
use Rattle.std.specs.Option.{option_map_or}
use Rattle.std.specs.Str.{bytes_eq}
use Rattle.conf_types.specs.declared.datapath.Dp.{Dp}
use Rattle.conf_types.specs.Configuration.{Configuration, port_with}
use Rattle.trace_story.specs.declared.entry.Missing.{Missing}
use Rattle.trace_story.specs.declared.entry.Missing.TheVariants as missing

-- the datapath of this name
abbrev pub dp_named : List Dp → (name : List ℕ) → Option Dp
dp_named dps name = find (λ d. bytes_eq d.name name) dps

-- the interface, where the datapath is there
abbrev pub missing_at : (port : ℕ) → Dp → Option Missing
missing_at port d = if is_some (port_with d.ports port) then None else Some missing.Port

-- what isn't there: the datapath, or its interface
abbrev pub missing_in : Configuration → (name : List ℕ) → (port : ℕ) → Option Missing
missing_in conf name port = option_map_or (missing_at port) (dp_named conf.dps name) (Some missing.Dp)
