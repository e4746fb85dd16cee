-- The links of a stack, as a configuration has them.
use Rattle.std.specs.Prelude.{ℕ, ◌==◌, ◌&&◌, Bool, false, is_some, List, Option, Some, None}
use Rattle.std.specs.List.{find, list_any}
use Rattle.net_base.specs.declared.numbers.DpId.{DpId}
use Rattle.probe_hub.specs.declared.links.LinkEnd.{LinkEnd}

-- the end is at a port of a datapath
abbrev pub is_at : DpId → (port : ℕ) → LinkEnd → Bool
is_at dp port end = (end.dp.0 == dp.0) && (end.port == port)

-- the first one there
abbrev pub end_at : List LinkEnd → DpId → (port : ℕ) → Option LinkEnd
end_at ends dp port = find (is_at dp port) ends

-- a link is watched from it
abbrev pub watch_of : Option LinkEnd → Bool
watch_of (Some end) = is_some end.watch
watch_of None = false

abbrev pub is_watched : List LinkEnd → DpId → (port : ℕ) → Bool
is_watched ends dp port = watch_of (end_at ends dp port)

-- a datapath of the configuration
abbrev pub has_dp : List DpId → DpId → Bool
has_dp dps dp = list_any (λ id. id.0 == dp.0) dps

-- a link ends at the datapath
abbrev pub has_end_of : List LinkEnd → DpId → Bool
has_end_of ends dp = list_any (λ end. end.dp.0 == dp.0) ends
