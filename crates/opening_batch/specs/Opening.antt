-- The batch that opens a datapath of a configuration, of which every enabled interface is up and nothing
-- is learned.
use Rattle.std.specs.Prelude.{ℕ, List, [], map, filter, Option}
use Rattle.std.specs.List.{find, flat_map}
use Rattle.std.specs.Option.{option_map}
use Rattle.std.specs.Str.{bytes_eq}
use Rattle.conf_types.specs.declared.datapath.Dp.{Dp}
use Rattle.conf_types.specs.declared.state.UpRec.{UpRec}
use Rattle.conf_types.specs.Configuration.{Configuration}
use Rattle.conf_types.specs.State.{State}
use Rattle.cold_start.specs.Cold.{cold}
use Rattle.opening_batch.specs.Messages.{opening}

-- the datapath of this name
abbrev pub dp_called : List Dp → List ℕ → Option Dp
dp_called dps name = find (λ d. bytes_eq d.name name) dps

-- every enabled interface of a datapath is up
abbrev pub ups_of : Dp → List UpRec
ups_of d = map (λ p. record { dp = d.id; port = p.no }) (filter (λ p. p.enabled) d.ports)

-- every enabled interface is up, and nothing is learned
abbrev pub nothing_learned : Configuration → State
nothing_learned conf = record { moment = 0; running = []; ups = flat_map ups_of conf.dps; hosts = []; neighbours = [] }

-- the batch of a datapath
abbrev pub batch_of : Configuration → Dp → List ℕ
batch_of conf d = opening (cold conf (nothing_learned conf) d)

-- the batch of the datapath of this name, if there is one
abbrev pub opening_of : Configuration → (name : List ℕ) → Option (List ℕ)
opening_of conf name = option_map (batch_of conf) (dp_called conf.dps name)
