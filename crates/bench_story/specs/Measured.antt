-- What is measured of a story with so many hosts.
use Rattle.std.specs.Prelude.{ℕ, ◌-◌, ◌%◌, ◌^◌, List, length, map}
use Rattle.std.specs.List.{flat_map}
use Rattle.fg_outside.specs.declared.hub.Happening.{Happening}
use Rattle.ctl_world.specs.declared.said.Said.{Said}
use Rattle.ctl_world.specs.World.{first}
use Rattle.ctl_life.specs.declared.saying.Saying.{Saying}
use Rattle.ctl_life.specs.Sayings.{saying_of}
use Rattle.ctl_core.specs.Story.{behind, said_by_turn}
use Rattle.bench_story.specs.declared.measuring.Measured.{Measured}
use Rattle.bench_story.specs.Counted.{barrier_request, count_of, flow_mod, total}
use Rattle.bench_story.specs.Setup.{configuration}
use Rattle.bench_story.specs.Story.{story}

-- all that the controller says of a story, in order, as it goes out
abbrev pub said_of : List Happening → List Saying
said_of happened = map saying_of (flat_map (λ (told : List Said). told) (said_by_turn (first configuration) happened))

-- how many messages of a type there are without those of the opening, which are those of the story with no host
abbrev pub behind_opening : (kind hosts : ℕ) → ℕ
behind_opening kind hosts = count_of kind (said_of (story hosts)) - count_of kind (said_of (story 0))

-- The hosts that are known in the end; the batches, each with a barrier, and the commands that hosts led to; and the values of all bytes
-- that were said, the opening included, in 32 bits.
unfoldable pub measured : (hosts : ℕ) → Measured
measured hosts = record {
  hosts = length (behind (first configuration) (story hosts)).hosts.hosts;
  batches = behind_opening barrier_request hosts;
  commands = behind_opening flow_mod hosts;
  sum = total (said_of (story hosts)) % 2 ^ 32;
}
