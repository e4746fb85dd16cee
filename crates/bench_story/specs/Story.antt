-- The story: a switch opens its connection and is set up, then hosts come one by one. What the switch says goes by what it was told, since
-- each barrier is replied to by the next that it says.
use Rattle.std.specs.Prelude.{◌≡◌, ℕ, zero, suc, ◌*◌, ◌%◌, ◌^◌, List, [], ◌∷◌, ◌++◌, map, Some}
use Rattle.fg_outside.specs.declared.hub.Happening.{Happening}
use Rattle.fg_outside.specs.declared.hub.Happening.TheVariants.{Opened, Heard, Moment}
use Rattle.of13_codec.specs.Messages.{written}
use Rattle.ctl_world.specs.World.{World, first}
use Rattle.ctl_life.specs.declared.saying.Saying.{Saying}
use Rattle.ctl_life.specs.Sayings.{saying_of}
use Rattle.ctl_core.specs.Turns.{turn}
use Rattle.bench_story.specs.declared.run.Run.{Run}
use Rattle.bench_story.specs.Setup.{configuration}
use Rattle.bench_story.specs.Switch.{hello, features, port_reply, packet_in}
use Rattle.bench_story.specs.Counted.{barrier_request, count_of, flow_mod, replies_to, total}

-- So far: what the controller knows, the replies that the switch owes, all that happened, and all that the controller said of it.
pub record Course : Type 0 where
  pub known : World
  pub owed : List ℕ
  pub happened : List Happening
  pub said : List Saying

-- ---- one turn

-- what is said in it, as it goes out
abbrev pub sayings : Happening → World → List Saying
sayings h w = map saying_of (turn h w).said

-- this happens, where the switch still owes so much
unfoldable pub takes : Happening → (left : List ℕ) → Course → Course
takes h left c = record {
  known = turn h c.known;
  owed = left ++ replies_to (sayings h c.known);
  happened = c.happened ++ h ∷ [];
  said = c.said ++ sayings h c.known;
}

-- the switch says this, behind what it owes
unfoldable pub says : (message : List ℕ) → Course → Course
says message c = takes (Heard 1 (c.owed ++ message)) [] c

-- the clock shows this moment, in milliseconds
unfoldable pub shows : (moment : ℕ) → Course → Course
shows moment c = takes (Moment moment) c.owed c

-- ---- the whole

unfoldable pub begun : Course
begun = record { known = first configuration; owed = []; happened = []; said = [] }

-- The connection opens, and the switch is set up: behind its ports it replies to the barrier of the wipe, and then to that of the
-- batch that opens it.
unfoldable pub opened : Course
opened = says [] (says [] (says port_reply (says features (says hello (takes (Opened 1) [] begun)))))

-- a host every ten milliseconds: its frame comes, and then the switch replies to what it was told
unfoldable pub comes : (host : ℕ) → Course → Course
comes host c = says [] (says (written (packet_in host) 0) (shows (10 * host) c))

-- so many hosts came
unfoldable pub after : (hosts : ℕ) → Course
after zero = opened
after (suc n) = comes n (after n)

-- all that happens where so many hosts come
abbrev pub story : (hosts : ℕ) → List Happening
story hosts = (after hosts).happened

-- ---- a run of it

-- the controller knows this, and this was counted of what it said
pub record Knows (run : Run) (c : Course) : Type 0 where
  pub known : run.controller ≡ Some c.known
  pub batches : run.counts.batches ≡ count_of barrier_request c.said
  pub commands : run.counts.commands ≡ count_of flow_mod c.said
  pub sum : run.counts.sum ≡ total c.said % 2 ^ 32

pub record StandsFor (run : Run) (c : Course) : Type 0 where
  pub knows : Knows run c
  pub owed : run.owed ≡ c.owed
