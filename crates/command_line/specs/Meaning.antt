-- What the words of a command line ask for.
use Rattle.std.specs.Prelude.{ℕ, Bool, if◌then◌else◌, List, [], ◌∷◌, Option, Some, None, unwrap_or, codes}
use Rattle.std.specs.List.{list_any, list_all}
use Rattle.std.specs.Option.{option_map}
use Rattle.std.specs.Str.{bytes_eq}
use Rattle.net_base.specs.AddressReading.{◌>>=◌}
use Rattle.command_line.specs.declared.meaning.Command.{Command}
use Rattle.command_line.specs.declared.meaning.Command.TheVariants as commands
use Rattle.command_line.specs.declared.meaning.Job.{Job}
use Rattle.command_line.specs.declared.meaning.Job.TheVariants as jobs
use Rattle.command_line.specs.declared.meaning.SentOn.{SentOn}
use Rattle.command_line.specs.declared.meaning.ServeOptions.{ServeOptions}
use Rattle.command_line.specs.declared.parts.CommandOption.{CommandOption}
use Rattle.command_line.specs.declared.parts.Parts.{Parts}
use Rattle.command_line.specs.declared.values.Listen.{Listen}
use Rattle.command_line.specs.Frames.{frame_of}
use Rattle.command_line.specs.Parts.{parts_of}
use Rattle.command_line.specs.Values.{number_in, listen_of, value_of}

-- the command that a word names
abbrev pub command_of : List ℕ → Option Command
command_of word =
    if bytes_eq word (codes "check") then Some commands.Check
    else if bytes_eq word (codes "plan") then Some commands.Plan
    else if bytes_eq word (codes "replay") then Some commands.Replay
    else if bytes_eq word (codes "serve") then Some commands.Serve
    else if bytes_eq word (codes "gauge") then Some commands.Gauge
    else if bytes_eq word (codes "gauge-serve") then Some commands.GaugeServe
    else if bytes_eq word (codes "bench") then Some commands.Bench
    else if bytes_eq word (codes "trace") then Some commands.Trace
    else if bytes_eq word (codes "walk") then Some commands.Walk
    else if bytes_eq word (codes "bgp") then Some commands.Bgp
    else if bytes_eq word (codes "bgp-serve") then Some commands.BgpServe
    else None

-- the options that a command takes
abbrev pub options_of : Command → List (List ℕ)
options_of commands.Check = []
options_of commands.Plan = []
options_of commands.Replay = []
options_of commands.Serve = codes "events" ∷ codes "reload-ms" ∷ codes "listen" ∷ []
options_of commands.Gauge = []
options_of commands.GaugeServe = codes "events" ∷ codes "listen" ∷ []
options_of commands.Bench = []
options_of commands.Trace = []
options_of commands.Walk = []
options_of commands.Bgp = []
options_of commands.BgpServe = codes "events" ∷ codes "listen" ∷ []

-- each of these options is one that the command takes
abbrev pub are_taken : Command → List CommandOption → Bool
are_taken command options = list_all (λ o. list_any (λ name. bytes_eq name o.name) (options_of command)) options

-- two words, where there are just two
abbrev pub two_of : List (List ℕ) → Option (List ℕ × List ℕ)
two_of words = elim words [ first ∷ second ∷ [] ↦ Some (first, second) | _ ↦ None ]

-- three words, where there are just three
abbrev pub three_of : List (List ℕ) → Option (List ℕ × List ℕ × List ℕ)
three_of words = elim words [ first ∷ second ∷ third ∷ [] ↦ Some (first, second, third) | _ ↦ None ]

-- one word, where there is just one
abbrev pub one_of : List (List ℕ) → Option (List ℕ)
one_of words = elim words [ only ∷ [] ↦ Some only | _ ↦ None ]

-- how many events are taken at most, which has to be said
abbrev pub events_of : List CommandOption → Option ℕ
events_of options = value_of (codes "events") options >>= number_in 1 1000000000

-- where connections are listened for, or else here
abbrev pub listen_or : (default : List ℕ) → List CommandOption → Option Listen
listen_or default options = listen_of (unwrap_or (value_of (codes "listen") options) default)

-- the options of `serve`: how many events are taken at most; how long after a look at the file the next one is due, in
-- milliseconds; where connections are listened for. Without the latter two it is every second, and port 6653 of this host alone.
abbrev pub serve_options : List CommandOption → Option ServeOptions
serve_options options = do
  events ← events_of options
  reload_ms ← number_in 100 3600000 (unwrap_or (value_of (codes "reload-ms") options) (codes "1000"))
  listen ← listen_or (codes "127.0.0.1:6653") options
  Some (record { events = events; reload_ms = reload_ms; listen = listen })

-- `bench N`: how many hosts there are
abbrev pub bench_of : List (List ℕ) → Option Job
bench_of words = one_of words >>= λ word. option_map jobs.Bench (number_in 1 10000 word)

-- a frame that comes in by a port, 1 to 0xffffff00, of a datapath behind what a recording tells
abbrev pub sent_by : (config recording dp port digits : List ℕ) → Option SentOn
sent_by config recording dp port digits = do
  number ← number_in 1 0xffffff00 port
  frame ← frame_of digits
  Some (record { config = config; recording = recording; dp = dp; port = number; frame = frame })

-- `CONFIG RECORDING DP PORT FRAME`
abbrev pub sent_on : List (List ℕ) → Option SentOn
sent_on words = elim words [ config ∷ recording ∷ dp ∷ port ∷ digits ∷ [] ↦ sent_by config recording dp port digits | _ ↦ None ]

-- what a command asks for: `check FILE..`, one file or more; `plan CONFIG DP`; `replay CONFIG RECORDING`;
-- `serve CONFIG --events N`, with what options it has beside; `gauge GAUGE_CONFIG RECORDING`;
-- `gauge-serve GAUGE_CONFIG --events N`, which without the other option listens at port 6654 of this host alone; `bench N`;
-- `trace CONFIG RECORDING DP PORT FRAME`, and `walk` with the same words; `bgp CONFIG ROUTER RECORDING`;
-- `bgp-serve CONFIG ROUTER --events N`, which without the other option listens at port 9179 of this host alone
abbrev pub job_of : Command → Parts → Option Job
job_of commands.Check parts = elim parts.plain [ [] ↦ None | file ∷ files ↦ Some (jobs.Check (file ∷ files)) ]
job_of commands.Plan parts = option_map (λ two. jobs.Plan two.0 two.1) (two_of parts.plain)
job_of commands.Replay parts = option_map (λ two. jobs.Replay two.0 two.1) (two_of parts.plain)
job_of commands.Serve parts = do
  config ← one_of parts.plain
  options ← serve_options parts.options
  Some (jobs.Serve config options.events options.reload_ms options.listen)
job_of commands.Gauge parts = option_map (λ two. jobs.Gauge two.0 two.1) (two_of parts.plain)
job_of commands.GaugeServe parts = do
  config ← one_of parts.plain
  events ← events_of parts.options
  listen ← listen_or (codes "127.0.0.1:6654") parts.options
  Some (jobs.GaugeServe config events listen)
job_of commands.Bench parts = bench_of parts.plain
job_of commands.Trace parts = option_map (λ sent. jobs.Trace sent.config sent.recording sent.dp sent.port sent.frame) (sent_on parts.plain)
job_of commands.Walk parts = option_map (λ sent. jobs.Walk sent.config sent.recording sent.dp sent.port sent.frame) (sent_on parts.plain)
job_of commands.Bgp parts = option_map (λ three. jobs.Bgp three.0 three.1 three.2) (three_of parts.plain)
job_of commands.BgpServe parts = do
  words ← two_of parts.plain
  events ← events_of parts.options
  listen ← listen_or (codes "127.0.0.1:9179") parts.options
  Some (jobs.BgpServe words.0 words.1 events listen)

-- the first word is the command
unfoldable pub meaning : List (List ℕ) → Option Job
meaning [] = None
meaning (word ∷ words) = do
  command ← command_of word
  parts ← parts_of words
  if are_taken command parts.options then job_of command parts else None
