-- What words ask for, with no reader in mind: by what stands behind the name of each option.
use Rattle.std.specs.Prelude.{◌≡◌, ◌≢◌, ◌⊎◌, ◌^◌, ◌<◌, ◌≤◌, ◌++◌, ℕ, IsTrue, List, [], ◌∷◌, length, codes, decimal, All, AllPairs, Contains}
use Rattle.net_base.specs.Address.{IsPair, ip4_text}
use Rattle.pkt_view.specs.Frame.{has_type}
use Rattle.command_line.specs.declared.meaning.Job.{Job}
use Rattle.command_line.specs.declared.meaning.Job.TheVariants as jobs
use Rattle.command_line.specs.declared.meaning.ServeOptions.{ServeOptions}
use Rattle.command_line.specs.declared.parts.CommandOption.{CommandOption}
use Rattle.command_line.specs.declared.recorded.RecordedServe.{RecordedServe}
use Rattle.command_line.specs.declared.values.Listen.{Listen}
use Rattle.command_line.specs.Written.{Written}

-- ---- options

-- options at two places have two names
abbrev pub StandOnce : List CommandOption → Type 0
StandOnce options = AllPairs (λ o p. o.name ≢ p.name) options

-- the words are these plain words and these options, each in order; each option has one of the names, and none stands twice
pub record AreWritten (names words plain : List (List ℕ)) (options : List CommandOption) : Type 0 where
  pub written : Written words plain options
  pub named : All (λ o. Contains names o.name) options
  pub once : StandOnce options

-- the value stands behind the name
abbrev pub StandsBehind : List CommandOption → (name value : List ℕ) → Type 0
StandsBehind options name value = Contains options (record { name = name; value = value })

-- the value stands behind the name, or no value does and it is the default
abbrev pub StandsOrIs : List CommandOption → (name default value : List ℕ) → Type 0
StandsOrIs options name default value = StandsBehind options name value ⊎ ((other : List ℕ) → StandsBehind options name other → ⊥) × (value ≡ default)

-- ---- values

-- the decimal digits of a number in this range
pub record Spells (least most : ℕ) (text : List ℕ) (number : ℕ) : Type 0 where
  pub digits : text ≡ decimal number
  pub at_least : least ≤ number
  pub at_most : number ≤ most

-- `A:P`: an IPv4 address in dotted decimal (RFC 1123, 2.1), and a port from 1 to 65,535
pub record SpellsListen (text : List ℕ) (listen : Listen) : Type 0 where
  pub written : text ≡ ip4_text listen.ip.0 ++ codes ":" ++ decimal listen.port
  pub address : listen.ip.0 < 2 ^ 32
  pub port_at_least : 1 ≤ listen.port
  pub port_at_most : listen.port ≤ 65535

-- two hexadecimal digits of either case for each byte
abbrev pub SpellsBytes : (text bytes : List ℕ) → Type 0
SpellsBytes text [] = text ≡ []
SpellsBytes text (byte ∷ bytes) = (a b : ℕ) × (rest : List ℕ) × (text ≡ a ∷ b ∷ rest) × IsPair a b byte × SpellsBytes rest bytes

-- the digits of a frame whose EtherType is there, at most two for each of 1,522 bytes
pub record SpellsFrame (text frame : List ℕ) : Type 0 where
  pub digits : SpellsBytes text frame
  pub at_most : length text ≤ 3044
  pub typed : IsTrue (has_type frame)

-- how many events are taken at most, which has to be said
abbrev pub SaysEvents : List CommandOption → ℕ → Type 0
SaysEvents options events = (text : List ℕ) × StandsBehind options (codes "events") text × Spells 1 1000000000 text events

-- how often the file is looked at, in milliseconds: every second, unless it is said
abbrev pub SaysReload : List CommandOption → ℕ → Type 0
SaysReload options reload_ms = (text : List ℕ) × StandsOrIs options (codes "reload-ms") (codes "1000") text × Spells 100 3600000 text reload_ms

-- where connections are listened for, or else here
abbrev pub SaysListen : (default : List ℕ) → List CommandOption → Listen → Type 0
SaysListen default options listen = (text : List ℕ) × StandsOrIs options (codes "listen") default text × SpellsListen text listen

pub record SayHowToServe (options : List CommandOption) (said : ServeOptions) : Type 0 where
  pub events : SaysEvents options said.events
  pub reload_ms : SaysReload options said.reload_ms
  pub listen : SaysListen (codes "127.0.0.1:6653") options said.listen

-- ---- jobs

-- words of a command line, and the job that they ask for
pub data AskFor : List (List ℕ) → Job → Type 0 where
  -- `check FILE..`, one file or more
  Check : (words files : List (List ℕ)) → files ≢ [] → Written words files [] → AskFor (codes "check" ∷ words) (jobs.Check files)
  -- `plan CONFIG DP`
  Plan : (words : List (List ℕ)) (config dp : List ℕ) → Written words (config ∷ dp ∷ []) [] → AskFor (codes "plan" ∷ words) (jobs.Plan config dp)
  -- `replay CONFIG RECORDING`
  Replay : (words : List (List ℕ)) (config recording : List ℕ) → Written words (config ∷ recording ∷ []) [] → AskFor (codes "replay" ∷ words) (jobs.Replay config recording)
  -- `serve CONFIG --events N [--reload-ms M] [--listen A:P]`
  Serve : (words : List (List ℕ)) (config : List ℕ) (options : List CommandOption) (said : ServeOptions)
      → AreWritten (codes "events" ∷ codes "reload-ms" ∷ codes "listen" ∷ []) words (config ∷ []) options → SayHowToServe options said
      → AskFor (codes "serve" ∷ words) (jobs.Serve config said.events said.reload_ms said.listen)
  -- `gauge GAUGE_CONFIG RECORDING`
  Gauge : (words : List (List ℕ)) (config recording : List ℕ) → Written words (config ∷ recording ∷ []) [] → AskFor (codes "gauge" ∷ words) (jobs.Gauge config recording)
  -- `gauge-serve GAUGE_CONFIG --events N [--listen A:P]`
  GaugeServe : (words : List (List ℕ)) (config : List ℕ) (options : List CommandOption) (events : ℕ) (listen : Listen)
      → AreWritten (codes "events" ∷ codes "listen" ∷ []) words (config ∷ []) options → SaysEvents options events → SaysListen (codes "127.0.0.1:6654") options listen
      → AskFor (codes "gauge-serve" ∷ words) (jobs.GaugeServe config events listen)
  -- `bench N`, N from 1 to 10,000
  Bench : (words : List (List ℕ)) (text : List ℕ) (hosts : ℕ) → Written words (text ∷ []) [] → Spells 1 10000 text hosts → AskFor (codes "bench" ∷ words) (jobs.Bench hosts)
  -- `trace CONFIG RECORDING DP PORT FRAME`
  Trace : (words : List (List ℕ)) (config recording dp port digits : List ℕ) (number : ℕ) (frame : List ℕ)
      → Written words (config ∷ recording ∷ dp ∷ port ∷ digits ∷ []) [] → Spells 1 0xffffff00 port number → SpellsFrame digits frame
      → AskFor (codes "trace" ∷ words) (jobs.Trace config recording dp number frame)
  -- `walk CONFIG RECORDING DP PORT FRAME`
  Walk : (words : List (List ℕ)) (config recording dp port digits : List ℕ) (number : ℕ) (frame : List ℕ)
      → Written words (config ∷ recording ∷ dp ∷ port ∷ digits ∷ []) [] → Spells 1 0xffffff00 port number → SpellsFrame digits frame
      → AskFor (codes "walk" ∷ words) (jobs.Walk config recording dp number frame)
  -- `bgp CONFIG ROUTER RECORDING`
  Bgp : (words : List (List ℕ)) (config router recording : List ℕ) → Written words (config ∷ router ∷ recording ∷ []) []
      → AskFor (codes "bgp" ∷ words) (jobs.Bgp config router recording)
  -- `bgp-serve CONFIG ROUTER --events N [--listen A:P]`
  BgpServe : (words : List (List ℕ)) (config router : List ℕ) (options : List CommandOption) (events : ℕ) (listen : Listen)
      → AreWritten (codes "events" ∷ codes "listen" ∷ []) words (config ∷ router ∷ []) options → SaysEvents options events
      → SaysListen (codes "127.0.0.1:9179") options listen → AskFor (codes "bgp-serve" ∷ words) (jobs.BgpServe config router events listen)

-- words of `faucet_recorded`, `CONFIG --record FILE` with the options of `serve`, and what they ask for
pub record AskToRecord (words : List (List ℕ)) (asked : RecordedServe) : Type 0 where
  pub options : List CommandOption
  pub written : AreWritten (codes "record" ∷ codes "events" ∷ codes "reload-ms" ∷ codes "listen" ∷ []) words (asked.config ∷ []) options
  pub how : SayHowToServe options (record { events = asked.events; reload_ms = asked.reload_ms; listen = asked.listen })
  pub file : StandsBehind options (codes "record") asked.record_file
