-- What the words of `faucet_recorded` ask for: those of `serve` behind its name, and a file for the recording.
use Rattle.std.specs.Prelude.{ℕ, Bool, if◌then◌else◌, List, ◌∷◌, Option, Some, None, codes}
use Rattle.std.specs.List.{list_any, list_all}
use Rattle.std.specs.Str.{bytes_eq}
use Rattle.net_base.specs.AddressReading.{◌>>=◌}
use Rattle.command_line.specs.declared.meaning.Command.TheVariants as commands
use Rattle.command_line.specs.declared.parts.CommandOption.{CommandOption}
use Rattle.command_line.specs.declared.parts.Parts.{Parts}
use Rattle.command_line.specs.declared.recorded.RecordedServe.{RecordedServe}
use Rattle.command_line.specs.Meaning.{one_of, options_of, serve_options}
use Rattle.command_line.specs.Parts.{parts_of}
use Rattle.command_line.specs.Values.{value_of}

-- the options that there are: those of `serve`, and the file of the recording
abbrev pub recorded_options : List (List ℕ)
recorded_options = codes "record" ∷ options_of commands.Serve

-- each of these options is one of them
abbrev pub are_recorded_options : List CommandOption → Bool
are_recorded_options options = list_all (λ o. list_any (λ name. bytes_eq name o.name) recorded_options) options

-- one configuration file, what the options of `serve` say, and the file of the recording, which has to be named
abbrev pub recorded_serve : Parts → Option RecordedServe
recorded_serve parts = do
  config ← one_of parts.plain
  options ← serve_options parts.options
  file ← value_of (codes "record") parts.options
  Some (record { config = config; events = options.events; reload_ms = options.reload_ms; listen = options.listen; record_file = file })

-- the words have no command in front
unfoldable pub recorded_meaning : List (List ℕ) → Option RecordedServe
recorded_meaning words = do
  parts ← parts_of words
  if are_recorded_options parts.options then recorded_serve parts else None
