use Rattle.std.proofs.Common.{ap}
use Rattle.std.specs.Prelude.{unwrap_or, []}
use Rattle.conf_gather.specs.Gathered.{gathered}
use Rattle.watch_hub.specs.Look.{gathered_text}
use Rattle.watch_hub.proofs.Gathering.{only_absent}
use Rattle.watch_hub.proofs.laws.files_have_no_text_where_one_is_missing.Goals as goal

pub returns-clause-missing : goal.returns-clause-missing
returns-clause-missing c = λ held name file is. ap (gathered_text (unwrap_or (held name) [])) is

pub returns-clause-only_missing : goal.returns-clause-only_missing
returns-clause-only_missing c = λ held name none. only_absent (unwrap_or (held name) []) (gathered held name) none
