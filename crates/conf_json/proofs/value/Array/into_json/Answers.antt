use Rattle.std.proofs.Common.{◌∙◌, ap}
use Rattle.serde_json.specs.Written.{compact_text}
use Rattle.serde_json.proofs.Views.{view-Array}
use Rattle.conf_json.specs.Json.{list}
use Rattle.conf_json.proofs.Printed.{array_text}
use Rattle.conf_json.proofs.value.Array.into_json.Goals as goal

pub returns : goal.returns
returns c = ap compact_text (view-Array c.self.inside.values) ∙ array_text _ ∙ ap list c.self.view_is
