use Rattle.std.proofs.Common.{◌∙◌, ap}
use Rattle.serde_json.specs.Written.{compact_text}
use Rattle.serde_json.proofs.Views.{view-Object}
use Rattle.conf_json.specs.Json.{braces}
use Rattle.conf_json.proofs.Printed.{object_text}
use Rattle.conf_json.proofs.value.Object.into_json.Goals as goal

pub returns : goal.returns
returns c = ap compact_text (view-Object c.self.inside.members) ∙ object_text _ ∙ ap braces c.self.view_is
