-- Rows whose labels are spelled.
use Rattle.std.specs.Prelude.{◌≡◌, List, map}
use Rattle.prom_text.specs.declared.rows.Row.{Row as Spelled}
use Rattle.prom_text.specs.Samples.{labels_text}
use Rattle.prom_text.specs.Blocks.{Row}

abbrev pub spelled : Row → Spelled
spelled r = record { labels = labels_text r.labels; values = r.values }

abbrev pub IsSpelled : Spelled → Row → Type 0
IsSpelled made r = made ≡ spelled r

abbrev pub AreSpelled : List Spelled → List Row → Type 0
AreSpelled made rows = made ≡ map spelled rows
