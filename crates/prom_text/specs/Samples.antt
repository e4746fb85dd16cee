-- Metrics with their samples, and how they are spelled in Prometheus' text exposition format (version 0.0.4).
use Rattle.std.specs.Prelude.{ℕ, ◌==◌, if◌then◌else◌, List, [], ◌∷◌, ◌++◌, codes}
use Rattle.std.specs.Fmt.{decimal}
use Rattle.std.specs.List.{flat_map}

pub record Label : Type 0 where
  pub name : List ℕ
  pub value : List ℕ

pub record Sample : Type 0 where
  pub labels : List Label
  pub value : ℕ

-- a metric of a kind, which is `counter` or `gauge` here, with its samples in order
pub record Metric : Type 0 where
  pub name : List ℕ
  pub kind : List ℕ
  pub samples : List Sample

-- ---- the spelling

-- in the value of a label a backslash, a double quote and a line feed stand behind a backslash, the last one as `n`
abbrev pub escaped_byte : ℕ → List ℕ
escaped_byte b =
    if b == 92 then codes "\\\\" else (
    if b == 34 then codes "\\\"" else (
    if b == 10 then codes "\\n" else b ∷ []))

abbrev pub escaped : List ℕ → List ℕ
escaped value = flat_map escaped_byte value

unfoldable pub label_text : Label → List ℕ
label_text l = l.name ++ codes "=\"" ++ escaped l.value ++ codes "\""

-- with commas between
abbrev pub labels_text : List Label → List ℕ
labels_text [] = []
labels_text (only ∷ []) = label_text only
labels_text (l ∷ more) = label_text l ++ codes "," ++ labels_text more

-- a line with labels that are spelled already
unfoldable pub sample_line : (name labels : List ℕ) → (value : ℕ) → List ℕ
sample_line name labels value = name ++ codes "{" ++ labels ++ codes "} " ++ decimal value ++ codes "\n"

abbrev pub sample_text : (name : List ℕ) → Sample → List ℕ
sample_text name s = sample_line name (labels_text s.labels) s.value

unfoldable pub type_line : (name kind : List ℕ) → List ℕ
type_line name kind = codes "# TYPE " ++ name ++ codes " " ++ kind ++ codes "\n"

-- the line that tells its kind, and one for each sample
abbrev pub metric_text : Metric → List ℕ
metric_text m = type_line m.name m.kind ++ flat_map (sample_text m.name) m.samples

-- metric by metric, and an empty line at the end
unfoldable pub block_text : List Metric → List ℕ
block_text metrics = flat_map metric_text metrics ++ codes "\n"
