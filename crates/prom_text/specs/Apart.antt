-- Samples that are told apart by their labels.
use Rattle.std.specs.Prelude.{◌≢◌, ℕ, ◌^◌, ◌<◌, List, [], ◌∷◌, slice_index}
use Rattle.std.specs.List.{AllByRecursion}
use Rattle.of13_codec.specs.declared.ports.PortStats.{PortStats}
use Rattle.flow_stats.specs.declared.flow.Flow.{Flow}
use Rattle.prom_text.specs.Samples.{Metric, Sample}

-- no two samples of a metric have the same labels
abbrev pub HaveOwnLabels : List Sample → Type 0
HaveOwnLabels [] = Unit {0}
HaveOwnLabels (s ∷ more) = AllByRecursion (λ t. s.labels ≢ t.labels) more × HaveOwnLabels more

-- and no two metrics of a block the same name
abbrev pub HaveOwnNames : List Metric → Type 0
HaveOwnNames [] = Unit {0}
HaveOwnNames (m ∷ more) = AllByRecursion (λ n. m.name ≢ n.name) more × HaveOwnNames more

pub record AreApart (block : List Metric) : Type 0 where
  pub names : HaveOwnNames block
  pub labels : AllByRecursion (λ m. HaveOwnLabels m.samples) block

-- ---- items whose numbers fit their bytes, as those of a reply do

pub record FitsPort (p : PortStats) : Type 0 where
  pub no : p.no < 2 ^ 32
  pub counters : (i : ℕ) → slice_index p.counters i < 2 ^ 64

pub record FitsName (f : Flow) : Type 0 where
  pub table : f.table < 2 ^ 8
  pub priority : f.priority < 2 ^ 16
  pub key : (i : ℕ) → slice_index f.key i < 2 ^ 8

pub record FitsFlow (f : Flow) : Type 0 where
  pub name : FitsName f
  pub packets : f.packets < 2 ^ 64
  pub bytes : f.bytes < 2 ^ 64
