-- What a document gives: a configuration, or the first place where it is wrong.
use Rattle.std.specs.Prelude.{◌≡◌, ℕ, List, Option, Some, None, Result, Ok, Err}
use Rattle.yaml_tree.specs.declared.tree.Tree.{Tree}
use Rattle.yaml_subset.specs.Grammar.{Reads}
use Rattle.yaml_subset.specs.TextFault.{IsFault}
use Rattle.conf_types.specs.Configuration.{Configuration}
use Rattle.conf_shape.specs.declared.raw.RawConf.{RawConf}
use Rattle.conf_shape.specs.declared.refused.ConfFault.{ConfFault}
use Rattle.conf_shape.specs.declared.refused.ConfRefused.{ConfRefused}
use Rattle.conf_shape.specs.declared.refused.ConfRefused.TheVariants as refused
use Rattle.conf_shape.specs.Faults.{first_fault}
use Rattle.conf_shape.specs.Raw.{raw_of}
use Rattle.conf_resolve.specs.InOrder.{ordered}
use Rattle.conf_resolve.specs.Resolved.{resolved}
use Rattle.conf_rules.specs.Rules.{first_broken}
use Rattle.conf_check.specs.declared.text.TextRefused.{TextRefused}
use Rattle.conf_check.specs.declared.text.TextRefused.TheVariants as text_refused

-- the fault where there is one, or else what is made
abbrev pub unless : {A : Type 0} → Option ConfFault → Result A ConfFault → Result A ConfFault
unless None made = made
unless (Some fault) made = Err fault

-- what a raw configuration stands for
unfoldable pub meant_by : RawConf → Configuration
meant_by raw = resolved (ordered raw)

-- the first rule that is broken
unfoldable pub broken_rule : RawConf → Option ConfFault
broken_rule raw = first_broken (ordered raw) (resolved (ordered raw))

-- a fault of the shape comes before a rule that is broken
unfoldable pub conf_of : Tree → Result Configuration ConfFault
conf_of t = unless (first_fault t) (unless (broken_rule (raw_of t)) (Ok (meant_by (raw_of t))))

-- ---- what a refusal says; want of memory says nothing

abbrev pub BreaksRule : RawConf → ConfRefused → Type 0
BreaksRule raw (refused.At fault) = broken_rule raw ≡ Some fault
BreaksRule raw refused.Memory = Unit {0}

abbrev pub IsRefused : Tree → ConfRefused → Type 0
IsRefused t (refused.At fault) = conf_of t ≡ Err fault
IsRefused t refused.Memory = Unit {0}

abbrev pub IsTextRefused : List ℕ → TextRefused → Type 0
IsTextRefused text (text_refused.Yaml fault) = IsFault text fault
IsTextRefused text (text_refused.Conf fault) = (t : Tree) × Reads text t × (conf_of t ≡ Err fault)
IsTextRefused text text_refused.Memory = Unit {0}
