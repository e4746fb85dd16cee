-- What a document means: the configuration that it gives, or why it gives none.
use Rattle.std.specs.Prelude.{◌≡◌, ◌⊎◌, [], Some}
use Rattle.yaml_tree.specs.declared.tree.Tree.{Tree}
use Rattle.conf_types.specs.Configuration.{Configuration}
use Rattle.conf_shape.specs.declared.raw.RawConf.{RawConf}
use Rattle.conf_shape.specs.declared.refused.ConfFault.{ConfFault}
use Rattle.conf_resolve.specs.InOrder.{ordered}
use Rattle.conf_resolve.specs.Resolved.{resolved}
use Rattle.conf_rules.specs.Rules.{faults, first_broken}
use Rattle.law_checks.specs.Says.{Says}
use Rattle.law_keys.specs.Causes.{IsFaultOf}
use Rattle.law_keys.specs.Grammar.{IsDocument}

-- the document is right by its keys, what is written in it and the defaults of the rest break no rule, and the
-- configuration is what they stand for
pub record Means (t : Tree) (conf : Configuration) : Type 0 where
  pub right : IsDocument t
  pub raw : RawConf
  pub says : Says t raw
  pub unbroken : faults (ordered raw) (resolved (ordered raw)) ≡ []
  pub is : conf ≡ resolved (ordered raw)

-- the document is right by its keys, and the fault is the first place where a rule is broken
pub record BreaksRule (t : Tree) (fault : ConfFault) : Type 0 where
  pub right : IsDocument t
  pub raw : RawConf
  pub says : Says t raw
  pub first : first_broken (ordered raw) (resolved (ordered raw)) ≡ Some fault

abbrev pub IsRefusedFor : Tree → ConfFault → Type 0
IsRefusedFor t fault = IsFaultOf t fault ⊎ BreaksRule t fault
