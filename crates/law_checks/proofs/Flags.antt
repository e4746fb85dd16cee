-- Flags: what is read says what is written, and nothing else says so.
use Rattle.std.proofs.Common.{◌≡◌, ℕ, Bool, List, [], refl}
use Rattle.std.specs.Prelude.{IfSome, unwrap_or, option_and_then}
use Rattle.yaml_tree.specs.declared.tree.Pair.{Pair}
use Rattle.conf_shape.specs.declared.kinds.Kind.TheVariants.{One}
use Rattle.conf_shape.specs.declared.kinds.MapKind.{MapKind}
use Rattle.conf_shape.specs.declared.kinds.Scalar.TheVariants.{Flag}
use Rattle.conf_shape.specs.Faults.{faults_of}
use Rattle.conf_shape.specs.Reads.{value_at, flag_of, default_of, default_flag, flag_at}
use Rattle.law_checks.specs.Values.{IsFlag}
use Rattle.law_checks.specs.Says.{FlagSays}
use Rattle.law_checks.proofs.Alone.{IsOne, flag_one, given_one}
use Rattle.law_checks.proofs.Stands.{stands, flag_stands}

pub flag_says : (m : MapKind) (name : List ℕ) (pairs : List Pair) → IfSome (value_at name pairs) (λ t. faults_of t (One Flag) ≡ []) → FlagSays name (default_flag (default_of m name)) pairs (flag_at m name pairs)
flag_says m name pairs h =
    let default = default_flag (default_of m name) in
    stands IsFlag (One Flag) (λ o. unwrap_or (option_and_then flag_of o) default) default refl (flag_stands default) (value_at name pairs) h

pub flag_alone : (name : List ℕ) (default : Bool) → IsOne (FlagSays name default)
flag_alone name default pairs a b h k = given_one IsFlag flag_one (value_at name pairs) default default a b refl h k
