use Rattle.std.proofs.Common.{◌≡◌, ℕ, zero, suc, ◌-◌, ◌<◌, List, [], length, drop, refl, arith, true, false, if◌then◌else◌, Result, Ok, Err}
use Rattle.yaml_subset.specs.declared.fault.YamlCause.{YamlCause}
use Rattle.yaml_subset.specs.declared.fault.YamlCause.TheVariants.{TooDeep}
use Rattle.yaml_tree.specs.declared.tree.Tree.{Tree}
use Rattle.yaml_tree.specs.declared.tree.Tree.TheVariants as tree
use Rattle.yaml_tree.specs.declared.tree.Pair.{Pair}
use Rattle.yaml_subset.specs.Characters.{begins}
use Rattle.yaml_subset.specs.Flow.{list_step, list_from, map_step, map_from, flow_value}
use Rattle.yaml_subset.specs.Gives.{◌>>=◌}
use Rattle.yaml_subset.specs.Scalars.{scalar_from}

-- a scalar takes none of the levels that are left
pub flow_value_scalar : (n : ℕ) (rest : List ℕ) → begins 91 rest ≡ false → begins 123 rest ≡ false → flow_value n rest ≡ scalar_from true rest
unfolding flow_value
flow_value_scalar zero rest g h = rw (g, h) refl
flow_value_scalar (suc n) rest g h = rw (g, h) refl

-- a bracket takes one of them
pub flow_value_no_list : (n : ℕ) (rest : List ℕ) → n ≡ 0 → begins 91 rest ≡ true → flow_value n rest ≡ Err TooDeep
unfolding flow_value
flow_value_no_list zero rest e h = rw h refl
flow_value_no_list (suc n) rest e h = absurd (omega arith)

pub flow_value_no_map : (n : ℕ) (rest : List ℕ) → n ≡ 0 → begins 91 rest ≡ false → begins 123 rest ≡ true → flow_value n rest ≡ Err TooDeep
unfolding flow_value
flow_value_no_map zero rest e g h = rw (g, h) refl
flow_value_no_map (suc n) rest e g h = absurd (omega arith)

pub flow_value_list : (n : ℕ) (rest : List ℕ) → 0 < n → begins 91 rest ≡ true → flow_value n rest ≡ list_from (flow_value (n - 1)) (length (drop 1 rest)) [] (drop 1 rest)
unfolding flow_value
flow_value_list zero rest l h = absurd (omega arith)
flow_value_list (suc n) rest l h = let e : suc n - 1 ≡ n = omega arith in rw (e, h) refl

pub flow_value_map : (n : ℕ) (rest : List ℕ) → 0 < n → begins 91 rest ≡ false → begins 123 rest ≡ true → flow_value n rest ≡ map_from (flow_value (n - 1)) (length (drop 1 rest)) [] (drop 1 rest)
unfolding flow_value
flow_value_map zero rest l g h = absurd (omega arith)
flow_value_map (suc n) rest l g h = let e : suc n - 1 ≡ n = omega arith in rw (e, g, h) refl

pub ruleset levels = (flow_value_scalar, flow_value_no_list, flow_value_no_map, flow_value_list, flow_value_map)

-- one step is taken of those that are left
pub list_from_within : (value : List ℕ → Result (Tree × List ℕ) YamlCause) (n : ℕ) (items : List Tree) (rest : List ℕ) → 0 < n
    → list_from value n items rest ≡ (list_step value items rest >>= λ step. if step.0 then Ok (tree.List step.1, step.2) else list_from value (n - 1) step.1 step.2)
unfolding list_from
list_from_within value zero items rest h = absurd (omega arith)
list_from_within value (suc n) items rest h = let e : suc n - 1 ≡ n = omega arith in rw e refl

pub map_from_within : (value : List ℕ → Result (Tree × List ℕ) YamlCause) (n : ℕ) (pairs : List Pair) (rest : List ℕ) → 0 < n
    → map_from value n pairs rest ≡ (map_step value pairs rest >>= λ step. if step.0 then Ok (tree.Map step.1, step.2) else map_from value (n - 1) step.1 step.2)
unfolding map_from
map_from_within value zero pairs rest h = absurd (omega arith)
map_from_within value (suc n) pairs rest h = let e : suc n - 1 ≡ n = omega arith in rw e refl
