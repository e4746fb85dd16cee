-- What loading gives, by what gathering gives.
use Rattle.std.proofs.Common.{◌≡◌, ℕ, List, Result, Ok, Err, refl, sym, subst}
use Rattle.yaml_tree.specs.declared.tree.Tree.{Tree}
use Rattle.conf_types.specs.Configuration.{Configuration}
use Rattle.conf_types.specs.Valid.{IsValid}
use Rattle.conf_shape.specs.declared.refused.ConfFault.{ConfFault}
use Rattle.conf_check.specs.Accepted.{conf_of}
use Rattle.conf_gather.specs.declared.refused.LoadRefused.{LoadRefused}
use Rattle.conf_gather.specs.Gives.{◌>>=◌, Gives}
use Rattle.conf_gather.specs.Gathered.{Held, gathered}
use Rattle.conf_load.specs.Loaded.{unless_fault, checked, loaded}

-- behind a first step that is done comes the second
pub gathered_first : {A B : Type 0} (f : A → Result B LoadRefused) (made : Result B LoadRefused) (x : A) (given : Result A LoadRefused) → given ≡ Ok x → Gives made (f x) → Gives made (given >>= f)
gathered_first {A} {B} f made x given is gives = subst (λ (r : Result A LoadRefused). Gives made (r >>= f)) (sym is) gives

-- ---- what is loaded is valid

module _ (valid : (t : Tree) (conf : Configuration) → conf_of t ≡ Ok conf → IsValid conf) where
  accepted : (t : Tree) (conf : Configuration) (c : Result Configuration ConfFault) → conf_of t ≡ c → unless_fault c ≡ Ok conf → IsValid conf
  accepted t conf (Ok other) is made = let same : other ≡ conf = cc in subst IsValid same (valid t other is)
  accepted t conf (Err fault) is made = absurd cc

  by_tree : (conf : Configuration) (given : Result Tree LoadRefused) → given >>= checked ≡ Ok conf → IsValid conf
  by_tree conf (Ok t) made = accepted t conf (conf_of t) refl made
  by_tree conf (Err e) made = absurd cc

  pub loaded_valid : (held : Held) (name : List ℕ) (conf : Configuration) → loaded held name ≡ Ok conf → IsValid conf
  loaded_valid held name conf made = by_tree conf (gathered held name) made
