-- What each file that is taken keeps, gathering keeps.
use Rattle.std.proofs.Common.{◌≡◌, ℕ, zero, suc, Bool, true, false, List, [], ◌∷◌, Option, Some, None, Result, Ok, Err, refl, sym, subst}
use Rattle.std.specs.Prelude.{if◌then◌else◌}
use Rattle.yaml_tree.specs.declared.tree.Pair.{Pair}
use Rattle.yaml_tree.specs.declared.tree.Tree.{Tree}
use Rattle.yaml_tree.specs.declared.tree.Tree.TheVariants as trees
use Rattle.conf_shape.specs.Reads.{entries_of}
use Rattle.conf_shape.specs.declared.refused.ConfFault.{ConfFault}
use Rattle.conf_gather.specs.declared.refused.LoadRefused.{LoadRefused}
use Rattle.conf_gather.specs.declared.refused.LoadRefused.TheVariants.{IncludeTwice, IncludeDepth}
use Rattle.conf_gather.specs.declared.include.Include.{Include}
use Rattle.conf_gather.specs.declared.take.Gathered.{Gathered}
use Rattle.conf_gather.specs.Gives.{◌>>=◌}
use Rattle.conf_gather.specs.Includes.{includes_of}
use Rattle.conf_gather.specs.Gathered.{Finds, tree_fault, with_tree, unless_fault, taken, was_reached, each, with_includes, gather, nothing, main_file, tree_with, gathered_by}

abbrev Files : Type 0
Files = Result Gathered LoadRefused

-- the entries that are given have the property
abbrev pub Keeps : (List Pair → Type 0) → Files → Type 0
Keeps P r = (g : Gathered) → r ≡ Ok g → P g.pairs

-- a file keeps the property, where its tree is such
abbrev pub Takes : (List Pair → Type 0) → (Tree → Type 0) → Type 0
Takes P T = (i : Include) (g : Gathered) (t : Tree) → P g.pairs → T t → Keeps P (taken i g t)

no_fault : (fault : Option ConfFault) (more g : Gathered) → unless_fault fault more ≡ Ok g → (fault ≡ None) × (more ≡ g)
no_fault None more g is = (refl, cc)
no_fault (Some f) more g is = absurd cc

-- a file's tree that is taken has no fault, and its entries are joined
pub taken_parts : (i : Include) (g : Gathered) (t : Tree) (more : Gathered) → taken i g t ≡ Ok more → (tree_fault i.role g.pairs t ≡ None) × (with_tree i g t ≡ more)
taken_parts i g t more is = no_fault (tree_fault i.role g.pairs t) (with_tree i g t) more is

module _ (P : List Pair → Type 0) (T : Tree → Type 0) (takes : Takes P T) where
  keeps_ok : (g : Gathered) → P g.pairs → Keeps P (Ok g)
  keeps_ok g w more is = let same : g ≡ more = cc in subst (λ (x : Gathered). P x.pairs) same w

  keeps_bind : (r : Files) (f : Gathered → Files) → Keeps P r → ((g : Gathered) → P g.pairs → Keeps P (f g)) → Keeps P (r >>= f)
  keeps_bind (Ok g) f w h = h g (w g refl)
  keeps_bind (Err e) f w h = λ more is. absurd cc

  module _ (one : Include → Gathered → Files) (keeps : (i : Include) (g : Gathered) → P g.pairs → Keeps P (one i g)) where
    each_keeps : (is : List Include) (g : Gathered) → P g.pairs → Keeps P (each one is g)
    unfolding each
    each_keeps [] g w = keeps_ok g w
    each_keeps (i ∷ is) g w = keeps_bind (one i g) (each one is) (keeps i g w) (each_keeps is)

    file_keeps : (i : Include) (g : Gathered) (found : Result (Option Tree) LoadRefused) → P g.pairs → ((t : Tree) → found ≡ Ok (Some t) → T t) → Keeps P (found >>= with_includes one i g)
    file_keeps i g (Ok None) w tree = keeps_ok g w
    file_keeps i g (Ok (Some t)) w tree = keeps_bind (taken i g t) (each one (includes_of i.name (entries_of t))) (takes i g t w (tree t refl)) (each_keeps (includes_of i.name (entries_of t)))
    file_keeps i g (Err e) w tree = λ more is. absurd cc

  keeps_unless : (b : Bool) (e : LoadRefused) (r : Files) → Keeps P r → Keeps P (if b then Err e else r)
  keeps_unless true e r w = λ more is. absurd cc
  keeps_unless false e r w = w

  module _ (finds : Finds) (trees_are : (i : Include) (t : Tree) → finds i ≡ Ok (Some t) → T t) where
    gather_keeps : (n : ℕ) (i : Include) (g : Gathered) → P g.pairs → Keeps P (gather finds n i g)
    unfolding gather
    gather_keeps zero i g w = keeps_unless (was_reached i.name g.reached) (IncludeTwice i.name) (Err (IncludeDepth i.name)) (λ more is. absurd cc)
    gather_keeps (suc n) i g w =
        keeps_unless (was_reached i.name g.reached) (IncludeTwice i.name) (finds i >>= with_includes (gather finds n) i g)
        (file_keeps (gather finds n) (gather_keeps n) i g (finds i) w (trees_are i))

    whole : (r : Files) (t : Tree) → Keeps P r → (r >>= tree_with) ≡ Ok t → (pairs : List Pair) × P pairs × (t ≡ trees.Map pairs)
    whole (Ok g) t w is = let same : trees.Map g.pairs ≡ t = cc in (g.pairs, w g refl, sym same)
    whole (Err e) t w is = absurd cc

    -- a gathered tree is a map whose entries have the property
    pub gathered_keeps : (name : List ℕ) (t : Tree) → P [] → gathered_by finds name ≡ Ok t → (pairs : List Pair) × P pairs × (t ≡ trees.Map pairs)
    gathered_keeps name t none is = whole (gather finds 9 (main_file name) nothing) t (gather_keeps 9 (main_file name) nothing none) is
