-- What is found where the path of a fault leads.
use Rattle.std.specs.Prelude.{◌≡◌, ℕ, Bool, true, false, List, ◌∷◌, ◌++◌, Some, slice_get}
use Rattle.std.specs.List.{AllByRecursion}
use Rattle.yaml_tree.specs.declared.tree.Tree.{Tree, out-Tree}
use Rattle.conf_shape.specs.declared.refused.ConfCause.{ConfCause}
use Rattle.conf_shape.specs.declared.refused.ConfFault.{ConfFault}
use Rattle.conf_shape.specs.Faults.{path_of}
use Rattle.conf_rules.specs.Places.{nth}
use Rattle.law_documents.specs.Forms.{IsOwn}
use Rattle.law_documents.specs.Leads.{LeadsTo}

-- the path of the fault is one of steps that lead to a value, and the two break a rule, with the fault's cause
abbrev pub PathBreaks : Tree → (ConfCause → List (List ℕ) → Tree → Type 0) → ConfFault → Type 0
PathBreaks t Broken fault = (steps : List (List ℕ)) × (fault.path ≡ path_of steps) × (v : Tree) × LeadsTo t steps v × Broken fault.cause steps v

abbrev pub PathsBreak : Tree → (ConfCause → List (List ℕ) → Tree → Type 0) → List ConfFault → Type 0
PathsBreak t Broken faults = AllByRecursion (PathBreaks t Broken) faults

-- they break it, which has this cause alone
abbrev pub ToldAs : ConfCause → (List (List ℕ) → Tree → Type 0) → ConfCause → List (List ℕ) → Tree → Type 0
ToldAs cause Broken told steps v = (told ≡ cause) × Broken steps v

-- each fault has this cause
abbrev pub AreToldAs : ConfCause → List ConfFault → Type 0
AreToldAs cause faults = AllByRecursion (λ fault. fault.cause ≡ cause) faults

-- what stands under the key, where it is given; and else the part itself, or a number that names it
abbrev pub ByKey : Bool → (Tree → Type 0) → Tree → Type 0
ByKey true Value v = Value v
ByKey false Value v = IsOwn (out-Tree v)

-- ---- lists

-- the one stands before the other in the list
pub record StandsBefore {A : Type 0} (xs : List A) (x y : A) : Type 0 where
  pub before : List A
  pub between : List A
  pub behind : List A
  pub list : xs ≡ before ++ x ∷ (between ++ y ∷ behind)

-- one of the list, of which this holds, has something in common with one before it
pub record Repeats {A : Type 0} (xs : List A) (Agree : A → A → Type 0) (Here : A → Type 0) : Type 0 where
  pub it : A
  pub here : Here it
  pub other : A
  pub earlier : StandsBefore xs other it
  pub agree : Agree other it

-- the steps lead to an item of a list: its number in the list is the last step
pub record IsItemOf {A : Type 0} (site : List (List ℕ)) (xs : List A) (steps : List (List ℕ)) (x : A) : Type 0 where
  pub number : ℕ
  pub item : slice_get xs number ≡ Some x
  pub path : steps ≡ nth site number
