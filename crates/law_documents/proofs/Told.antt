-- Lists of faults whose paths lead to what is written.
use Rattle.std.specs.Prelude.{◌≡◌, ℕ, Bool, true, false, List, ◌++◌, Option, None, Some}
use Rattle.std.specs.List.{AllByRecursion, flat_map}
use Rattle.std.proofs.Common.{refl}
use Rattle.yaml_tree.specs.declared.tree.Pair.{Pair}
use Rattle.yaml_tree.specs.declared.tree.Tree.{Tree, out-Tree}
use Rattle.yaml_tree.specs.declared.tree.Tree.TheOpen.{Tree-F}
use Rattle.conf_shape.specs.declared.refused.ConfCause.{ConfCause}
use Rattle.conf_shape.specs.declared.refused.ConfFault.{ConfFault}
use Rattle.conf_rules.specs.Places.{fault, fault_if, fault_if_some}
use Rattle.law_checks.proofs.Members.{IsIn, all_by, all_flat, all_joined}
use Rattle.law_documents.specs.Leads.{PathLeads, PathsLead}
use Rattle.law_documents.proofs.Leads.{Reaches}

pub each_of : {A B : Type 0} (P : B → Type 0) (f : A → List B) (xs : List A) → ((x : A) → IsIn xs x → AllByRecursion P (f x)) → AllByRecursion P (flat_map f xs)
each_of P f xs h = all_flat P f xs (all_by (λ x. AllByRecursion P (f x)) xs h)

module _ (t : Tree) (Form : Tree-F Tree Pair → Type 0) where
  -- the value at the place is of the form
  abbrev pub At : List (List ℕ) → Type 0
  At site = Reaches t site (λ v. Form (out-Tree v))

  pub path : (cause : ConfCause) (site : List (List ℕ)) → At site → PathLeads t Form (fault cause site)
  path cause site r = (site, refl, r.0, r.1, r.2)

  pub told_if : (test : Bool) (cause : ConfCause) (site : List (List ℕ)) → (test ≡ true → At site) → PathsLead t Form (fault_if test cause site)
  told_if true cause site r = (path cause site (r refl), tt)
  told_if false cause site r = tt

  pub told_of : (cause : Option ConfCause) (site : List (List ℕ)) → At site → PathsLead t Form (fault_if_some cause site)
  told_of None site r = tt
  told_of (Some cause) site r = (path cause site r, tt)

  pub each : {A : Type 0} (f : A → List ConfFault) (xs : List A) → ((x : A) → IsIn xs x → PathsLead t Form (f x)) → PathsLead t Form (flat_map f xs)
  each f xs h = each_of (PathLeads t Form) f xs h

  pub both : (xs ys : List ConfFault) → PathsLead t Form xs → PathsLead t Form ys → PathsLead t Form (xs ++ ys)
  both xs ys a b = all_joined (PathLeads t Form) xs ys a b
