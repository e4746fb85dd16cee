-- Actions and entries by their parts.
use Rattle.std.specs.Prelude.{◌≡◌, ℕ, ◌==◌, ◌&&◌, Bool, true, false, List, [], ◌∷◌, map, Option, Some, None, if◌then◌else◌}
use Rattle.std.specs.List.{AllByRecursion}
use Rattle.std.proofs.Common.{refl, arith, eqb-true}
use Rattle.net_base.specs.Numbers.{IsPortNo}
use Rattle.of_match.specs.declared.action.TheConstants.{CONTROLLER}
use Rattle.of_match.specs.declared.action.Action.{Action}
use Rattle.conf_types.specs.declared.datapath.Dp.{Dp}
use Rattle.conf_types.specs.declared.datapath.Port.{Port}
use Rattle.conf_types.specs.Membership.{is_native_in, is_mirror_of}
use Rattle.plan_base.specs.declared.table.Table.{Table}
use Rattle.plan_base.specs.Actions.{out, to_controller, to_ingress, pop_tag}
use Rattle.plan_base.specs.Entries.{leads_to}
use Rattle.plan_base.specs.Sending.{mirrored, copied, sent}
use Rattle.plan_base.proofs.Each.{all_from, all_filter}
use Rattle.law_runs.specs.Members.{all_joined, all_mapped}
use Rattle.law_entries.specs.Whole.{IsWhole, DoesWhole}

pub all_when : {A : Type 0} (P : A → Type 0) (b : Bool) (xs : List A) → AllByRecursion P xs → AllByRecursion P (if b then xs else [])
all_when P true xs all = all
all_when P false xs all = tt

-- ---- actions

-- the number of an interface isn't the controller's
pub out_whole : (n : ℕ) → IsPortNo n → IsWhole (out n)
out_whole n is = by (n == CONTROLLER) refl
  where
    by : (b : Bool) → (n == CONTROLLER) ≡ b → ◌≡◌ {A = ℕ} 0 (if b then 0xffff else 0)
    by true e = let same = eqb-true n CONTROLLER e in let most = is.most in absurd (omega (arith, same, most))
    by false e = refl

pub to_controller_whole : IsWhole to_controller
to_controller_whole = refl

pub to_ingress_whole : IsWhole to_ingress
to_ingress_whole = refl

-- by interfaces
pub outs_whole : (ns : List ℕ) → AllByRecursion IsPortNo ns → AllByRecursion IsWhole (map out ns)
outs_whole ns all = all_mapped IsWhole out ns (all_from {P = IsPortNo} {Q = λ n. IsWhole (out n)} out_whole ns all)

module _ (d : Dp) (numbers : AllByRecursion (λ (p : Port). IsPortNo p.no) d.ports) where
  pub mirrored_whole : (number : ℕ) → AllByRecursion IsWhole (mirrored d number)
  mirrored_whole number =
      all_mapped IsWhole (λ (q : Port). out q.no) _
      (all_from {P = λ (p : Port). IsPortNo p.no} {Q = λ (p : Port). IsWhole (out p.no)} (λ p is. out_whole p.no is) _
      (all_filter (λ (p : Port). IsPortNo p.no) (λ m. m.enabled && is_mirror_of m number) d.ports numbers))

  pub copied_whole : (number : ℕ) (by : Action) → IsWhole by → AllByRecursion IsWhole (copied d number by)
  copied_whole number by whole = (whole, mirrored_whole number)

  pub sent_whole : (vid : ℕ) (q : Port) (by : Action) → IsWhole by → AllByRecursion IsWhole (sent d vid q by)
  sent_whole vid q by whole =
      all_joined IsWhole (if is_native_in q vid then pop_tag ∷ [] else []) (copied d q.no by) (all_when IsWhole (is_native_in q vid) (pop_tag ∷ []) (tt, tt)) (copied_whole q.no by whole)

-- ---- entries

pub led : (actions : List Action) (next : Option Table) → AllByRecursion IsWhole actions → AllByRecursion DoesWhole (leads_to actions next)
led [] None all = tt
led [] (Some table) all = (tt, tt)
led (a ∷ more) None all = (all, tt)
led (a ∷ more) (Some table) all = (all, (tt, tt))
