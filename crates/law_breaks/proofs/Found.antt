-- Lists of faults whose paths lead to what breaks a rule, and what stands before what in a list.
use Rattle.std.specs.Prelude.{◌≡◌, ℕ, zero, suc, ◌+◌, Bool, true, false, if◌then◌else◌, List, [], ◌∷◌, ◌++◌, map, Option, None, Some, Contains, slice_get}
use Rattle.std.specs.Fmt.{decimal}
use Rattle.std.specs.List.{AllByRecursion, flat_map, enumerate_from, zip}
use Rattle.std.proofs.Common.{inl, inr, refl, sym, ap, ◌∙◌, subst, arith}
use Rattle.std.proofs.lemmas.List.{append_assoc, map-append}
use Rattle.yaml_tree.specs.declared.tree.Tree.{Tree, out-Tree}
use Rattle.conf_shape.specs.declared.raw.OneOrList.{OneOrList}
use Rattle.conf_shape.specs.declared.raw.OneOrList.TheVariants as several
use Rattle.conf_shape.specs.declared.raw.RawDp.{RawDp}
use Rattle.conf_shape.specs.declared.raw.RawPort.{RawPort}
use Rattle.conf_shape.specs.declared.refused.ConfCause.{ConfCause}
use Rattle.conf_shape.specs.declared.refused.ConfFault.{ConfFault}
use Rattle.conf_resolve.specs.declared.ordered.OrderedConf.{OrderedConf}
use Rattle.conf_resolve.specs.Resolved.{to_list, resolved}
use Rattle.conf_rules.specs.Places.{fault, fault_if, fault_if_some, under, nth, each_at, items_at, with_earlier, is_repeat, Interface, interfaces}
use Rattle.law_checks.proofs.KeptLinks.{at, of_interfaces}
use Rattle.law_checks.proofs.Members.{IsIn, all_joined, some_of, of_mapped}
use Rattle.law_documents.specs.Forms.{IsOwn}
use Rattle.law_documents.proofs.Leads.{Reaches, onward, there, of_places}
use Rattle.law_documents.proofs.Told.{each_of}
use Rattle.law_breaks.specs.Found.{PathBreaks, PathsBreak, ToldAs, ByKey, StandsBefore, Repeats, IsItemOf}

-- ---- faults

module _ (t : Tree) (Broken : List (List ℕ) → Tree → Type 0) where
  pub told_if : (test : Bool) (cause : ConfCause) (site : List (List ℕ)) → (test ≡ true → Reaches t site (Broken site)) → PathsBreak t (ToldAs cause Broken) (fault_if test cause site)
  told_if true cause site r = let f = r refl in ((site, refl, f.0, f.1, (refl, f.2)), tt)
  told_if false cause site r = tt

module _ (t : Tree) (Broken : ConfCause → List (List ℕ) → Tree → Type 0) where
  pub found : (cause : ConfCause) (site : List (List ℕ)) → Reaches t site (Broken cause site) → PathBreaks t Broken (fault cause site)
  found cause site r = (site, refl, r.0, r.1, r.2)

  pub found_if : (test : Bool) (cause : ConfCause) (site : List (List ℕ)) → (test ≡ true → Reaches t site (Broken cause site)) → PathsBreak t Broken (fault_if test cause site)
  found_if true cause site r = (found cause site (r refl), tt)
  found_if false cause site r = tt

  pub found_of : (cause : Option ConfCause) (site : List (List ℕ)) → ((c : ConfCause) → cause ≡ Some c → Reaches t site (Broken c site)) → PathsBreak t Broken (fault_if_some cause site)
  found_of None site r = tt
  found_of (Some cause) site r = (found cause site (r cause refl), tt)

  pub each : {A : Type 0} (f : A → List ConfFault) (xs : List A) → ((x : A) → IsIn xs x → PathsBreak t Broken (f x)) → PathsBreak t Broken (flat_map f xs)
  each f xs h = each_of (PathBreaks t Broken) f xs h

  pub both : (xs ys : List ConfFault) → PathsBreak t Broken xs → PathsBreak t Broken ys → PathsBreak t Broken (xs ++ ys)
  both xs ys a b = all_joined (PathBreaks t Broken) xs ys a b

-- what stands under a key of a part, where it is given, and else the part
pub by_key : (t : Tree) (site : List (List ℕ)) (has : Bool) (name : List ℕ) (Value Part : Tree → Type 0) → Reaches t site Part → ((u : Tree) → Part u → IsOwn (out-Tree u)) → ((u : Tree) → Part u → has ≡ true → Reaches u (name ∷ []) Value)
    → Reaches t (if has then under site name else site) (ByKey has Value)
by_key t site true name Value Part r own key = onward t site Part (name ∷ []) (ByKey true Value) r (λ u p. key u p refl)
by_key t site false name Value Part r own key = there t site Part (ByKey false Value) r own

-- ---- members

pub contains : {A : Type 0} (xs : List A) (x : A) → IsIn xs x → Contains xs x
contains [] x i = absurd i
contains (y ∷ ys) x (inl e) = (zero, omega arith, e)
contains (y ∷ ys) x (inr i) = let c = contains ys x i in (suc c.0, omega (arith, c.1), c.2)

pub some_is : {A : Type 0} (o : Option A) (x : A) → IsIn (to_list o) x → o ≡ Some x
some_is None x i = absurd i
some_is (Some y) x (inl e) = ap Some e
some_is (Some y) x (inr i) = absurd i

-- a list around one of it
abbrev pub Around : {A : Type 0} → List A → A → Type 0
Around {A} xs x = (before : List A) × (behind : List A) × (xs ≡ before ++ x ∷ behind)

around : {A : Type 0} (xs : List A) (x : A) → IsIn xs x → Around xs x
around [] x i = absurd i
around (y ∷ ys) x (inl e) = ([], ys, ap (λ z. z ∷ ys) e)
around (y ∷ ys) x (inr i) = let m = around ys x i in (y ∷ m.0, m.1, ap (λ l. y ∷ l) m.2)

-- ---- what stands before

-- a list is what stands before an item of it, the item, and the rest
pub split : {A : Type 0} (earlier xs : List A) (item : List A × A) → IsIn (with_earlier earlier xs) item → (rest : List A) × (earlier ++ xs ≡ item.0 ++ item.1 ∷ rest)
split earlier [] item i = absurd i
split {A = A} earlier (x ∷ xs) item (inl e) = (xs, ap (λ (i : List A × A). i.0 ++ i.1 ∷ xs) e)
split earlier (x ∷ xs) item (inr i) = let m = split (earlier ++ x ∷ []) xs item i in (m.0, sym (append_assoc earlier (x ∷ []) xs) ∙ m.1)

-- the same of a list that is made of another, each with what it is made of
pub split_zip : {A B : Type 0} (f : A → B) (earlier xs : List A) (z : A × (List B × B)) → IsIn (zip xs (with_earlier (map f earlier) (map f xs))) z
    → (front : List A) × (rest : List A) × (earlier ++ xs ≡ front ++ z.0 ∷ rest) × (map f front ≡ z.1.0)
split_zip f earlier [] z i = absurd i
split_zip {A = A} {B = B} f earlier (x ∷ xs) z (inl e) = (earlier, xs, ap (λ (z : A × (List B × B)). earlier ++ z.0 ∷ xs) e, ap (λ (z : A × (List B × B)). z.1.0) e)
split_zip {B = B} f earlier (x ∷ xs) z (inr i) =
    let m = split_zip f (earlier ++ x ∷ []) xs z (subst (λ (l : List B). IsIn (zip xs (with_earlier l (map f xs))) z) (sym (map-append f earlier (x ∷ []))) i) in
    (m.0, m.1, sym (append_assoc earlier (x ∷ []) xs) ∙ m.2, m.3)

pub before_it : {A : Type 0} (xs before rest : List A) (x y : A) → xs ≡ before ++ y ∷ rest → IsIn before x → StandsBefore xs x y
before_it xs before rest x y is i =
    let m = around before x i in
    record { before = m.0; between = m.1; behind = rest; list = is ∙ ap (λ l. l ++ y ∷ rest) m.2 ∙ append_assoc m.0 (x ∷ m.1) (y ∷ rest) }

-- a repeat is one of an earlier item
pub repeats : {A : Type 0} (agrees : A → A → Bool) (Agree : A → A → Type 0) (Here : A → Type 0) → ((a b : A) → agrees a b ≡ true → Agree a b)
    → (earlier xs : List A) (item : List A × A) → IsIn (with_earlier earlier xs) item → is_repeat agrees item ≡ true → Here item.1 → Repeats (earlier ++ xs) Agree Here
repeats agrees Agree Here meant earlier xs item i is here =
    let m = split earlier xs item i in
    let s = some_of (λ x. agrees x item.1) item.0 is in
    record { it = item.1; here = here; other = s.0; earlier = before_it (earlier ++ xs) item.0 m.0 s.0 item.1 m.1 s.1; agree = meant s.0 item.1 s.2 }

-- ---- items at their places

numbered : {A : Type 0} (n : ℕ) (xs : List A) (place : ℕ × A) → IsIn (enumerate_from n xs) place → (k : ℕ) × (slice_get xs k ≡ Some place.1) × (place.0 ≡ n + k)
numbered n [] place i = absurd i
numbered {A = A} n (x ∷ xs) place (inl e) = (zero, ap (λ (p : ℕ × A). Some p.1) e, ap (λ (p : ℕ × A). p.0) (sym e) ∙ nothing n)
  where
    nothing : (n : ℕ) → n ≡ n + 0
    nothing n = omega arith
numbered n (x ∷ xs) place (inr i) = let m = numbered (n + 1) xs place i in (suc m.0, m.1, omega (arith, m.2))

-- an item of a list stands there by its number
pub item_of : {A : Type 0} (site : List (List ℕ)) (xs : List A) (item : List (List ℕ) × A) → IsIn (each_at site xs) item → IsItemOf site xs item.0 item.1
item_of {A = A} site xs item i =
    let m = of_places site xs item i in
    let n = numbered 0 xs m.0 m.1 in
    let same : m.0.0 ≡ n.0 = omega (arith, n.2) in
    record {
      number = n.0;
      item = n.1 ∙ ap (λ (i : List (List ℕ) × A). Some i.1) m.2;
      path = ap (λ (i : List (List ℕ) × A). i.0) (sym m.2) ∙ ap (nth site) same;
    }

-- ---- places below

-- the steps lead on from the place
abbrev pub IsBelow : List (List ℕ) → List (List ℕ) → Type 0
IsBelow site steps = (below : List (List ℕ)) × (steps ≡ site ++ below)

pub below_below : (site mid steps : List (List ℕ)) → IsBelow site mid → IsBelow mid steps → IsBelow site steps
below_below site mid steps a b = (a.0 ++ b.0, b.1 ∙ ap (λ l. l ++ b.0) a.1 ∙ append_assoc site a.0 b.0)

pub itself : (site : List (List ℕ)) → IsBelow site site
itself site = ([], nothing site)
  where
    nothing : (l : List (List ℕ)) → l ≡ l ++ []
    nothing [] = refl
    nothing (x ∷ xs) = ap (λ l. x ∷ l) (nothing xs)

pub each_below : {A : Type 0} (site : List (List ℕ)) (xs : List A) (item : List (List ℕ) × A) → IsIn (each_at site xs) item → IsBelow site item.0
each_below site xs item i = let m = item_of site xs item i in (decimal m.number ∷ [], m.path)

pub option_below : {A : Type 0} (site : List (List ℕ)) (o : Option A) (item : List (List ℕ) × A) → IsIn (map (λ x. (site, x)) (to_list o)) item → IsBelow site item.0
option_below {A = A} site o item i = let m = of_mapped (λ (x : A). (site, x)) (to_list o) item i in subst (λ (item : List (List ℕ) × A). IsBelow site item.0) m.2 (itself site)

pub several_below : {A : Type 0} (site : List (List ℕ)) (o : OneOrList A) (item : List (List ℕ) × A) → IsIn (items_at site o) item → IsBelow site item.0
several_below {A = A} site (several.One x) item (inl e) = subst (λ (item : List (List ℕ) × A). IsBelow site item.0) e (itself site)
several_below site (several.One x) item (inr i) = absurd i
several_below site (several.List xs) item i = each_below site xs item i

-- ---- interfaces

-- what holds of each interface as it is written holds of all
pub each_interface : (P : ConfFault → Type 0) (o : OrderedConf) (f : Interface → List ConfFault) → ((d : RawDp) → IsIn o.dps d → (p : RawPort) → IsIn d.ports p → AllByRecursion P (f (at o d p))) → AllByRecursion P (flat_map f (interfaces o (resolved o)))
each_interface P o f h = each_of P f (interfaces o (resolved o)) (λ i ci.
    let w = of_interfaces o i ci in
    subst (λ i. AllByRecursion P (f i)) w.4 (h w.0 w.1 w.2 w.3))
