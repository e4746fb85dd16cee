-- Flow entries one behind the other, and the first fault in them.
use Rattle.std.proofs.Common.{◌≡◌, ℕ, ◌<◌, List, [], ◌∷◌, ◌++◌, length, Option, Some, None, refl, sym, ap, ◌∙◌, subst, arith, append_assoc, length-append}
use Rattle.of_wire.specs.declared.fault.PartCause.{PartCause}
use Rattle.flow_stats.specs.declared.flow.Flow.{Flow}
use Rattle.flow_stats.specs.Parts.{SpellsFlow, SpellsFlows, flow_fault}
use Rattle.flow_stats.proofs.Entries.{front_sound, some_bytes, flow_alone}

pub one_behind : (before flows : List Flow) (x : Flow) (front item : List ℕ) → SpellsFlows before flows front → SpellsFlow x item → SpellsFlows before (flows ++ x ∷ []) (front ++ item)
one_behind before [] x front item j s = record { first = item; rest = []; whole = ap (λ l. l ++ item) j ∙ sym (none_behind item); in_front = s; behind = refl }
  where
    none_behind : (xs : List ℕ) → xs ++ [] ≡ xs
    none_behind [] = refl
    none_behind (y ∷ ys) = ap (λ l. y ∷ l) (none_behind ys)
one_behind before (y ∷ ys) x front item j s =
    record {
      first = j.first;
      rest = j.rest ++ item;
      whole = ap (λ l. l ++ item) j.whole ∙ append_assoc j.first j.rest item;
      in_front = j.in_front;
      behind = one_behind (before ++ y ∷ []) ys x j.rest item j.behind s;
    }

-- a fault stands where no flow entry does
not_none : (o : Option PartCause) (cause : PartCause) → o ≡ Some cause → o ≡ None → ⊥
not_none o cause p q = let both : Some cause ≡ None = sym p ∙ q in cc

begins_none : (before all : List Flow) (rest : List ℕ) (cause : PartCause) → SpellsFlows before all rest → 0 < length rest → flow_fault rest ≡ Some cause → ⊥
begins_none before [] rest cause j some fault = omega (arith, some, ap length j)
begins_none before (y ∷ ys) rest cause j some fault =
    not_none (flow_fault rest) cause fault (ap flow_fault j.whole ∙ front_sound y j.first j.rest j.in_front)

pub never_both : (before others flows all : List Flow) (front rest bytes : List ℕ) (cause : PartCause) → bytes ≡ front ++ rest → SpellsFlows before flows front → SpellsFlows others all bytes
    → 0 < length rest → flow_fault rest ≡ Some cause → ⊥
never_both before others [] all front rest bytes cause e j k some fault =
    begins_none others all rest cause (subst (SpellsFlows others all) (e ∙ ap (λ l. l ++ rest) j) k) some fault
never_both before others (x ∷ xs) [] front rest bytes cause e j k some fault =
    omega (arith, some, ap length e, ap length k, length-append front rest)
never_both before others (x ∷ xs) (y ∷ ys) front rest bytes cause e j k some fault =
    let here : j.first ++ (j.rest ++ rest) ≡ k.first ++ k.rest = sym (append_assoc j.first j.rest rest) ∙ ap (λ l. l ++ rest) (sym j.whole) ∙ sym e ∙ k.whole in
    let same = flow_alone x y j.first k.first (j.rest ++ rest) k.rest j.in_front k.in_front here in
    never_both (before ++ x ∷ []) (others ++ y ∷ []) xs ys j.rest rest k.rest cause (sym same.rest) j.behind k.behind some fault

pub one_list : (before others xs ys : List Flow) (bytes : List ℕ) → SpellsFlows before xs bytes → SpellsFlows others ys bytes → xs ≡ ys
one_list before others [] [] bytes j k = refl
one_list before others [] (y ∷ ys) bytes j k = absurd (omega (arith, ap length j, ap length k.whole, length-append k.first k.rest, some_bytes y k.first k.in_front))
one_list before others (x ∷ xs) [] bytes j k = absurd (omega (arith, ap length k, ap length j.whole, length-append j.first j.rest, some_bytes x j.first j.in_front))
one_list before others (x ∷ xs) (y ∷ ys) bytes j k =
    let same = flow_alone x y j.first k.first j.rest k.rest j.in_front k.in_front (sym j.whole ∙ k.whole) in
    let more = one_list (before ++ x ∷ []) (others ++ y ∷ []) xs ys j.rest j.behind (subst (SpellsFlows (others ++ y ∷ []) ys) (sym same.rest) k.behind) in
    ap (λ z. z ∷ xs) same.flow ∙ ap (λ zs. y ∷ zs) more

-- two faults are one
pub record OnePlace (front other : List ℕ) (a b : PartCause) : Type 0 where
  pub place : length front ≡ length other
  pub cause : a ≡ b

same_cause : (o : Option PartCause) (a b : PartCause) → o ≡ Some a → o ≡ Some b → a ≡ b
same_cause o a b p q = let both : Some a ≡ Some b = sym p ∙ q in cc

pub one_fault : (before others xs ys : List Flow) (front other rest left : List ℕ) (a b : PartCause) → SpellsFlows before xs front → SpellsFlows others ys other → front ++ rest ≡ other ++ left
    → 0 < length rest → 0 < length left → flow_fault rest ≡ Some a → flow_fault left ≡ Some b → OnePlace front other a b
one_fault before others [] [] front other rest left a b j k e some more p q =
    let same : rest ≡ left = ap (λ l. l ++ rest) (sym j) ∙ e ∙ ap (λ l. l ++ left) k in
    record { place = ap length (j ∙ sym k); cause = same_cause (flow_fault rest) a b p (ap flow_fault same ∙ q) }
one_fault before others [] (y ∷ ys) front other rest left a b j k e some more p q =
    let here : rest ≡ k.first ++ (k.rest ++ left) = ap (λ l. l ++ rest) (sym j) ∙ e ∙ ap (λ l. l ++ left) k.whole ∙ append_assoc k.first k.rest left in
    absurd (not_none (flow_fault rest) a p (ap flow_fault here ∙ front_sound y k.first (k.rest ++ left) k.in_front))
one_fault before others (x ∷ xs) [] front other rest left a b j k e some more p q =
    let here : left ≡ j.first ++ (j.rest ++ rest) = ap (λ l. l ++ left) (sym k) ∙ sym e ∙ ap (λ l. l ++ rest) j.whole ∙ append_assoc j.first j.rest rest in
    absurd (not_none (flow_fault left) b q (ap flow_fault here ∙ front_sound x j.first (j.rest ++ rest) j.in_front))
one_fault before others (x ∷ xs) (y ∷ ys) front other rest left a b j k e some more p q =
    let here : j.first ++ (j.rest ++ rest) ≡ k.first ++ (k.rest ++ left) =
    sym (append_assoc j.first j.rest rest) ∙ ap (λ l. l ++ rest) (sym j.whole) ∙ e ∙ ap (λ l. l ++ left) k.whole ∙ append_assoc k.first k.rest left in
    let same = flow_alone x y j.first k.first (j.rest ++ rest) (k.rest ++ left) j.in_front k.in_front here in
    let one = one_fault (before ++ x ∷ []) (others ++ y ∷ []) xs ys j.rest k.rest rest left a b j.behind k.behind same.rest some more p q in
    let fronts : length j.first ≡ length k.first = ap length same.front in
    record { place = omega (arith, ap length j.whole, ap length k.whole, length-append j.first j.rest, length-append k.first k.rest, fronts, one.place); cause = one.cause }
