-- Texts and numbers with no fault.
use Rattle.std.proofs.Common.{◌≡◌, ℕ, ℤ, pos, negsuc, ◌-◌, ◌^◌, ◌<◌, ◌≤◌, ◌&&◌, Bool, true, false, List, [], length, Option, Some, None, Result, Ok, Err, refl, sym, ap, ◌∙◌, subst, arith, leb-true, le-leb}
use Rattle.std.specs.Prelude.{nat_le, IfSome, unwrap_or, option_and_then, if◌then◌else◌}
use Rattle.std.specs.Fmt.{decimal, signed_decimal}
use Rattle.std.proofs.lemmas.Bool.{and_parts}
use Rattle.std.proofs.lemmas.Fmt.{decimal_nonempty, length-decimal-le}
use Rattle.yaml_tree.specs.declared.tree.Tree.{Tree, out-Tree}
use Rattle.yaml_tree.specs.declared.tree.Key.{Key}
use Rattle.yaml_tree.specs.declared.tree.Key.TheVariants as key
use Rattle.yaml_tree.specs.declared.tree.Pair.{Pair}
use Rattle.yaml_tree.specs.declared.tree.Tree.TheOpen.{Tree-F}
use Rattle.yaml_tree.specs.declared.tree.Tree.TheOpen as tree
use Rattle.conf_types.specs.Lists.{IsLabel}
use Rattle.conf_shape.specs.declared.refused.ConfCause.{ConfCause}
use Rattle.conf_shape.specs.declared.refused.ConfCause.TheVariants.{WrongType, OutOfRange}
use Rattle.conf_shape.specs.declared.kinds.Kind.{Kind}
use Rattle.conf_shape.specs.declared.kinds.Kind.TheVariants.{One, Map}
use Rattle.conf_shape.specs.declared.kinds.Scalar.{Scalar}
use Rattle.conf_shape.specs.declared.kinds.Scalar.TheVariants.{Number, Name}
use Rattle.conf_shape.specs.declared.kinds.MapKind.{MapKind}
use Rattle.conf_shape.specs.Scalars.{within, if_within, is_name, text_fault}
use Rattle.conf_shape.specs.Sections.{key_text, if_number, number_or_name, as_map, numbered}
use Rattle.conf_shape.specs.Faults.{faults_of}
use Rattle.conf_shape.specs.Reads.{number_in, text_in, number_of, text_of}
use Rattle.conf_shape.specs.Written.{IsTextAlone}
use Rattle.law_checks.proofs.Right.{IsFine, fine}

-- ---- numbers

pub within_bounds : (low high : ℕ) (n : ℤ) → IfSome (within low high n) (λ k. (low ≤ k) × (k ≤ high))
within_bounds low high (negsuc n) = tt
within_bounds low high (pos n) = by (nat_le low n && nat_le n high) refl
  where
    by : (is : Bool) → (nat_le low n && nat_le n high) ≡ is → IfSome (if is then Some n else None) (λ k. (low ≤ k) × (k ≤ high))
    by true is = let both = and_parts (nat_le low n) (nat_le n high) is in (leb-true low n both.0, leb-true n high both.1)
    by false is = tt

pub within_again : (low high k : ℕ) → low ≤ k → k ≤ high → within low high (pos k) ≡ Some k
within_again low high k least most = rw (le-leb low k least, le-leb k high most) refl

pub within_is : (low high : ℕ) (n : ℤ) → if_within (within low high n) ≡ None → (k : ℕ) × (n ≡ pos k) × (low ≤ k) × (k ≤ high)
within_is low high (negsuc n) e = absurd cc
within_is low high (pos n) e = by (nat_le low n && nat_le n high) refl e
  where
    by : (is : Bool) → (nat_le low n && nat_le n high) ≡ is → if_within (if is then Some n else None) ≡ None → (k : ℕ) × (pos n ≡ pos k) × (low ≤ k) × (k ≤ high)
    by true is e = let both = and_parts (nat_le low n) (nat_le n high) is in (n, refl, leb-true low n both.0, leb-true n high both.1)
    by false is e = absurd cc

pub number_right : (low high : ℕ) (t : Tree) → faults_of t (One (Number low high)) ≡ [] → (k : ℕ) × (out-Tree t ≡ tree.Int (pos k)) × (low ≤ k) × (k ≤ high)
number_right low high t h = by (out-Tree t) (fine (One (Number low high)) t h)
  where
    by : (x : Tree-F Tree Pair) → IsFine (One (Number low high)) x → (k : ℕ) × (x ≡ tree.Int (pos k)) × (low ≤ k) × (k ≤ high)
    by (tree.Int n) f = let is = within_is low high n f in (is.0, ap tree.Int is.1, is.2, is.3)
    by tree.Null f = absurd cc
    by (tree.Bool flag) f = absurd cc
    by (tree.Text text) f = absurd cc
    by (tree.List items) f = absurd cc
    by (tree.Map pairs) f = absurd cc

-- a number that may be there, in the range of its key, where another stands for none
pub number_or : (low high other : ℕ) → high < 2 ^ 32 → low ≤ other → other ≤ high → (o : Option Tree) → IfSome o (λ t. faults_of t (One (Number low high)) ≡ [])
    → (low ≤ unwrap_or (option_and_then (number_of 0 (2 ^ 32 - 1)) o) other) × (unwrap_or (option_and_then (number_of 0 (2 ^ 32 - 1)) o) other ≤ high)
number_or low high other small least most None h = (least, most)
number_or low high other small least most (Some t) h =
    let r = number_right low high t h in
    let fits : r.0 ≤ 2 ^ 32 - 1 = omega (arith, r.3) in
    let read : number_of 0 (2 ^ 32 - 1) t ≡ Some r.0 = ap (number_in 0 (2 ^ 32 - 1)) r.1 ∙ within_again 0 (2 ^ 32 - 1) r.0 (omega arith) fits in
    subst (λ x. (low ≤ unwrap_or x other) × (unwrap_or x other ≤ high)) (sym read) (r.2, r.3)

-- whatever stands there, what is read within a range is in it
pub own_range : (low high other : ℕ) → low ≤ other → other ≤ high → (o : Option ℕ) → IfSome o (λ k. (low ≤ k) × (k ≤ high)) → (low ≤ unwrap_or o other) × (unwrap_or o other ≤ high)
own_range low high other least most None h = (least, most)
own_range low high other least most (Some k) h = h

pub number_bounds : (low high : ℕ) (t : Tree) → IfSome (number_of low high t) (λ k. (low ≤ k) × (k ≤ high))
number_bounds low high t = by (out-Tree t)
  where
    by : (x : Tree-F Tree Pair) → IfSome (number_in low high x) (λ k. (low ≤ k) × (k ≤ high))
    by (tree.Int n) = within_bounds low high n
    by tree.Null = tt
    by (tree.Bool flag) = tt
    by (tree.Text text) = tt
    by (tree.List items) = tt
    by (tree.Map pairs) = tt

-- ---- texts

-- where neither a flag nor a number is right
pub text_right : (s : Scalar) → IsTextAlone s → (t : Tree) → faults_of t (One s) ≡ [] → (text : List ℕ) × (out-Tree t ≡ tree.Text text) × (text_fault s text ≡ None)
text_right s alone t h = by (out-Tree t) (fine (One s) t h)
  where
    by : (x : Tree-F Tree Pair) → IsFine (One s) x → (text : List ℕ) × (x ≡ tree.Text text) × (text_fault s text ≡ None)
    by (tree.Text text) f = (text, refl, f)
    by (tree.Bool flag) f = let no : Some WrongType ≡ None = sym alone.no_flag ∙ f in absurd cc
    by (tree.Int n) f = let no : Some WrongType ≡ None = sym (alone.no_number n) ∙ f in absurd cc
    by tree.Null f = absurd cc
    by (tree.List items) f = absurd cc
    by (tree.Map pairs) f = absurd cc

-- what is right of a text that may be there, and of another that stands for none
pub text_or : (s : Scalar) (P : List ℕ → Type 0) → IsTextAlone s → ((text : List ℕ) → text_fault s text ≡ None → P text) → (other : List ℕ) → P other → (o : Option Tree) → IfSome o (λ t. faults_of t (One s) ≡ []) → P (unwrap_or (option_and_then text_of o) other)
text_or s P alone each other that None h = that
text_or s P alone each other that (Some t) h = let r = text_right s alone t h in subst (λ x. P (unwrap_or (text_in x) other)) (sym r.1) (each r.0 r.2)

-- ---- names

label_is : (text : List ℕ) → is_name text ≡ true → IsLabel text
label_is text e = let both = and_parts (nat_le 1 (length text)) (nat_le (length text) 255) e in record { least = leb-true 1 (length text) both.0; most = leb-true (length text) 255 both.1 }

name_right : (text : List ℕ) → text_fault Name text ≡ None → IsLabel text
name_right text e = by (is_name text) refl e
  where
    by : (is : Bool) → is_name text ≡ is → (if is then None else Some OutOfRange) ≡ None → IsLabel text
    by true is e = label_is text is
    by false is e = absurd cc

-- a name that may be there
pub name_or : (other : List ℕ) → IsLabel other → (o : Option Tree) → IfSome o (λ t. faults_of t (One Name) ≡ []) → IsLabel (unwrap_or (option_and_then text_of o) other)
name_or other that o h = text_or Name IsLabel (record { no_flag = refl; no_number = λ n. refl }) name_right other that o h

-- the name of a datapath
pub named_right : (text : List ℕ) (kind : Kind) (other : ConfCause) (found : Kind) → (if is_name text then Ok kind else Err other) ≡ Ok found → (kind ≡ found) × IsLabel text
named_right text kind other found e = by (is_name text) refl e
  where
    by : (is : Bool) → is_name text ≡ is → (if is then Ok kind else Err other) ≡ Ok found → (kind ≡ found) × IsLabel text
    by true is e = (cc, label_is text is)
    by false is e = absurd cc

-- the number or name of an interface or a VLAN
number_label : (low high : ℕ) (n : ℤ) → high < 10 ^ 10 → (number : Option ℕ) → if_number (within low high n) ≡ Ok number → IsLabel (signed_decimal n)
number_label low high n small number e = by n (within low high n) refl (within_bounds low high n) e
  where
    by : (n : ℤ) (o : Option ℕ) → within low high n ≡ o → IfSome o (λ k. (low ≤ k) × (k ≤ high)) → if_number o ≡ Ok number → IsLabel (signed_decimal n)
    by n None w b e = absurd cc
    by (negsuc n) (Some k) w b e = absurd cc
    by (pos n) (Some k) w b e = digits (nat_le low n && nat_le n high) w
      where
        digits : (is : Bool) → (if is then Some n else None) ≡ Some k → IsLabel (decimal n)
        digits false w = absurd cc
        digits true w =
            let same : n ≡ k = cc in
            let below : n < 10 ^ 10 = omega (arith, same, b.1) in
            let least = decimal_nonempty n (omega arith) in
            let most = length-decimal-le 10 n (omega arith) below (omega arith) in
            record { least = omega (arith, least); most = omega (arith, most) }

key_label : (low high : ℕ) (k : Key) → high < 10 ^ 10 → (number : Option ℕ) → number_or_name low high k ≡ Ok number → IsLabel (key_text k)
key_label low high (key.Int n) small number e = number_label low high n small number e
key_label low high (key.Text text) small number e = by (is_name text) refl e
  where
    by : (is : Bool) → is_name text ≡ is → (if is then Ok None else Err OutOfRange) ≡ Ok number → IsLabel text
    by true is e = label_is text is
    by false is e = absurd cc

pub numbered_right : (low high : ℕ) (inner : Option ℕ → MapKind) (k : Key) (kind : Kind) → high < 10 ^ 10 → numbered low high inner k ≡ Ok kind → (number : Option ℕ) × (kind ≡ Map (inner number)) × IsLabel (key_text k)
numbered_right low high inner k kind small e = by (number_or_name low high k) refl e
  where
    by : (found : Result (Option ℕ) ConfCause) → number_or_name low high k ≡ found → as_map inner found ≡ Ok kind → (number : Option ℕ) × (kind ≡ Map (inner number)) × IsLabel (key_text k)
    by (Err cause) is e = absurd cc
    by (Ok number) is e = (number, cc, key_label low high k small number is)
