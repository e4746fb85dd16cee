-- What a header at the front of the bytes that came tells of them.
use Rattle.std.proofs.Common.{◌≡◌, ℕ, ◌+◌, ◌≤◌, Bool, true, false, cond, not, ◌||◌, List, length, take, drop, Option, Some, None, Result, Ok, Err, refl, ap, ◌∙◌, subst, arith, length-drop}
use Rattle.std.specs.Prelude.{nat_lt}
use Rattle.std.proofs.lemmas.Bool.Decides.{nat_tests}
use Rattle.std.proofs.lemmas.List.{length-take-le}
use Rattle.bgp_messages.specs.declared.kind.Kind.{Kind}
use Rattle.bgp_messages.specs.declared.fault.Fault.{Fault}
use Rattle.bgp_messages.specs.declared.fault.Fault.TheVariants.{ConnectionNotSynchronized, BadMessageLength}
use Rattle.bgp_messages.specs.declared.head.Head.{Head}
use Rattle.bgp_messages.specs.declared.head.Front.{Front}
use Rattle.bgp_messages.specs.declared.head.Front.TheVariants.{NotYet, Whole}
use Rattle.bgp_messages.specs.Kinds.{is_length}
use Rattle.bgp_messages.specs.Heads.{is_marked, length_in, kind_in, typed_head, head_of, front_with, front_of}

-- a message of this type may have so many bytes, and they are there
pub record IsWhole (head : Head) (there : ℕ) : Type 0 where
  pub header : 19 ≤ head.len
  pub right : is_length head.kind head.len ≡ true
  pub within : head.len ≤ there

pub typed : (len : ℕ) (kind : Option Kind) (head : Head) → typed_head len kind ≡ Ok head → (head.len ≡ len) × (is_length head.kind head.len ≡ true)
typed len None head e = absurd (cc)
typed len (Some kind) head e = by (is_length kind len) refl e
  where
    by : (b : Bool) → is_length kind len ≡ b → ◌≡◌ {A = Result Head Fault} (cond b (Ok (record { kind = kind; len = len })) (Err BadMessageLength)) (Ok head) → (head.len ≡ len) × (is_length head.kind head.len ≡ true)
    by true q e = let same : head ≡ record { kind = kind; len = len } = cc in (ap (λ (h : Head). h.len) same, ap (λ (h : Head). is_length h.kind h.len) same ∙ q)
    by false q e = absurd (cc)

abbrev Tells : Head → Type 0
Tells head = (19 ≤ head.len) × (is_length head.kind head.len ≡ true)

told : (bytes : List ℕ) (head : Head) → head_of bytes ≡ Ok head → Tells head
told bytes head e = by (is_marked bytes) (nat_lt (length_in bytes) 19) (nat_lt 4096 (length_in bytes)) refl e
  where
    by : (a b c : Bool) → nat_lt (length_in bytes) 19 ≡ b
        → ◌≡◌ {A = Result Head Fault} (cond (not a) (Err ConnectionNotSynchronized) (cond (b || c) (Err BadMessageLength) (typed_head (length_in bytes) (kind_in bytes)))) (Ok head) → Tells head
    by false b c q e = absurd (cc)
    by true true c q e = absurd (cc)
    by true false true q e = absurd (cc)
    by true false false q e =
        let t = typed (length_in bytes) (kind_in bytes) head e in
        let some : 19 ≤ length_in bytes = grind (arith, nat_tests, q) in
        (omega (arith, some, t.0), t.1)

pub whole_is : (bytes : List ℕ) (head : Head) → front_of bytes ≡ Whole head → IsWhole head (length bytes)
whole_is bytes head e = by (nat_lt (length bytes) 19) (head_of bytes) refl e
  where
    with : (h : Head) (b : Bool) → nat_lt (length bytes) h.len ≡ b → head_of bytes ≡ Ok h → ◌≡◌ {A = Front} (cond b NotYet (Whole h)) (Whole head) → IsWhole head (length bytes)
    with h true q r e = absurd (cc)
    with h false q r e =
        let same : h ≡ head = cc in
        let t = told bytes head (r ∙ ap Ok same) in
        let there : h.len ≤ length bytes = grind (arith, nat_tests, q) in
        record { header = t.0; right = t.1; within = subst (λ (x : Head). x.len ≤ length bytes) same there }

    by : (b : Bool) (r : Result Head Fault) → head_of bytes ≡ r → ◌≡◌ {A = Front} (cond b NotYet (front_with r (length bytes))) (Whole head) → IsWhole head (length bytes)
    by true r q e = absurd (cc)
    by false (Err fault) q e = absurd (cc)
    by false (Ok h) q e = with h (nat_lt (length bytes) h.len) refl q e

-- its body has the bytes behind the header
pub body_length : (bytes : List ℕ) (head : Head) → IsWhole head (length bytes) → 19 + length (drop 19 (take head.len bytes)) ≡ head.len
body_length bytes head w = omega (arith, length-drop 19 (take head.len bytes), length-take-le head.len bytes w.within, w.header)
