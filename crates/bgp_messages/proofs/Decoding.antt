-- What bytes are decoded to is what they spell, or the first thing that is wrong with them.
use Rattle.std.proofs.Common.{◌≡◌, ℕ, zero, suc, ◌+◌, ◌*◌, ◌≤◌, ◌<◌, Bool, true, false, cond, ◌&&◌, eqb, List, [], ◌∷◌, length, take, drop, Option, Some, None, Result, Ok, Err, refl, sym, ap, ◌∙◌, subst, arith, length-drop, inl, inr}
use Rattle.std.specs.Prelude.{◌↔◌, nat_lt, nat_le, min, option_map, option_and_then}
use Rattle.std.specs.List.{flat_map}
use Rattle.std.proofs.Math.Nat.{min-eq_right}
use Rattle.std.proofs.lemmas.Bool.{eqb-true}
use Rattle.std.proofs.lemmas.Bool.Decides.{nat_tests}
use Rattle.std.proofs.lemmas.List.{take-append-drop}
use Rattle.net_base.specs.declared.net4.Net4.{Net4}
use Rattle.bgp_messages.specs.declared.attribute.Attribute.{Attribute}
use Rattle.bgp_messages.specs.declared.fault.Fault.{Fault}
use Rattle.bgp_messages.specs.declared.fault.Refused.TheVariants as refused
use Rattle.bgp_messages.specs.declared.kind.Kind.{Kind}
use Rattle.bgp_messages.specs.declared.kind.Kind.TheVariants as kinds
use Rattle.bgp_messages.specs.declared.message.Message.{Message}
use Rattle.bgp_messages.specs.declared.message.Message.TheVariants.{Open, Update}
use Rattle.bgp_messages.specs.declared.message.Open.{Open as Opening}
use Rattle.bgp_messages.specs.declared.message.Update.{Update as Updating}
use Rattle.bgp_messages.specs.Numbers.{number_in}
use Rattle.bgp_messages.specs.Grammar.{Joined, Parsed, Begins, BeginsNone}
use Rattle.bgp_messages.specs.Opens.{Parameter, SpellsParameter, SpellsParameters, parameter_in, are_capabilities, open_in, open_fault, ReadsOpen}
use Rattle.bgp_messages.specs.Paths.{Segment, SpellsSegment, SpellsPath, is_known, segment_in}
use Rattle.bgp_messages.specs.Prefixes.{octets, SpellsPrefix, SpellsPrefixes}
use Rattle.bgp_messages.specs.Attributes.{SpellsAttribute, length_octets, value_of}
use Rattle.bgp_messages.specs.Updates.{withdrawn_len, withdrawn_in, behind_withdrawn, attributes_len, attributes_in, announced_in, Fits, SpellsAttributes, Parts, parts_fault, update_with, SpellsUpdate, UpdateFault}
use Rattle.bgp_messages.specs.Messages.{kind_of_message, SpellsBody, BodyFault, Answers}
use Rattle.bgp_messages.specs.Decoding.{fitting, parts_in, all_parts, parameter_size, first_parameter, attribute_head, attribute_size, first_attribute, first_segment, net_in, first_prefix, unless, parameters_in, open_of, fits, attributes_of, path_in, update_by, update_of, message_by, decoded}
use Rattle.bgp_messages.proofs.Joining.{Alone, behind_one, stops}
use Rattle.bgp_messages.proofs.PrefixLaws.{prefix_alone, prefix_begins, prefix_long, prefix_cut}
use Rattle.bgp_messages.proofs.Paths.{segment_alone, segment_begins, segment_unknown, segment_empty, segment_cut}
use Rattle.bgp_messages.proofs.Attributes.{attribute_alone, attribute_sizes, attribute_cut}
use Rattle.bgp_messages.proofs.Opens.{parameter_alone, parameter_begins, parameter_cut, open_right, open_wrong}
use Rattle.bgp_messages.proofs.MessageLaws.{never_both, one_fault, one_body}

-- ---- parts, one behind the other

-- what is found at the front is what stands there
abbrev pub Finds : {A : Type 0} → (A → List ℕ → Type 0) → List ℕ → Option (A × ℕ) → Type 0
Finds spells bytes (Some found) = Begins (spells found.0) found.1 bytes
Finds spells bytes None = BeginsNone spells bytes

abbrev pub FindsAll : {A : Type 0} → (A → List ℕ → Type 0) → (List ℕ → Option (A × ℕ)) → Type 0
FindsAll spells first = (bytes : List ℕ) → Finds spells bytes (first bytes)

join : {A : Type 0} (spells : A → List ℕ → Type 0) → Alone spells → (bytes : List ℕ) (x : A) (n : ℕ) → 0 < length bytes → Begins (spells x) n bytes
    → (more : Option (List A)) → Parsed (Joined spells) (drop n bytes) more → Parsed (Joined spells) bytes (option_map (λ l. x ∷ l) more)
join spells one bytes x n some b (Some more) j = record { first = take n bytes; rest = drop n bytes; whole = sym (take-append-drop n bytes); in_front = b.spelled; behind = j }
join spells one bytes x n some b None none = λ all j. (let old = behind_one spells one [] bytes x n b all all refl j in none old.0 old.2)

pub parsed_in : {A : Type 0} (spells : A → List ℕ → Type 0) (first : List ℕ → Option (A × ℕ)) → Alone spells → FindsAll spells first
    → (most : ℕ) (bytes : List ℕ) → length bytes ≤ most → Parsed (Joined spells) bytes (parts_in first most bytes)
parsed_in spells first one finds zero [] h = refl
parsed_in spells first one finds zero (b ∷ bytes) h = absurd (omega (arith, h))
parsed_in spells first one finds (suc most) [] h = refl
parsed_in {A = A} spells first one finds (suc most) (b ∷ bytes) h = by (first (b ∷ bytes)) (finds (b ∷ bytes)) (λ rest. parsed_in spells first one finds most rest)
  where
    some : 0 < length (b ∷ bytes)
    some = omega arith

    by : (o : Option (A × ℕ)) → Finds spells (b ∷ bytes) o → ((rest : List ℕ) → length rest ≤ most → Parsed (Joined spells) rest (parts_in first most rest))
        → Parsed (Joined spells) (b ∷ bytes) (option_and_then (λ found. option_map (λ more. found.0 ∷ more) (parts_in first most (drop found.1 (b ∷ bytes)))) o)
    by None none behind = λ all j. stops spells (b ∷ bytes) some none all j
    by (Some found) begins behind =
        let less : length (drop found.1 (b ∷ bytes)) ≤ most = omega (arith, length-drop found.1 (b ∷ bytes), begins.some, h) in
        join spells one (b ∷ bytes) found.0 found.1 some begins (parts_in first most (drop found.1 (b ∷ bytes))) (behind (drop found.1 (b ∷ bytes)) less)

pub parsed_all : {A : Type 0} (spells : A → List ℕ → Type 0) (first : List ℕ → Option (A × ℕ)) → Alone spells → FindsAll spells first
    → (bytes : List ℕ) → Parsed (Joined spells) bytes (all_parts first bytes)
parsed_all spells first one finds bytes = parsed_in spells first one finds (length bytes) bytes (omega arith)

-- ---- what stands at the front

fits_or_cut : {A : Type 0} (spells : A → List ℕ → Type 0) (x : A) (n : ℕ) (bytes : List ℕ) → (n ≤ length bytes → Begins (spells x) n bytes)
    → (length bytes < n → BeginsNone spells bytes) → Finds spells bytes (fitting x n bytes)
fits_or_cut {A = A} spells x n bytes begins none = by (nat_lt (length bytes) n) refl
  where
    by : (b : Bool) → nat_lt (length bytes) n ≡ b → Finds spells bytes (cond b None (Some (x, n)))
    by true e = none (grind (arith, nat_tests, e))
    by false e = begins (grind (arith, nat_tests, e))

pub finds_parameter : FindsAll SpellsParameter first_parameter
finds_parameter bytes =
    fits_or_cut SpellsParameter (parameter_in (parameter_size bytes) bytes) (parameter_size bytes) bytes (λ h. parameter_begins (parameter_size bytes) bytes refl h) (λ h. parameter_cut bytes h)

pub finds_attribute : FindsAll SpellsAttribute first_attribute
finds_attribute bytes =
    let head = attribute_head bytes in
    let n = attribute_size bytes in
    let len = number_in 2 (length_octets (number_in 0 1 bytes)) bytes in
    fits_or_cut SpellsAttribute _ n bytes (λ h. (attribute_sizes head n len bytes refl refl refl h).begins) (λ h. attribute_cut bytes h)

pub finds_segment : FindsAll SpellsSegment first_segment
finds_segment bytes = by (is_known (number_in 0 1 bytes)) (nat_lt 0 (number_in 1 1 bytes)) refl refl
  where
    count : ℕ
    count = number_in 1 1 bytes

    by : (a b : Bool) → is_known (number_in 0 1 bytes) ≡ a → nat_lt 0 (number_in 1 1 bytes) ≡ b
        → Finds SpellsSegment bytes (cond (a && b) (fitting (segment_in (number_in 1 1 bytes) bytes) (2 + 2 * number_in 1 1 bytes) bytes) None)
    by false b e f = segment_unknown bytes e
    by true false e f = segment_empty bytes (grind (arith, nat_tests, f))
    by true true e f =
        let n = number_in 1 1 bytes in
        let some : 1 ≤ n = grind (arith, nat_tests, f) in
        fits_or_cut SpellsSegment (segment_in n bytes) (2 + 2 * n) bytes (λ h. segment_begins n bytes e refl some h) (λ h. segment_cut bytes h)

pub finds_prefix : FindsAll SpellsPrefix first_prefix
finds_prefix bytes = by (nat_lt 32 (number_in 0 1 bytes)) refl
  where
    by : (b : Bool) → nat_lt 32 (number_in 0 1 bytes) ≡ b
        → Finds SpellsPrefix bytes (cond b None (fitting (net_in (number_in 0 1 bytes) (take (1 + octets (number_in 0 1 bytes)) bytes)) (1 + octets (number_in 0 1 bytes)) bytes))
    by true e = prefix_long bytes (grind (arith, nat_tests, e))
    by false e =
        let bits = number_in 0 1 bytes in
        let size = 1 + octets bits in
        let short : bits ≤ 32 = grind (arith, nat_tests, e) in
        let same : bits ≡ min 32 bits = sym (min-eq_right short) in
        fits_or_cut SpellsPrefix (net_in bits (take size bytes)) size bytes
        (λ h. prefix_begins (net_in bits (take size bytes)) size bytes same (ap (λ n. 1 + octets n) same) h refl) (λ h. prefix_cut bytes h)

-- ---- an OPEN

parsed_parameters : (body : List ℕ) → Parsed SpellsParameters body (parameters_in body)
parsed_parameters body = by (eqb (number_in 9 1 body) (length (drop 10 body))) refl
  where
    of_them : number_in 9 1 body ≡ length (drop 10 body) → (o : Option (List Parameter)) → Parsed (Joined SpellsParameter) (drop 10 body) o → Parsed SpellsParameters body o
    of_them len (Some parameters) j = record { len = len; joined = j }
    of_them len None none = λ parameters s. none parameters s.joined

    by : (b : Bool) → eqb (number_in 9 1 body) (length (drop 10 body)) ≡ b → Parsed SpellsParameters body (cond b (all_parts first_parameter (drop 10 body)) None)
    by true e = of_them (eqb-true (number_in 9 1 body) (length (drop 10 body)) e) (all_parts first_parameter (drop 10 body)) (parsed_all SpellsParameter first_parameter parameter_alone finds_parameter (drop 10 body))
    by false e = λ parameters s. (let ne : number_in 9 1 body ≡ length (drop 10 body) → ⊥ = λ q. grind (arith, nat_tests, e, q) in ne s.len)

open_reads : (peer : ℕ) (body : List ℕ) → ReadsOpen peer body (open_of peer body)
open_reads peer body = by (open_fault peer body (are_capabilities (parameters_in body))) refl
  where
    by : (o : Option Fault) → open_fault peer body (are_capabilities (parameters_in body)) ≡ o → ReadsOpen peer body (unless o (open_in body))
    by None e = open_right peer body (are_capabilities (parameters_in body)) (parameters_in body, parsed_parameters body, refl) e
    by (Some fault) e = open_wrong peer body (are_capabilities (parameters_in body)) fault (parameters_in body, parsed_parameters body, refl) e

-- ---- an UPDATE

fits_when : (body : List ℕ) → fits body ≡ true → Fits body
fits_when body e = by (nat_le (withdrawn_len body + 2) (length (drop 2 body))) (nat_le (attributes_len body) (length (drop 2 (behind_withdrawn body)))) refl refl e
  where
    by : (a b : Bool) → nat_le (withdrawn_len body + 2) (length (drop 2 body)) ≡ a → nat_le (attributes_len body) (length (drop 2 (behind_withdrawn body))) ≡ b → (a && b) ≡ true → Fits body
    by true true p q e = record { withdrawn = grind (arith, nat_tests, p); attributes = grind (arith, nat_tests, q) }
    by true false p q e = absurd (cc)
    by false b p q e = absurd (cc)

fits_not : (body : List ℕ) → fits body ≡ false → Fits body → ⊥
fits_not body e f =
    let a : nat_le (withdrawn_len body + 2) (length (drop 2 body)) ≡ true = grind (arith, nat_tests, f.withdrawn) in
    let b : nat_le (attributes_len body) (length (drop 2 (behind_withdrawn body))) ≡ true = grind (arith, nat_tests, f.attributes) in
    let both : false ≡ true = sym e ∙ ap (λ x. x && nat_le (attributes_len body) (length (drop 2 (behind_withdrawn body)))) a ∙ b in
    cc

parsed_attributes : (body : List ℕ) → Parsed SpellsAttributes body (attributes_of body)
parsed_attributes body = by (fits body) refl
  where
    of_them : Fits body → (o : Option (List Attribute)) → Parsed (Joined SpellsAttribute) (attributes_in body) o → Parsed SpellsAttributes body o
    of_them fit (Some attributes) j = record { fits = fit; joined = j }
    of_them fit None none = λ attributes s. none attributes s.joined

    by : (b : Bool) → fits body ≡ b → Parsed SpellsAttributes body (cond b (all_parts first_attribute (attributes_in body)) None)
    by true e = of_them (fits_when body e) (all_parts first_attribute (attributes_in body)) (parsed_all SpellsAttribute first_attribute attribute_alone finds_attribute (attributes_in body))
    by false e = λ attributes s. fits_not body e s.fits

parsed_prefixes : (bytes : List ℕ) → Parsed SpellsPrefixes bytes (all_parts first_prefix bytes)
parsed_prefixes bytes = by (all_parts first_prefix bytes) (parsed_all SpellsPrefix first_prefix prefix_alone finds_prefix bytes)
  where
    by : (o : Option (List Net4)) → Parsed (Joined SpellsPrefix) bytes o → Parsed SpellsPrefixes bytes o
    by (Some nets) j = j
    by None none = none

parsed_path : (value : List ℕ) → Parsed SpellsPath value (path_in value)
parsed_path value = by (all_parts first_segment value) (parsed_all SpellsSegment first_segment segment_alone finds_segment value)
  where
    by : (o : Option (List Segment)) → Parsed (Joined SpellsSegment) value o → Parsed SpellsPath value (option_map (flat_map (λ (s : Segment). s.numbers)) o)
    by (Some segments) j = record { segments = segments; joined = j; all = refl }
    by None none = λ numbers p. none p.segments p.joined

-- what a function makes of an UPDATE
abbrev pub Tells : List ℕ → Result Updating Fault → Type 0
Tells body (Ok update) = SpellsUpdate update body
Tells body (Err fault) = UpdateFault body fault

update_tells : (body : List ℕ) → Tells body (update_of body)
update_tells body = by (attributes_of body) (parsed_attributes body)
  where
    by : (o : Option (List Attribute)) → Parsed SpellsAttributes body o → Tells body (update_by body o)
    by None none = inl (none, refl)
    by (Some attributes) spelled = judged (parts_fault parts.attributes parts.withdrawn parts.announced parts.path) refl
      where
        parts : Parts body
        parts = record {
          attributes = attributes;
          withdrawn = all_parts first_prefix (withdrawn_in body);
          announced = all_parts first_prefix (announced_in body);
          path = path_in (value_of 2 attributes);
          spelled = spelled;
          has_withdrawn = parsed_prefixes (withdrawn_in body);
          has_announced = parsed_prefixes (announced_in body);
          has_path = parsed_path (value_of 2 attributes);
        }

        judged : (f : Option Fault) → parts_fault parts.attributes parts.withdrawn parts.announced parts.path ≡ f → Tells body (unless f (update_with parts.attributes parts.withdrawn parts.announced parts.path))
        judged None e = record { parts = parts; sound = e; value = refl }
        judged (Some fault) e = inr (record { parts = parts; is = e })

-- ---- a message

abbrev pub IsAnswer : (peer : ℕ) → Kind → List ℕ → Result Message Fault → Type 0
IsAnswer peer kind body (Ok message) = (kind_of_message message ≡ kind) × SpellsBody peer message body
IsAnswer peer kind body (Err fault) = BodyFault peer kind body fault

pub decoded_answers : (peer : ℕ) (kind : Kind) (body : List ℕ) → IsAnswer peer kind body (decoded peer kind body)
decoded_answers peer kinds.Open body = by (open_of peer body) (open_reads peer body)
  where
    by : (r : Result Opening Fault) → ReadsOpen peer body r → IsAnswer peer kinds.Open body (message_by Open r)
    by (Ok o) reads = (refl, reads)
    by (Err fault) reads = reads
decoded_answers peer kinds.Update body = by (update_of body) (update_tells body)
  where
    by : (r : Result Updating Fault) → Tells body r → IsAnswer peer kinds.Update body (message_by Update r)
    by (Ok u) tells = (refl, tells)
    by (Err fault) tells = tells
decoded_answers peer kinds.Notification body = (refl, refl)
decoded_answers peer kinds.KeepAlive body = (refl, tt)

-- there is one answer
both_not : (peer : ℕ) (kind : Kind) (body : List ℕ) (m : Message) (fault : Fault) → kind_of_message m ≡ kind → SpellsBody peer m body → BodyFault peer kind body fault → ⊥
both_not peer kind body m fault k s f = never_both peer m body fault s (subst (λ k. BodyFault peer k body fault) (sym k) f)

pub answered_once : (peer : ℕ) (kind : Kind) (body : List ℕ) (a b : Result Message Fault) → IsAnswer peer kind body a → IsAnswer peer kind body b → a ≡ b
answered_once peer kind body (Ok m) (Ok n) p q = ap Ok (one_body peer peer m n body (p.0 ∙ sym q.0) p.1 q.1)
answered_once peer kind body (Ok m) (Err f) p q = absurd (both_not peer kind body m f p.0 p.1 q)
answered_once peer kind body (Err f) (Ok n) p q = absurd (both_not peer kind body n f q.0 q.1 p)
answered_once peer kind body (Err f) (Err g) p q = ap Err (one_fault peer kind body f g p q)

pub decoded_message : (peer : ℕ) (kind : Kind) (body : List ℕ) (message : Message) → (decoded peer kind body ≡ Ok message) ↔ ((kind_of_message message ≡ kind) × SpellsBody peer message body)
decoded_message peer kind body message = (
  λ e. subst (IsAnswer peer kind body) e (decoded_answers peer kind body),
  λ p. answered_once peer kind body (decoded peer kind body) (Ok message) (decoded_answers peer kind body) p,
)

pub decoded_fault : (peer : ℕ) (kind : Kind) (body : List ℕ) (fault : Fault) → (decoded peer kind body ≡ Err fault) ↔ BodyFault peer kind body fault
decoded_fault peer kind body fault = (
  λ e. subst (IsAnswer peer kind body) e (decoded_answers peer kind body),
  λ f. answered_once peer kind body (decoded peer kind body) (Err fault) (decoded_answers peer kind body) f,
)

-- what a call answers, unless memory runs out
pub read_is_decoded : (peer : ℕ) (kind : Kind) (body : List ℕ) (message : Message) → Answers peer kind body (Ok message) → decoded peer kind body ≡ Ok message
read_is_decoded peer kind body message = (decoded_message peer kind body message).1

pub fault_is_decoded : (peer : ℕ) (kind : Kind) (body : List ℕ) (fault : Fault) → Answers peer kind body (Err (refused.Fault fault)) → decoded peer kind body ≡ Err fault
fault_is_decoded peer kind body fault = (decoded_fault peer kind body fault).1
