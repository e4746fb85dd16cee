-- Optional parameters at the front of bytes, and an OPEN with them.
use Rattle.std.proofs.Common.{◌≡◌, ℕ, ◌+◌, ◌≤◌, ◌<◌, Bool, true, false, not, cond, ◌&&◌, ◌==◌, List, [], ◌∷◌, ◌++◌, length, take, drop, Option, Some, None, refl, sym, ap, ◌∙◌, arith, length-append, length-drop}
use Rattle.std.specs.List.{list_all}
use Rattle.std.proofs.lemmas.List.{length-take-le}
use Rattle.std.proofs.lemmas.List.Folds.{list_all-append}
use Rattle.bgp_messages.specs.declared.fault.Fault.{Fault}
use Rattle.bgp_messages.specs.declared.fault.Fault.TheVariants.{OpenUnspecific, UnsupportedVersionNumber, BadPeerAs, BadBgpIdentifier}
use Rattle.bgp_messages.specs.declared.message.Open.{Open}
use Rattle.bgp_messages.specs.Numbers.{number_in}
use Rattle.bgp_messages.specs.Grammar.{Begins, BeginsNone, Joined, Parsed}
use Rattle.bgp_messages.specs.Opens.{Parameter, SpellsParameter, SpellsParameters, parameter_in, is_capabilities, are_capabilities, version_in, open_in, open_fault, SpellsOpen, OpenFault}
use Rattle.bgp_messages.proofs.Numbers.{number_of_front, number_of_take, same_number, same_front}
use Rattle.bgp_messages.proofs.Joining.{Alone, HasBytes, Left, goes, done, stuck, joined_once, parsed_once}

-- ---- one parameter

pub parameter_bytes : HasBytes SpellsParameter
parameter_bytes x f s = omega (arith, s.size)

pub parameter_alone : Alone SpellsParameter
parameter_alone x y f g a b s t e =
    let len : length x.content ≡ length y.content = sym s.len ∙ same_number 1 1 f g a b (omega (arith, s.size)) (omega (arith, t.size)) e ∙ t.len in
    let same = same_front f g a b (s.size ∙ ap (λ n. 2 + n) len ∙ sym t.size) e in
    let kind : x.kind ≡ y.kind = sym s.kind ∙ ap (number_in 0 1) same.0 ∙ t.kind in
    let content : x.content ≡ y.content = sym s.content ∙ ap (drop 2) same.0 ∙ t.content in
    ((λ i. record { kind = kind i; content = content i }), same.1)

pub parameter_begins : (n : ℕ) (bytes : List ℕ) → n ≡ 2 + number_in 1 1 bytes → n ≤ length bytes → Begins (SpellsParameter (parameter_in n bytes)) n bytes
parameter_begins n bytes is within =
    let front : length (take n bytes) ≡ n = length-take-le n bytes within in
    let size : length (drop 2 (take n bytes)) ≡ number_in 1 1 bytes = omega (arith, length-drop 2 (take n bytes), front, is) in
    record {
      some = omega (arith, is);
      within = within;
      spelled = record {
        kind = number_of_take 0 1 n bytes (omega (arith, is)) within;
        len = number_of_take 1 1 n bytes (omega (arith, is)) within ∙ sym size;
        content = refl;
        size = omega (arith, front, is, size);
      };
    }

pub parameter_headless : (bytes : List ℕ) → length bytes < 2 → BeginsNone SpellsParameter bytes
parameter_headless bytes h x f rest s e = omega (arith, h, s.size, ap length e, length-append f rest)

pub parameter_cut : (bytes : List ℕ) → length bytes < 2 + number_in 1 1 bytes → BeginsNone SpellsParameter bytes
parameter_cut bytes h x f rest s e =
    let len : number_in 1 1 bytes ≡ length x.content = ap (number_in 1 1) e ∙ number_of_front 1 1 f rest (omega (arith, s.size)) ∙ s.len in
    omega (arith, h, s.size, len, ap length e, length-append f rest)

-- ---- reading parameters

pub record Reads (bytes : List ℕ) (are : Bool) (rest : List ℕ) : Type 0 where
  pub parameters : List Parameter
  pub left : Left SpellsParameter bytes parameters rest
  pub all : are ≡ list_all is_capabilities parameters

and_true : (a : Bool) → (a && true) ≡ a
and_true true = refl
and_true false = refl

pub reads_more : (bytes : List ℕ) (are more : Bool) (rest : List ℕ) (n : ℕ) → Begins (SpellsParameter (parameter_in n rest)) n rest → more ≡ (are && (number_in 0 1 rest == 2))
    → Reads bytes are rest → Reads bytes more (drop n rest)
reads_more bytes are more rest n b is reads =
    let p = parameter_in n rest in record {
      parameters = reads.parameters ++ p ∷ [];
      left = goes SpellsParameter parameter_alone bytes reads.parameters rest p n b reads.left;
      all = is ∙ ap (λ a. a && is_capabilities p) reads.all ∙ ap (λ a. list_all is_capabilities reads.parameters && a) (sym (and_true (is_capabilities p)))
          ∙ sym (list_all-append is_capabilities reads.parameters (p ∷ []));
    }

abbrev pub Tells : List ℕ → Option Bool → Type 0
Tells bytes told = (parameters : Option (List Parameter)) × Parsed (Joined SpellsParameter) bytes parameters × (told ≡ are_capabilities parameters)

pub reads_all : (bytes : List ℕ) (are : Bool) (rest : List ℕ) → length rest ≡ 0 → Reads bytes are rest → Tells bytes (Some are)
reads_all bytes are rest e reads = (Some reads.parameters, done SpellsParameter bytes reads.parameters rest e reads.left, ap Some reads.all)

pub reads_none : (bytes : List ℕ) (are : Bool) (rest : List ℕ) → 0 < length rest → BeginsNone SpellsParameter rest → Reads bytes are rest → Tells bytes None
reads_none bytes are rest some none reads = (None, stuck SpellsParameter bytes reads.parameters rest some none reads.left, refl)

-- ---- reading an OPEN

abbrev pub TellsOpen : List ℕ → Option Bool → Type 0
TellsOpen body told = (parameters : Option (List Parameter)) × Parsed SpellsParameters body parameters × (told ≡ are_capabilities parameters)

pub no_length : (body : List ℕ) → (number_in 9 1 body ≡ length (drop 10 body) → ⊥) → TellsOpen body None
no_length body ne = (None, λ parameters s. ne s.len, refl)

pub with_length : (body : List ℕ) (told : Option Bool) → number_in 9 1 body ≡ length (drop 10 body) → Tells (drop 10 body) told → TellsOpen body told
with_length body told len (Some parameters, p, q) = (Some parameters, record { len = len; joined = p }, q)
with_length body told len (None, p, q) = (None, λ parameters s. p parameters s.joined, q)

pub open_wrong : (peer : ℕ) (body : List ℕ) (told : Option Bool) (fault : Fault) → TellsOpen body told → open_fault peer body told ≡ Some fault → OpenFault peer body fault
open_wrong peer body told fault t e = record { parameters = t.0; parsed = t.1; is = ap (open_fault peer body) (sym t.2) ∙ e }

-- where nothing is wrong, the lengths agree
agrees : (peer : ℕ) (body : List ℕ) → open_fault peer body None ≡ None → ⊥
agrees peer body = by (version_in body == 4) ((open_in body).sender_as == peer) ((open_in body).id == 0)
  where
    by : (a b c : Bool) → ◌≡◌ {A = Option Fault} (cond (not a) (Some UnsupportedVersionNumber) (cond (not b) (Some BadPeerAs) (cond c (Some BadBgpIdentifier) (Some OpenUnspecific)))) None → ⊥
    by false b c e = cc
    by true false c e = cc
    by true true true e = cc
    by true true false e = cc

pub open_right : (peer : ℕ) (body : List ℕ) (told : Option Bool) → TellsOpen body told → open_fault peer body told ≡ None → SpellsOpen peer (open_in body) body
open_right peer body told (Some parameters, p, q) e = record { parameters = parameters; spelled = p; sound = ap (open_fault peer body) (sym q) ∙ e; value = refl }
open_right peer body told (None, p, q) e = absurd (agrees peer body (ap (open_fault peer body) (sym q) ∙ e))

-- ---- one answer

parameters_once : (body : List ℕ) (a b : List Parameter) → SpellsParameters a body → SpellsParameters b body → a ≡ b
parameters_once body a b p q = joined_once SpellsParameter parameter_alone parameter_bytes a b (drop 10 body) p.joined q.joined

pub open_never_both : (peer : ℕ) (o : Open) (body : List ℕ) (fault : Fault) → SpellsOpen peer o body → OpenFault peer body fault → ⊥
open_never_both peer o body fault s f =
    let same : Some s.parameters ≡ f.parameters = parsed_once SpellsParameters body (parameters_once body) (Some s.parameters) f.parameters s.spelled f.parsed in
    let both : ◌≡◌ {A = Option Fault} None (Some fault) = sym s.sound ∙ ap (λ p. open_fault peer body (are_capabilities p)) same ∙ f.is in
    cc

pub open_one_fault : (peer : ℕ) (body : List ℕ) (a b : Fault) → OpenFault peer body a → OpenFault peer body b → a ≡ b
open_one_fault peer body a b f g =
    let same = parsed_once SpellsParameters body (parameters_once body) f.parameters g.parameters f.parsed g.parsed in
    let both : Some a ≡ Some b = sym f.is ∙ ap (λ p. open_fault peer body (are_capabilities p)) same ∙ g.is in
    cc
