-- What reading a body says, and that each body that is spelled is read: the plain messages.
use Rattle.std.proofs.Common.{◌≡◌, ℕ, ◌+◌, List, [], length, drop, Result, Ok, refl, ap, arith, inr}
use Rattle.std.proofs.lemmas.List.{length-drop, nil_from_length}
use Rattle.of_wire.specs.declared.fault.PartFault.{PartFault}
use Rattle.of_wire.specs.declared.fault.PartCause.TheVariants.{Short}
use Rattle.of_wire.specs.Numbers.{number_in}
use Rattle.of_wire.specs.Faults.{ComesFirst}
use Rattle.of_wire.proofs.Grammars.{AreBytes, bytes_drop, number_then, ignored_then, number_again, ignored_again}
use Rattle.of_wire.proofs.Chosen.{bind_from}
use Rattle.of13_codec.specs.declared.message.Message.{Message}
use Rattle.of13_codec.specs.declared.message.Message.TheVariants.{Error, FeaturesReply as Features, PortStatus}
use Rattle.of13_codec.specs.declared.features.FeaturesReply.{FeaturesReply}
use Rattle.of13_codec.specs.declared.ports.PortDesc.{PortDesc}
use Rattle.of13_codec.specs.Messages.{kind_of, version_of}
use Rattle.of13_codec.specs.Decoding.{at_least, exactly, error_at, features_at, bare_at, port_of, port_status_at}
use Rattle.of13_codec.specs.Spelling.{SpellsBody, SpellsFeatures}
use Rattle.of13_codec.specs.Faults.{SizeFault, HeadFault, no_head}
use Rattle.of13_codec.proofs.Says.{Is, Says, head_told, only_head, least_complete, exact_told, exact_complete}
use Rattle.of13_codec.proofs.PortLaws.{port_sound, port_complete}

-- ---- ERROR

pub error_told : (body : List ℕ) → AreBytes body → Says (Is 4 1 body) (HeadFault 4 body) (error_at body)
unfolding error_at
error_told body h =
    head_told (Is 4 1 body) (HeadFault 4 body) 4 body (λ n. Ok (Error (number_in 0 2 body) (number_in 2 2 body) (drop 4 body)))
    (λ few. no_head few)
    (λ few. only_head (ComesFirst (8 + length body) Short) 4 body (λ l. inr (refl, omega arith)))
    (λ least. (
      record {
        spelled = number_then 0 2 (number_in 0 2 body) _ body h (omega arith) refl (number_then 2 2 (number_in 2 2 body) _ body h (omega arith) refl refl);
        kind_is = refl;
        version_is = refl;
      },
      only_head (λ q d. ⊥) 4 body (λ l. omega arith),
    ))

pub error_complete : (kind code : ℕ) (payload body : List ℕ) → SpellsBody (Error kind code payload) body → error_at body ≡ Ok (Error kind code payload)
unfolding error_at
error_complete kind code payload body p =
    let a = number_again 0 2 kind _ body p in
    let b = number_again 2 2 code _ body a.behind in
    let least : at_least 4 body ≡ Ok 4 = least_complete 4 body (omega (arith, a.size, b.size)) in
    let k = a.value in let c = b.value in let d = b.behind in
    rw (least, k, c, d) refl

-- ---- FEATURES_REPLY

features_of : List ℕ → FeaturesReply
features_of body = record {
  dp = record { 0 = number_in 0 8 body };
  n_buffers = number_in 8 4 body;
  n_tables = number_in 12 1 body;
  auxiliary = number_in 13 1 body;
  capabilities = number_in 16 4 body;
}

pub features_told : (body : List ℕ) → AreBytes body → Says (Is 4 6 body) (SizeFault 24 body) (features_at body)
unfolding features_at features_of
features_told body h = exact_told (Is 4 6 body) 24 body (Features (features_of body)) (λ size. record {
  spelled =
      number_then 0 8 (number_in 0 8 body) _ body h (omega arith) refl (
      number_then 8 4 (number_in 8 4 body) _ body h (omega arith) refl (
      number_then 12 1 (number_in 12 1 body) _ body h (omega arith) refl (
      number_then 13 1 (number_in 13 1 body) _ body h (omega arith) refl (
      ignored_then 14 2 _ body (omega arith) (
      number_then 16 4 (number_in 16 4 body) _ body h (omega arith) refl (
      omega (arith, length-drop 20 body)))))));
  kind_is = refl;
  version_is = refl;
})

pub features_complete : (m : FeaturesReply) (body : List ℕ) → SpellsFeatures m body → features_at body ≡ Ok (Features m)
unfolding features_at features_of
features_complete m body p =
    let a = number_again 0 8 m.dp.0 _ body p in
    let b = number_again 8 4 m.n_buffers _ body a.behind in
    let c = number_again 12 1 m.n_tables _ body b.behind in
    let d = number_again 13 1 m.auxiliary _ body c.behind in
    let e = ignored_again 14 2 _ body d.behind in
    let f = number_again 16 4 m.capabilities _ body e.1 in
    let size : exactly 24 body ≡ Ok 24 = exact_complete 24 body (omega (arith, a.size, b.size, c.size, d.size, e.0, f.size, f.behind)) in
    let same : features_of body ≡ m = λ i. record { dp = record { 0 = a.value i }; n_buffers = b.value i; n_tables = c.value i; auxiliary = d.value i; capabilities = f.value i } in
    rw size (ap (λ (x : FeaturesReply). Ok (Features x)) same)

-- ---- messages that are nothing but their header

pub bare_told : (kind : ℕ) (x : Message) (body : List ℕ) → ((body : List ℕ) → body ≡ [] → SpellsBody x body) → kind_of x ≡ kind → version_of x ≡ 4 → Says (Is 4 kind body) (SizeFault 0 body) (bare_at x body)
bare_told kind x body spells k v = exact_told (Is 4 kind body) 0 body x (λ size. record { spelled = spells body (nil_from_length body size); kind_is = k; version_is = v })

pub bare_complete : (x : Message) (body : List ℕ) → body ≡ [] → bare_at x body ≡ Ok x
bare_complete x body e =
    let r : Result Message PartFault = Ok x in
    bind_from (exactly 0 body) (λ n. r) 0 x (exact_complete 0 body (ap length e)) refl

-- ---- PORT_STATUS

pub port_status_told : (body : List ℕ) → AreBytes body → Says (Is 4 12 body) (SizeFault 72 body) (port_status_at body)
unfolding port_status_at
port_status_told body h = exact_told (Is 4 12 body) 72 body (PortStatus (number_in 0 1 body) (port_of (drop 8 body))) (λ size. record {
  spelled = number_then 0 1 (number_in 0 1 body) _ body h (omega arith) refl (ignored_then 1 7 _ body (omega arith) (port_sound (drop 8 body) (bytes_drop 8 body h) (omega (arith, length-drop 8 body))));
  kind_is = refl;
  version_is = refl;
})

pub port_status_complete : (reason : ℕ) (port : PortDesc) (body : List ℕ) → SpellsBody (PortStatus reason port) body → port_status_at body ≡ Ok (PortStatus reason port)
unfolding port_status_at
port_status_complete reason port body p =
    let a = number_again 0 1 reason _ body p in
    let b = ignored_again 1 7 _ body a.behind in
    let c = port_complete port (drop 8 body) b.1 in
    let size : exactly 72 body ≡ Ok 72 = exact_complete 72 body (omega (arith, a.size, b.0, c.1)) in
    let r = a.value in
    let q = c.0 in
    rw (size, r, q) refl
