-- What decoding a frame says, and that each frame that spells a message is decoded.
use Rattle.std.proofs.Common.{◌≡◌, ℕ, ◌≤◌, ◌<◌, Bool, true, false, not, cond, eqb, ltb, List, length, drop, get_or, Result, Ok, Err, refl, sym, ap, ◌∙◌, subst, arith, inl, inr}
use Rattle.std.specs.Result.{IfOk}
use Rattle.std.proofs.lemmas.Bool.{cases_eq, le-ltb, lt-ltb, eq-eqb, ne_eqb, ltb-true, eqb-true, not-true, not-false}
use Rattle.of_wire.specs.declared.fault.PartFault.{PartFault}
use Rattle.of_wire.specs.Numbers.{number_in}
use Rattle.of_wire.specs.Faults.{SpelledOrFaulty}
use Rattle.of_wire.proofs.Grammars.{AreBytes, bytes_drop, number_then, number_again}
use Rattle.of_wire.proofs.Told.{by_equal, by_other, by_less, by_test}
use Rattle.of13_codec.specs.declared.message.Message.{Message}
use Rattle.of13_codec.specs.declared.message.Message.TheVariants.{Hello, Error, EchoRequest, EchoReply, FeaturesRequest, FeaturesReply as Features, PacketIn as Packet, PortStatus, PacketOut as Send, FlowMod as Change, PortDescRequest, PortStatsRequest, PortDescReply, PortStatsReply, BarrierRequest, BarrierReply, Other}
use Rattle.of13_codec.specs.declared.refused.WireRefused.{WireRefused}
use Rattle.of13_codec.specs.declared.refused.WireRefused.TheVariants.{Version, Length, Body, Memory}
use Rattle.of13_codec.specs.Messages.{kind_of, version_of}
use Rattle.of13_codec.specs.Decoding.{at_least, bare_at, echo_request_at, echo_reply_at, hello_at, error_at, features_at, packet_in_at, port_status_at, packet_out_at, flow_mod_at, request_at, reply_at, body_at, is_version, with_xid, decoded, Decodes}
use Rattle.of13_codec.specs.Spelling.{Spells, SpellsBody, IsOther}
use Rattle.of13_codec.specs.Faults.{FaultInBody, IsVersionOf, TellsFrame}
use Rattle.of13_codec.proofs.Says.{Is, Says, least_complete}
use Rattle.of13_codec.proofs.Bodies.{error_told, error_complete, features_told, features_complete, bare_told, bare_complete, port_status_told, port_status_complete}
use Rattle.of13_codec.proofs.HelloLaws.{hello_complete}
use Rattle.of13_codec.proofs.HelloFaults.{hello_told}
use Rattle.of13_codec.proofs.Packets.{packet_in_told, packet_in_complete, packet_out_told, packet_out_complete, flow_mod_told, flow_mod_complete}
use Rattle.of13_codec.proofs.Multiparts.{own_cases, other_is, request_told, desc_request_read, stats_request_read, reply_told, desc_reply_read, stats_reply_read}

-- ---- bodies by their type

four : (version kind : ℕ) → (kind ≡ 0 → ⊥) → is_version version kind ≡ true → version ≡ 4
four version kind ne e =
    let t : eqb kind 0 ≡ false = ne_eqb kind 0 ne in
    eqb-true version 4 (rw t at e)

-- a body of this type, in a frame of version 4
at_kind : (version kind k : ℕ) (body : List ℕ) (r : Result Message PartFault) → version ≡ 4 → Says (Is 4 k body) (FaultInBody k body) r → kind ≡ k → Says (Is version kind body) (FaultInBody kind body) r
at_kind version kind k body r v s e =
    subst (λ n. Says (Is n kind body) (FaultInBody kind body) r) (sym v) (subst (λ n. Says (Is 4 n body) (FaultInBody n body) r) (sym e) s)

body_told : (version kind : ℕ) (body : List ℕ) → AreBytes body → is_version version kind ≡ true → Says (Is version kind body) (FaultInBody kind body) (body_at version kind body)
unfolding body_at
body_told version kind body h v =
    let P = λ (r : Result Message PartFault). Says (Is version kind body) (FaultInBody kind body) r in
    by_equal P kind 0 (hello_at version body) _ (λ e. subst (λ n. Says (Is version n body) (FaultInBody n body) (hello_at version body)) (sym e) (hello_told version body h))
    (λ n0.
    (let four = four version kind n0 v in
    by_equal P kind 1 (error_at body) _ (at_kind version kind 1 body (error_at body) four (error_told body h))
    (λ n1. by_equal P kind 2 (echo_request_at body) _ (at_kind version kind 2 body (echo_request_at body) four (record { spelled = refl; kind_is = refl; version_is = refl }, λ q d f. f))
    (λ n2. by_equal P kind 3 (echo_reply_at body) _ (at_kind version kind 3 body (echo_reply_at body) four (record { spelled = refl; kind_is = refl; version_is = refl }, λ q d f. f))
    (λ n3. by_equal P kind 5 (bare_at FeaturesRequest body) _ (at_kind version kind 5 body (bare_at FeaturesRequest body) four (bare_told 5 FeaturesRequest body (λ b z. z) refl refl))
    (λ n5. by_equal P kind 6 (features_at body) _ (at_kind version kind 6 body (features_at body) four (features_told body h))
    (λ n6. by_equal P kind 10 (packet_in_at body) _ (at_kind version kind 10 body (packet_in_at body) four (packet_in_told body h))
    (λ n10. by_equal P kind 12 (port_status_at body) _ (at_kind version kind 12 body (port_status_at body) four (port_status_told body h))
    (λ n12. by_equal P kind 13 (packet_out_at body) _ (at_kind version kind 13 body (packet_out_at body) four (packet_out_told body h))
    (λ n13. by_equal P kind 14 (flow_mod_at body) _ (at_kind version kind 14 body (flow_mod_at body) four (flow_mod_told body h))
    (λ n14. by_equal P kind 18 (request_at body) _ (at_kind version kind 18 body (request_at body) four (request_told body h))
    (λ n18. by_equal P kind 19 (reply_at body) _ (at_kind version kind 19 body (reply_at body) four (reply_told body h))
    (λ n19. by_equal P kind 20 (bare_at BarrierRequest body) _ (at_kind version kind 20 body (bare_at BarrierRequest body) four (bare_told 20 BarrierRequest body (λ b z. z) refl refl))
    (λ n20. by_equal P kind 21 (bare_at BarrierReply body) _ (at_kind version kind 21 body (bare_at BarrierReply body) four (bare_told 21 BarrierReply body (λ b z. z) refl refl))
    (λ n21.
    (let other : IsOther kind body = record {
      other = own_cases kind ⊥ (λ x. omega arith) n5 n6 n10 n12 n13 n14 n20 n21;
      part = λ k. elim k [ inl x ↦ absurd (n18 x) | inr x ↦ absurd (n19 x) ];
    } in
    let f0 = ne_eqb kind 0 n0 in let f1 = ne_eqb kind 1 n1 in let f5 = ne_eqb kind 5 n5 in let f6 = ne_eqb kind 6 n6 in let f10 = ne_eqb kind 10 n10 in let f12 = ne_eqb kind 12 n12 in
    let f13 = ne_eqb kind 13 n13 in let f14 = ne_eqb kind 14 n14 in let f18 = ne_eqb kind 18 n18 in let f19 = ne_eqb kind 19 n19 in let f20 = ne_eqb kind 20 n20 in let f21 = ne_eqb kind 21 n21 in
    (subst (λ n. Is n kind body (Other kind body)) (sym four) (other_is kind body other), λ q d f. rw (f0, f1, f5, f6, f10, f12, f13, f14, f18, f19, f20, f21) at f)))))))))))))))))

other_complete : (kind : ℕ) (body : List ℕ) → IsOther kind body → body_at 4 kind body ≡ Ok (Other kind body)
unfolding body_at request_at reply_at
other_complete kind body o =
    let own = o.other in
    let n0 : eqb kind 0 ≡ false = ne_eqb _ _ (λ x. own (inl (omega arith))) in
    let n1 : eqb kind 1 ≡ false = ne_eqb _ _ (λ x. own (inl (omega arith))) in
    let n2 : eqb kind 2 ≡ false = ne_eqb _ _ (λ x. own (inl (omega arith))) in
    let n3 : eqb kind 3 ≡ false = ne_eqb _ _ (λ x. own (inl (omega arith))) in
    let n5 : eqb kind 5 ≡ false = ne_eqb _ _ (λ x. own (inr (inl x))) in
    let n6 : eqb kind 6 ≡ false = ne_eqb _ _ (λ x. own (inr (inr (inl x)))) in
    let n10 : eqb kind 10 ≡ false = ne_eqb _ _ (λ x. own (inr (inr (inr (inl x))))) in
    let n12 : eqb kind 12 ≡ false = ne_eqb _ _ (λ x. own (inr (inr (inr (inr (inl x)))))) in
    let n13 : eqb kind 13 ≡ false = ne_eqb _ _ (λ x. own (inr (inr (inr (inr (inr (inl x))))))) in
    let n14 : eqb kind 14 ≡ false = ne_eqb _ _ (λ x. own (inr (inr (inr (inr (inr (inr (inl x)))))))) in
    let n20 : eqb kind 20 ≡ false = ne_eqb _ _ (λ x. own (inr (inr (inr (inr (inr (inr (inr (inl x))))))))) in
    let n21 : eqb kind 21 ≡ false = ne_eqb _ _ (λ x. own (inr (inr (inr (inr (inr (inr (inr (inr x))))))))) in
    let least : 8 ≤ length body → at_least 8 body ≡ Ok 8 = least_complete 8 body in
    elim (cases_eq kind 18) [
      | inl k ↦
          let p = o.part (inl k) in
          let y : eqb kind 18 ≡ true = eq-eqb _ _ k in
          let l = least p.0 in
          let a : eqb (number_in 0 2 body) 13 ≡ false = ne_eqb _ _ p.1 in
          let b : eqb (number_in 0 2 body) 4 ≡ false = ne_eqb _ _ p.2 in
          rw (n0, n1, n2, n3, n5, n6, n10, n12, n13, n14, y, l, a, b) (ap (λ n. Ok (Other n body)) (sym k))
      | inr n18 ↦
          let f18 : eqb kind 18 ≡ false = ne_eqb _ _ n18 in
          elim (cases_eq kind 19) [
            | inl k ↦
                let p = o.part (inr k) in
                let y : eqb kind 19 ≡ true = eq-eqb _ _ k in
                let l = least p.0 in
                let a : eqb (number_in 0 2 body) 13 ≡ false = ne_eqb _ _ p.1 in
                let b : eqb (number_in 0 2 body) 4 ≡ false = ne_eqb _ _ p.2 in
                rw (n0, n1, n2, n3, n5, n6, n10, n12, n13, n14, f18, y, l, a, b) (ap (λ n. Ok (Other n body)) (sym k))
            | inr n19 ↦
                let f19 : eqb kind 19 ≡ false = ne_eqb _ _ n19 in
                rw (n0, n1, n2, n3, n5, n6, n10, n12, n13, n14, f18, f19, n20, n21) refl
          ]
    ]

pub body_complete : (m : Message) (body : List ℕ) → SpellsBody m body → body_at (version_of m) (kind_of m) body ≡ Ok m
unfolding body_at
body_complete (Hello version bitmap) body p = hello_complete version bitmap body p
body_complete (Error kind code payload) body p = error_complete kind code payload body p
body_complete (EchoRequest payload) body p = ap (λ l. Ok (EchoRequest l)) p
body_complete (EchoReply payload) body p = ap (λ l. Ok (EchoReply l)) p
body_complete FeaturesRequest body p = bare_complete FeaturesRequest body p
body_complete (Features m) body p = features_complete m body p
body_complete (Packet m) body p = packet_in_complete m body p
body_complete (PortStatus reason port) body p = port_status_complete reason port body p
body_complete (Send m) body p = packet_out_complete m body p
body_complete (Change m) body p = flow_mod_complete m body p
body_complete PortDescRequest body p = desc_request_read body p
body_complete (PortStatsRequest port) body p = stats_request_read port body p
body_complete (PortDescReply more ports) body p = desc_reply_read more ports body p
body_complete (PortStatsReply more stats) body p = stats_reply_read more stats body p
body_complete BarrierRequest body p = bare_complete BarrierRequest body p
body_complete BarrierReply body p = bare_complete BarrierReply body p
body_complete (Other kind content) body p = ap (body_at 4 kind) p.0 ∙ other_complete kind content p.1

-- ---- frames

version_is : (version kind : ℕ) → is_version version kind ≡ true → IsVersionOf kind version
version_is version kind e = elim (cases_eq kind 0) [
  | inl z ↦ let t : eqb kind 0 ≡ true = eq-eqb _ _ z in let v = ltb-true 0 version (rw t at e) in (λ k. v, λ ne. absurd (ne z))
  | inr ne ↦ let t : eqb kind 0 ≡ false = ne_eqb _ _ ne in let v = eqb-true version 4 (rw t at e) in (λ k. absurd (ne k), λ k. v)
]

is_version_if : (version kind : ℕ) → IsVersionOf kind version → is_version version kind ≡ true
is_version_if version kind v = elim (cases_eq kind 0) [
  | inl z ↦ let t : eqb kind 0 ≡ true = eq-eqb _ _ z in rw t (lt-ltb _ _ (v.0 z))
  | inr ne ↦ let t : eqb kind 0 ≡ false = ne_eqb _ _ ne in rw t (eq-eqb _ _ (v.1 ne))
]

is_positive : (version kind : ℕ) → is_version version kind ≡ true → 0 < version
is_positive version kind e = elim (cases_eq kind 0) [
  | inl z ↦ let t : eqb kind 0 ≡ true = eq-eqb _ _ z in ltb-true 0 version (rw t at e)
  | inr ne ↦ let v = four version kind ne e in omega arith
]

-- what is known of a frame with a right header
record Header (frame : List ℕ) : Type 0 where
  pub bytes : AreBytes frame
  pub long : 8 ≤ length frame
  pub right : is_version (number_in 0 1 frame) (number_in 1 1 frame) ≡ true
  pub size : number_in 2 2 frame ≡ length frame

spells : (frame : List ℕ) → Header frame → (m : Message) → Is (number_in 0 1 frame) (number_in 1 1 frame) (drop 8 frame) m → Spells m (number_in 4 4 frame) frame
spells frame head m is =
    let h = head.bytes in
    let long = head.long in
    record {
      parts =
          number_then 0 1 (version_of m) _ frame h (omega arith) (sym is.version_is) (
          number_then 1 1 (kind_of m) _ frame h (omega arith) (sym is.kind_is) (
          number_then 2 2 (length frame) _ frame h (omega arith) head.size (
          number_then 4 4 (number_in 4 4 frame) _ frame h (omega arith) refl is.spelled)));
      version = subst (λ v. 0 < v) (sym is.version_is) (is_positive (number_in 0 1 frame) (number_in 1 1 frame) head.right);
    }

header_told : (frame : List ℕ) → Header frame → Says (Is (number_in 0 1 frame) (number_in 1 1 frame) (drop 8 frame)) (FaultInBody (number_in 1 1 frame) (drop 8 frame)) (body_at (number_in 0 1 frame) (number_in 1 1 frame) (drop 8 frame))
header_told frame head = body_told (number_in 0 1 frame) (number_in 1 1 frame) (drop 8 frame) (bytes_drop 8 frame head.bytes) head.right

-- a message is spelled, and what an answer says of the faults holds
abbrev pub FrameSays : List ℕ → Result (Message × ℕ) WireRefused → Type 0
FrameSays frame r = IfOk r (λ x. Spells x.0 x.1 frame) × TellsFrame frame r

body_says : (frame : List ℕ) → Header frame → (r : Result Message PartFault) → Says (Is (number_in 0 1 frame) (number_in 1 1 frame) (drop 8 frame)) (FaultInBody (number_in 1 1 frame) (drop 8 frame)) r
    → FrameSays frame (with_xid (number_in 4 4 frame) r)
body_says frame head (Ok m) s = (spells frame head m s.0, s.1)
body_says frame head (Err f) s = (tt, (head.long, version_is (number_in 0 1 frame) (number_in 1 1 frame) head.right, head.size, s))

decoded_told : (frame : List ℕ) → AreBytes frame → FrameSays frame (decoded frame)
unfolding decoded
decoded_told frame h =
    let version = number_in 0 1 frame in
    let kind = number_in 1 1 frame in
    let P = λ (r : Result (Message × ℕ) WireRefused). FrameSays frame r in
    let read = with_xid (number_in 4 4 frame) (body_at version kind (drop 8 frame)) in
    let two : Result (Message × ℕ) WireRefused = cond (not (eqb (number_in 2 2 frame) (length frame))) (Err Length) read in
    by_less P (length frame) 8 (Err Length) (cond (not (is_version version kind)) (Err Version) two)
    (λ few. (tt, inl few))
    (λ long. by_test P (not (is_version version kind)) (Err Version) two
    (λ t. (tt, (long, λ v. (let right = is_version_if version kind v in let wrong = not-true _ t in absurd (cc)))))
    (λ t. by_other P (number_in 2 2 frame) (length frame) (Err Length) read
    (λ ne. (tt, inr (version_is version kind (not-false _ t), ne)))
    (λ size. (let head : Header frame = record { bytes = h; long = long; right = not-false _ t; size = size } in body_says frame head (body_at version kind (drop 8 frame)) (header_told frame head)))))

pub frame_says : (frame : List ℕ) (r : Result (Message × ℕ) WireRefused) → ((i : ℕ) → get_or frame i 0 < 256) → Decodes r (decoded frame) → FrameSays frame r
frame_says frame (Ok x) h e = subst (FrameSays frame) e (decoded_told frame (record { small = h }))
frame_says frame (Err Memory) h e = (tt, tt)
frame_says frame (Err Version) h e = subst (FrameSays frame) e (decoded_told frame (record { small = h }))
frame_says frame (Err Length) h e = subst (FrameSays frame) e (decoded_told frame (record { small = h }))
frame_says frame (Err (Body f)) h e = subst (FrameSays frame) e (decoded_told frame (record { small = h }))

either : (frame : List ℕ) → Header frame → (r : Result Message PartFault) → Says (Is (number_in 0 1 frame) (number_in 1 1 frame) (drop 8 frame)) (FaultInBody (number_in 1 1 frame) (drop 8 frame)) r
    → SpelledOrFaulty ((m : Message) × (xid : ℕ) × Spells m xid frame) (FaultInBody (number_in 1 1 frame) (drop 8 frame))
either frame head (Ok m) s = inl ((m, number_in 4 4 frame, spells frame head m s.0), s.1)
either frame head (Err f) s = inr (f, s)

pub frame_spelled_or_faulty : (frame : List ℕ) → ((i : ℕ) → get_or frame i 0 < 256) → 8 ≤ length frame → IsVersionOf (number_in 1 1 frame) (number_in 0 1 frame) → number_in 2 2 frame ≡ length frame
    → SpelledOrFaulty ((m : Message) × (xid : ℕ) × Spells m xid frame) (FaultInBody (number_in 1 1 frame) (drop 8 frame))
frame_spelled_or_faulty frame h long v size =
    let head : Header frame = record { bytes = record { small = h }; long = long; right = is_version_if (number_in 0 1 frame) (number_in 1 1 frame) v; size = size } in
    either frame head (body_at (number_in 0 1 frame) (number_in 1 1 frame) (drop 8 frame)) (header_told frame head)

either_true : (b : Bool) → cond b true true ≡ true
either_true true = refl
either_true false = refl

version_right : (m : Message) → 0 < version_of m → is_version (version_of m) (kind_of m) ≡ true
version_right (Hello version bitmap) h = lt-ltb _ _ h
version_right (Error kind code payload) h = refl
version_right (EchoRequest payload) h = refl
version_right (EchoReply payload) h = refl
version_right FeaturesRequest h = refl
version_right (Features m) h = refl
version_right (Packet m) h = refl
version_right (PortStatus reason port) h = refl
version_right (Send m) h = refl
version_right (Change m) h = refl
version_right PortDescRequest h = refl
version_right (PortStatsRequest port) h = refl
version_right (PortDescReply more ports) h = refl
version_right (PortStatsReply more stats) h = refl
version_right BarrierRequest h = refl
version_right BarrierReply h = refl
version_right (Other kind body) h = either_true (eqb kind 0)

pub decode_complete : (m : Message) (xid : ℕ) (frame : List ℕ) → Spells m xid frame → decoded frame ≡ Ok (m, xid)
unfolding decoded
decode_complete m xid frame p =
    let a = number_again 0 1 (version_of m) _ frame p.parts in
    let b = number_again 1 1 (kind_of m) _ frame a.behind in
    let c = number_again 2 2 (length frame) _ frame b.behind in
    let d = number_again 4 4 xid _ frame c.behind in
    let long : ltb (length frame) 8 ≡ false = le-ltb _ _ (omega (arith, a.size, b.size, c.size, d.size)) in
    let version = a.value in let kind = b.value in let id = d.value in
    let right : is_version (number_in 0 1 frame) (number_in 1 1 frame) ≡ true = rw (version, kind) (version_right m p.version) in
    let size : eqb (number_in 2 2 frame) (length frame) ≡ true = eq-eqb _ _ c.value in
    let read : body_at (number_in 0 1 frame) (number_in 1 1 frame) (drop 8 frame) ≡ Ok m = rw (version, kind) (body_complete m (drop 8 frame) d.behind) in
    rw (long, right, size, read, id) refl
