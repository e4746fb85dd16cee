-- The packet in a message that a frame spells is bytes where the frame is; and so are its addresses.
use Rattle.std.proofs.Common.{◌≡◌, ℕ, zero, suc, ◌==◌, ◌<◌, ◌≤◌, ◌+◌, Bool, true, false, not, Some, None, Result, Ok, Err, List, [], ◌∷◌, length, take, drop, nat_lt, nat_le, refl, subst, arith, if◌then◌else◌}
use Rattle.std.specs.Prelude.{IfOk, IfSome}
use Rattle.std.specs.List.{AllByRecursion}
use Rattle.std.proofs.lemmas.Bool.{and_parts}
use Rattle.std.proofs.lemmas.List.{length-drop, length-take-le}
use Rattle.std.proofs.lemmas.Bool.Decides.{nat_tests}
use Rattle.net_base.specs.Address.{IsSixBytes}
use Rattle.of_wire.specs.declared.fault.PartFault.{PartFault}
use Rattle.of_wire.specs.Numbers.{number_in}
use Rattle.of_wire.specs.Reading.{◌>>=◌, instrs_at, many, match_at}
use Rattle.of13_codec.specs.declared.message.Message.{Message}
use Rattle.of13_codec.specs.declared.message.Message.TheVariants as messages
use Rattle.of13_codec.specs.declared.refused.WireRefused.{WireRefused}
use Rattle.of13_codec.specs.declared.refused.WireRefused.TheVariants as refusals
use Rattle.of13_codec.specs.Decoding.{at_least, body_at, decoded, error_at, exactly, features_at, flow_mod_at, flow_mod_of, has_more, hello_at, hello_step, is_version, packet_in_at, packet_in_rest, packet_out_at, packet_out_with, port_status_at, ports_at, ports_stats_at, reply_at, request_at, short, with_xid}
use Rattle.pkt_view.specs.Frame.{has_type, is_tag_type, parts, parts_with, type_place}
use Rattle.pkt_view.specs.Numbers.{number_at}
use Rattle.switch_session.specs.Frames.{told_length}
use Rattle.ctl_world.specs.declared.frames.Front.{Front}
use Rattle.ctl_world.specs.declared.frames.Front.TheVariants.{Part, Frame, Bad}
use Rattle.ctl_world.specs.Frames.{behind_frame, front, is_frame}
use Rattle.ctl_life.specs.Life.{says, says_by}

abbrev pub AreBytes : List ℕ → Type 0
AreBytes bytes = AllByRecursion (λ byte. byte < 256) bytes

bytes_taken : (n : ℕ) (bytes : List ℕ) → AreBytes bytes → AreBytes (take n bytes)
bytes_taken zero bytes all = tt
bytes_taken (suc n) [] all = tt
bytes_taken (suc n) (b ∷ bytes) all = (all.0, bytes_taken n bytes all.1)

pub bytes_left : (n : ℕ) (bytes : List ℕ) → AreBytes bytes → AreBytes (drop n bytes)
bytes_left zero bytes all = all
bytes_left (suc n) [] all = tt
bytes_left (suc n) (b ∷ bytes) all = bytes_left n bytes all.1

-- ---- a packet that was sent to the controller

-- where the message has one, it is bytes
abbrev pub HasBytes : Message → Type 0
HasBytes (messages.PacketIn m) = AreBytes m.payload
HasBytes other = Unit {0}

abbrev Good : Result Message PartFault → Type 0
Good r = IfOk r HasBytes

bind_good : {A : Type 0} (r : Result A PartFault) (f : A → Result Message PartFault) → ((a : A) → Good (f a)) → Good (r >>= f)
bind_good (Ok a) f each = each a
bind_good (Err e) f each = tt

either : (b : Bool) (r q : Result Message PartFault) → Good r → Good q → Good (if b then r else q)
either true r q here there = here
either false r q here there = there

module _ (body : List ℕ) where
  hello_good : (version : ℕ) → Good (hello_at version body)
  unfolding hello_at
  hello_good version = bind_good (many (hello_step (short body)) (length body) None 8 body) (λ bitmap. Ok (messages.Hello version bitmap)) (λ bitmap. tt)

  error_good : Good (error_at body)
  unfolding error_at
  error_good = bind_good (at_least 4 body) _ (λ n. tt)

  features_good : Good (features_at body)
  unfolding features_at
  features_good = bind_good (exactly 24 body) _ (λ n. tt)

  status_good : Good (port_status_at body)
  unfolding port_status_at
  status_good = bind_good (exactly 72 body) _ (λ n. tt)

  out_good : Good (packet_out_at body)
  unfolding packet_out_at packet_out_with
  out_good = bind_good (at_least 16 body) _ (λ n. bind_good _ _ (λ actions. either (nat_lt (length (drop 16 body)) (number_in 8 2 body)) _ _ tt tt))

  change_good : Good (flow_mod_at body)
  unfolding flow_mod_at
  change_good =
      bind_good (at_least 40 body) _ (λ n. bind_good (match_at true 48 (drop 40 body)) _ (λ m.
      bind_good (instrs_at (48 + m.1) (drop m.1 (drop 40 body))) (λ instrs. Ok (messages.FlowMod (flow_mod_of m.0 instrs body))) (λ instrs. tt)))

  request_good : Good (request_at body)
  unfolding request_at
  request_good =
      bind_good (at_least 8 body) _ (λ n. either (number_in 0 2 body == 13) _ _ (bind_good (exactly 8 body) _ (λ k. tt)) (either (number_in 0 2 body == 4) _ _ (bind_good (exactly 16 body) _ (λ k. tt)) tt))

  reply_good : Good (reply_at body)
  unfolding reply_at
  reply_good =
      bind_good (at_least 8 body) _ (λ n. either (number_in 0 2 body == 13) _ _ (bind_good (ports_at (short body) (drop 8 body)) (λ ports. Ok (messages.PortDescReply (has_more body) ports)) (λ ports. tt)) (either (number_in 0 2 body == 4) _ _ (bind_good (ports_stats_at (short body) (drop 8 body)) (λ stats. Ok (messages.PortStatsReply (has_more body) stats)) (λ stats. tt)) tt))

  module _ (all : AreBytes body) where
    packet_good : Good (packet_in_at body)
    unfolding packet_in_at packet_in_rest
    packet_good =
        bind_good (at_least 16 body) _ (λ n. bind_good (match_at false 24 (drop 16 body)) (λ m. packet_in_rest m.0 body (drop m.1 (drop 16 body))) (λ m.
        either (nat_lt (length (drop m.1 (drop 16 body))) 2) _ _ tt (bytes_left 2 (drop m.1 (drop 16 body)) (bytes_left m.1 (drop 16 body) (bytes_left 16 body all)))))

    body_good : (version kind : ℕ) → Good (body_at version kind body)
    unfolding body_at
    body_good version kind =
        either (kind == 0) _ _ (hello_good version)
        (either (kind == 1) _ _ error_good
        (either (kind == 2) _ _ tt
        (either (kind == 3) _ _ tt
        (either (kind == 5) _ _ (bind_good (exactly 0 body) _ (λ n. tt))
        (either (kind == 6) _ _ features_good
        (either (kind == 10) _ _ packet_good
        (either (kind == 12) _ _ status_good
        (either (kind == 13) _ _ out_good
        (either (kind == 14) _ _ change_good
        (either (kind == 18) _ _ request_good
        (either (kind == 19) _ _ reply_good
        (either (kind == 20) _ _ (bind_good (exactly 0 body) _ (λ n. tt))
        (either (kind == 21) _ _ (bind_good (exactly 0 body) _ (λ n. tt)) tt)))))))))))))

abbrev GoodSaid : Result (Message × ℕ) WireRefused → Type 0
GoodSaid r = IfSome (says_by r) (λ said. HasBytes said.0)

with_good : (xid : ℕ) (r : Result Message PartFault) → Good r → GoodSaid (with_xid xid r)
with_good xid (Ok m) good = good
with_good xid (Err f) good = tt

either_said : (b : Bool) (r q : Result (Message × ℕ) WireRefused) → GoodSaid r → GoodSaid q → GoodSaid (if b then r else q)
either_said true r q here there = here
either_said false r q here there = there

pub says_good : (frame : List ℕ) → AreBytes frame → IfSome (says frame) (λ said. HasBytes said.0)
unfolding decoded
says_good frame all =
    let read : Result (Message × ℕ) WireRefused = with_xid (number_in 4 4 frame) (body_at (number_in 0 1 frame) (number_in 1 1 frame) (drop 8 frame)) in
    let third : Result (Message × ℕ) WireRefused = if not (number_in 2 2 frame == length frame) then Err refusals.Length else read in
    let second : Result (Message × ℕ) WireRefused = if not (is_version (number_in 0 1 frame) (number_in 1 1 frame)) then Err refusals.Version else third in
    either_said (nat_lt (length frame) 8) (Err refusals.Length) second tt
    (either_said (not (is_version (number_in 0 1 frame) (number_in 1 1 frame))) (Err refusals.Version) third tt
    (either_said (not (number_in 2 2 frame == length frame)) (Err refusals.Length) read tt
    (with_good (number_in 4 4 frame) (body_at (number_in 0 1 frame) (number_in 1 1 frame) (drop 8 frame))
    (body_good (drop 8 frame) (bytes_left 8 frame all) (number_in 0 1 frame) (number_in 1 1 frame)))))

-- ---- the addresses of a packet

pub source_six : (payload : List ℕ) → AreBytes payload → IfSome (parts payload) (λ frame. IsSixBytes frame.src.0)
unfolding parts
source_six payload all = by (has_type payload) refl
  where
    by : (b : Bool) → has_type payload ≡ b → IfSome (if b then Some (parts_with (type_place payload) payload) else None) (λ frame. IsSixBytes frame.src.0)
    by false is = tt
    by true is =
        let most = (and_parts (nat_le (type_place payload + 2) (length payload)) (not (is_tag_type (number_at 2 (type_place payload) payload))) is).0 in
        let long : 14 ≤ length payload = grind (arith, nat_tests) in
        record { count = length-take-le 6 (drop 6 payload) (omega (arith, length-drop 6 payload, long)); each = bytes_taken 6 (drop 6 payload) (bytes_left 6 payload all) }

-- ---- frames in what came

abbrev AreIn : Front → Type 0
AreIn Part = Unit {0}
AreIn (Frame f) = AreBytes f
AreIn Bad = Unit {0}

front_in : (bytes : List ℕ) → AreBytes bytes → (a b c : Bool) → AreIn (if a then Part else if b then Bad else if c then Part else Frame (take (told_length bytes) bytes))
front_in bytes all true b c = tt
front_in bytes all false true c = tt
front_in bytes all false false true = tt
front_in bytes all false false false = bytes_taken (told_length bytes) bytes all

pub front_bytes : (bytes frame : List ℕ) → AreBytes bytes → front bytes ≡ Frame frame → AreBytes frame
front_bytes bytes frame all is = subst AreIn is (front_in bytes all (nat_lt (length bytes) 8) (nat_lt (told_length bytes) 8) (nat_lt (length bytes) (told_length bytes)))

pub behind_bytes : (bytes : List ℕ) → AreBytes bytes → AreBytes (behind_frame bytes)
behind_bytes bytes all = elim (is_frame (front bytes)) as (λ b. AreBytes (if b then drop (told_length bytes) bytes else bytes)) [ true ↦ bytes_left (told_length bytes) bytes all | false ↦ all ]
