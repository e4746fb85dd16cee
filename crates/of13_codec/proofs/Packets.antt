-- What reading a body says, and that each body that is spelled is read: PACKET_IN, PACKET_OUT and FLOW_MOD.
use Rattle.std.proofs.Common.{◌≡◌, ℕ, ◌+◌, ◌-◌, ◌≤◌, ◌<◌, Bool, true, false, cond, ltb, List, [], ◌++◌, length, take, drop, Result, Ok, Err, refl, sym, ap, ◌∙◌, subst, arith, inl, inr}
use Rattle.std.proofs.lemmas.Bool.{le-ltb}
use Rattle.std.proofs.lemmas.List.{length-drop, length-take, length-take-le, length-append, take-append-drop, drop-drop, take_at, drop_at}
use Rattle.net_base.specs.declared.field.Field.{Field}
use Rattle.of_match.specs.declared.action.Action.{Action}
use Rattle.of_match.specs.declared.action.Instr.{Instr}
use Rattle.of_wire.specs.declared.fault.PartFault.{PartFault}
use Rattle.of_wire.specs.declared.fault.PartCause.{PartCause}
use Rattle.of_wire.specs.declared.fault.PartCause.TheVariants.{Short, BadLength}
use Rattle.of_wire.specs.Numbers.{number_in}
use Rattle.of_wire.specs.Reading.{◌>>=◌, fault_at, past_end, match_at, actions_at, instrs_at}
use Rattle.of_wire.specs.Grammar.{Just}
use Rattle.of_wire.specs.Spelling.{SpellsAnyMatch, SpellsMatch, SpellsMatchSeen, SpellsActions, SpellsInstrs}
use Rattle.of_wire.specs.Faults.{ComesFirst, IsFirst, Behind, CutsOff, From, EndsEarly, EachAction, WrongAction, ActionsFault, FaultInMatch, FaultInInstrs}
use Rattle.of_wire.proofs.Grammars.{AreBytes, bytes_take, bytes_drop, number_then, ignored_then, front_then, number_again, ignored_again}
use Rattle.of_wire.proofs.Chosen.{bind_from, pass, one_answer}
use Rattle.of_wire.proofs.MatchLaws.{match_complete}
use Rattle.of_wire.proofs.SetLaws.{actions_complete}
use Rattle.of_wire.proofs.InstrLaws.{instrs_complete}
use Rattle.of_wire.proofs.Verdicts.{cut_ends, comes_first_after}
use Rattle.of_wire.proofs.Told.{by_less}
use Rattle.of_wire.proofs.ActionFaults.{actions_told}
use Rattle.of_wire.proofs.InstrFaults.{instrs_sound, instrs_tell_first}
use Rattle.of_wire.proofs.MatchFaults.{match_sound, match_tells_first}
use Rattle.of13_codec.specs.declared.message.Message.{Message}
use Rattle.of13_codec.specs.declared.message.Message.TheVariants.{PacketIn as Packet, PacketOut as Send, FlowMod as Change}
use Rattle.of13_codec.specs.declared.packet_in.PacketIn.{PacketIn}
use Rattle.of13_codec.specs.declared.packet_out.PacketOut.{PacketOut}
use Rattle.of13_codec.specs.declared.flow_mod.FlowMod.{FlowMod}
use Rattle.of13_codec.specs.Decoding.{short, at_least, packet_in_of, packet_in_rest, packet_in_at, packet_out_with, packet_out_at, flow_mod_of, flow_mod_at}
use Rattle.of13_codec.specs.Spelling.{SpellsPacketIn, SpellsPacketOut, SpellsFlowMod}
use Rattle.of13_codec.specs.Faults.{PacketInFault, seen_head, in_seen, seen_end, sent_actions, PacketOutFault, sent_end, actions_cut, in_actions, FlowModFault, change_head, in_match, in_instrs}
use Rattle.of13_codec.proofs.Says.{Is, Says, says_bind, answer, gives_answer, says_of, head_told, least_complete}

-- ---- a match at the front of bytes, and what stands behind it

pub record Front (strict : Bool) (bytes : List ℕ) (y : List Field × ℕ) : Type 0 where
  pub room : y.1 ≤ length bytes
  pub size : length (take y.1 bytes) ≡ y.1
  pub whole : bytes ≡ take y.1 bytes ++ drop y.1 bytes
  pub spelled : SpellsAnyMatch strict y.0 (take y.1 bytes)

match_says : (strict : Bool) (at : ℕ) (bytes : List ℕ) → AreBytes bytes → Says (Front strict bytes) (From at (FaultInMatch strict bytes)) (match_at strict at bytes)
match_says strict at bytes h =
    let r = match_at strict at bytes in
    says_of (Front strict bytes) (From at (FaultInMatch strict bytes)) r
    (λ y e. (let f = match_sound strict at bytes y h e in record { room = f.room; size = length-take-le y.1 bytes f.room; whole = sym (take-append-drop y.1 bytes); spelled = f.spelled }))
    (match_tells_first strict at bytes (answer r) h.small (gives_answer r))

-- any match that is spelled at the front is the one that is read
record Same (bytes spelling rest : List ℕ) (y : List Field × ℕ) : Type 0 where
  pub size : length spelling ≡ y.1
  pub behind : rest ≡ drop y.1 bytes

same : (strict : Bool) (at : ℕ) (bytes : List ℕ) (y : List Field × ℕ) → match_at strict at bytes ≡ Ok y → (fields : List Field) (spelling rest : List ℕ) → bytes ≡ spelling ++ rest → SpellsAnyMatch strict fields spelling
    → Same bytes spelling rest y
same strict at bytes y e fields spelling rest w p =
    let read = ap (match_at strict at) w ∙ match_complete strict at fields spelling rest p in
    let one : (fields, length spelling) ≡ y = one_answer (match_at strict at bytes) _ y read e in
    let size : length spelling ≡ y.1 = ap (λ (z : List Field × ℕ). z.1) one in
    record { size = size; behind = sym (drop_at spelling rest y.1 size) ∙ ap (drop y.1) (sym w) }

refused_match : {A : Type 0} (strict : Bool) (at : ℕ) (bytes : List ℕ) (f : PartFault) → match_at strict at bytes ≡ Err f → (fields : List Field) (spelling rest : List ℕ) → bytes ≡ spelling ++ rest → SpellsAnyMatch strict fields spelling → A
refused_match strict at bytes f e fields spelling rest w p =
    let read = ap (match_at strict at) w ∙ match_complete strict at fields spelling rest p in
    absurd (cc)

-- ---- PACKET_IN

seen_cases : (P : ℕ → PartCause → Type 0) (body : List ℕ) → (length body < 16 → P (8 + length body) Short)
    → (16 ≤ length body → (q : ℕ) (d : PartCause) → From 24 (FaultInMatch false (drop 16 body)) q d → P q d)
    → ((fields : List Field) (spelling rest : List ℕ) → drop 16 body ≡ spelling ++ rest → SpellsMatchSeen fields spelling → length rest < 2 → P (8 + length body) Short)
    → (q : ℕ) (d : PartCause) → PacketInFault body q d → P q d
seen_cases P body head match end q d (seen_head l) = head l
seen_cases P body head match end q d (in_seen l place cause f) = match l place cause f
seen_cases P body head match end q d (seen_end fields spelling rest w s l) = end fields spelling rest w s l

-- what follows the match
seen_rest : (body : List ℕ) → AreBytes body → 16 ≤ length body → (y : List Field × ℕ) → match_at false 24 (drop 16 body) ≡ Ok y → Front false (drop 16 body) y
    → ((q : ℕ) (d : PartCause) → From 24 (FaultInMatch false (drop 16 body)) q d → ⊥) → Says (Is 4 10 body) (PacketInFault body) (packet_in_rest y.0 body (drop y.1 (drop 16 body)))
unfolding packet_in_rest
seen_rest body h head y is f none =
    let n = y.1 in
    let behind = drop 16 body in
    let rest = drop n behind in
    let packet = packet_in_of y.0 body (drop 2 rest) in
    let room = f.room in
    by_less (λ (r : Result Message PartFault). Says (Is 4 10 body) (PacketInFault body) r) (length rest) 2 (Err (short body)) (Ok (Packet packet))
    (λ few. record {
      there = seen_end y.0 (take n behind) rest f.whole f.spelled few;
      least = seen_cases (ComesFirst (8 + length body) Short) body (λ l. inr (refl, omega arith)) (λ l q d o. absurd (none q d o)) (λ fields spelling after w p l. inr (refl, omega arith));
    })
    (λ two.
    (let same_rest : rest ≡ drop (16 + n) body = drop-drop n 16 body in
    let payload : drop ((16 + n) + 2) body ≡ drop 2 rest = sym (drop-drop 2 (16 + n) body) ∙ ap (drop 2) (sym same_rest) in (
      record {
        spelled =
            number_then 0 4 (number_in 0 4 body) _ body h (omega arith) refl (
            number_then 4 2 (number_in 4 2 body) _ body h (omega arith) refl (
            number_then 6 1 (number_in 6 1 body) _ body h (omega arith) refl (
            number_then 7 1 (number_in 7 1 body) _ body h (omega arith) refl (
            number_then 8 8 (number_in 8 8 body) _ body h (omega arith) refl (
            front_then (SpellsMatchSeen y.0) _ 16 n body f.spelled (
            ignored_then (16 + n) 2 (Just (drop 2 rest)) body (omega (arith, length-drop 16 body, length-drop n behind)) payload))))));
        kind_is = refl;
        version_is = refl;
      },
      seen_cases (λ q d. ⊥) body (λ l. omega arith) (λ l. none) (λ fields spelling after w p l. (let s = same false 24 behind y is fields spelling after w p in omega (arith, l, two, ap length s.behind))),
    )))

pub packet_in_told : (body : List ℕ) → AreBytes body → Says (Is 4 10 body) (PacketInFault body) (packet_in_at body)
unfolding packet_in_at
packet_in_told body h =
    let behind = drop 16 body in
    let read = match_at false 24 behind in
    let second : List Field × ℕ → Result Message PartFault = λ m. packet_in_rest m.0 body (drop m.1 behind) in
    head_told (Is 4 10 body) (PacketInFault body) 16 body (λ n. read >>= second)
    (λ few. seen_head few)
    (λ few. seen_cases (ComesFirst (8 + length body) Short) body (λ l. inr (refl, omega arith)) (λ l. absurd (omega arith)) (λ fields spelling after w p l. inr (refl, omega arith)))
    (λ head. says_bind (Front false behind) (From 24 (FaultInMatch false behind)) (Is 4 10 body) (PacketInFault body) read second (match_says false 24 behind (bytes_drop 16 body h))
    (seen_rest body h head)
    (λ g is first. record {
      there = in_seen head g.at g.cause first.there;
      least = seen_cases (ComesFirst g.at g.cause) body (λ l. absurd (omega arith)) (λ l. first.least) (λ fields spelling after w p l. refused_match false 24 behind g is fields spelling after w p);
    }))

pub packet_in_complete : (m : PacketIn) (body : List ℕ) → SpellsPacketIn m body → packet_in_at body ≡ Ok (Packet m)
unfolding packet_in_at packet_in_rest
packet_in_complete m body p =
    let a = number_again 0 4 m.buffer _ body p in
    let b = number_again 4 2 m.total _ body a.behind in
    let c = number_again 6 1 m.reason _ body b.behind in
    let d = number_again 7 1 m.table _ body c.behind in
    let e = number_again 8 8 m.cookie _ body d.behind in
    let t = e.behind in
    let n = length t.first in
    let behind = drop 16 body in
    let read : match_at false 24 behind ≡ Ok (m.fields, n) = ap (match_at false 24) t.whole ∙ match_complete false 24 m.fields t.first t.rest t.in_front in
    let left : drop n behind ≡ t.rest = ap (drop n) t.whole ∙ drop_at t.first t.rest n refl in
    let q = ignored_again 0 2 (Just m.payload) t.rest t.behind in
    let two : ltb (length (drop n behind)) 2 ≡ false = le-ltb _ _ (omega (arith, ap length left, q.0)) in
    let payload : drop 2 (drop n behind) ≡ m.payload = ap (drop 2) left ∙ q.1 in
    let least : at_least 16 body ≡ Ok 16 = least_complete 16 body (omega (arith, a.size, b.size, c.size, d.size, e.size)) in
    let packet = packet_in_of m.fields body (drop 2 (drop n behind)) in
    let same : packet ≡ m = λ i. record { buffer = a.value i; total = b.value i; reason = c.value i; table = d.value i; cookie = e.value i; fields = m.fields; payload = payload i } in
    let r : Result Message PartFault = Ok (Packet packet) in
    let second : List Field × ℕ → Result Message PartFault = λ x. packet_in_rest x.0 body (drop x.1 behind) in
    let first : ℕ → Result Message PartFault = λ n. match_at false 24 behind >>= second in
    bind_from (at_least 16 body) first 16 (Packet m) least (bind_from (match_at false 24 behind) second (m.fields, n) (Packet m) read (
    pass (ltb (length (drop n behind)) 2) (short body) r two ∙ ap (λ (x : PacketIn). Ok (Packet x)) same))

-- ---- PACKET_OUT

packet_out_of : List Action → List ℕ → List ℕ → PacketOut
packet_out_of actions body payload = record { buffer = number_in 0 4 body; in_port = number_in 4 4 body; actions = actions; payload = payload }

out_cases : (P : ℕ → PartCause → Type 0) (body : List ℕ) → (length body < 16 + number_in 8 2 body → P (8 + length body) Short)
    → (16 + number_in 8 2 body ≤ length body → Behind EachAction (CutsOff EndsEarly WrongAction) [] (sent_actions body) → P 16 BadLength)
    → ((q : ℕ) (d : PartCause) → From 24 (ActionsFault (sent_actions body)) q d → P q d)
    → (q : ℕ) (d : PartCause) → PacketOutFault body q d → P q d
out_cases P body end cut inside q d (sent_end l) = end l
out_cases P body end cut inside q d (actions_cut l b) = cut l b
out_cases P body end cut inside q d (in_actions place cause f) = inside place cause f

abbrev sent : List ℕ → List Action → Result Message PartFault
sent body actions = cond (ltb (length (drop 16 body)) (number_in 8 2 body)) (Err (short body)) (Ok (Send (packet_out_of actions body (drop (number_in 8 2 body) (drop 16 body)))))

-- a body that ends before its actions do
cut_told : (body : List ℕ) → length body < 16 + number_in 8 2 body → ((q : ℕ) (d : PartCause) → ActionsFault (sent_actions body) q d → ⊥) → IsFirst (PacketOutFault body) (short body)
cut_told body few none = record {
  there = sent_end few;
  least = out_cases (ComesFirst (8 + length body) Short) body (λ l. inr (refl, omega arith)) (λ l b. absurd (omega arith)) (λ q d f. absurd (none f.inside d f.fault));
}

-- a fault in the actions
action_told : (body : List ℕ) (place : ℕ) (cause : PartCause) → 16 + place < length body → ActionsFault (sent_actions body) place cause
    → ((q : ℕ) (d : PartCause) → ActionsFault (sent_actions body) q d → ComesFirst place cause q d)
    → (16 + number_in 8 2 body ≤ length body → Behind EachAction (CutsOff EndsEarly WrongAction) [] (sent_actions body) → ⊥) → IsFirst (PacketOutFault body) (fault_at (24 + place) cause)
action_told body place cause inside there least uncut = record {
  there = in_actions (24 + place) cause (record { inside = place; is_at = refl; fault = there });
  least = out_cases (ComesFirst (24 + place) cause) body (λ l. inl (omega arith)) (λ l b. absurd (uncut l b)) (λ q d f. comes_first_after 24 place q f.inside cause d f.is_at (least f.inside d f.fault));
}

sent_told : (body : List ℕ) → AreBytes body → 16 ≤ length body → Says (Is 4 13 body) (PacketOutFault body) (packet_out_with (number_in 8 2 body) body)
unfolding packet_out_with past_end packet_out_of
sent_told body h head =
    let len = number_in 8 2 body in
    let rest = drop 16 body in
    let region = sent_actions body in
    let size : length rest ≡ length body - 16 = length-drop 16 body in
    let below : length region ≤ length rest = omega (arith, length-take len rest) in
    let hr = bytes_take len rest (bytes_drop 16 body h) in
    let wrong = fault_at 16 BadLength in
    let says = λ (r : Result Message PartFault). Says (Is 4 13 body) (PacketOutFault body) r in
    let bind : Result (List Action) PartFault → Result Message PartFault = λ q. q >>= sent body in
    let m : List Action → Result Message PartFault = λ actions. Ok (Send (packet_out_of actions body (drop len rest))) in
    by_less (λ (past : PartFault). says (bind (actions_at past 24 region))) (length rest) len (short body) wrong
    (λ few. elim (actions_told (short body) 24 region hr) [
      | inl p ↦ subst (λ q. says (bind q)) (sym p.is) (by_less says (length rest) len (Err (short body)) (m p.value) (λ l. cut_told body (omega arith) p.none) (λ l. absurd (omega arith)))
      | inr (inl f) ↦ subst (λ q. says (bind q)) (sym f.is) (action_told body f.place f.cause (omega (arith, f.inside)) f.there f.least (λ l b. omega arith))
      | inr (inr f) ↦ subst (λ q. says (bind q)) (sym f.is) (cut_told body (omega arith) f.none)
    ])
    (λ fits. elim (actions_told wrong 24 region hr) [
      | inl p ↦ subst (λ q. says (bind q)) (sym p.is) (by_less says (length rest) len (Err (short body)) (m p.value) (λ l. absurd (omega arith)) (λ l. (
        record {
          spelled = record {
            len = len;
            parts =
                number_then 0 4 (number_in 0 4 body) _ body h (omega arith) refl (
                number_then 4 4 (number_in 4 4 body) _ body h (omega arith) refl (
                number_then 8 2 len _ body h (omega arith) refl (
                ignored_then 10 6 _ body (omega arith) (
                front_then (λ actions. (length actions ≡ len) × SpellsActions p.value actions) (Just (drop len rest)) 16 len body
                (length-take-le len rest fits, p.spelled) (sym (drop-drop len 16 body))))));
          };
          kind_is = refl;
          version_is = refl;
        },
        out_cases (λ q d. ⊥) body (λ l. omega arith) (λ l b. p.whole (cut_ends EachAction EndsEarly WrongAction [] region b)) (λ q d f. p.none f.inside d f.fault),
      )))
      | inr (inl f) ↦ subst (λ q. says (bind q)) (sym f.is) (action_told body f.place f.cause (omega (arith, f.inside)) f.there f.least (λ l b. f.uncut b))
      | inr (inr f) ↦ subst (λ q. says (bind q)) (sym f.is) (record {
        there = actions_cut (omega arith) f.early;
        least = out_cases (ComesFirst 16 BadLength) body (λ l. absurd (omega arith)) (λ l b. inr (refl, omega arith)) (λ q d o. absurd (f.none o.inside d o.fault));
      })
    ])

pub packet_out_told : (body : List ℕ) → AreBytes body → Says (Is 4 13 body) (PacketOutFault body) (packet_out_at body)
unfolding packet_out_at
packet_out_told body h =
    head_told (Is 4 13 body) (PacketOutFault body) 16 body (λ n. packet_out_with (number_in 8 2 body) body)
    (λ few. sent_end (omega arith))
    (λ few. out_cases (ComesFirst (8 + length body) Short) body (λ l. inr (refl, omega arith)) (λ l b. absurd (omega arith)) (λ q d f. inl (omega (arith, f.is_at))))
    (sent_told body h)

pub packet_out_complete : (m : PacketOut) (body : List ℕ) → SpellsPacketOut m body → packet_out_at body ≡ Ok (Send m)
unfolding packet_out_at packet_out_with packet_out_of
packet_out_complete m body p =
    let len = p.len in
    let a = number_again 0 4 m.buffer _ body p.parts in
    let b = number_again 4 4 m.in_port _ body a.behind in
    let c = number_again 8 2 len _ body b.behind in
    let d = ignored_again 10 6 _ body c.behind in
    let t = d.1 in
    let behind = drop 16 body in
    let size = t.in_front.0 in
    let part : take len behind ≡ t.first = ap (take len) t.whole ∙ take_at t.first t.rest len size in
    let left : drop len behind ≡ t.rest = ap (drop len) t.whole ∙ drop_at t.first t.rest len size in
    let past = past_end len (length behind) (fault_at 16 BadLength) (short body) in
    let read : actions_at past 24 (take len behind) ≡ Ok m.actions = ap (actions_at past 24) part ∙ actions_complete past 24 m.actions t.first t.in_front.1 in
    let all : ltb (length behind) len ≡ false = le-ltb _ _ (omega (arith, ap length t.whole, length-append t.first t.rest, size)) in
    let least : at_least 16 body ≡ Ok 16 = least_complete 16 body (omega (arith, a.size, b.size, c.size, d.0)) in
    let payload : drop len behind ≡ m.payload = left ∙ t.behind in
    let out = packet_out_of m.actions body (drop len behind) in
    let same : out ≡ m = λ i. record { buffer = a.value i; in_port = b.value i; actions = m.actions; payload = payload i } in
    let r : Result Message PartFault = Ok (Send out) in
    let second : List Action → Result Message PartFault = λ actions. cond (ltb (length behind) len) (Err (short body)) (Ok (Send (packet_out_of actions body (drop len behind)))) in
    let value = c.value in
    let done : packet_out_with len body ≡ Ok (Send m) =
    bind_from (actions_at past 24 (take len behind)) second m.actions (Send m) read (pass (ltb (length behind) len) (short body) r all ∙ ap (λ (x : PacketOut). Ok (Send x)) same) in
    bind_from (at_least 16 body) (λ n. packet_out_with (number_in 8 2 body) body) 16 (Send m) least (ap (λ k. packet_out_with k body) value ∙ done)

-- ---- FLOW_MOD

flow_cases : (P : ℕ → PartCause → Type 0) (body : List ℕ) → (length body < 40 → P (8 + length body) Short)
    → (40 ≤ length body → (q : ℕ) (d : PartCause) → From 48 (FaultInMatch true (drop 40 body)) q d → P q d)
    → ((fields : List Field) (spelling rest : List ℕ) → drop 40 body ≡ spelling ++ rest → SpellsMatch fields spelling → (q : ℕ) (d : PartCause) → From (48 + length spelling) (FaultInInstrs rest) q d → P q d)
    → (q : ℕ) (d : PartCause) → FlowModFault body q d → P q d
flow_cases P body head match instrs q d (change_head l) = head l
flow_cases P body head match instrs q d (in_match l place cause f) = match l place cause f
flow_cases P body head match instrs q d (in_instrs fields spelling rest w p place cause f) = instrs fields spelling rest w p place cause f

instrs_says : (at : ℕ) (bytes : List ℕ) → AreBytes bytes → Says (λ instrs. SpellsInstrs instrs bytes) (From at (FaultInInstrs bytes)) (instrs_at at bytes)
instrs_says at bytes h =
    let r = instrs_at at bytes in
    says_of (λ instrs. SpellsInstrs instrs bytes) (From at (FaultInInstrs bytes)) r (λ instrs e. instrs_sound at bytes instrs h e) (instrs_tell_first at bytes (answer r) h.small (gives_answer r))

-- the instructions behind the match
flow_rest : (body : List ℕ) → AreBytes body → 40 ≤ length body → (y : List Field × ℕ) → match_at true 48 (drop 40 body) ≡ Ok y → Front true (drop 40 body) y
    → ((q : ℕ) (d : PartCause) → From 48 (FaultInMatch true (drop 40 body)) q d → ⊥)
    → Says (Is 4 14 body) (FlowModFault body) (instrs_at (48 + y.1) (drop y.1 (drop 40 body)) >>= λ instrs. Ok (Change (flow_mod_of y.0 instrs body)))
unfolding flow_mod_of
flow_rest body h head y is f none =
    let n = y.1 in
    let behind = drop 40 body in
    let rest = drop n behind in
    let Inner = From (48 + n) (FaultInInstrs rest) in
    let that = same true 48 behind y is in
    let here : (fields : List Field) (spelling after : List ℕ) → behind ≡ spelling ++ after → SpellsMatch fields spelling → (q : ℕ) (d : PartCause) → From (48 + length spelling) (FaultInInstrs after) q d → Inner q d =
    λ fields spelling after w p q d o. (let s = that fields spelling after w p in subst (λ k. From (48 + k) (FaultInInstrs rest) q d) s.size (subst (λ l. From (48 + length spelling) (FaultInInstrs l) q d) s.behind o)) in
    says_bind (λ instrs. SpellsInstrs instrs rest) Inner (Is 4 14 body) (FlowModFault body) (instrs_at (48 + n) rest) (λ instrs. Ok (Change (flow_mod_of y.0 instrs body)))
    (instrs_says (48 + n) rest (bytes_drop n behind (bytes_drop 40 body h)))
    (λ instrs e spelled whole. (
      record {
        spelled =
            number_then 0 8 (number_in 0 8 body) _ body h (omega arith) refl (
            number_then 8 8 (number_in 8 8 body) _ body h (omega arith) refl (
            number_then 16 1 (number_in 16 1 body) _ body h (omega arith) refl (
            number_then 17 1 (number_in 17 1 body) _ body h (omega arith) refl (
            number_then 18 2 (number_in 18 2 body) _ body h (omega arith) refl (
            number_then 20 2 (number_in 20 2 body) _ body h (omega arith) refl (
            number_then 22 2 (number_in 22 2 body) _ body h (omega arith) refl (
            number_then 24 4 (number_in 24 4 body) _ body h (omega arith) refl (
            number_then 28 4 (number_in 28 4 body) _ body h (omega arith) refl (
            number_then 32 4 (number_in 32 4 body) _ body h (omega arith) refl (
            number_then 36 2 (number_in 36 2 body) _ body h (omega arith) refl (
            ignored_then 38 2 _ body (omega arith) (
            front_then (SpellsMatch y.0) (SpellsInstrs instrs) 40 n body f.spelled (subst (λ l. SpellsInstrs instrs l) (drop-drop n 40 body) spelled)))))))))))));
        kind_is = refl;
        version_is = refl;
      },
      flow_cases (λ q d. ⊥) body (λ l. omega arith) (λ l. none) (λ fields spelling after w p q d o. whole q d (here fields spelling after w p q d o)),
    ))
    (λ g e first. record {
      there = in_instrs y.0 (take n behind) rest f.whole f.spelled g.at g.cause (subst (λ k. From (48 + k) (FaultInInstrs rest) g.at g.cause) (sym f.size) first.there);
      least = flow_cases (ComesFirst g.at g.cause) body (λ l. absurd (omega arith)) (λ l q d o. absurd (none q d o)) (λ fields spelling after w p q d o. first.least q d (here fields spelling after w p q d o));
    })

-- a body that is shorter than its head has no match
no_match : (body : List ℕ) → length body < 40 → (fields : List Field) (spelling rest : List ℕ) → drop 40 body ≡ spelling ++ rest → SpellsMatch fields spelling → ⊥
no_match body few fields spelling rest w p =
    let a = number_again 0 2 1 _ spelling p.parts in
    omega (arith, a.size, ap length w, length-append spelling rest, length-drop 40 body)

pub flow_mod_told : (body : List ℕ) → AreBytes body → Says (Is 4 14 body) (FlowModFault body) (flow_mod_at body)
unfolding flow_mod_at
flow_mod_told body h =
    let behind = drop 40 body in
    let read = match_at true 48 behind in
    let second : List Field × ℕ → Result Message PartFault = λ m. instrs_at (48 + m.1) (drop m.1 behind) >>= λ instrs. Ok (Change (flow_mod_of m.0 instrs body)) in
    head_told (Is 4 14 body) (FlowModFault body) 40 body (λ n. read >>= second)
    (λ few. change_head few)
    (λ few. flow_cases (ComesFirst (8 + length body) Short) body (λ l. inr (refl, omega arith)) (λ l. absurd (omega arith)) (λ fields spelling rest w p. absurd (no_match body few fields spelling rest w p)))
    (λ head. says_bind (Front true behind) (From 48 (FaultInMatch true behind)) (Is 4 14 body) (FlowModFault body) read second (match_says true 48 behind (bytes_drop 40 body h))
    (flow_rest body h head)
    (λ g is first. record {
      there = in_match head g.at g.cause first.there;
      least = flow_cases (ComesFirst g.at g.cause) body (λ l. absurd (omega arith)) (λ l. first.least) (λ fields spelling rest w p. refused_match true 48 behind g is fields spelling rest w p);
    }))

pub flow_mod_complete : (m : FlowMod) (body : List ℕ) → SpellsFlowMod m body → flow_mod_at body ≡ Ok (Change m)
unfolding flow_mod_at flow_mod_of
flow_mod_complete m body p =
    let a = number_again 0 8 m.cookie _ body p in
    let b = number_again 8 8 m.cookie_mask _ body a.behind in
    let c = number_again 16 1 m.table _ body b.behind in
    let d = number_again 17 1 m.command _ body c.behind in
    let e = number_again 18 2 m.idle _ body d.behind in
    let f = number_again 20 2 m.hard _ body e.behind in
    let g = number_again 22 2 m.priority _ body f.behind in
    let j = number_again 24 4 m.buffer _ body g.behind in
    let k = number_again 28 4 m.out_port _ body j.behind in
    let l = number_again 32 4 m.out_group _ body k.behind in
    let o = number_again 36 2 m.flags _ body l.behind in
    let q = ignored_again 38 2 _ body o.behind in
    let t = q.1 in
    let n = length t.first in
    let behind = drop 40 body in
    let read : match_at true 48 behind ≡ Ok (m.fields, n) = ap (match_at true 48) t.whole ∙ match_complete true 48 m.fields t.first t.rest t.in_front in
    let left : drop n behind ≡ t.rest = ap (drop n) t.whole ∙ drop_at t.first t.rest n refl in
    let instrs : instrs_at (48 + n) (drop n behind) ≡ Ok m.instrs = ap (instrs_at (48 + n)) left ∙ instrs_complete (48 + n) m.instrs t.rest t.behind in
    let least : at_least 40 body ≡ Ok 40 = least_complete 40 body (omega (arith, a.size, b.size, c.size, d.size, e.size, f.size, g.size, j.size, k.size, l.size, o.size, q.0)) in
    let change = flow_mod_of m.fields m.instrs body in
    let same : change ≡ m = λ i. record {
      cookie = a.value i;
      cookie_mask = b.value i;
      table = c.value i;
      command = d.value i;
      idle = e.value i;
      hard = f.value i;
      priority = g.value i;
      buffer = j.value i;
      out_port = k.value i;
      out_group = l.value i;
      flags = o.value i;
      fields = m.fields;
      instrs = m.instrs;
    } in
    let third : (x : List Field × ℕ) → List Instr → Result Message PartFault = λ x instrs. Ok (Change (flow_mod_of x.0 instrs body)) in
    let second : List Field × ℕ → Result Message PartFault = λ x. instrs_at (48 + x.1) (drop x.1 behind) >>= third x in
    let first : ℕ → Result Message PartFault = λ n. match_at true 48 behind >>= second in
    bind_from (at_least 40 body) first 40 (Change m) least (bind_from (match_at true 48 behind) second (m.fields, n) (Change m) read (
    bind_from (instrs_at (48 + n) (drop n behind)) (third (m.fields, n)) m.instrs (Change m) instrs (ap (λ (x : FlowMod). Ok (Change x)) same)))
