-- What is written of a well-formed message spells it.
use Rattle.std.proofs.Common.{◌≡◌, ℕ, ◌+◌, ◌^◌, ◌<◌, Bool, true, false, cond, List, [], ◌∷◌, ◌++◌, length, Some, None, refl, sym, ap, ◌∙◌, subst, arith, append_assoc}
use Rattle.std.specs.List.{AllByRecursion, flat_map}
use Rattle.std.proofs.lemmas.List.{length-append, length-replicate, append-nil}
use Rattle.of_wire.specs.Parts.{match_bytes, number, zeros, action_bytes, instr_bytes}
use Rattle.of_wire.specs.Grammar.{◌▷◌, Number, Ignored, Zeros, Just, Joined}
use Rattle.of_wire.specs.Spelling.{SpellsActions}
use Rattle.of_wire.proofs.Lengths.{number_length}
use Rattle.of_wire.proofs.Grammars.{number_ends}
use Rattle.of_wire.proofs.Chosen.{one_answer}
use Rattle.of_wire.proofs.Written.{then_append, is_number, regroup3, regroup5, match_written, match_seen_written, actions_written, instrs_written}
use Rattle.of13_codec.specs.declared.message.Message.{Message}
use Rattle.of13_codec.specs.declared.message.Message.TheVariants.{Hello, Error, EchoRequest, EchoReply, FeaturesRequest, FeaturesReply as Features, PacketIn as Packet, PortStatus, PacketOut as Send, FlowMod as Change, PortDescRequest, PortStatsRequest, PortDescReply, PortStatsReply, BarrierRequest, BarrierReply, Other}
use Rattle.of13_codec.specs.declared.features.FeaturesReply.{FeaturesReply}
use Rattle.of13_codec.specs.declared.packet_in.PacketIn.{PacketIn}
use Rattle.of13_codec.specs.declared.packet_out.PacketOut.{PacketOut}
use Rattle.of13_codec.specs.declared.flow_mod.FlowMod.{FlowMod}
use Rattle.of13_codec.specs.declared.ports.PortDesc.{PortDesc}
use Rattle.of13_codec.specs.declared.ports.PortStats.{PortStats}
use Rattle.of13_codec.specs.Messages.{hello_bytes, error_bytes, features_bytes, packet_in_bytes, port_back, port_bytes, port_status_bytes, packet_out_bytes, flow_mod_target, flow_mod_terms, flow_mod_filter, flow_mod_bytes, multipart_head, port_stats_bytes, port_stats_request_bytes, body_of, kind_of, version_of, written}
use Rattle.of13_codec.specs.Decoding.{decoded}
use Rattle.of13_codec.specs.Spelling.{Spells, SpellsBody, SpellsHello, Element, SpellsElement, SpellsFeatures, SpellsPacketIn, SpellsPort, SpellsStats, SpellsFlowMod, Flags, Raw, Numbers}
use Rattle.of13_codec.specs.WellFormed.{IsFeatures, IsPacketIn, IsPacketOut, IsFlowMod, IsPort, IsStats, IsWellFormed, FitsFrame}
use Rattle.of13_codec.proofs.DecodeLaws.{decode_complete}

-- ---- parts in a row

-- bytes in front of what `back` spells, which together are what `whole` spells
record Fronts (whole back : List ℕ → Type 0) (bytes : List ℕ) : Type 0 where
  pub on : (rest : List ℕ) → back rest → whole (bytes ++ rest)

opens : (whole : List ℕ → Type 0) → Fronts whole whole []
opens whole = record { on = λ rest p. p }

group : {whole middle back : List ℕ → Type 0} {xs ys : List ℕ} → Fronts whole middle xs → Fronts middle back ys → Fronts whole back (xs ++ ys)
group {whole = whole} {xs = xs} {ys = ys} f g = record { on = λ rest p. subst whole (sym (append_assoc xs ys rest)) (f.on (ys ++ rest) (g.on rest p)) }

one_part : {front back : List ℕ → Type 0} (xs : List ℕ) → front xs → Fronts (front ▷ back) back xs
one_part {front = front} {back = back} xs p = record { on = λ rest q. then_append front back xs rest p q }

-- one part more
next : {whole front back : List ℕ → Type 0} {xs : List ℕ} → Fronts whole (front ▷ back) xs → (part : List ℕ) → front part → Fronts whole back (xs ++ part)
next f part p = group f (one_part part p)

infixl 10 ◌▹◌
◌▹◌ : {whole front back : List ℕ → Type 0} {xs part : List ℕ} → Fronts whole (front ▷ back) xs → front part → Fronts whole back (xs ++ part)
◌▹◌ {part = part} f p = next f part p

padding : (n : ℕ) → Ignored n (zeros n)
padding n = length-replicate n 0

raw : (n : ℕ) (xs : List ℕ) → length xs ≡ n → Raw n xs xs
raw n xs h = (h, refl)

-- ---- ports

port_written : (p : PortDesc) → IsPort p → SpellsPort p (port_bytes p)
unfolding port_bytes
port_written p w =
    let front = opens (λ bs. SpellsPort p bs) ▹ is_number 4 p.no (omega (arith, w.no)) ▹ padding 4 ▹ raw 6 p.hw.0 w.hw ▹ padding 2 in
    let back = opens (λ bs. (Raw 16 p.name ▷ Number 4 p.config ▷ Number 4 p.state ▷ Raw 24 p.rest) bs) ▹ raw 16 p.name w.name ▹ is_number 4 p.config (omega (arith, w.config)) ▹ is_number 4 p.state (omega (arith, w.state)) in
    front.on (port_back p) (back.on p.rest (w.rest, refl))

numbers_written : (vs : List ℕ) (back : List ℕ → Type 0) (bytes : List ℕ) → AllByRecursion (λ c. c < 2 ^ 64) vs → back bytes → Numbers 8 vs back (flat_map (number 8) vs ++ bytes)
numbers_written [] back bytes w p = p
numbers_written (v ∷ vs) back bytes w p =
    subst (λ bs. Numbers 8 (v ∷ vs) back bs) (sym (append_assoc (number 8 v) (flat_map (number 8) vs) bytes)) (
    then_append (Number 8 v) (Numbers 8 vs back) (number 8 v) (flat_map (number 8) vs ++ bytes) (is_number 8 v (omega (arith, w.0))) (numbers_written vs back bytes w.1 p))

stats_written : (s : PortStats) → IsStats s → SpellsStats s (port_stats_bytes s)
unfolding port_stats_bytes
stats_written s w =
    let back : List ℕ → Type 0 = λ bs. (Number 4 s.sec ▷ Number 4 s.nsec) bs in
    let front = opens (λ bs. (Number 4 s.no ▷ Ignored 4 ▷ Numbers 8 s.counters back) bs) ▹ is_number 4 s.no (omega (arith, w.no)) ▹ padding 4 in
    let counters : Fronts (Numbers 8 s.counters back) back (flat_map (number 8) s.counters) = record { on = λ rest p. numbers_written s.counters back rest w.counters p } in
    let all = group front counters ▹ is_number 4 s.sec (omega (arith, w.sec)) in
    record { parts = all.on (number 4 s.nsec) (is_number 4 s.nsec (omega (arith, w.nsec))); twelve = w.twelve }

-- items that are each spelled, in a row
joined_written : {A : Type 0} (spells : A → List ℕ → Type 0) (bytes_of : A → List ℕ) (well : A → Type 0) → ((x : A) → well x → spells x (bytes_of x)) → (before items : List A) → AllByRecursion well items
    → Joined (λ before x. spells x) before items (flat_map bytes_of items)
joined_written spells bytes_of well each before [] w = refl
joined_written spells bytes_of well each before (x ∷ items) w = record {
  first = bytes_of x;
  rest = flat_map bytes_of items;
  whole = refl;
  in_front = each x w.0;
  behind = joined_written spells bytes_of well each (before ++ x ∷ []) items w.1;
}

-- ---- bodies

error_written : (kind code : ℕ) (payload : List ℕ) → kind < 2 ^ 16 → code < 2 ^ 16 → SpellsBody (Error kind code payload) (error_bytes kind code payload)
error_written kind code payload x y =
    let front = opens (λ bs. SpellsBody (Error kind code payload) bs) ▹ is_number 2 kind (omega arith) ▹ is_number 2 code (omega arith) in
    front.on payload refl

features_written : (m : FeaturesReply) → IsFeatures m → SpellsFeatures m (features_bytes m)
features_written m w =
    let front = opens (λ bs. SpellsFeatures m bs) ▹ is_number 8 m.dp.0 (omega (arith, w.dp)) ▹ is_number 4 m.n_buffers (omega (arith, w.n_buffers)) ▹ is_number 1 m.n_tables (omega (arith, w.n_tables))
    ▹ is_number 1 m.auxiliary (omega (arith, w.auxiliary)) ▹ padding 2 ▹ is_number 4 m.capabilities (omega (arith, w.capabilities)) in
    front.on (zeros 4) refl

packet_in_written : (m : PacketIn) → IsPacketIn m → SpellsPacketIn m (packet_in_bytes m)
packet_in_written m w =
    let front = opens (λ bs. SpellsPacketIn m bs) ▹ is_number 4 m.buffer (omega (arith, w.buffer)) ▹ is_number 2 m.total (omega (arith, w.total)) ▹ is_number 1 m.reason (omega (arith, w.reason))
    ▹ is_number 1 m.table (omega (arith, w.table)) ▹ is_number 8 m.cookie (omega (arith, w.cookie)) ▹ match_seen_written m.fields w.fields ▹ padding 2 in
    front.on m.payload refl

status_written : (reason : ℕ) (p : PortDesc) → reason < 2 ^ 8 → IsPort p → SpellsBody (PortStatus reason p) (port_status_bytes reason p)
status_written reason p x w =
    let front = opens (λ bs. SpellsBody (PortStatus reason p) bs) ▹ is_number 1 reason (omega arith) ▹ padding 7 in
    front.on (port_bytes p) (port_written p w)

packet_out_written : (m : PacketOut) → IsPacketOut m → FitsFrame (Send m) → SpellsBody (Send m) (packet_out_bytes m)
packet_out_written m w fits =
    let actions = flat_map action_bytes m.actions in
    let len = length actions in
    let head = number 4 m.buffer ++ number 4 m.in_port ++ number 2 len ++ zeros 6 in
    let room : len < 2 ^ 16 = omega (arith, fits, length-append (head ++ actions) m.payload, length-append head actions) in
    let front = next (opens (λ bs. (Number 4 m.buffer ▷ Number 4 m.in_port ▷ Number 2 len ▷ Ignored 6 ▷ (λ bs. (length bs ≡ len) × SpellsActions m.actions bs) ▷ Just m.payload) bs)
    ▹ is_number 4 m.buffer (omega (arith, w.buffer)) ▹ is_number 4 m.in_port (omega (arith, w.in_port)) ▹ is_number 2 len (omega (arith, room)) ▹ padding 6) actions (refl, actions_written m.actions w.actions) in
    record { len = len; parts = front.on m.payload refl }

flow_mod_written : (m : FlowMod) → IsFlowMod m → FitsFrame (Change m) → SpellsFlowMod m (flow_mod_bytes m)
flow_mod_written m w fits =
    let instrs = flat_map instr_bytes m.instrs in
    let room : length instrs < 2 ^ 16 = omega (arith, fits, length-append (flow_mod_target m ++ flow_mod_terms m ++ flow_mod_filter m ++ match_bytes m.fields) instrs) in
    let front = group (group (opens (λ bs. SpellsFlowMod m bs) ▹ is_number 8 m.cookie (omega (arith, w.cookie)) ▹ is_number 8 m.cookie_mask (omega (arith, w.cookie_mask))
    ▹ is_number 1 m.table (omega (arith, w.table)) ▹ is_number 1 m.command (omega (arith, w.command)))
    (opens _ ▹ is_number 2 m.idle (omega (arith, w.idle)) ▹ is_number 2 m.hard (omega (arith, w.hard)) ▹ is_number 2 m.priority (omega (arith, w.priority)) ▹ is_number 4 m.buffer (omega (arith, w.buffer))))
    (opens _ ▹ is_number 4 m.out_port (omega (arith, w.out_port)) ▹ is_number 4 m.out_group (omega (arith, w.out_group)) ▹ is_number 2 m.flags (omega (arith, w.flags)) ▹ padding 2)
    ▹ match_written m.fields w.fields in
    front.on instrs (instrs_written m.instrs w.instrs room)

desc_reply_written : (more : Bool) (flags : ℕ) (ports : List PortDesc) → Flags more (number 2 flags) → AllByRecursion IsPort ports → SpellsBody (PortDescReply more ports) (multipart_head 13 flags ++ flat_map port_bytes ports)
desc_reply_written more flags ports x w =
    let front = opens (λ bs. SpellsBody (PortDescReply more ports) bs) ▹ is_number 2 13 (omega arith) ▹ x ▹ padding 4 in
    front.on (flat_map port_bytes ports) (joined_written SpellsPort port_bytes IsPort port_written [] ports w)

stats_reply_written : (more : Bool) (flags : ℕ) (stats : List PortStats) → Flags more (number 2 flags) → AllByRecursion IsStats stats → SpellsBody (PortStatsReply more stats) (multipart_head 4 flags ++ flat_map port_stats_bytes stats)
stats_reply_written more flags stats x w =
    let front = opens (λ bs. SpellsBody (PortStatsReply more stats) bs) ▹ is_number 2 4 (omega arith) ▹ x ▹ padding 4 in
    front.on (flat_map port_stats_bytes stats) (joined_written SpellsStats port_stats_bytes IsStats stats_written [] stats w)

desc_request_written : (bs : List ℕ) → bs ≡ multipart_head 13 0 → SpellsBody PortDescRequest bs
desc_request_written bs e =
    let a = number 2 13 in let b = number 2 0 in let c = zeros 4 in
    let size : length (b ++ c) ≡ 6 = omega (arith, length-append b c, number_length 2 0, length-replicate {A = ℕ} 4 0) in
    subst (λ bs. SpellsBody PortDescRequest bs) (regroup3 a b c ∙ sym e) (then_append (Number 2 13) (Ignored 6) a (b ++ c) (is_number 2 13 (omega arith)) size)

stats_request_written : (port : ℕ) → port < 2 ^ 32 → SpellsBody (PortStatsRequest port) (port_stats_request_bytes port)
stats_request_written port x =
    let a = number 2 4 in let b = number 2 0 in let c = zeros 4 in let d = number 4 port in let e = zeros 4 in
    let size : length (b ++ c) ≡ 6 = omega (arith, length-append b c, number_length 2 0, length-replicate {A = ℕ} 4 0) in
    let regroup : a ++ ((b ++ c) ++ (d ++ e)) ≡ (((a ++ b) ++ c) ++ d) ++ e = ap (λ l. a ++ l) (append_assoc b c (d ++ e)) ∙ regroup5 a b c d e in
    subst (λ bs. SpellsBody (PortStatsRequest port) bs) regroup (
    then_append _ _ a ((b ++ c) ++ (d ++ e)) (is_number 2 4 (omega arith)) (then_append (Ignored 6) _ (b ++ c) (d ++ e) size (
    then_append _ _ d e (is_number 4 port (omega arith)) refl)))

flags_written : (more : Bool) → Flags more (number 2 (cond more 1 0))
flags_written true = record { flags = 1; number = is_number 2 1 (omega arith); bit = refl }
flags_written false = record { flags = 0; number = is_number 2 0 (omega arith); bit = refl }

bitmap_written : (bitmap : ℕ) → bitmap < 2 ^ 32 → SpellsHello (Some bitmap) (hello_bytes (Some bitmap))
bitmap_written bitmap x =
    let a = number 2 1 in let b = number 2 8 in let c = number 4 bitmap in
    let is : Number 4 bitmap c = is_number 4 bitmap (omega arith) in
    let e : Element = record { kind = 1; content = c } in
    let regroup : a ++ (b ++ (c ++ [])) ≡ (a ++ b) ++ c = ap (λ l. a ++ (b ++ l)) (append-nil c) ∙ regroup3 a b c in
    let element : SpellsElement e ((a ++ b) ++ c) = record {
      len = 8;
      parts = subst (λ bs. (Number 2 1 ▷ Number 2 8 ▷ Raw 4 c ▷ Zeros 0) bs) regroup (
          then_append _ _ a (b ++ (c ++ [])) (is_number 2 1 (omega arith)) (then_append _ _ b (c ++ []) (is_number 2 8 (omega arith)) (
          then_append (Raw 4 c) (Zeros 0) c [] (number_length 4 bitmap, refl) refl)));
      head = omega arith;
      bitmap = λ k. omega arith;
    } in
    record {
      elements = e ∷ [];
      parts = record { first = (a ++ b) ++ c; rest = []; whole = sym (append-nil ((a ++ b) ++ c)); in_front = element; behind = refl };
      first = ap Some (sym (let n = number_ends 0 4 bitmap c is in n.0));
    }

body_written : (m : Message) → IsWellFormed m → FitsFrame m → SpellsBody m (body_of m)
body_written (Hello version None) w fits = record { elements = []; parts = refl; first = refl }
body_written (Hello version (Some bitmap)) w fits = bitmap_written bitmap w.2
body_written (Error kind code payload) w fits = error_written kind code payload w.0 w.1
body_written (EchoRequest payload) w fits = refl
body_written (EchoReply payload) w fits = refl
body_written FeaturesRequest w fits = refl
body_written (Features m) w fits = features_written m w
body_written (Packet m) w fits = packet_in_written m w
body_written (PortStatus reason port) w fits = status_written reason port w.0 w.1
body_written (Send m) w fits = packet_out_written m w fits
body_written (Change m) w fits = flow_mod_written m w fits
body_written PortDescRequest w fits = desc_request_written (multipart_head 13 0) refl
body_written (PortStatsRequest port) w fits = stats_request_written port w
body_written (PortDescReply more ports) w fits = desc_reply_written more (cond more 1 0) ports (flags_written more) w
body_written (PortStatsReply more stats) w fits = stats_reply_written more (cond more 1 0) stats (flags_written more) w
body_written BarrierRequest w fits = refl
body_written BarrierReply w fits = refl
body_written (Other kind body) w fits = (refl, w.1)

record Header (m : Message) : Type 0 where
  pub version : version_of m < 2 ^ 8
  pub positive : 0 < version_of m
  pub kind : kind_of m < 2 ^ 8

header_of : (m : Message) → IsWellFormed m → Header m
header_of (Hello version bitmap) w = record { version = w.1; positive = w.0; kind = omega arith }
header_of (Error kind code payload) w = record { version = omega arith; positive = omega arith; kind = omega arith }
header_of (EchoRequest payload) w = record { version = omega arith; positive = omega arith; kind = omega arith }
header_of (EchoReply payload) w = record { version = omega arith; positive = omega arith; kind = omega arith }
header_of FeaturesRequest w = record { version = omega arith; positive = omega arith; kind = omega arith }
header_of (Features m) w = record { version = omega arith; positive = omega arith; kind = omega arith }
header_of (Packet m) w = record { version = omega arith; positive = omega arith; kind = omega arith }
header_of (PortStatus reason port) w = record { version = omega arith; positive = omega arith; kind = omega arith }
header_of (Send m) w = record { version = omega arith; positive = omega arith; kind = omega arith }
header_of (Change m) w = record { version = omega arith; positive = omega arith; kind = omega arith }
header_of PortDescRequest w = record { version = omega arith; positive = omega arith; kind = omega arith }
header_of (PortStatsRequest port) w = record { version = omega arith; positive = omega arith; kind = omega arith }
header_of (PortDescReply more ports) w = record { version = omega arith; positive = omega arith; kind = omega arith }
header_of (PortStatsReply more stats) w = record { version = omega arith; positive = omega arith; kind = omega arith }
header_of BarrierRequest w = record { version = omega arith; positive = omega arith; kind = omega arith }
header_of BarrierReply w = record { version = omega arith; positive = omega arith; kind = omega arith }
header_of (Other kind body) w = record { version = omega arith; positive = omega arith; kind = w.0 }

pub message_written : (m : Message) (xid : ℕ) → IsWellFormed m → FitsFrame m → xid < 2 ^ 32 → Spells m xid (written m xid)
unfolding written
message_written m xid w fits id =
    let head = header_of m w in
    let body = body_of m in
    let v = version_of m in let k = kind_of m in
    let len = 8 + length body in
    let a = number 1 v in let b = number 1 k in let c = number 2 len in let d = number 4 xid in
    let size : len ≡ length ((((a ++ b) ++ c) ++ d) ++ body) =
    omega (arith, length-append (((a ++ b) ++ c) ++ d) body, length-append ((a ++ b) ++ c) d, length-append (a ++ b) c, length-append a b, number_length 1 v, number_length 1 k, number_length 2 len, number_length 4 xid) in
    let front = opens (λ bs. (Number 1 v ▷ Number 1 k ▷ Number 2 len ▷ Number 4 xid ▷ SpellsBody m) bs)
    ▹ is_number 1 v (omega (arith, head.version)) ▹ is_number 1 k (omega (arith, head.kind)) ▹ is_number 2 len (omega (arith, fits)) ▹ is_number 4 xid (omega arith) in
    record {
      parts = subst (λ n. (Number 1 v ▷ Number 1 k ▷ Number 2 n ▷ Number 4 xid ▷ SpellsBody m) ((((a ++ b) ++ c) ++ d) ++ body)) size (front.on body (body_written m w fits));
      version = head.positive;
    }

-- ---- one spelling

pub one_message : (m n : Message) (x y : ℕ) (bytes : List ℕ) → Spells m x bytes → Spells n y bytes → (m ≡ n) × (x ≡ y)
one_message m n x y bytes p q =
    let same : (m, x) ≡ (n, y) = one_answer (decoded bytes) (m, x) (n, y) (decode_complete m x bytes p) (decode_complete n y bytes q) in
    (ap (λ (z : Message × ℕ). z.0) same, ap (λ (z : Message × ℕ). z.1) same)
