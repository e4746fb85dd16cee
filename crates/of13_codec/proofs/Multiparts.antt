-- What reading a body says, and that each body that is spelled is read: multipart messages.
use Rattle.std.proofs.Common.{◌≡◌, ℕ, ◌+◌, ◌%◌, ◌≤◌, ◌<◌, Bool, cond, eqb, List, [], length, take, drop, Result, Ok, refl, sym, ap, ◌∙◌, subst, arith, inl, inr, ◌⊎◌}
use Rattle.std.proofs.lemmas.List.{length-drop, length-take-le}
use Rattle.of_wire.specs.declared.fault.PartFault.{PartFault}
use Rattle.of_wire.specs.declared.fault.PartCause.{PartCause}
use Rattle.of_wire.specs.declared.fault.PartCause.TheVariants.{Short}
use Rattle.of_wire.specs.Numbers.{number_in}
use Rattle.of_wire.specs.Reading.{◌>>=◌, fault_at}
use Rattle.of_wire.specs.Grammar.{◌▷◌, Number, Ignored, Joined}
use Rattle.of_wire.specs.Faults.{ComesFirst, Behind, EndsIn}
use Rattle.of_wire.proofs.Grammars.{AreBytes, bytes_drop, number_then, ignored_then, number_again, ignored_again, front_then, bytes_take, has_number, number_of_take, number_ends, number_at_drop}
use Rattle.of_wire.proofs.Told.{by_equal}
use Rattle.of13_codec.specs.declared.message.Message.{Message}
use Rattle.of13_codec.specs.declared.message.Message.TheVariants.{PortDescRequest, PortStatsRequest, PortDescReply, PortStatsReply, Other}
use Rattle.of13_codec.specs.declared.ports.PortDesc.{PortDesc}
use Rattle.of13_codec.specs.declared.ports.PortStats.{PortStats}
use Rattle.of13_codec.specs.Decoding.{short, at_least, exactly, has_more, request_at, reply_at, other_at, port_desc_request_at, port_stats_request_at, port_desc_reply_at, port_stats_reply_at, port_of, stats_of, items_at, ports_at, ports_stats_at}
use Rattle.of13_codec.specs.Spelling.{SpellsBody, SpellsPort, SpellsStats, Flags, IsOwnKind, IsOther}
use Rattle.of13_codec.specs.Faults.{SizeFault, RequestFault, request_head, desc_request, stats_request, EachPort, EachStats, ReplyFault, reply_head, ports_end, stats_end}
use Rattle.of13_codec.proofs.Says.{Is, Says, says_bind, says_as, head_told, least_complete, exact_told, exact_complete}
use Rattle.of13_codec.proofs.ItemLaws.{IsItem, EachItem, IsBelow, ItemsEnd, items_say, items_complete}
use Rattle.of13_codec.proofs.PortLaws.{port_is_item}
use Rattle.of13_codec.proofs.StatsLaws.{stats_is_item}

-- ---- other types

pub own_cases : (kind : ℕ) (P : Type 0) → (kind < 4 → P) → (kind ≡ 5 → P) → (kind ≡ 6 → P) → (kind ≡ 10 → P) → (kind ≡ 12 → P) → (kind ≡ 13 → P) → (kind ≡ 14 → P) → (kind ≡ 20 → P) → (kind ≡ 21 → P) → IsOwnKind kind → P
own_cases kind P a b c d e f g h i (inl x) = a x
own_cases kind P a b c d e f g h i (inr (inl x)) = b x
own_cases kind P a b c d e f g h i (inr (inr (inl x))) = c x
own_cases kind P a b c d e f g h i (inr (inr (inr (inl x)))) = d x
own_cases kind P a b c d e f g h i (inr (inr (inr (inr (inl x))))) = e x
own_cases kind P a b c d e f g h i (inr (inr (inr (inr (inr (inl x)))))) = f x
own_cases kind P a b c d e f g h i (inr (inr (inr (inr (inr (inr (inl x))))))) = g x
own_cases kind P a b c d e f g h i (inr (inr (inr (inr (inr (inr (inr (inl x)))))))) = h x
own_cases kind P a b c d e f g h i (inr (inr (inr (inr (inr (inr (inr (inr x)))))))) = i x

other_part : (kind : ℕ) (body : List ℕ) → (kind ≡ 18) ⊎ (kind ≡ 19) → 8 ≤ length body → (number_in 0 2 body ≡ 13 → ⊥) → (number_in 0 2 body ≡ 4 → ⊥) → IsOther kind body
other_part kind body (inl k) long a b = record {
  other = own_cases kind ⊥ (λ x. omega arith) (λ x. omega arith) (λ x. omega arith) (λ x. omega arith) (λ x. omega arith) (λ x. omega arith) (λ x. omega arith) (λ x. omega arith) (λ x. omega arith);
  part = λ k. (long, a, b);
}
other_part kind body (inr k) long a b = record {
  other = own_cases kind ⊥ (λ x. omega arith) (λ x. omega arith) (λ x. omega arith) (λ x. omega arith) (λ x. omega arith) (λ x. omega arith) (λ x. omega arith) (λ x. omega arith) (λ x. omega arith);
  part = λ k. (long, a, b);
}

pub other_is : (kind : ℕ) (body : List ℕ) → IsOther kind body → Is 4 kind body (Other kind body)
other_is kind body o = record { spelled = (refl, o); kind_is = refl; version_is = refl }

-- ---- requests

request_cases : (P : ℕ → PartCause → Type 0) (body : List ℕ) → (length body < 8 → P (8 + length body) Short)
    → (8 ≤ length body → number_in 0 2 body ≡ 13 → (q : ℕ) (d : PartCause) → SizeFault 8 body q d → P q d)
    → (8 ≤ length body → number_in 0 2 body ≡ 4 → (q : ℕ) (d : PartCause) → SizeFault 16 body q d → P q d)
    → (q : ℕ) (d : PartCause) → RequestFault body q d → P q d
request_cases P body head desc stats q d (request_head l) = head l
request_cases P body head desc stats q d (desc_request l k place cause f) = desc l k place cause f
request_cases P body head desc stats q d (stats_request l k place cause f) = stats l k place cause f

pub request_told : (body : List ℕ) → AreBytes body → Says (Is 4 18 body) (RequestFault body) (request_at body)
unfolding request_at
request_told body h =
    let kind = number_in 0 2 body in
    let Stands = RequestFault body in
    let says = λ (r : Result Message PartFault). Says (Is 4 18 body) Stands r in
    let two : Result Message PartFault = cond (eqb kind 4) (port_stats_request_at body) (other_at 18 body) in
    head_told (Is 4 18 body) Stands 8 body (λ n. cond (eqb kind 13) (port_desc_request_at body) two)
    (λ few. request_head few)
    (λ few. request_cases (ComesFirst (8 + length body) Short) body (λ l. inr (refl, omega arith)) (λ l k. absurd (omega arith)) (λ l k. absurd (omega arith)))
    (λ least. by_equal says kind 13 (port_desc_request_at body) two
    (λ k. says_as (Is 4 18 body) (SizeFault 8 body) Stands (port_desc_request_at body) (λ q d f. desc_request least k q d f) (request_cases (SizeFault 8 body) body (λ l. absurd (omega arith)) (λ l j q d f. f) (λ l j. absurd (omega arith)))
    (exact_told (Is 4 18 body) 8 body PortDescRequest (λ size. record { spelled = number_then 0 2 13 _ body h (omega arith) k (omega (arith, length-drop 2 body)); kind_is = refl; version_is = refl })))
    (λ a. by_equal says kind 4 (port_stats_request_at body) (other_at 18 body)
    (λ k. says_as (Is 4 18 body) (SizeFault 16 body) Stands (port_stats_request_at body) (λ q d f. stats_request least k q d f) (request_cases (SizeFault 16 body) body (λ l. absurd (omega arith)) (λ l j. absurd (a j)) (λ l j q d f. f))
    (exact_told (Is 4 18 body) 16 body (PortStatsRequest (number_in 8 4 body)) (λ size. record {
      spelled = number_then 0 2 4 _ body h (omega arith) k (ignored_then 2 6 _ body (omega arith) (number_then 8 4 (number_in 8 4 body) _ body h (omega arith) refl (omega (arith, length-drop 12 body))));
      kind_is = refl;
      version_is = refl;
    })))
    (λ b. (other_is 18 body (other_part 18 body (inl refl) least a b), request_cases (λ q d. ⊥) body (λ l. omega arith) (λ l j. absurd (a j)) (λ l j. absurd (b j))))))

pub desc_request_read : (body : List ℕ) → SpellsBody PortDescRequest body → request_at body ≡ Ok PortDescRequest
unfolding request_at
desc_request_read body p =
    let a = number_again 0 2 13 _ body p in
    let k = a.value in
    let least : at_least 8 body ≡ Ok 8 = least_complete 8 body (omega (arith, a.size, a.behind)) in
    let size : exactly 8 body ≡ Ok 8 = exact_complete 8 body (omega (arith, a.size, a.behind)) in
    rw (least, k, size) refl

pub stats_request_read : (port : ℕ) (body : List ℕ) → SpellsBody (PortStatsRequest port) body → request_at body ≡ Ok (PortStatsRequest port)
unfolding request_at
stats_request_read port body p =
    let a = number_again 0 2 4 _ body p in
    let b = ignored_again 2 6 _ body a.behind in
    let c = number_again 8 4 port _ body b.1 in
    let k = a.value in let v = c.value in
    let least : at_least 8 body ≡ Ok 8 = least_complete 8 body (omega (arith, a.size, b.0, c.size, c.behind)) in
    let size : exactly 16 body ≡ Ok 16 = exact_complete 16 body (omega (arith, a.size, b.0, c.size, c.behind)) in
    rw (least, k, size, v) refl

-- ---- replies

reply_cases : (P : ℕ → PartCause → Type 0) (body : List ℕ) → (length body < 8 → P (8 + length body) Short)
    → (number_in 0 2 body ≡ 13 → Behind EachPort (EndsIn (IsBelow 64)) [] (drop 8 body) → P (8 + length body) Short)
    → (number_in 0 2 body ≡ 4 → Behind EachStats (EndsIn (IsBelow 112)) [] (drop 8 body) → P (8 + length body) Short)
    → (q : ℕ) (d : PartCause) → ReplyFault body q d → P q d
reply_cases P body head ports stats q d (reply_head l) = head l
reply_cases P body head ports stats q d (ports_end k b) = ports k b
reply_cases P body head ports stats q d (stats_end k b) = stats k b

flags_then : (body : List ℕ) (back : List ℕ → Type 0) → AreBytes body → 8 ≤ length body → back (drop 8 body) → (Flags (has_more body) ▷ Ignored 4 ▷ back) (drop 2 body)
flags_then body back h long p =
    let xs = take 2 (drop 2 body) in
    let fits : 2 ≤ length (drop 2 body) = omega (arith, length-drop 2 body) in
    front_then (Flags (has_more body)) (Ignored 4 ▷ back) 2 2 body (record {
      flags = number_in 2 2 body;
      number = flag_number body h long;
      bit = refl;
    }) (ignored_then 4 4 back body (omega arith) p)
  where
    flag_number : (body : List ℕ) → AreBytes body → 8 ≤ length body → Number 2 (number_in 2 2 body) (take 2 (drop 2 body))
    flag_number body h long =
        let xs = take 2 (drop 2 body) in
        let fits : 2 ≤ length (drop 2 body) = omega (arith, length-drop 2 body) in
        let size : length xs ≡ 2 = length-take-le 2 (drop 2 body) fits in
        has_number 0 2 (number_in 2 2 body) xs (bytes_take 2 (drop 2 body) (bytes_drop 2 body h)) (omega arith) (number_of_take 0 2 2 (drop 2 body) (omega arith) fits ∙ sym (number_at_drop 2 2 body))

-- every fault of a reply stands at its end
all_end : (body : List ℕ) (q : ℕ) (d : PartCause) → ReplyFault body q d → ComesFirst (8 + length body) Short q d
all_end body = reply_cases (ComesFirst (8 + length body) Short) body (λ l. inr (refl, omega arith)) (λ k b. inr (refl, omega arith)) (λ k b. inr (refl, omega arith))

pub reply_told : (body : List ℕ) → AreBytes body → Says (Is 4 19 body) (ReplyFault body) (reply_at body)
unfolding reply_at
reply_told body h =
    let kind = number_in 0 2 body in
    let rest = drop 8 body in
    let Stands = ReplyFault body in
    let more = has_more body in
    let says = λ (r : Result Message PartFault). Says (Is 4 19 body) Stands r in
    let two : Result Message PartFault = cond (eqb kind 4) (port_stats_reply_at body) (other_at 19 body) in
    head_told (Is 4 19 body) Stands 8 body (λ n. cond (eqb kind 13) (port_desc_reply_at body) two)
    (λ few. reply_head few)
    (λ few. all_end body)
    (λ least.
    (let end : 16 + length rest ≡ 8 + length body = omega (arith, length-drop 8 body) in
    by_equal says kind 13 (port_desc_reply_at body) two
    (λ k. subst (λ n. says (ports_at (fault_at n Short) rest >>= λ ports. Ok (PortDescReply more ports))) end (
    replied SpellsPort 64 port_of port_is_item body h (λ ports. PortDescReply more ports)
    (λ ports joined. record { spelled = number_then 0 2 13 _ body h (omega arith) k (flags_then body (Joined (EachItem SpellsPort) [] ports) h least joined); kind_is = refl; version_is = refl })
    (λ b. ports_end k b) least (λ none. reply_cases (λ q d. ⊥) body (λ l. omega arith) (λ j b. none b) (λ j b. omega (arith, k, j)))))
    (λ a. by_equal says kind 4 (port_stats_reply_at body) (other_at 19 body)
    (λ k. subst (λ n. says (ports_stats_at (fault_at n Short) rest >>= λ stats. Ok (PortStatsReply more stats))) end (
    replied SpellsStats 112 stats_of stats_is_item body h (λ stats. PortStatsReply more stats)
    (λ stats joined. record { spelled = number_then 0 2 4 _ body h (omega arith) k (flags_then body (Joined (EachItem SpellsStats) [] stats) h least joined); kind_is = refl; version_is = refl })
    (λ b. stats_end k b) least (λ none. reply_cases (λ q d. ⊥) body (λ l. omega arith) (λ j b. a j) (λ j b. none b))))
    (λ b. (other_is 19 body (other_part 19 body (inr refl) least a b), reply_cases (λ q d. ⊥) body (λ l. omega arith) (λ k x. a k) (λ k x. b k))))))
  where
    replied : {A : Type 0} (spells : A → List ℕ → Type 0) (size : ℕ) (of : List ℕ → A) → IsItem spells size of → (body : List ℕ) → AreBytes body → (make : List A → Message)
        → ((items : List A) → Joined (EachItem spells) [] items (drop 8 body) → Is 4 19 body (make items))
        → (Behind (EachItem spells) (EndsIn (IsBelow size)) [] (drop 8 body) → ReplyFault body (8 + length body) Short) → 8 ≤ length body
        → ((Behind (EachItem spells) (EndsIn (IsBelow size)) [] (drop 8 body) → ⊥) → (q : ℕ) (d : PartCause) → ReplyFault body q d → ⊥)
        → Says (Is 4 19 body) (ReplyFault body) (items_at size of (fault_at (16 + length (drop 8 body)) Short) (drop 8 body) >>= λ items. Ok (make items))
    replied spells size of item body h make is ends least none =
        let rest = drop 8 body in
        let end : 16 + length rest ≡ 8 + length body = omega (arith, length-drop 8 body) in
        let read = items_at size of (fault_at (16 + length rest) Short) rest in
        let next : List _ → Result Message PartFault = λ items. Ok (make items) in
        says_bind (λ items. Joined (EachItem spells) [] items rest) (ItemsEnd spells size rest) (Is 4 19 body) (ReplyFault body) read next (items_say spells size of item rest (bytes_drop 8 body h))
        (λ items e joined whole. (is items joined, none (λ b. whole (16 + length rest) Short (refl, refl, b))))
        (λ g e first. (let t = first.there in let place : g.at ≡ 8 + length body = omega (arith, t.0, end) in record {
          there = subst (λ n. ReplyFault body n g.cause) (sym place) (subst (λ c. ReplyFault body (8 + length body) c) (sym t.1) (ends t.2));
          least = λ q d o. subst (λ n. ComesFirst n g.cause q d) (sym place) (subst (λ c. ComesFirst (8 + length body) c q d) (sym t.1) (all_end body q d o));
        }))

record FlagsAgain (more : Bool) (back : List ℕ → Type 0) (body : List ℕ) : Type 0 where
  pub more_is : has_more body ≡ more
  pub size : length (drop 2 body) ≡ 6 + length (drop 8 body)
  pub behind : back (drop 8 body)

flags_again : (more : Bool) (back : List ℕ → Type 0) (body : List ℕ) → (Flags more ▷ Ignored 4 ▷ back) (drop 2 body) → FlagsAgain more back body
flags_again more back body t =
    let f = t.in_front in
    let two : length t.first ≡ 2 = (let n = number_ends 0 2 f.flags t.first f.number in n.1) in
    let a = number_again 2 2 f.flags (Ignored 4 ▷ back) body (record { first = t.first; rest = t.rest; whole = t.whole; in_front = f.number; behind = t.behind }) in
    let b = ignored_again 4 4 back body a.behind in
    record { more_is = ap (λ n. eqb (n % 2) 1) a.value ∙ sym f.bit; size = omega (arith, a.size, b.0); behind = b.1 }

pub desc_reply_read : (more : Bool) (ports : List PortDesc) (body : List ℕ) → SpellsBody (PortDescReply more ports) body → reply_at body ≡ Ok (PortDescReply more ports)
unfolding reply_at
desc_reply_read more ports body p =
    let a = number_again 0 2 13 _ body p in
    let f = flags_again more (Joined (EachItem SpellsPort) [] ports) body a.behind in
    let k = a.value in
    let m = f.more_is in
    let least : at_least 8 body ≡ Ok 8 = least_complete 8 body (omega (arith, a.size, f.size)) in
    let read : ports_at (short body) (drop 8 body) ≡ Ok ports = items_complete SpellsPort 64 port_of port_is_item (short body) ports (drop 8 body) f.behind in
    rw (least, k, read, m) refl

pub stats_reply_read : (more : Bool) (stats : List PortStats) (body : List ℕ) → SpellsBody (PortStatsReply more stats) body → reply_at body ≡ Ok (PortStatsReply more stats)
unfolding reply_at
stats_reply_read more stats body p =
    let a = number_again 0 2 4 _ body p in
    let f = flags_again more (Joined (EachItem SpellsStats) [] stats) body a.behind in
    let k = a.value in
    let m = f.more_is in
    let least : at_least 8 body ≡ Ok 8 = least_complete 8 body (omega (arith, a.size, f.size)) in
    let read : ports_stats_at (short body) (drop 8 body) ≡ Ok stats = items_complete SpellsStats 112 stats_of stats_is_item (short body) stats (drop 8 body) f.behind in
    rw (least, k, read, m) refl
