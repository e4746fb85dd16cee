-- Messages: one answer for each body, and what is said is read back.
use Rattle.std.proofs.Common.{◌≡◌, ◌≢◌, ℕ, zero, suc, ◌^◌, ◌≤◌, ◌<◌, true, false, eqb, List, [], ◌∷◌, ◌++◌, length, take, drop, Some, None, Result, Ok, refl, sym, ap, ◌∙◌, subst, arith, lit≤, length-append, nat_lt, eq-eqb}
use Rattle.std.proofs.lemmas.Bool.{ne_eqb, le-ltb}
use Rattle.std.proofs.lemmas.List.{nil_from_length, append-nil}
use Rattle.byteorder.specs.Numbers.{big_number-reads_back}
use Rattle.bgp_messages.specs.declared.kind.Kind.{Kind}
use Rattle.bgp_messages.specs.declared.kind.Kind.TheVariants as kinds
use Rattle.bgp_messages.specs.declared.fault.Fault.{Fault}
use Rattle.bgp_messages.specs.declared.head.Head.{Head}
use Rattle.bgp_messages.specs.declared.head.Front.TheVariants.{Whole}
use Rattle.bgp_messages.specs.declared.message.Open.{Open as Opening}
use Rattle.bgp_messages.specs.declared.message.Message.{Message}
use Rattle.bgp_messages.specs.declared.message.Message.TheVariants.{Open, Update, Notification, KeepAlive}
use Rattle.bgp_messages.specs.declared.said.Said.{Said}
use Rattle.bgp_messages.specs.declared.said.Said.TheVariants as said
use Rattle.bgp_messages.specs.Numbers.{number_in, number}
use Rattle.bgp_messages.specs.Faults.{code_of, subcode_of}
use Rattle.bgp_messages.specs.Heads.{head_of, front_of}
use Rattle.bgp_messages.specs.Opens.{open_in, open_fault}
use Rattle.bgp_messages.specs.Messages.{kind_of_message, SpellsBody, BodyFault, Spells}
use Rattle.bgp_messages.specs.Said.{written, message_of, IsOpening, MayBeSaid, open_bytes}
use Rattle.bgp_messages.proofs.Numbers.{number_of_front}
use Rattle.bgp_messages.proofs.Opens.{open_never_both, open_one_fault}
use Rattle.bgp_messages.proofs.Updates.{update_never_both, update_once, update_one_fault}

-- ---- one answer

pub never_both : (peer : ℕ) (m : Message) (body : List ℕ) (fault : Fault) → SpellsBody peer m body → BodyFault peer (kind_of_message m) body fault → ⊥
never_both peer (Open o) body fault s f = open_never_both peer o body fault s f
never_both peer (Update u) body fault s f = update_never_both u body fault s f
never_both peer (Notification n) body fault s f = f
never_both peer KeepAlive body fault s f = f

pub one_fault : (peer : ℕ) (kind : Kind) (body : List ℕ) (a b : Fault) → BodyFault peer kind body a → BodyFault peer kind body b → a ≡ b
one_fault peer kinds.Open body a b f g = open_one_fault peer body a b f g
one_fault peer kinds.Update body a b f g = update_one_fault body a b f g
one_fault peer kinds.Notification body a b f g = absurd f
one_fault peer kinds.KeepAlive body a b f g = absurd f

pub one_body : (p q : ℕ) (m n : Message) (body : List ℕ) → kind_of_message m ≡ kind_of_message n → SpellsBody p m body → SpellsBody q n body → m ≡ n
one_body p q (Open o) (Open r) body k s t = ap Open (s.value ∙ sym t.value)
one_body p q (Open o) (Update v) body k s t = absurd (cc)
one_body p q (Open o) (Notification n) body k s t = absurd (cc)
one_body p q (Open o) KeepAlive body k s t = absurd (cc)
one_body p q (Update u) (Open r) body k s t = absurd (cc)
one_body p q (Update u) (Update v) body k s t = ap Update (update_once u v body s t)
one_body p q (Update u) (Notification n) body k s t = absurd (cc)
one_body p q (Update u) KeepAlive body k s t = absurd (cc)
one_body p q (Notification m) (Open r) body k s t = absurd (cc)
one_body p q (Notification m) (Update v) body k s t = absurd (cc)
one_body p q (Notification m) (Notification n) body k s t = ap Notification (s ∙ sym t)
one_body p q (Notification m) KeepAlive body k s t = absurd (cc)
one_body p q KeepAlive (Open r) body k s t = absurd (cc)
one_body p q KeepAlive (Update v) body k s t = absurd (cc)
one_body p q KeepAlive (Notification n) body k s t = absurd (cc)
one_body p q KeepAlive KeepAlive body k s t = refl

-- ---- headers

take_front : (n : ℕ) (xs ys : List ℕ) → n ≤ length xs → take n (xs ++ ys) ≡ take n xs
take_front zero xs ys h = refl
take_front (suc n) [] ys h = absurd (omega arith)
take_front (suc n) (x ∷ xs) ys h = ap (λ l. x ∷ l) (take_front n xs ys (omega arith))

-- a header is the same whatever stands behind it
pub head_of_front : (a rest : List ℕ) → 19 ≤ length a → head_of (a ++ rest) ≡ head_of a
head_of_front a rest h =
    let marked : take 16 (a ++ rest) ≡ take 16 a = take_front 16 a rest (omega arith) in
    let len : number_in 16 2 (a ++ rest) ≡ number_in 16 2 a = number_of_front 16 2 a rest (omega arith) in
    let kind : number_in 18 1 (a ++ rest) ≡ number_in 18 1 a = number_of_front 18 1 a rest (omega arith) in
    rw (marked, len, kind) refl

head_len : (a b : Head) → ◌≡◌ {A = Result Head Fault} (Ok a) (Ok b) → a ≡ b
head_len a b e = cc

pub no_longer : (p q : ℕ) (m n : Message) (a rest : List ℕ) → Spells p m a → Spells q n (a ++ rest) → (m ≡ n) × (rest ≡ [])
no_longer p q m n a rest s t =
    let heads = head_len _ _ (sym s.head ∙ sym (head_of_front a rest s.header) ∙ t.head) in
    let lens : length a ≡ length (a ++ rest) = ap (λ (h : Head). h.len) heads in
    let none : rest ≡ [] = nil_from_length rest (omega (arith, lens, length-append a rest)) in
    let whole : a ++ rest ≡ a = ap (λ l. a ++ l) none ∙ append-nil a in
    (one_body p q m n (drop 19 a) (ap (λ (h : Head). h.kind) heads) s.body (subst (λ l. SpellsBody q n (drop 19 l)) whole t.body), none)

pub front_is_whole : (peer : ℕ) (m : Message) (a rest : List ℕ) → Spells peer m a → front_of (a ++ rest) ≡ Whole (record { kind = kind_of_message m; len = length a })
front_is_whole peer m a rest s =
    let size = length-append a rest in
    let long : nat_lt (length (a ++ rest)) 19 ≡ false = le-ltb _ _ (omega (arith, size, s.header)) in
    let there : nat_lt (length (a ++ rest)) (length a) ≡ false = le-ltb _ _ (omega (arith, size)) in
    let head = head_of_front a rest s.header ∙ s.head in
    rw (long, head, there) refl

-- ---- what is said

keepalive_back : (peer : ℕ) → Spells peer KeepAlive (written said.KeepAlive)
unfolding number number_in
keepalive_back peer = record { header = lit≤ tt; head = refl; body = tt }

notification_back : (peer : ℕ) (fault : Fault) → Spells peer (message_of (said.Notification fault)) (written (said.Notification fault))
unfolding number number_in
notification_back peer fault =
    let code : number_in 0 1 (code_of fault ∷ subcode_of fault ∷ []) ≡ code_of fault = omega arith in
    let subcode : number_in 1 1 (code_of fault ∷ subcode_of fault ∷ []) ≡ subcode_of fault = omega arith in
    record { header = lit≤ tt; head = refl; body = λ i. record { code = sym code i; subcode = sym subcode i } }

open_values : (o : Opening) → o.sender_as < 2 ^ 16 → o.hold < 2 ^ 16 → o.id < 2 ^ 32 → open_in (open_bytes o) ≡ o
unfolding number number_in
open_values o a h d =
    let sender : number_in 1 2 (open_bytes o) ≡ o.sender_as = big_number-reads_back 2 o.sender_as (number 2 o.hold ++ number 4 o.id ++ 0 ∷ []) a in
    let hold : number_in 3 2 (open_bytes o) ≡ o.hold = big_number-reads_back 2 o.hold (number 4 o.id ++ 0 ∷ []) h in
    let id : number_in 5 4 (open_bytes o) ≡ o.id = big_number-reads_back 4 o.id (0 ∷ []) d in
    λ i. record { sender_as = sender i; hold = hold i; id = id i }

open_sound : (peer : ℕ) (body : List ℕ) → number_in 0 1 body ≡ 4 → number_in 1 2 body ≡ peer → number_in 5 4 body ≢ 0 → number_in 3 2 body ≢ 1 → number_in 3 2 body ≢ 2
    → open_fault peer body (Some true) ≡ None
open_sound peer body version sender id one two =
    let v : eqb (number_in 0 1 body) 4 ≡ true = eq-eqb _ _ version in
    let a : eqb (number_in 1 2 body) peer ≡ true = eq-eqb _ _ sender in
    let i : eqb (number_in 5 4 body) 0 ≡ false = ne_eqb _ _ id in
    let h : eqb (number_in 3 2 body) 1 ≡ false = ne_eqb _ _ one in
    let k : eqb (number_in 3 2 body) 2 ≡ false = ne_eqb _ _ two in
    rw (v, a, i, h, k) refl

open_back : (peer : ℕ) (o : Opening) → IsOpening peer o → Spells peer (Open o) (written (said.Open o))
unfolding number number_in
open_back peer o is =
    let same : open_in (open_bytes o) ≡ o = open_values o is.as_fits is.hold_fits is.id_fits in
    let sender : number_in 1 2 (open_bytes o) ≡ o.sender_as = ap (λ (r : Opening). r.sender_as) same in
    let hold : number_in 3 2 (open_bytes o) ≡ o.hold = ap (λ (r : Opening). r.hold) same in
    let id : number_in 5 4 (open_bytes o) ≡ o.id = ap (λ (r : Opening). r.id) same in
    record {
      header = lit≤ tt;
      head = refl;
      body = record {
        parameters = [];
        spelled = record { len = refl; joined = refl };
        sound = open_sound peer (open_bytes o) refl (sender ∙ is.sender_as) (λ e. is.id (sym id ∙ e)) (λ e. is.not_one (sym hold ∙ e)) (λ e. is.not_two (sym hold ∙ e));
        value = sym same;
      };
    }

pub said_back : (peer : ℕ) (s : Said) → MayBeSaid peer s → Spells peer (message_of s) (written s)
said_back peer (said.Open o) may = open_back peer o may
said_back peer said.KeepAlive may = keepalive_back peer
said_back peer (said.Notification fault) may = notification_back peer fault
