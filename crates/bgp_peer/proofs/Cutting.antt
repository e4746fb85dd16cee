-- How bytes are cut into pieces changes nothing.
use Rattle.std.proofs.Common.{◌≡◌, ℕ, zero, suc, ◌+◌, ◌-◌, ◌≤◌, ◌<◌, Bool, true, false, cond, List, ◌++◌, length, drop, Option, Some, None, Result, Ok, Err, refl, sym, ap, ap₂, ◌∙◌, arith, length-append, length-drop, ◌⊎◌, inl, inr}
use Rattle.std.specs.Prelude.{nat_lt}
use Rattle.std.specs.Option.{option_map_or}
use Rattle.std.proofs.lemmas.Bool.Decides.{nat_tests}
use Rattle.std.proofs.lemmas.List.{take-append-le, drop-append-le}
use Rattle.bgp_messages.specs.declared.fault.Fault.{Fault}
use Rattle.bgp_messages.specs.declared.head.Head.{Head}
use Rattle.bgp_messages.specs.declared.head.Front.{Front}
use Rattle.bgp_messages.specs.declared.head.Front.TheVariants.{NotYet, Refused, Whole}
use Rattle.bgp_messages.specs.Heads.{head_of, front_with, front_of}
use Rattle.bgp_messages.proofs.MessageLaws.{head_of_front}
use Rattle.bgp_session.specs.declared.session.State.{State}
use Rattle.bgp_session.specs.declared.session.State.TheVariants.{Idle, OpenSent, OpenConfirm, Established}
use Rattle.bgp_session.specs.Sessions.{fault_met, leads}
use Rattle.bgp_session.proofs.Kept.{session}
use Rattle.bgp_peer.specs.declared.known.Known.{Known}
use Rattle.bgp_peer.specs.declared.peer.Peer.{Peer}
use Rattle.bgp_peer.specs.Peers.{stepped, takes, hears_body}
use Rattle.bgp_peer.specs.Turns.{known, hear_front, hear_next, hear_each, hear_all}
use Rattle.bgp_peer.proofs.Fronts.{whole_is}
use Rattle.bgp_peer.proofs.Steps.{nothing_more}

-- ---- a further step changes nothing, or there is less to hear

pub closed_stays : (k : Known) → k.peer.conn ≡ None → hear_next k ≡ k
closed_stays k e = ap (λ o. option_map_or (λ conn. hear_front conn (front_of k.unread) k) o k) e

refused_ends : (p : Peer) (conn : ℕ) (fault : Fault) → (takes conn (fault_met fault) p ≡ p) ⊎ ((takes conn (fault_met fault) p).conn ≡ None)
refused_ends p conn fault = by p.session.state
  where
    by : (st : State) → let s = session p.session.ours st p.session.hold p.session.heard p.session.said in let q = record p { session = s } in
        (stepped conn (leads s p.moment (fault_met fault)) q ≡ q) ⊎ ((stepped conn (leads s p.moment (fault_met fault)) q).conn ≡ None)
    by Idle = inl refl
    by OpenSent = inr refl
    by OpenConfirm = inr refl
    by Established = inr refl

abbrev GoesOn : Known → Known → Type 0
GoesOn k next = (next ≡ k) ⊎ ((next.peer.conn ≡ None) ⊎ (length next.unread < length k.unread))

goes_on : (k : Known) → GoesOn k (hear_next k)
goes_on k = by k.peer.conn
  where
    refused : (conn : ℕ) (fault : Fault) → GoesOn k (hear_front conn (Refused fault) k)
    refused conn fault = elim (refused_ends k.peer conn fault) [
      | inl same ↦ inl (ap (λ p. record k { peer = p }) same)
      | inr none ↦ inr (inl none)
    ]

    by_front : (conn : ℕ) (f : Front) → front_of k.unread ≡ f → GoesOn k (hear_front conn f k)
    by_front conn NotYet e = inl refl
    by_front conn (Refused fault) e = refused conn fault
    by_front conn (Whole head) e =
        let w = whole_is k.unread head e in
        inr (inr (omega (arith, length-drop head.len k.unread, w.header, w.within)))

    by : (o : Option ℕ) → GoesOn k (option_map_or (λ conn. hear_front conn (front_of k.unread) k) o k)
    by None = inl refl
    by (Some conn) = by_front conn (front_of k.unread) refl

no_longer : (k : Known) → length (hear_next k).unread ≤ length k.unread
no_longer k = by k.peer.conn
  where
    by_front : (conn : ℕ) (f : Front) → length (hear_front conn f k).unread ≤ length k.unread
    by_front conn NotYet = omega arith
    by_front conn (Refused fault) = omega arith
    by_front conn (Whole head) = omega (arith, length-drop head.len k.unread)

    by : (o : Option ℕ) → length (option_map_or (λ conn. hear_front conn (front_of k.unread) k) o k).unread ≤ length k.unread
    by None = omega arith
    by (Some conn) = by_front conn (front_of k.unread)

-- after as many steps as there are bytes nothing is left to hear
pub settled : (n : ℕ) (k : Known) → length k.unread ≤ n → hear_next (hear_each n k) ≡ hear_each n k
settled zero k h = elim (goes_on k) [
  | inl same ↦ same
  | inr more ↦ elim more [
    | inl none ↦ no_bytes k.peer.conn
    | inr less ↦ absurd (omega (arith, h, less))
  ]
]
  where
    too_short : nat_lt (length k.unread) 19 ≡ true
    too_short = grind (arith, nat_tests, h)

    nothing : front_of k.unread ≡ NotYet
    nothing = ap (λ b. cond b NotYet (front_with (head_of k.unread) (length k.unread))) too_short

    no_bytes : (o : Option ℕ) → option_map_or (λ conn. hear_front conn (front_of k.unread) k) o k ≡ k
    no_bytes None = refl
    no_bytes (Some conn) = ap (λ f. hear_front conn f k) nothing
settled (suc n) k h = elim (goes_on k) [
  | inl same ↦
      let all : hear_each n (hear_next k) ≡ k = nothing_more n (hear_next k) (ap hear_next same) ∙ same in
      ap hear_next all ∙ same ∙ sym all
  | inr more ↦ elim more [
    | inl none ↦
        let next = hear_next k in
        let all : hear_each n next ≡ next = nothing_more n next (closed_stays next none) in
        ap hear_next all ∙ closed_stays next none ∙ sym all
    | inr less ↦ settled n (hear_next k) (omega (arith, h, less))
  ]
]

more_steps : (a b : ℕ) (k : Known) → hear_each (a + b) k ≡ hear_each b (hear_each a k)
more_steps zero b k = let e : 0 + b ≡ b = omega arith in ap (λ n. hear_each n k) e
more_steps (suc a) b k = let e : suc a + b ≡ suc (a + b) = omega arith in ap (λ n. hear_each n k) e ∙ more_steps a b (hear_next k)

-- more steps than bytes are as good
pub enough : (n : ℕ) (k : Known) → length k.unread ≤ n → hear_each n k ≡ hear_all k
enough n k h =
    let size = length k.unread in
    let e : n ≡ size + (n - size) = omega (arith, h) in
    ap (λ m. hear_each m k) e ∙ more_steps size (n - size) k ∙ nothing_more (n - size) (hear_each size k) (settled size k (omega arith))

pub all_behind_one : (k : Known) → hear_all (hear_next k) ≡ hear_all k
all_behind_one k =
    let size = length k.unread in
    let one : hear_each (suc size) k ≡ hear_all k = enough (suc size) k (omega arith) in
    sym (enough size (hear_next k) (no_longer k)) ∙ one

-- ---- further bytes behind those that came

abbrev pub with_more : List ℕ → Known → Known
with_more b k = record k { unread = k.unread ++ b }

front_more : (u b : List ℕ) → (front_of u ≡ NotYet) ⊎ (front_of (u ++ b) ≡ front_of u)
front_more u b = by (nat_lt (length u) 19) refl
  where
    headed : 19 ≤ length u → (r : Result Head Fault) → head_of u ≡ r
        → (front_with r (length u) ≡ NotYet) ⊎ (front_with (head_of (u ++ b)) (length (u ++ b)) ≡ front_with r (length u))
    headed some (Err fault) e = inr (ap (λ r. front_with r (length (u ++ b))) (head_of_front u b some ∙ e))
    headed some (Ok head) e = there (nat_lt (length u) head.len) refl
      where
        there : (c : Bool) → nat_lt (length u) head.len ≡ c
            → (◌≡◌ {A = Front} (cond c NotYet (Whole head)) NotYet) ⊎ (front_with (head_of (u ++ b)) (length (u ++ b)) ≡ cond c NotYet (Whole head))
        there true q = inl refl
        there false q =
            let size = length-append u b in
            let enough_too : nat_lt (length (u ++ b)) head.len ≡ false = grind (arith, nat_tests, q, size) in
            inr (ap (λ r. front_with r (length (u ++ b))) (head_of_front u b some ∙ e) ∙ ap (λ c. cond c NotYet (Whole head)) enough_too)

    by : (c : Bool) → nat_lt (length u) 19 ≡ c
        → (cond c NotYet (front_with (head_of u) (length u)) ≡ NotYet) ⊎ (front_of (u ++ b) ≡ cond c NotYet (front_with (head_of u) (length u)))
    by true q = inl refl
    by false q =
        let some : 19 ≤ length u = grind (arith, nat_tests, q) in
        let size = length-append u b in
        let some_too : nat_lt (length (u ++ b)) 19 ≡ false = grind (arith, nat_tests, q, size) in
        elim (headed some (head_of u) refl) [
          | inl e ↦ inl e
          | inr e ↦ inr (ap (λ c. cond c NotYet (front_with (head_of (u ++ b)) (length (u ++ b)))) some_too ∙ e)
        ]

one_step : (b : List ℕ) (k : Known) → (hear_next k ≡ k) ⊎ (hear_next (with_more b k) ≡ with_more b (hear_next k))
one_step b k = by k.peer.conn refl
  where
    u : List ℕ
    u = k.unread

    by_front : (conn : ℕ) (f : Front) → front_of k.unread ≡ f
        → (hear_front conn f k ≡ k) ⊎ (hear_front conn f (with_more b k) ≡ with_more b (hear_front conn f k))
    by_front conn NotYet e = inl refl
    by_front conn (Refused fault) e = inr refl
    by_front conn (Whole head) e =
        let w = whole_is k.unread head e in
        inr (ap₂ (λ x y. known (hears_body conn head.kind (drop 19 x) k.peer) y) (take-append-le head.len k.unread b w.within) (drop-append-le head.len k.unread b w.within))

    by : (o : Option ℕ) → k.peer.conn ≡ o
        → (option_map_or (λ conn. hear_front conn (front_of k.unread) k) o k ≡ k)
        ⊎ (option_map_or (λ conn. hear_front conn (front_of (k.unread ++ b)) (with_more b k)) o (with_more b k) ≡ with_more b (option_map_or (λ conn. hear_front conn (front_of k.unread) k) o k))
    by None e = inl refl
    by (Some conn) e = elim (front_more k.unread b) [
      | inl not_yet ↦ inl (ap (λ f. hear_front conn f k) not_yet)
      | inr same ↦ elim (by_front conn (front_of k.unread) refl) [
        | inl stays ↦ inl stays
        | inr goes ↦ inr (ap (λ f. hear_front conn f (with_more b k)) same ∙ goes)
      ]
    ]

pub joined : (b : List ℕ) (n : ℕ) (k : Known) → hear_all (with_more b k) ≡ hear_all (with_more b (hear_each n k))
joined b zero k = refl
joined b (suc n) k = elim (one_step b k) [
  | inl stays ↦ ap (λ x. hear_all (with_more b x)) (sym (nothing_more (suc n) k stays))
  | inr goes ↦ sym (all_behind_one (with_more b k)) ∙ ap hear_all goes ∙ joined b n (hear_next k)
]
