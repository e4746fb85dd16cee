-- Two pieces that come one behind the other are as good as one.
use Rattle.std.proofs.Common.{◌≡◌, ℕ, Bool, true, false, cond, List, ◌++◌, length, Option, Some, None, refl, sym, ap, ◌∙◌, append_assoc, arith, inl, inr}
use Rattle.std.specs.Prelude.{◌==◌}
use Rattle.std.specs.Option.{option_map_or}
use Rattle.std.proofs.lemmas.Bool.{eqb-true}
use Rattle.std.proofs.lemmas.Bool.Decides.{nat_tests}
use Rattle.std.proofs.lemmas.List.{append-nil}
use Rattle.fg_outside.specs.declared.hub.Happening.TheVariants.{Heard}
use Rattle.bgp_peer.specs.declared.known.Known.{Known}
use Rattle.bgp_peer.specs.declared.peer.Peer.{Peer}
use Rattle.bgp_peer.specs.Peers.{is_on}
use Rattle.bgp_peer.specs.Turns.{hear_all, heard, anew, turn, said}
use Rattle.bgp_peer.proofs.Steps.{nothing_more}
use Rattle.bgp_peer.proofs.Cutting.{closed_stays, joined, with_more}
use Rattle.bgp_peer.proofs.Keeping.{Goes, each_goes}
use Rattle.bgp_peer.proofs.SaidBefore.{say_first, each_first}

-- of one piece, and of two: the same is known of the peer, and what is said of the one is what is said of the two
pub record IsSame (one two whole : Known) : Type 0 where
  pub peer : (anew two).peer ≡ (anew whole).peer
  pub says : said whole ≡ said one ++ said two

on_it : (conn : ℕ) (o : Option ℕ) → option_map_or (λ open_. open_ == conn) o false ≡ true → o ≡ Some conn
on_it conn None e = absurd (cc)
on_it conn (Some open_) e = ap Some (eqb-true open_ conn e)

pub own_is_on : (conn : ℕ) (p : Peer) → p.conn ≡ Some conn → is_on conn p ≡ true
own_is_on conn p e = let own : (conn == conn) ≡ true = grind (arith, nat_tests) in ap (λ (o : Option ℕ). option_map_or (λ open_. open_ == conn) o false) e ∙ own

module _ (k : Known) (conn : ℕ) (a b : List ℕ) where
  -- the first piece was heard
  module _ (r : Known) (whole : Known) (is : whole ≡ hear_all (with_more b r)) where
    goes_on : r.peer.conn ≡ Some conn → IsSame r (heard conn b (anew r)) whole
    goes_on e =
        let on = own_is_on conn r.peer e in
        let two : heard conn b (anew r) ≡ hear_all (with_more b (anew r)) = ap (λ c. cond c (hear_all (with_more b (anew r))) (anew r)) on in
        let same : r ≡ say_first (said r) (anew r) = ap (λ l. record r { peer = record r.peer { said = l } }) (sym (append-nil (said r))) in
        let all : whole ≡ say_first (said r) (hear_all (with_more b (anew r))) =
        is ∙ ap (λ x. hear_all (with_more b x)) same ∙ each_first (said r) (length (r.unread ++ b)) (with_more b (anew r)) in
        record {
          peer = ap (λ (x : Known). (anew x).peer) two ∙ sym (ap (λ (x : Known). (anew x).peer) all);
          says = ap said all ∙ ap (λ (x : Known). said r ++ said x) (sym two);
        }

    is_gone : r.peer.conn ≡ None → IsSame r (heard conn b (anew r)) whole
    is_gone e =
        let off : is_on conn r.peer ≡ false = ap (λ (o : Option ℕ). option_map_or (λ open_. open_ == conn) o false) e in
        let two : heard conn b (anew r) ≡ anew r = ap (λ c. cond c (hear_all (with_more b (anew r))) (anew r)) off in
        let all : whole ≡ with_more b r = is ∙ nothing_more (length (r.unread ++ b)) (with_more b r) (closed_stays (with_more b r) e) in
        record {
          peer = ap (λ (x : Known). (anew x).peer) two ∙ sym (ap (λ (x : Known). (anew x).peer) all);
          says = ap said all ∙ sym (append-nil (said r)) ∙ ap (λ (x : Known). said r ++ said x) (sym two);
        }

    either : Goes conn r.peer → IsSame r (heard conn b (anew r)) whole
    either g = elim g [ inl e ↦ goes_on e | inr e ↦ is_gone e ]

  -- what a piece leads to, where it comes on the connection or not
  abbrev pub piece : Bool → List ℕ → Known
  piece c bytes = cond c (hear_all (with_more bytes (anew k))) (anew k)

  in_one : hear_all (with_more (a ++ b) (anew k)) ≡ hear_all (with_more b (hear_all (with_more a (anew k))))
  in_one =
      ap (λ u. hear_all (record (anew k) { unread = u })) (sym (append_assoc k.unread a b))
      ∙ joined b (length (k.unread ++ a)) (with_more a (anew k))

  pub same_in_pieces : IsSame (turn (Heard conn a) k) (turn (Heard conn b) (turn (Heard conn a) k)) (turn (Heard conn (a ++ b)) k)
  same_in_pieces = by (is_on conn k.peer) refl
    where
      by : (c : Bool) → is_on conn k.peer ≡ c
          → IsSame (piece c a) (heard conn b (anew (piece c a))) (piece c (a ++ b))
      by true e = either (hear_all (with_more a (anew k))) (hear_all (with_more (a ++ b) (anew k))) in_one (each_goes conn (length (k.unread ++ a)) (with_more a (anew k)) (inl (on_it conn k.peer.conn e)))
      by false e =
          let two : heard conn b (anew k) ≡ anew k = ap (λ c. cond c (hear_all (with_more b (anew k))) (anew k)) e in
          record { peer = ap (λ (x : Known). (anew x).peer) two; says = ap said (sym two) }

pub peer_in_pieces : (k : Known) (conn : ℕ) (a b : List ℕ) → (anew (turn (Heard conn b) (turn (Heard conn a) k))).peer ≡ (anew (turn (Heard conn (a ++ b)) k)).peer
peer_in_pieces k conn a b = (same_in_pieces k conn a b).peer

pub said_in_pieces : (k : Known) (conn : ℕ) (a b : List ℕ) → said (turn (Heard conn (a ++ b)) k) ≡ said (turn (Heard conn a) k) ++ said (turn (Heard conn b) (turn (Heard conn a) k))
said_in_pieces k conn a b = (same_in_pieces k conn a b).says
