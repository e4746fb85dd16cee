-- A connection beside that of the session.
use Rattle.std.proofs.Common.{◌≡◌, ℕ, false, cond, List, [], ◌∷◌, ◌++◌, Option, Some, ap, ◌∙◌}
use Rattle.std.specs.Prelude.{◌==◌}
use Rattle.std.specs.Option.{option_map_or}
use Rattle.std.proofs.lemmas.Bool.{ne_eqb}
use Rattle.fg_outside.specs.declared.hub.EndCause.{EndCause}
use Rattle.fg_outside.specs.declared.hub.Happening.TheVariants.{Opened, Heard, Closed}
use Rattle.bgp_messages.specs.declared.fault.Fault.TheVariants.{Cease}
use Rattle.bgp_messages.specs.declared.said.Said.TheVariants.{Notification}
use Rattle.bgp_peer.specs.declared.known.Known.{Known}
use Rattle.bgp_peer.specs.declared.saying.BgpSaying.TheVariants.{Close}
use Rattle.bgp_peer.specs.Sayings.{sends, refusal}
use Rattle.bgp_peer.specs.Peers.{is_on, turned_away, lost}
use Rattle.bgp_peer.specs.Turns.{hear_all, opened_beside, anew, turn, said}

module _ (k : Known) (conn other : ℕ) (e : k.peer.conn ≡ Some conn) (apart : conn ≡ other → ⊥) where
  not_it : (conn == other) ≡ false
  not_it = ne_eqb conn other apart

  turned : turn (Opened other) k ≡ record (anew k) { peer = turned_away other (anew k).peer }
  turned = ap (λ o. opened_beside o other (anew k)) e ∙ ap (λ b. cond b (anew k) (record (anew k) { peer = turned_away other (anew k).peer })) not_it

  pub told : said (turn (Opened other) k) ≡ sends other (Notification Cease) ∷ Close other (refusal Cease) ∷ []
  told = ap said turned

  pub kept : anew (turn (Opened other) k) ≡ anew k
  kept = ap anew turned

  not_on : is_on other (anew k).peer ≡ false
  not_on = ap (λ (o : Option ℕ). option_map_or (λ open_. open_ == other) o false) e ∙ not_it

  pub passed_over : (piece : List ℕ) → turn (Heard other piece) k ≡ anew k
  passed_over piece = ap (λ b. cond b (hear_all (record (anew k) { unread = (anew k).unread ++ piece })) (anew k)) not_on

  pub end_passed_over : (cause : EndCause) → turn (Closed other cause) k ≡ anew k
  end_passed_over cause = ap (λ b. cond b (record (anew k) { peer = lost other cause (anew k).peer }) (anew k)) not_on
