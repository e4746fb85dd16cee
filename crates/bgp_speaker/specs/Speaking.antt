-- The speaker of a router: what it says to its peer, and the text of the configuration with its routes.
use Rattle.std.specs.Prelude.{◌≡◌, ℕ, false, true, List, Option, None}
use Rattle.fg_outside.specs.declared.hub.Happening.{Happening}
use Rattle.yaml_tree.specs.declared.tree.Key.{Key}
use Rattle.yaml_tree.specs.declared.tree.Tree.{Tree}
use Rattle.bgp_peer.specs.declared.known.Known.{Known}
use Rattle.bgp_peer.specs.declared.peer.Peering.{Peering}
use Rattle.bgp_peer.specs.declared.saying.BgpSaying.{BgpSaying}
use Rattle.bgp_peer.specs.StandsFor as standing
use Rattle.bgp_peer.specs.Turns as peer
use Rattle.bgp_speaker.specs.declared.speaker.Speaker.{Speaker}
use Rattle.bgp_speaker.specs.Texts.{Kept, followed, new_text}
use Rattle.bgp_speaker.specs.Texts as texts

-- what is known of the peer, the texts, and the text that the last turn gave, if any
pub record Speaking : Type 0 where
  pub known : Known
  pub kept : Kept
  pub text : Option (List ℕ)

-- before anything happened
abbrev pub begun : Peering → Option Key → Tree → Speaking
begun peering vlan t = record { known = peer.begun peering; kept = texts.begun vlan t; text = None }

-- what happens leads to what is known of the peer, and its routes to a text
abbrev pub taken : Kept → Known → Speaking
taken kept known = record { known = known; kept = followed kept known.peer.routes; text = new_text kept known.peer.routes }

abbrev pub turn : Happening → Speaking → Speaking
turn h s = taken s.kept (peer.turn h s.known)

-- what is said and closed in the last turn
abbrev pub said : Speaking → List BgpSaying
said s = peer.said s.known

-- a speaker that isn't spent stands for what is known
pub record StandsFor (b : Speaker) (s : Speaking) : Type 0 where
  pub unspent : b.is_spent ≡ false
  pub known : standing.StandsFor b.bgp s.known
  pub kept : b.texts ≡ s.kept

abbrev pub IsSpent : Speaker → Type 0
IsSpent b = b.is_spent ≡ true
