-- When nothing is told of links, and nothing is said.
use Rattle.std.specs.Prelude.{◌≡◌, ℕ, false, List, [], ◌∷◌, Option, Some, None}
use Rattle.probe_hub.specs.declared.conn.Conn.{Conn}
use Rattle.probe_hub.specs.declared.known.Known.{Known}
use Rattle.probe_hub.specs.declared.links.LinkEnd.{LinkEnd}
use Rattle.probe_hub.specs.declared.links.Links.{Links}
use Rattle.probe_hub.specs.declared.marks.Mark.{Mark}
use Rattle.probe_hub.specs.declared.peer.Peer.{Peer}

-- no link is watched from any of the ends
abbrev pub AreUnwatched : List LinkEnd → Type 0
AreUnwatched [] = Unit {0}
AreUnwatched (end ∷ ends) = (end.watch ≡ None) × AreUnwatched ends

-- nor by any configuration that is read
abbrev pub ReadUnwatched : (read : List ℕ → Option Links) → Type 0
ReadUnwatched read = (text : List ℕ) (links : Links) → read text ≡ Some links → AreUnwatched links.ends

-- none of the ports is lost
abbrev pub AreFound : List Mark → Type 0
AreFound [] = Unit {0}
AreFound (m ∷ ms) = (m.lost ≡ false) × AreFound ms

-- and nothing is to be told
pub record IsCalm (p : Peer) : Type 0 where
  pub found : AreFound p.marks
  pub waiting : p.waiting ≡ []

abbrev pub AreCalm : List Conn → Type 0
AreCalm [] = Unit {0}
AreCalm (c ∷ cs) = IsCalm c.peer × AreCalm cs

-- so on no connection, and no link is watched
pub record IsQuiet (k : Known) : Type 0 where
  pub unwatched : AreUnwatched k.links.ends
  pub calm : AreCalm k.conns
  pub rest : k.rest ≡ None
