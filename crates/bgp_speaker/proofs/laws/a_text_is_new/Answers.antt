use Rattle.bgp_peer.specs.Turns as peer
use Rattle.bgp_speaker.specs.Texts.{new_text}
use Rattle.bgp_speaker.proofs.News.{new_text_is, then_last}
use Rattle.bgp_speaker.proofs.laws.a_text_is_new.Goals as goal

pub returns : goal.returns
returns c = record {
  accepted = λ h s text e. (new_text_is s.kept.vlan s.kept.tree s.kept.last (peer.turn h s.known).peer.routes text e).0.accepted;
  of_routes = λ h s text e.
      let is = (new_text_is s.kept.vlan s.kept.tree s.kept.last (peer.turn h s.known).peer.routes text e).0 in
      (is.key, is.there, is.is);
  differs = λ h s text e. (new_text_is s.kept.vlan s.kept.tree s.kept.last (peer.turn h s.known).peer.routes text e).1;
  last = λ h s text e. then_last (new_text s.kept (peer.turn h s.known).peer.routes) s.kept.last text e;
}
