use Rattle.bgp_peer.specs.Turns as peer
use Rattle.bgp_speaker.specs.Texts.{new_text, text_for}
use Rattle.bgp_speaker.proofs.News.{last_stays, not_new}
use Rattle.bgp_speaker.proofs.laws.no_text_is_no_change.Goals as goal

pub returns : goal.returns
returns c = record {
  stays = λ h s e. last_stays (new_text s.kept (peer.turn h s.known).peer.routes) s.kept.last e;
  same = λ h s text none e. not_new s.kept.last (text_for s.kept.vlan s.kept.tree (peer.turn h s.known).peer.routes) text none e;
}
