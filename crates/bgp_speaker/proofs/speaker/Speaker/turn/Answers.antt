use Rattle.std.proofs.Common.{List, refl, ap, ◌∙◌}
use Rattle.bgp_routes.specs.declared.routes.BgpRoute.{BgpRoute}
use Rattle.bgp_peer.specs.Turns.{turn}
use Rattle.bgp_speaker.specs.Texts.{Kept, followed, new_text}
use Rattle.bgp_speaker.proofs.speaker.Speaker.turn.Goals as goal

pub returns-clause-known : goal.returns-clause-known
returns-clause-known c = λ s stands.
    let known = c.in_ok-sayings.ensures.known s.known stands.known in
    let routes = c.routes.ensures (turn c.args.what.now s.known) known in
    record {
      unspent = refl;
      known = known;
      kept = c.in_ok-text.ensures.next ∙ ap (λ (k : Kept). followed k c.routes.result.now) stands.kept ∙ ap (λ (rs : List BgpRoute). followed s.kept rs) routes;
    }

pub returns-clause-text : goal.returns-clause-text
returns-clause-text c = λ s stands.
    let routes = c.routes.ensures (turn c.args.what.now s.known) (c.in_ok-sayings.ensures.known s.known stands.known) in
    c.in_ok-text.ensures.text ∙ ap (λ (k : Kept). new_text k c.routes.result.now) stands.kept ∙ ap (λ (rs : List BgpRoute). new_text s.kept rs) routes
