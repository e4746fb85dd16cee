-- When a port gets lost.
use Rattle.std.proofs.Common.{◌≡◌, ◌≤◌, ◌<◌, ℕ, ◌+◌, ◌&&◌, not, leb, if◌then◌else◌, Bool, true, false, Some, None, refl}
use Rattle.std.proofs.lemmas.Bool.{le-leb, lt-leb}
use Rattle.probe_hub.specs.declared.links.LinkEnd.{LinkEnd}
use Rattle.probe_hub.specs.declared.links.LinkWatch.{LinkWatch}
use Rattle.probe_hub.specs.declared.marks.Mark.{Mark}
use Rattle.probe_hub.specs.declared.peer.Peer.{Peer}
use Rattle.probe_hub.specs.Marks.{mark_of}
use Rattle.probe_hub.specs.Peer.{is_of, losing, mark_over, mark_watched}

over_at : (window moment : ℕ) (m : Mark) → m.lost ≡ false → m.since + window ≤ moment → mark_over window moment (Some m) ≡ Some m
over_at window moment m unlost le = let past = le-leb (m.since + window) moment le in rw (unlost, past) refl

early_at : (window moment : ℕ) (m : Mark) → moment < m.since + window → mark_over window moment (Some m) ≡ None
early_at window moment m lt = by m.lost
  where
    past : leb (m.since + window) moment ≡ false
    past = lt-leb (m.since + window) moment lt

    by : (lost : Bool) → (if not lost && leb (m.since + window) moment then Some m else None) ≡ None
    by true = refl
    by false = rw past refl

pub gets_lost : (moment : ℕ) (end : LinkEnd) (watch : LinkWatch) (p : Peer) (mark : Mark) → end.watch ≡ Some watch → is_of end.dp p.dp ≡ true → mark_of p.marks end.port ≡ Some mark → mark.lost ≡ false
    → mark.since + watch.window ≤ moment → losing moment end p ≡ Some mark
gets_lost moment end watch p mark watched of at unlost le = rw (watched, of, at) (over_at watch.window moment mark unlost le)

pub stays : (moment : ℕ) (end : LinkEnd) (watch : LinkWatch) (p : Peer) (mark : Mark) → end.watch ≡ Some watch → mark_of p.marks end.port ≡ Some mark → moment < mark.since + watch.window → losing moment end p ≡ None
stays moment end watch p mark watched at lt = rw (watched, at) (by (is_of end.dp p.dp))
  where
    by : (of : Bool) → mark_watched moment (Some watch) of (Some mark) ≡ None
    by true = early_at watch.window moment mark lt
    by false = refl
