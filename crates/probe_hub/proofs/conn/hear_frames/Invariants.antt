use Rattle.std.proofs.Common.{◌≡◌, ◌≤◌, ◌-◌, length, drop}
use Rattle.probe_hub.specs.Conn.{heard_frames, left_of}
use Rattle.probe_hub.proofs.conn.hear_frames.Given as goal

-- what is left to hear completes the whole
abbrev pub invariant-loop : goal.invariant-loop
invariant-loop l = record {
  heard : heard_frames (length l.bytes - l.counter) l.links l.moment (drop l.taken l.bytes) l.peer ≡ heard_frames (length l.bytes) l.links l.moment l.bytes l.fn.peer;
  left : left_of (length l.bytes - l.counter) (drop l.taken l.bytes) ≡ left_of (length l.bytes) l.bytes;
  within : l.taken ≤ length l.bytes;
}
