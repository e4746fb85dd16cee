-- One frame more of those that are heard.
use Rattle.std.proofs.Common.{◌≡◌, ℕ, suc, ◌+◌, ◌-◌, ◌<◌, List, take, drop, Some, None, refl, sym, ap, ◌∙◌, arith}
use Rattle.probe_hub.specs.declared.links.Links.{Links}
use Rattle.probe_hub.specs.declared.peer.Peer.{Peer}
use Rattle.probe_hub.specs.Conn.{heard_frame, heard_frames, left_of}
use Rattle.probe_hub.specs.Frames.{frame_len}

module _ (links : Links) (moment n i : ℕ) (bytes : List ℕ) (p : Peer) where
  module _ (within : i < n) where
    more : n - i ≡ suc (n - (i + 1))
    more = omega arith

    heard_on : (len : ℕ) → frame_len bytes ≡ Some len
        → heard_frames (n - i) links moment bytes p ≡ heard_frames (n - (i + 1)) links moment (drop len bytes) (heard_frame links moment (take len bytes) p)
    heard_on len is = ap (λ k. heard_frames k links moment bytes p) more ∙ (rw is refl)

    pub heard_last : frame_len bytes ≡ None → heard_frames (n - i) links moment bytes p ≡ p
    heard_last is = ap (λ k. heard_frames k links moment bytes p) more ∙ (rw is refl)

    -- with what is behind it, and what is known then
    pub heard_more : (len : ℕ) → frame_len bytes ≡ Some len → (q : Peer) → q ≡ heard_frame links moment (take len bytes) p → (behind : List ℕ) → behind ≡ drop len bytes
        → heard_frames (n - (i + 1)) links moment behind q ≡ heard_frames (n - i) links moment bytes p
    heard_more len is q q_is behind behind_is =
        ap (λ b. heard_frames (n - (i + 1)) links moment b q) behind_is ∙ ap (λ r. heard_frames (n - (i + 1)) links moment (drop len bytes) r) q_is ∙ sym (heard_on len is)

    left_on : (len : ℕ) → frame_len bytes ≡ Some len → left_of (n - i) bytes ≡ left_of (n - (i + 1)) (drop len bytes)
    left_on len is = ap (λ k. left_of k bytes) more ∙ (rw is refl)

    pub left_more : (len : ℕ) → frame_len bytes ≡ Some len → (behind : List ℕ) → behind ≡ drop len bytes → left_of (n - (i + 1)) behind ≡ left_of (n - i) bytes
    left_more len is behind behind_is = ap (λ b. left_of (n - (i + 1)) b) behind_is ∙ sym (left_on len is)

    pub left_last : frame_len bytes ≡ None → left_of (n - i) bytes ≡ bytes
    left_last is = ap (λ k. left_of k bytes) more ∙ (rw is refl)
