-- A header that is accepted.
use Rattle.std.specs.Prelude.{◌≡◌, ℕ, ◌+◌, ◌-◌, ◌^◌, ◌<◌, List, length, Some, None}
use Rattle.recording.specs.declared.header.Header.{Header}
use Rattle.recording.specs.Kinds.{kind_of}
use Rattle.recording.specs.Layout.{moment_in, kind_in, conn_in, len_in}
use Rattle.recording.specs.Recording.{Place}
use Rattle.recording.specs.Refused.{header_refusal}

-- the header that stands in these bytes
pub record HeaderIs (place : Place) (head : List ℕ) (h : Header) : Type 0 where
  pub whole : length head ≡ 17
  pub number : place.count + 1 < 2 ^ 64 - 1
  pub moment : h.moment ≡ moment_in head
  pub kind : kind_of (kind_in head) ≡ Some h.kind
  pub conn : h.conn ≡ conn_in head
  pub len : h.len ≡ len_in head
  pub accepted : header_refusal place head (kind_of (kind_in head)) ≡ None
