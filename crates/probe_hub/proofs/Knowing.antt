-- What is known behind a call, from what is known of its connections.
use Rattle.std.proofs.Common.{◌≡◌, ◌≤◌, ◌<◌, ℕ, List, length, take, drop, Option, Some, None, refl, sym, ap, ◌∙◌}
use Rattle.std.proofs.lemmas.Bool.{le-ltb, lt-ltb}
use Rattle.fg_outside.specs.declared.hub.Happening.TheVariants.{Heard}
use Rattle.probe_hub.specs.declared.conn.Conn.{Conn}
use Rattle.probe_hub.specs.declared.known.Known.{Known}
use Rattle.probe_hub.specs.declared.known.Rest.{Rest}
use Rattle.probe_hub.specs.declared.notices.Notice.{Notice}
use Rattle.probe_hub.specs.Conns.{came_on, told_next}
use Rattle.probe_hub.specs.Known.{after_heard, cut, due_told, heard_first, next_told, rest_told}
use Rattle.probe_hub.specs.Notices.{piece_of}
use Rattle.probe_hub.proofs.Places.{both}

-- ---- bytes that came

cut_none : (number : ℕ) (piece : List ℕ) (given : ℕ) (k : Known) → length piece ≤ given → (k, piece) ≡ cut number piece given k
cut_none number piece given k past = let all = le-ltb given (length piece) past in rw all refl

cut_there : (number : ℕ) (piece : List ℕ) (given : ℕ) (k : Known) → given < length piece
    → (record k { rest = Some (record { conn = number; bytes = drop given piece }) }, take given piece) ≡ cut number piece given k
cut_there number piece given k within = let part = lt-ltb given (length piece) within in rw part refl

module _ (k : Known) (number : ℕ) (piece : List ℕ) (conns : List Conn) (given : ℕ) (come : (conns, given) ≡ came_on k.links k.moment number piece k.conns) where
  behind : cut number piece given (record k { conns = conns }) ≡ after_heard number piece k
  behind = ap (λ (r : List Conn × ℕ). cut number piece r.1 (record k { conns = r.0 })) come

  -- they are given whole, or up to a cut
  pub given_whole : length piece ≤ given → (record k { conns = conns }, piece) ≡ after_heard number piece k
  given_whole past = cut_none number piece given (record k { conns = conns }) past ∙ behind

  given_first : given < length piece
      → (record k { conns = conns; rest = Some (record { conn = number; bytes = drop given piece }) }, take given piece) ≡ after_heard number piece k
  given_first within = cut_there number piece given (record k { conns = conns }) within ∙ behind

  pub given_cut : (bytes first : List ℕ) → bytes ≡ drop given piece → first ≡ take given piece → given < length piece
      → (record k { conns = conns; rest = Some (record { conn = number; bytes = bytes }) }, first) ≡ after_heard number piece k
  given_cut bytes first bytes_are first_is within =
      both (ap (λ (l : List ℕ). record k { conns = conns; rest = Some (record { conn = number; bytes = l }) }) bytes_are) first_is ∙ given_first within

-- ---- what is told next

module _ (k : Known) (conns : List Conn) where
  -- what is due on a connection
  pub tells_due : (conn : ℕ) (notice : Notice) (piece : List ℕ) → (conns, Some (conn, notice)) ≡ told_next k.conns → piece ≡ piece_of notice
      → (record k { conns = conns }, Some (Heard conn piece)) ≡ next_told k
  tells_due conn notice piece told is =
      both refl (ap (λ (l : List ℕ). Some (Heard conn l)) is) ∙ ap (λ (r : List Conn × Option (ℕ × Notice)). due_told r.1 (record k { conns = r.0 })) told

  module _ (none : (conns, None) ≡ told_next k.conns) where
    by_rest : rest_told k.rest (record k { conns = conns }) ≡ next_told k
    by_rest = ap (λ (r : List Conn × Option (ℕ × Notice)). due_told r.1 (record k { conns = r.0 })) none

    -- what follows a cut
    pub tells_rest : (rest : Rest) (new : Known) (piece : List ℕ) → k.rest ≡ Some rest → (new, piece) ≡ after_heard rest.conn rest.bytes (record k { conns = conns; rest = None })
        → (new, Some (Heard rest.conn piece)) ≡ next_told k
    tells_rest rest new piece is heard =
        ap (heard_first rest.conn) heard ∙ sym (ap (λ (r : Option Rest). rest_told r (record k { conns = conns })) is) ∙ by_rest

    -- nothing
    pub tells_nothing : k.rest ≡ None → (record k { conns = conns; rest = None }, None) ≡ next_told k
    tells_nothing is =
        both (ap (λ (r : Option Rest). record k { conns = conns; rest = r }) (sym is)) refl ∙ sym (ap (λ (r : Option Rest). rest_told r (record k { conns = conns })) is) ∙ by_rest
