-- Which connections a machine closed in a story, happening by happening.
use Rattle.std.proofs.Common.{◌≡◌, ℕ, ◌+◌, ◌<◌, ◌≤◌, Bool, List, [], ◌∷◌, ◌++◌, length, map, sym, ap, ◌∙◌, append_assoc, append-nil, arith}
use Rattle.std.specs.List.{flat_map}
use Rattle.fg_outside.specs.declared.hub.Happening.{Happening}
use Rattle.recording.specs.Turns.{Closing, is_shut}
use Rattle.recording.proofs.Turning.{is_shut-later}
use Rattle.hub_drive.specs.Driving.{closings_of, shut_by}
use Rattle.hub_drive.specs.Machine.{Workings, behind}

-- closings behind so many happenings
abbrev pub closings_at : ℕ → List ℕ → List Closing
closings_at n conns = map (λ conn. record { conn = conn; behind = n }) conns

abbrev pub at : ℕ → (conn : ℕ) → Closing
at n conn = record { conn = conn; behind = n }

pub pushed : (closes : List Closing) (c : Closing) (more : List Closing) → closes ++ c ∷ more ≡ (closes ++ c ∷ []) ++ more
pushed closes c more = sym (append_assoc closes (c ∷ []) more)

module _ {S : Type 0} (m : Workings S) where
  -- those that the last turn closed
  abbrev pub closed_by : S → List ℕ
  closed_by w = flat_map shut_by (m.says w)

  -- the closings of a story, and whether a connection is shut behind it
  abbrev pub closed : S → List Happening → List Closing
  closed w given = closings_of m 0 w given

  abbrev pub is_closed : S → List Happening → (conn : ℕ) → Bool
  is_closed w given conn = is_shut (closed w given) given conn

  pub closings-append : (n : ℕ) (w : S) (given more : List Happening) → closings_of m n w (given ++ more) ≡ closings_of m n w given ++ closings_of m (n + length given) (behind m w given) more
  closings-append n w [] more = ap (λ k. closings_of m k w more) (omega arith)
  closings-append n w (h ∷ hs) more =
      let here : List Closing = closings_at (n + 1) (closed_by (m.turn h w)) in
      let rest : List Closing = closings_of m (n + 1) (m.turn h w) hs in
      ap (λ (l : List Closing). here ++ l)
      (closings-append (n + 1) (m.turn h w) hs more ∙ ap (λ k. rest ++ closings_of m k (behind m (m.turn h w) hs) more) (omega arith))
      ∙ sym (append_assoc here rest (closings_of m (n + length (h ∷ hs)) (behind m (m.turn h w) hs) more))

  -- ---- those of later turns don't count

  module _ (given : List Happening) (conn : ℕ) where
    later_turn : (closes : List Closing) (n : ℕ) (conns : List ℕ) → length given < n → is_shut (closes ++ closings_at n conns) given conn ≡ is_shut closes given conn
    later_turn closes n [] less = ap (λ (l : List Closing). is_shut l given conn) (append-nil closes)
    later_turn closes n (c ∷ conns) less =
        ap (λ (l : List Closing). is_shut l given conn) (pushed closes (at n c) (closings_at n conns)) ∙ later_turn (closes ++ at n c ∷ []) n conns less
        ∙ is_shut-later closes given (at n c) conn less

    later_turns : (closes : List Closing) (n : ℕ) (w : S) (more : List Happening) → length given ≤ n → is_shut (closes ++ closings_of m n w more) given conn ≡ is_shut closes given conn
    later_turns closes n w [] le = ap (λ (l : List Closing). is_shut l given conn) (append-nil closes)
    later_turns closes n w (h ∷ hs) le =
        let here : List Closing = closings_at (n + 1) (closed_by (m.turn h w)) in
        ap (λ (l : List Closing). is_shut l given conn) (sym (append_assoc closes here (closings_of m (n + 1) (m.turn h w) hs)))
        ∙ later_turns (closes ++ here) (n + 1) (m.turn h w) hs (omega arith)
        ∙ later_turn closes (n + 1) (closed_by (m.turn h w)) (omega arith)

    pub is_closed-front : (w : S) (more : List Happening) → is_shut (closed w (given ++ more)) given conn ≡ is_closed w given conn
    is_closed-front w more =
        ap (λ (l : List Closing). is_shut l given conn) (closings-append 0 w given more) ∙ later_turns (closed w given) (0 + length given) (behind m w given) more (omega arith)
