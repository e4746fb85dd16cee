-- Which connections the controller closed in a story, happening by happening.
use Rattle.std.proofs.Common.{◌≡◌, ℕ, ◌+◌, ◌≤◌, ◌==◌, ◌&&◌, ◌||◌, Bool, true, false, not, List, [], ◌∷◌, ◌++◌, length, map, refl, sym, ap, subst, ◌∙◌, append_assoc, append-nil, length-append, arith}
use Rattle.std.specs.List.{flat_map, list_any}
use Rattle.std.proofs.Math.Bool.{or-false}
use Rattle.std.proofs.lemmas.List.{map-append}
use Rattle.std.proofs.lemmas.List.Concat.{flat_map-append}
use Rattle.std.proofs.lemmas.List.Folds.{list_any-append}
use Rattle.fg_outside.specs.declared.hub.Happening.{Happening}
use Rattle.recording.specs.Turns.{Closing, closings, is_shut, opens}
use Rattle.recording.proofs.Turning.{AreWithin, closings-within, is_shut-closing, is_shut-happening, within_more, within_push}
use Rattle.ctl_world.specs.declared.said.Said.{Said}
use Rattle.ctl_world.specs.World.{World}
use Rattle.ctl_life.specs.declared.saying.Saying.{Saying}
use Rattle.ctl_life.specs.Sayings.{saying_of}
use Rattle.ctl_core.specs.Story.{behind}
use Rattle.ctl_core.specs.Turns.{turn}
use Rattle.hub_drive.specs.Driving.{shut_by}
use Rattle.hub_drive.specs.Machine as machine
use Rattle.ctl_drive.specs.Controller.{controller}
use Rattle.ctl_drive.specs.Driving.{closings_of}
use Rattle.law_recordings.proofs.Closing as general
use Rattle.law_recordings.proofs.Closing.{at, closings_at, pushed}

-- the connections that are closed in what was said, and by the last turn
abbrev pub closes_in : List Said → (conn : ℕ) → Bool
closes_in said conn = list_any (λ c. c == conn) (flat_map shut_by (map saying_of said))

abbrev pub closed_by : World → List ℕ
closed_by w = flat_map shut_by (map saying_of w.said)

abbrev pub closes_by : World → (conn : ℕ) → Bool
closes_by w conn = closes_in w.said conn

-- the closings of a story, and whether a connection is shut behind it
abbrev pub closed : World → List Happening → List Closing
closed w given = general.closed controller w given

abbrev pub is_closed : World → List Happening → (conn : ℕ) → Bool
is_closed w given conn = general.is_closed controller w given conn

-- ---- more that was said

-- what is made of each saying
pub of-append : {X : Type 0} (f : Saying → List X) (said more : List Said) → flat_map f (map saying_of (said ++ more)) ≡ flat_map f (map saying_of said) ++ flat_map f (map saying_of more)
of-append f said more = ap (λ (l : List Saying). flat_map f l) (map-append saying_of said more) ∙ flat_map-append f (map saying_of said) (map saying_of more)

pub closes-append : (said more : List Said) (conn : ℕ) → closes_in (said ++ more) conn ≡ (closes_in said conn || closes_in more conn)
closes-append said more conn =
    ap (λ (l : List ℕ). list_any (λ c. c == conn) l) (of-append shut_by said more)
    ∙ list_any-append (λ c. c == conn) (flat_map shut_by (map saying_of said)) (flat_map shut_by (map saying_of more))

-- what is known behind a story, as the machine tells it
same_behind : (w : World) (given : List Happening) → machine.behind controller w given ≡ behind w given
same_behind w [] = refl
same_behind w (h ∷ hs) = same_behind (turn h w) hs

-- ---- those of the last turn count

module _ (given : List Happening) (conn : ℕ) where
  last_turn : (closes : List Closing) (conns : List ℕ) → is_shut (closes ++ closings_at (length given) conns) given conn ≡ (is_shut closes given conn || list_any (λ c. c == conn) conns)
  last_turn closes [] = ap (λ (l : List Closing). is_shut l given conn) (append-nil closes) ∙ sym (or-false (is_shut closes given conn))
  last_turn closes (c ∷ conns) =
      let more : Bool = list_any (λ c. c == conn) conns in
      ap (λ (l : List Closing). is_shut l given conn) (pushed closes (at (length given) c) (closings_at (length given) conns))
      ∙ last_turn (closes ++ at (length given) c ∷ []) conns
      ∙ ap (λ b. b || more) (is_shut-closing closes given c conn)
      ∙ grouped (is_shut closes given conn) (c == conn) more
    where
      grouped : (x y z : Bool) → ((x || y) || z) ≡ (x || (y || z))
      grouped true y z = refl
      grouped false y z = refl

-- ---- one happening more

within_turn : (most : ℕ) (closes : List Closing) (n : ℕ) (conns : List ℕ) → n ≤ most → AreWithin most closes → AreWithin most (closes ++ closings_at n conns)
within_turn most closes n [] le are = subst (AreWithin most) (sym (append-nil closes)) are
within_turn most closes n (c ∷ conns) le are =
    subst (AreWithin most) (sym (pushed closes (at n c) (closings_at n conns)))
    (within_turn most (closes ++ at n c ∷ []) n conns le (within_push most closes (at n c) are le))

within_turns : (most : ℕ) (closes : List Closing) (n : ℕ) (w : World) (given : List Happening) → n + length given ≤ most → AreWithin most closes → AreWithin most (closes ++ closings_of n w given)
within_turns most closes n w [] le are = subst (AreWithin most) (sym (append-nil closes)) are
within_turns most closes n w (h ∷ hs) le are =
    let here : List Closing = closings_at (n + 1) (closed_by (turn h w)) in
    subst (AreWithin most) (append_assoc closes here (closings_of (n + 1) (turn h w) hs))
    (within_turns most (closes ++ here) (n + 1) (turn h w) hs (omega arith) (within_turn most closes (n + 1) (closed_by (turn h w)) (omega arith) are))

closed_within : (w : World) (given : List Happening) → AreWithin (length given) (closed w given)
closed_within w given = within_turns (length given) [] 0 w given (omega arith) (within_more (0 + 0) (length given) (closings 0 []) (omega arith) (closings-within 0 []))

-- what it opens isn't shut, unless its own turn closes it
pub is_closed-push : (w : World) (given : List Happening) (h : Happening) (conn : ℕ)
    → is_closed w (given ++ h ∷ []) conn ≡ ((is_closed w given conn && not (opens conn h)) || closes_by (turn h (behind w given)) conn)
is_closed-push w given h conn =
    let now : List Happening = given ++ h ∷ [] in
    let conns : List ℕ = closed_by (turn h (behind w given)) in
    let count : 0 + length given + 1 ≡ length now = omega (arith, length-append given (h ∷ [])) in
    ap (λ (l : List Closing). is_shut l now conn)
    (general.closings-append controller 0 w given (h ∷ [])
    ∙ ap (λ (v : World). closed w given ++ closings_of (0 + length given) v (h ∷ [])) (same_behind w given) ∙ ap (λ (l : List Closing). closed w given ++ l) (append-nil (closings_at (0 + length given + 1) conns))
    ∙ ap (λ n. closed w given ++ closings_at n conns) count)
    ∙ last_turn now conn (closed w given) conns
    ∙ ap (λ b. b || closes_by (turn h (behind w given)) conn) (is_shut-happening (closed w given) given h conn (closed_within w given))
