-- Stories of which the same was written, behind which the same is known and the same connections are shut.
use Rattle.std.proofs.Common.{◌≡◌, ℕ, ◌&&◌, ◌||◌, Bool, true, false, not, List, [], ◌∷◌, ◌++◌, map, refl, sym, ap, subst, ◌∙◌, append_assoc, append-nil, if◌then◌else◌}
use Rattle.std.specs.List.{flat_map}
use Rattle.fg_outside.specs.declared.hub.Happening.{Happening}
use Rattle.recording.specs.declared.record.Record.{Record}
use Rattle.recording.specs.Kinds.{is_of_connection}
use Rattle.recording.specs.Turns.{Told, clock, opens, own}
use Rattle.recording.specs.Written.{WrittenRecord}
use Rattle.ctl_world.specs.World.{World}
use Rattle.ctl_life.specs.Sayings.{saying_of}
use Rattle.ctl_core.specs.Story.{behind}
use Rattle.ctl_core.specs.Turns.{turn, work}
use Rattle.hub_drive.specs.Driving.{line_by, record_by}
use Rattle.ctl_drive.specs.Controller.{controller}
use Rattle.ctl_drive.specs.Driving.{lines_of, records_of}
use Rattle.ctl_drive.proofs.Stories.{behind-push, lines-push}
use Rattle.law_recordings.specs.Pieces.{known_only}
use Rattle.law_recordings.proofs.Closed.{closes_by, is_closed, is_closed-push}
use Rattle.law_recordings.proofs.Told.{tell_on}

-- what is written of the last turn
abbrev pub records_by : World → List WrittenRecord
records_by w = flat_map (record_by w.moment.0) (map saying_of w.said)

abbrev pub lines_by : World → List ℕ
lines_by w = flat_map line_by (map saying_of w.said)

-- ---- one happening more

pub records-push : (w : World) (given : List Happening) (h : Happening) → records_of w (given ++ h ∷ []) ≡ records_of w given ++ records_by (turn h (behind w given))
records-push w [] h = append-nil (records_by (turn h w))
records-push w (g ∷ given) h =
    let v : World = turn g w in
    ap (λ (l : List WrittenRecord). records_by v ++ l) (records-push v given h) ∙ sym (append_assoc (records_by v) (records_of v given) (records_by (turn h (behind v given))))

-- ---- alike

pub record Alike (w : World) (given other : List Happening) : Type 0 where
  pub known : known_only (behind w given) ≡ known_only (behind w other)
  pub shut : (conn : ℕ) → is_closed w given conn ≡ is_closed w other conn
  pub records : records_of w given ≡ records_of w other
  pub lines : lines_of w given ≡ lines_of w other

module _ (w : World) where
  pub alike-itself : (given : List Happening) → Alike w given given
  alike-itself given = record { known = refl; shut = λ conn. refl; records = refl; lines = refl }

  pub alike-back : (given other : List Happening) → Alike w given other → Alike w other given
  alike-back given other a = record { known = sym a.known; shut = λ conn. sym (a.shut conn); records = sym a.records; lines = sym a.lines }

  pub alike-then : (one two three : List Happening) → Alike w one two → Alike w two three → Alike w one three
  alike-then one two three a b = record {
    known = a.known ∙ b.known;
    shut = λ conn. a.shut conn ∙ b.shut conn;
    records = a.records ∙ b.records;
    lines = a.lines ∙ b.lines;
  }

  -- a turn more that comes to the same
  pub alike-turn : (given other : List Happening) (h k : Happening) → Alike w given other → turn h (behind w given) ≡ turn k (behind w other)
      → ((conn : ℕ) → opens conn h ≡ opens conn k) → Alike w (given ++ h ∷ []) (other ++ k ∷ [])
  alike-turn given other h k a same opening = record {
    known = ap (λ (x : World). known_only x) (behind-push w given h ∙ same ∙ sym (behind-push w other k));
    shut = λ conn.
        is_closed-push w given h conn
        ∙ ap (λ b. (b && not (opens conn h)) || closes_by (turn h (behind w given)) conn) (a.shut conn)
        ∙ ap (λ b. (is_closed w other conn && not b) || closes_by (turn h (behind w given)) conn) (opening conn)
        ∙ ap (λ (x : World). (is_closed w other conn && not (opens conn k)) || closes_by x conn) same
        ∙ sym (is_closed-push w other k conn);
    records =
        records-push w given h ∙ ap (λ (l : List WrittenRecord). l ++ records_by (turn h (behind w given))) a.records
        ∙ ap (λ (x : World). records_of w other ++ records_by x) same ∙ sym (records-push w other k);
    lines =
        lines-push w given h ∙ ap (λ (l : List ℕ). l ++ lines_by (turn h (behind w given))) a.lines
        ∙ ap (λ (x : World). lines_of w other ++ lines_by x) same ∙ sym (lines-push w other k);
  }

  -- the same happens behind both
  pub alike-more : (given other more : List Happening) → Alike w given other → Alike w (given ++ more) (other ++ more)
  alike-more given other [] a =
      subst (λ (l : List Happening). Alike w l (other ++ [])) (sym (append-nil given)) (subst (Alike w given) (sym (append-nil other)) a)
  alike-more given other (h ∷ hs) a =
      let next : Alike w (given ++ h ∷ []) (other ++ h ∷ []) = alike-turn given other h h a (ap (work h) a.known) (λ conn. refl) in
      subst (λ (l : List Happening). Alike w l (other ++ h ∷ hs)) (append_assoc given (h ∷ []) hs)
      (subst (Alike w ((given ++ h ∷ []) ++ hs)) (append_assoc other (h ∷ []) hs) (alike-more (given ++ h ∷ []) (other ++ h ∷ []) hs next))

  -- ---- a record more

  pub record AlikeTold (told other : Told) : Type 0 where
    pub given : Alike w told.given other.given
    pub moment : told.moment ≡ other.moment

  unless : (passed : Bool) (given other more : List Happening) → Alike w given other → Alike w (if passed then given else given ++ more) (if passed then other else other ++ more)
  unless true given other more a = a
  unless false given other more a = alike-more given other more a

  pub alike-tell : (told other : Told) (r : Record) → AlikeTold told other → AlikeTold (tell_on controller w told r) (tell_on controller w other r)
  alike-tell told other r a =
      let given : List Happening = told.given ++ clock told.moment r in
      let others : List Happening = other.given ++ clock other.moment r in
      let here : Alike w given others =
      subst (λ m. Alike w given (other.given ++ clock m r)) a.moment (alike-more told.given other.given (clock told.moment r) a.given)
      in
      record {
        given =
            subst
            (λ (b : Bool). Alike w (if is_of_connection r.kind && is_closed w given r.conn then given else given ++ own r) (if is_of_connection r.kind && b then others else others ++ own r))
            (here.shut r.conn)
            (unless (is_of_connection r.kind && is_closed w given r.conn) given others (own r) here);
        moment = refl;
      }
