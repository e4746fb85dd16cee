-- What is written where bytes come in two turns, and in one.
use Rattle.std.proofs.Common.{◌≡◌, ℕ, ◌&&◌, ◌||◌, Bool, true, false, List, [], ◌∷◌, ◌++◌, map, refl, sym, ap, ◌∙◌, append_assoc, append-nil, if◌then◌else◌}
use Rattle.std.specs.List.{flat_map}
use Rattle.fg_outside.specs.declared.hub.Happening.{Happening}
use Rattle.fg_outside.specs.declared.hub.Happening.TheVariants.{Heard}
use Rattle.recording.specs.Written.{WrittenRecord}
use Rattle.ctl_world.specs.declared.said.Said.{Said}
use Rattle.ctl_world.specs.World.{World}
use Rattle.ctl_life.specs.Sayings.{saying_of}
use Rattle.ctl_core.specs.Story.{behind}
use Rattle.ctl_core.specs.Turns.{hear, turn}
use Rattle.hub_drive.specs.Driving.{line_by, record_by}
use Rattle.ctl_drive.specs.Driving.{lines_of, records_of}
use Rattle.law_recordings.specs.Pieces.{known_only}
use Rattle.law_recordings.proofs.Pieces.{known_so, said_so}
use Rattle.law_recordings.proofs.Closed.{closes-append, closes_by, closes_in, is_closed, is_closed-push, of-append}
use Rattle.ctl_drive.proofs.Stories.{behind-push, lines-push}
use Rattle.law_recordings.proofs.Alike.{Alike, lines_by, records-push, records_by}
use Rattle.law_recordings.proofs.Shuts.{closed_isnt_open, heard_moment}

module _ (conn : ℕ) (front back : List ℕ) (w : World) where
  abbrev begun : World
  begun = turn (Heard conn front) w

  abbrev done : World
  done = turn (Heard conn back) begun

  abbrev at_once : World
  at_once = turn (Heard conn (front ++ back)) w

  said_at_once : at_once.said ≡ begun.said ++ done.said
  said_at_once = sym (append-nil at_once.said) ∙ sym (said_so conn front back w []) ∙ ap (λ (s : List Said). begun.said ++ s) (append-nil done.said)

  known_at_once : known_only done ≡ known_only at_once
  known_at_once = known_so conn front back w []

  -- ---- where the first piece closed the connection, the second is not heard

  pub joined_closed : closes_by begun conn ≡ true → at_once ≡ begun
  joined_closed is =
      let still : done ≡ known_only begun =
      ap (λ (b : Bool). if b then hear conn back (known_only begun) else known_only begun) (closed_isnt_open conn front w conn is)
      in
      ap (λ (x : World). record x { said = at_once.said }) (sym known_at_once)
      ∙ ap (λ (x : World). record x { said = at_once.said }) still
      ∙ ap (λ (s : List Said). record begun { said = s })
      (said_at_once ∙ ap (λ (x : World). begun.said ++ x.said) still ∙ append-nil begun.said)

  -- ---- both pieces are heard

  moments : (done.moment.0 ≡ at_once.moment.0) × (begun.moment.0 ≡ at_once.moment.0)
  moments =
      let first : begun.moment ≡ w.moment = heard_moment conn front w in
      let all : at_once.moment ≡ w.moment = heard_moment conn (front ++ back) w in
      let second : done.moment ≡ at_once.moment = ap (λ (x : World). x.moment) known_at_once in
      (ap (λ m. m.0) second, ap (λ m. m.0) (first ∙ sym all))

  records_joined : records_by at_once ≡ records_by begun ++ records_by done
  records_joined =
      let by : ℕ → List Said → List WrittenRecord = λ m said. flat_map (record_by m) (map saying_of said) in
      ap (by at_once.moment.0) said_at_once ∙ of-append (record_by at_once.moment.0) begun.said done.said
      ∙ ap (λ m. by m begun.said ++ by at_once.moment.0 done.said) (sym moments.1)
      ∙ ap (λ m. records_by begun ++ by m done.said) (sym moments.0)

  lines_joined : lines_by at_once ≡ lines_by begun ++ lines_by done
  lines_joined = ap (λ (said : List Said). flat_map line_by (map saying_of said)) said_at_once ∙ of-append line_by begun.said done.said

  closes_joined : (n : ℕ) → closes_by at_once n ≡ (closes_by begun n || closes_by done n)
  closes_joined n =
      ap (λ (said : List Said). closes_in said n) said_at_once ∙ closes-append begun.said done.said n

grouped : (x y z : Bool) → ((x && true) || (y || z)) ≡ ((((x && true) || y) && true) || z)
grouped true y z = refl
grouped false true z = refl
grouped false false z = refl

pub alike-joined : (w : World) (given : List Happening) (conn : ℕ) (front back : List ℕ)
    → Alike w (given ++ Heard conn (front ++ back) ∷ []) ((given ++ Heard conn front ∷ []) ++ Heard conn back ∷ [])
alike-joined w given conn front back =
    let v : World = behind w given in
    let first : List Happening = given ++ Heard conn front ∷ [] in
    let later : behind w first ≡ begun conn front back v = behind-push w given (Heard conn front) in
    record {
      known =
          ap (λ (x : World). known_only x) (behind-push w given (Heard conn (front ++ back))) ∙ sym (known_at_once conn front back v)
          ∙ ap (λ (x : World). known_only (turn (Heard conn back) x)) (sym later) ∙ ap (λ (x : World). known_only x) (sym (behind-push w first (Heard conn back)));
      shut = λ n.
          is_closed-push w given (Heard conn (front ++ back)) n
          ∙ ap (λ b. (is_closed w given n && true) || b) (closes_joined conn front back v n)
          ∙ grouped (is_closed w given n) (closes_by (begun conn front back v) n) (closes_by (done conn front back v) n)
          ∙ ap (λ b. (b && true) || closes_by (done conn front back v) n) (sym (is_closed-push w given (Heard conn front) n))
          ∙ ap (λ (x : World). (is_closed w first n && true) || closes_by (turn (Heard conn back) x) n) (sym later)
          ∙ sym (is_closed-push w first (Heard conn back) n);
      records =
          records-push w given (Heard conn (front ++ back))
          ∙ ap (λ (l : List WrittenRecord). records_of w given ++ l) (records_joined conn front back v)
          ∙ sym (append_assoc (records_of w given) (records_by (begun conn front back v)) (records_by (done conn front back v)))
          ∙ ap (λ (l : List WrittenRecord). l ++ records_by (done conn front back v)) (sym (records-push w given (Heard conn front)))
          ∙ ap (λ (x : World). records_of w first ++ records_by (turn (Heard conn back) x)) (sym later)
          ∙ sym (records-push w first (Heard conn back));
      lines =
          lines-push w given (Heard conn (front ++ back))
          ∙ ap (λ (l : List ℕ). lines_of w given ++ l) (lines_joined conn front back v)
          ∙ sym (append_assoc (lines_of w given) (lines_by (begun conn front back v)) (lines_by (done conn front back v)))
          ∙ ap (λ (l : List ℕ). l ++ lines_by (done conn front back v)) (sym (lines-push w given (Heard conn front)))
          ∙ ap (λ (x : World). lines_of w first ++ lines_by (turn (Heard conn back) x)) (sym later)
          ∙ sym (lines-push w first (Heard conn back));
    }
