-- Each step of a hub that reads a recording keeps what it stands for.
use Rattle.std.proofs.Common.{◌≡◌, ◌==◌, ◌&&◌, ◌||◌, ℕ, Bool, true, false, not, nat_lt, if◌then◌else◌, List, [], ◌∷◌, ◌++◌, length, Option, Some, None, refl, sym, ◌∙◌, ap, subst, arith}
use Rattle.std.proofs.lemmas.List.{append-nil}
use Rattle.std.proofs.lemmas.List.Sums.{fold_push}
use Rattle.std.proofs.lemmas.Bool.{eqb-true}
use Rattle.fg_outside.specs.declared.hub.Happening.{Happening}
use Rattle.fg_outside.specs.declared.hub.Happening.TheVariants as happens
use Rattle.fg_outside.specs.declared.hub.EndCause.TheVariants.{End}
use Rattle.fg_outside.specs.declared.hub.Said.{Said}
use Rattle.fg_outside.specs.HubStep.{Event, happening, saying, closing, happenings}
use Rattle.recording.specs.declared.kind.RecordKind.{RecordKind}
use Rattle.recording.specs.declared.kind.RecordKind.TheVariants as kinds
use Rattle.recording.specs.declared.record.Record.{Record}
use Rattle.recording.specs.declared.script_hub.ScriptHub.{ScriptHub}
use Rattle.recording.specs.Kinds.{is_moment}
use Rattle.recording.specs.Conns.{is_among, without, open_after}
use Rattle.recording.specs.Turns.{Closing, closings}
use Rattle.recording.specs.Script as script
use Rattle.recording.specs.Script.{is_live, is_spent, is_open_in, opened_by, own_kind, own_where, StandsFor, Keeps, Waits, Stays}
use Rattle.recording.proofs.Turning.{happenings-append, closings-append}
use Rattle.recording.proofs.Ascending.{is_among-with_one}
use Rattle.recording.proofs.Standing.{Core, core_of, stands_by, told_list, is_among-without, own_told, read_waits, read_stays, closed_core, spent_core}

-- the events of what was told
abbrev pub events_of : Option Happening → List Event
events_of None = []
events_of (Some it) = happening it ∷ []

closings_told : (events : List Event) (told : Option Happening) → closings 0 (events ++ events_of told) ≡ closings 0 events
closings_told events None = ap (λ (l : List Event). closings 0 l) (append-nil events)
closings_told events (Some it) = closings-append 0 events (happening it ∷ []) ∙ append-nil (closings 0 events)

happenings_told : (events : List Event) (told : Option Happening) → happenings (events ++ events_of told) ≡ happenings events ++ told_list told
happenings_told events None = happenings-append events []
happenings_told events (Some it) = happenings-append events (happening it ∷ [])

-- whether a connection is open behind what was told
open_told : ℕ → Bool → Option Happening → Bool
open_told conn before None = before
open_told conn before (Some it) = opened_by conn before (happening it)

open_more : (events : List Event) (told : Option Happening) (conn : ℕ) → is_open_in (events ++ events_of told) conn ≡ open_told conn (is_open_in events conn) told
unfolding open_told
open_more events None conn = ap (λ (l : List Event). is_open_in l conn) (append-nil events)
open_more events (Some it) conn = fold_push (opened_by conn) false events (happening it)

or_else : (live same : Bool) → (live || same) ≡ (if same then true else live)
or_else true true = refl
or_else true false = refl
or_else false true = refl
or_else false false = refl

and_else : (same live : Bool) → (not same && live) ≡ (if same then false else live)
and_else true live = refl
and_else false live = refl

gone_already : (same live : Bool) → (same ≡ true → live ≡ false) → (not same && live) ≡ live
gone_already true live h = sym (h refl)
gone_already false live h = refl

heard_live : (there : Bool) (it : Happening) (conn : ℕ) (live : Bool) → opened_by conn live (happening it) ≡ live → live ≡ open_told conn live (if there then Some it else None)
unfolding open_told
heard_live true it conn live h = sym h
heard_live false it conn live h = refl

closed_live : (there : Bool) (live : List ℕ) (c conn : ℕ) → is_among live c ≡ there → is_among (without live c) conn ≡ open_told conn (is_among live conn) (if there then Some (happens.Closed c End) else None)
unfolding open_told
closed_live true live c conn h = is_among-without live c conn ∙ and_else (c == conn) (is_among live conn)
closed_live false live c conn h =
    is_among-without live c conn
    ∙ gone_already (c == conn) (is_among live conn) (λ same. ap (λ k. is_among live k) (sym (eqb-true c conn same)) ∙ h)

own_live : (kind : RecordKind) (c : ℕ) (body live : List ℕ) (conn : ℕ) → is_among (open_after kind c live) conn ≡ open_told conn (is_among live conn) (own_kind (is_among live c) kind c body)
unfolding open_told
own_live kinds.Open c body live conn = is_among-with_one live c conn ∙ or_else (is_among live conn) (c == conn)
own_live kinds.Bytes c body live conn = heard_live (is_among live c) (happens.Heard c body) conn (is_among live conn) refl
own_live kinds.Close c body live conn = closed_live (is_among live c) live c conn refl
own_live kinds.Reload c body live conn = refl
own_live kinds.Moment c body live conn = refl

-- the moment opens and ends no connection
moment_live : (told : Bool) (moment : ℕ) (first : Option Happening) (conn : ℕ) (live : Bool) → (if told then happens.Moment moment ∷ [] else []) ≡ told_list first → open_told conn live first ≡ live
unfolding open_told
moment_live told moment None conn live h = refl
moment_live true moment (Some it) conn live h = let same : happens.Moment moment ≡ it = cc in ap (λ (k : Happening). opened_by conn live (happening k)) (sym same)
moment_live false moment (Some it) conn live h = cc

module _ {S : Type 0} (left : S → Option (List ℕ)) where
  stands_at : (whole : Option (List ℕ)) (hub : ScriptHub S) (records : List Record) (waits : Option Record) (events : List Event) (closes : List Closing) (given : List Happening) → closings 0 events ≡ closes → happenings events ≡ given → Core left whole hub records waits closes given → ((conn : ℕ) → is_live hub conn ≡ is_open_in events conn) → StandsFor left whole hub records waits events
  stands_at whole hub records waits events closes given c h core live =
      stands_by left whole hub records waits events (
      subst (λ (k : List Closing). Core left whole hub records waits k (happenings events)) (sym c) (
      subst (λ (l : List Happening). Core left whole hub records waits closes l) (sym h) core))
      live

  pub Keeps-same : (hub : ScriptHub S) → Keeps left hub [] hub
  Keeps-same hub = λ whole records waits before stands.
      (records, waits, subst (λ (l : List Event). StandsFor left whole hub records waits l) (sym (append-nil before)) stands)

  pub Keeps-then : (a b c : ScriptHub S) (xs : List Event) → Keeps left a [] b → Keeps left b xs c → Keeps left a xs c
  Keeps-then a b c xs first second = λ whole records waits before stands.
      let mid = first whole records waits before stands in
      let end = second whole mid.0 mid.1 (before ++ []) mid.2 in
      (end.0, end.1, subst (λ (l : List Event). StandsFor left whole c end.0 end.1 (l ++ xs)) (append-nil before) end.2)

  pub Keeps-own : (hub new : ScriptHub S) (r : Record) → hub.waiting ≡ Some r → is_spent hub ≡ false → script.Told hub r new → Keeps left hub (events_of (own_where (is_live hub r.conn) r)) new
  Keeps-own hub new r waiting running told = λ whole records waits before stands.
      let same : waits ≡ Some r = sym (stands.runs running).waiting ∙ waiting in
      let stands : StandsFor left whole hub records (Some r) before = subst (λ (w : Option Record). StandsFor left whole hub records w before) same stands in
      let own = own_where (is_live hub r.conn) r in (
        records ++ r ∷ [],
        None,
        stands_at whole new (records ++ r ∷ []) None (before ++ events_of own) (closings 0 before) (happenings before ++ told_list own) (closings_told before own) (happenings_told before own)
            (own_told left whole hub new records r (closings 0 before) (happenings before) (core_of left whole hub records (Some r) before stands) told)
            (λ conn.
            ap (λ (l : List ℕ). is_among l conn) told.live
            ∙ own_live r.kind r.conn r.body hub.live conn
            ∙ ap (λ b. open_told conn b own) (stands.live conn)
            ∙ sym (open_more before own conn)),
      )

  pub Keeps-read : (hub new : ScriptHub S) (first : Option Happening) → hub.waiting ≡ None → is_spent hub ≡ false → Waits left hub (told_list first) new → Keeps left hub (events_of first) new
  Keeps-read hub new first waiting running reads = λ whole records waits before stands.
      let same : waits ≡ None = sym (stands.runs running).waiting ∙ waiting in
      let stands : StandsFor left whole hub records None before = subst (λ (w : Option Record). StandsFor left whole hub records w before) same stands in
      let r = reads.r in (
        records,
        Some r,
        stands_at whole new records (Some r) (before ++ events_of first) (closings 0 before) (happenings before ++ told_list first) (closings_told before first) (happenings_told before first)
            (read_waits left whole hub new records (closings 0 before) (happenings before) (told_list first) running (core_of left whole hub records None before stands) reads)
            (λ conn.
            ap (λ (l : List ℕ). is_among l conn) reads.live
            ∙ stands.live conn
            ∙ sym (moment_live (nat_lt hub.reader.moment r.moment || is_moment r.kind) r.moment first conn (is_open_in before conn) reads.told_first)
            ∙ sym (open_more before first conn)),
      )

  -- nothing was told, and the connections that are open are the same
  quiet_step : (hub new : ScriptHub S) (whole : Option (List ℕ)) (records : List Record) (waits : Option Record) (before : List Event) → new.live ≡ hub.live → StandsFor left whole hub records waits before → Core left whole new records waits (closings 0 before) (happenings before) → StandsFor left whole new records waits (before ++ [])
  quiet_step hub new whole records waits before live stands core =
      subst (λ (l : List Event). StandsFor left whole new records waits l) (sym (append-nil before)) (
      stands_by left whole new records waits before core (λ conn. ap (λ (l : List ℕ). is_among l conn) live ∙ stands.live conn))

  pub Keeps-stays : (hub new : ScriptHub S) → hub.waiting ≡ None → is_spent hub ≡ false → Stays left hub new → Keeps left hub [] new
  Keeps-stays hub new waiting running stays = λ whole records waits before stands.
      let same : waits ≡ None = sym (stands.runs running).waiting ∙ waiting in
      let stands : StandsFor left whole hub records None before = subst (λ (w : Option Record). StandsFor left whole hub records w before) same stands in (
        records,
        None,
        quiet_step hub new whole records None before stays.live stands
            (read_stays left whole hub new records (closings 0 before) (happenings before) running (core_of left whole hub records None before stands) stays),
      )

  pub Keeps-spent : (hub new : ScriptHub S) → script.RanOut hub new → Keeps left hub [] new
  Keeps-spent hub new out = λ whole records waits before stands. (
    records,
    waits,
    quiet_step hub new whole records waits before out.live stands
        (spent_core left whole hub new records waits (closings 0 before) (happenings before) (core_of left whole hub records waits before stands) out),
  )

  pub Keeps-said : (hub : ScriptHub S) (conn : ℕ) (piece : List ℕ) (answer : Said) → Keeps left hub (saying conn piece answer ∷ []) hub
  Keeps-said hub conn piece answer = λ whole records waits before stands.
      let e = saying conn piece answer ∷ [] in (
        records,
        waits,
        stands_at whole hub records waits (before ++ e) (closings 0 before) (happenings before)
            (closings-append 0 before e ∙ append-nil (closings 0 before))
            (happenings-append before e ∙ append-nil (happenings before))
            (core_of left whole hub records waits before stands)
            (λ k. stands.live k ∙ sym (fold_push (opened_by k) false before (saying conn piece answer))),
      )

  pub Keeps-closed : (hub new : ScriptHub S) (c : ℕ) → new.live ≡ without hub.live c → new.reader ≡ hub.reader → new.waiting ≡ hub.waiting → new.spent ≡ hub.spent → Keeps left hub (closing c ∷ []) new
  Keeps-closed hub new c live reader waiting spent = λ whole records waits before stands.
      let e = closing c ∷ [] in
      let behind : closings 0 (before ++ e) ≡ closings 0 before ++ record { conn = c; behind = length (happenings before) } ∷ [] =
      closings-append 0 before e ∙ ap (λ n. closings 0 before ++ record { conn = c; behind = n } ∷ []) (omega arith)
      in (
        records,
        waits,
        stands_at whole new records waits (before ++ e) _ (happenings before) behind
            (happenings-append before e ∙ append-nil (happenings before))
            (closed_core left whole hub new records waits (closings 0 before) (happenings before) c (core_of left whole hub records waits before stands) live reader waiting spent)
            (λ k.
            ap (λ (l : List ℕ). is_among l k) live
            ∙ is_among-without hub.live c k
            ∙ and_else (c == k) (is_among hub.live k)
            ∙ ap (λ b. if c == k then false else b) (stands.live k)
            ∙ sym (fold_push (opened_by k) false before (closing c))),
      )
