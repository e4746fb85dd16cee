-- Where no link is watched, both stories are equal.
use Rattle.std.proofs.Common.{◌≡◌, ℕ, ◌==◌, ◌&&◌, not, nat_lt, ltb, max, Bool, true, false, if◌then◌else◌, List, [], ◌∷◌, ◌++◌, length, take, drop, map, filter, Option, Some, None, refl, sym, ap, ◌∙◌, subst, arith}
use Rattle.std.specs.List.{find}
use Rattle.std.proofs.lemmas.Bool.{le-ltb}
use Rattle.fg_outside.specs.declared.hub.Happening.{Happening}
use Rattle.fg_outside.specs.declared.hub.Happening.TheVariants as happenings
use Rattle.fg_outside.specs.HubStep.{Event, happening, saying, closing}
use Rattle.probe_hub.specs.declared.conn.Conn.{Conn}
use Rattle.probe_hub.specs.declared.known.Known.{Known}
use Rattle.probe_hub.specs.declared.links.LinkEnd.{LinkEnd}
use Rattle.probe_hub.specs.declared.links.Links.{Links}
use Rattle.probe_hub.specs.declared.notices.Notice.{Notice}
use Rattle.probe_hub.specs.declared.peer.Peer.{Peer}
use Rattle.probe_hub.specs.declared.probing.ProbeSaid.{ProbeSaid}
use Rattle.probe_hub.specs.declared.probing.Probing.{Probing}
use Rattle.probe_hub.specs.Conn.{came, given_of, has_waiting, is_due, losing_all, new_conn, releasing_all, taken_in}
use Rattle.probe_hub.specs.Conns.{came_on, change, conn_with, given_on, has_number, is_open, opened, put}
use Rattle.probe_hub.specs.Frames.{asked_id}
use Rattle.probe_hub.specs.Known.{after, after_heard, cut, gone, happened, is_its, next_told, noted_by, probes, reloaded, renewed, taken}
use Rattle.probe_hub.specs.Peer.{asked}
use Rattle.probe_hub.specs.ProbedStory.{Probed, start as at_first, first as told_first, passes as passed_on, waits as in_vain, says as said_on, closes as closed_on}
use Rattle.probe_hub.specs.Probing.{probed_all}
use Rattle.probe_hub.specs.Quiet.{AreCalm, AreUnwatched, IsCalm, IsQuiet, ReadUnwatched}
use Rattle.probe_hub.specs.Says.{AreSaid}
use Rattle.probe_hub.proofs.Calm.{calm_frames, none_lose, none_release}
use Rattle.probe_hub.proofs.Places.{unchanged}

-- whichever way a test goes
pick : {X : Type 0} (P : X → Type 0) (b : Bool) (x y : X) → P x → P y → P (if b then x else y)
pick P true x y here other = here
pick P false x y here other = other

none_waits : (p : Peer) → IsCalm p → has_waiting p ≡ false
none_waits p calm = ap (λ (ns : List Notice). nat_lt 0 (length ns)) calm.waiting

-- ---- connections

calm_taken : (links : Links) (moment : ℕ) (cs : List Conn) → AreCalm cs → AreCalm (map (taken_in links moment) cs)
calm_taken links moment [] all = tt
calm_taken links moment (c ∷ cs) all = (calm_frames (length c.unread) links moment c.unread c.peer all.0, calm_taken links moment cs all.1)

calm_some : (keep : Conn → Bool) (cs : List Conn) → AreCalm cs → AreCalm (filter keep cs)
calm_some keep [] all = tt
calm_some keep (c ∷ cs) all = pick AreCalm (keep c) (c ∷ filter keep cs) (filter keep cs) (all.0, calm_some keep cs all.1) (calm_some keep cs all.1)

calm_put : (c : Conn) (cs : List Conn) → IsCalm c.peer → AreCalm cs → AreCalm (put c cs)
calm_put c [] one all = (one, tt)
calm_put c (d ∷ ds) one all = pick AreCalm (nat_lt c.number d.number) (c ∷ d ∷ ds) (d ∷ put c ds) (one, all) (all.0, calm_put c ds one all.1)

calm_opened : (number : ℕ) (cs : List Conn) → AreCalm cs → AreCalm (opened number cs)
calm_opened number cs all = pick AreCalm (is_open cs number) cs (put (new_conn number) cs) all (calm_put (new_conn number) cs (record { found = tt; waiting = refl }) all)

calm_changed : (is : Conn → Bool) (f : Conn → Conn) → ((c : Conn) → IsCalm c.peer → IsCalm (f c).peer) → (cs : List Conn) → AreCalm cs → AreCalm (change is f cs)
calm_changed is f keeps [] all = tt
calm_changed is f keeps (c ∷ cs) all = pick AreCalm (is c) (f c ∷ cs) (c ∷ change is f cs) (keeps c all.0, all.1) (all.0, calm_changed is f keeps cs all.1)

undue_by : (b : Bool) (c : Conn) (cs : List Conn) → find is_due cs ≡ None → (if b && false then Some c else find is_due cs) ≡ None
undue_by true c cs none = none
undue_by false c cs none = none

-- nothing is due on any
none_due : (cs : List Conn) → AreCalm cs → find is_due cs ≡ None
none_due [] all = refl
none_due (c ∷ cs) all = rw (none_waits c.peer all.0) (undue_by (length c.unread == 0) c cs (none_due cs all.1))

none_losing : (moment : ℕ) (ends : List LinkEnd) (cs : List Conn) → AreUnwatched ends → map (losing_all moment ends) cs ≡ cs
none_losing moment ends [] none = refl
none_losing moment ends (c ∷ cs) none = λ i. record c { peer = none_lose moment ends c.peer none i } ∷ none_losing moment ends cs none i

none_releasing : (next ends : List LinkEnd) (cs : List Conn) → AreCalm cs → map (releasing_all next ends) cs ≡ cs
none_releasing next ends [] all = refl
none_releasing next ends (c ∷ cs) all = λ i. record c { peer = none_release next ends c.peer all.0 i } ∷ none_releasing next ends cs all.1 i

-- no probe is due at an end that isn't watched
none_probed : (conns : List Conn) (moment : ℕ) (ends : List LinkEnd) (s : Probing) → AreUnwatched ends → probed_all conns moment ends s ≡ s
none_probed conns moment [] s none = refl
none_probed conns moment (end ∷ ends) s none = rw (none.0) (none_probed conns moment ends s none.1)

-- ---- bytes that come

came_calm : (links : Links) (moment : ℕ) (piece : List ℕ) (c : Conn) → IsCalm c.peer → came links moment piece c ≡ (record c { unread = c.unread ++ piece }, length piece)
came_calm links moment piece c calm = rw (none_waits c.peer calm) refl

keeps_came : (links : Links) (moment : ℕ) (piece : List ℕ) (c : Conn) → IsCalm c.peer → IsCalm (came links moment piece c).0.peer
keeps_came links moment piece c calm = rw (came_calm links moment piece c calm) calm

given_front : (links : Links) (moment number : ℕ) (piece : List ℕ) (c : Conn) (cs : List Conn) → IsCalm c.peer → given_on links moment piece (conn_with cs number) ≡ length piece
    → (b : Bool) → has_number number c ≡ b → given_on links moment piece (conn_with (c ∷ cs) number) ≡ length piece
given_front links moment number piece c cs calm others true is = rw is (ap (λ (r : Conn × ℕ). r.1) (came_calm links moment piece c calm))
given_front links moment number piece c cs calm others false is = rw is others

given_all : (links : Links) (moment number : ℕ) (piece : List ℕ) (cs : List Conn) → AreCalm cs → given_on links moment piece (conn_with cs number) ≡ length piece
given_all links moment number piece [] all = refl
given_all links moment number piece (c ∷ cs) all = given_front links moment number piece c cs all.0 (given_all links moment number piece cs all.1) (has_number number c) refl

not_less : (n : ℕ) → ltb n n ≡ false
not_less n = le-ltb n n (omega arith)

-- ---- what is known

quiet_taken : (k : Known) → IsQuiet k → IsQuiet (taken k)
quiet_taken k quiet = record { unwatched = quiet.unwatched; calm = calm_taken k.links k.moment k.conns quiet.calm; rest = quiet.rest }

-- nothing is to be told
none_first : (k : Known) → IsQuiet k → next_told k ≡ (k, None)
none_first k quiet =
    rw (none_due k.conns quiet.calm, quiet.rest) (λ i. (record k { conns = unchanged is_due (λ (c : Conn). (given_of c).0) k.conns (none_due k.conns quiet.calm) i; rest = None }, None))

quiet_heard : (number : ℕ) (piece : List ℕ) (k : Known) → IsQuiet k → IsQuiet (after_heard number piece k).0 × ((after_heard number piece k).1 ≡ piece)
quiet_heard number piece k quiet =
    rw (given_all k.links k.moment number piece k.conns quiet.calm, not_less (length piece)) (
      record {
        unwatched = quiet.unwatched;
        calm = calm_changed (has_number number) (λ (c : Conn). (came k.links k.moment piece c).0) (keeps_came k.links k.moment piece) k.conns quiet.calm;
        rest = quiet.rest;
      },
      refl,
    )

quiet_gone : (number : ℕ) (k : Known) → IsQuiet k → IsQuiet (gone number k)
quiet_gone number k quiet = record {
  unwatched = quiet.unwatched;
  calm = calm_some (λ (c : Conn). not (has_number number c)) k.conns quiet.calm;
  rest = pick (λ r. r ≡ None) (is_its number k.rest) None k.rest refl quiet.rest;
}

quiet_noted : (number : ℕ) (xid : Option ℕ) (k : Known) → IsQuiet k → IsQuiet (noted_by number xid k)
quiet_noted number None k quiet = quiet
quiet_noted number (Some xid) k quiet = record {
  unwatched = quiet.unwatched;
  calm =
      calm_changed (has_number number) (λ (c : Conn). record c { peer = asked xid c.peer }) (λ (c : Conn) (calm : IsCalm c.peer). record { found = calm.found; waiting = calm.waiting }) k.conns quiet.calm;
  rest = quiet.rest;
}

quiet_renewed : (next : Links) (k : Known) → AreUnwatched next.ends → IsQuiet k → IsQuiet (renewed next k)
quiet_renewed next k none quiet = record {
  unwatched = none;
  calm = subst AreCalm (sym (none_releasing next.ends k.links.ends k.conns quiet.calm)) quiet.calm;
  rest = quiet.rest;
}

quiet_reloaded : (read : List ℕ → Option Links) (text : List ℕ) (k : Known) → ReadUnwatched read → IsQuiet k → IsQuiet (reloaded (read text) k)
quiet_reloaded read text k none quiet = by (read text) refl
  where
    by : (o : Option Links) → read text ≡ o → IsQuiet (reloaded o k)
    by None is = quiet
    by (Some next) is = quiet_renewed next k (none text next is) quiet

-- what happens is passed on as it is, and nothing is said
record Stays (k : Known) (it : Happening) (r : Known × Happening) : Type 0 where
  pub quiet : IsQuiet r.0
  pub silent : probes r.0 ≡ probes k
  pub same : r.1 ≡ it

silent_cut : (number : ℕ) (piece : List ℕ) (given : ℕ) (k : Known) → probes (cut number piece given k).0 ≡ probes k
silent_cut number piece given k =
    pick (λ (r : Known × List ℕ). probes r.0 ≡ probes k) (nat_lt given (length piece))
    (record k { rest = Some (record { conn = number; bytes = drop given piece }) }, take given piece) (k, piece) refl refl

silent_heard : (number : ℕ) (piece : List ℕ) (k : Known) → probes (after_heard number piece k).0 ≡ probes k
silent_heard number piece k =
    let come = came_on k.links k.moment number piece k.conns in
    silent_cut number piece come.1 (record k { conns = come.0 })

stays : (read : List ℕ → Option Links) → ReadUnwatched read → (it : Happening) (k : Known) → IsQuiet k → Stays k it (happened read it k)
stays read none (happenings.Opened number) k quiet = record { quiet = record { unwatched = quiet.unwatched; calm = calm_opened number k.conns quiet.calm; rest = quiet.rest }; silent = refl; same = refl }
stays read none (happenings.Heard number piece) k quiet =
    let heard = quiet_heard number piece k quiet in
    record { quiet = heard.0; silent = silent_heard number piece k; same = ap (λ (l : List ℕ). happenings.Heard number l) heard.1 }
stays read none (happenings.Closed number cause) k quiet = record { quiet = quiet_gone number k quiet; silent = refl; same = refl }
stays read none (happenings.Moment moment) k quiet = record {
  quiet = record {
    unwatched = quiet.unwatched;
    calm = subst AreCalm (sym (none_losing (max k.moment moment) k.links.ends k.conns quiet.unwatched)) quiet.calm;
    rest = quiet.rest;
  };
  silent = ap (λ (s : Probing). s.said) (none_probed k.conns (max k.moment moment) k.links.ends k.probing quiet.unwatched);
  same = refl;
}
stays read none (happenings.Reload text) k quiet = record { quiet = quiet_reloaded read text k none quiet; silent = silent_reloaded (read text) k; same = refl }
  where
    silent_reloaded : (o : Option Links) (k : Known) → probes (reloaded o k) ≡ probes k
    silent_reloaded None k = refl
    silent_reloaded (Some next) k = refl

-- ---- stories

none_said : (events : List Event) → AreSaid [] events → events ≡ []
none_said [] none = refl
none_said (e ∷ events) none = absurd none

pub equal : (read : List ℕ → Option Links) → ReadUnwatched read → (from : Known) → IsQuiet from → (hub user : List Event) (to : Known) → Probed read from hub user to → (user ≡ hub) × IsQuiet to
equal read none from quiet _ _ _ at_first = (refl, quiet)
equal read none from quiet _ _ _ (told_first hub user k new it way told) =
    let before = equal read none from quiet hub user k way in
    let silent : next_told (taken k) ≡ (taken k, None) = none_first (taken k) (quiet_taken k before.1) in
    absurd (let wrong : None ≡ Some it = ap (λ (r : Known × Option Happening). r.1) (sym silent ∙ told) in cc)
equal read none from quiet _ _ _ (passed_on hub user said k new it given way has_told after_it are) =
    let before = equal read none from quiet hub user k way in
    let silent : next_told (taken k) ≡ (taken k, None) = none_first (taken k) (quiet_taken k before.1) in
    let start : IsQuiet (record (taken k) { probing = record k.probing { said = [] } }) = let q = quiet_taken k before.1 in record { unwatched = q.unwatched; calm = q.calm; rest = q.rest } in
    let kept = stays read none it (record (taken k) { probing = record k.probing { said = [] } }) start in
    let is : happened read it (record (taken k) { probing = record k.probing { said = [] } }) ≡ (new, given) = ap (λ (r : Known × Option Happening). after read it r.0) (sym silent) ∙ after_it in
    let none_are : AreSaid [] said = subst (λ (ps : List ProbeSaid). AreSaid ps said) (ap (λ (r : Known × Happening). probes r.0) (sym is) ∙ kept.silent) are in (
      ap (λ (l : List Event). l ++ happening given ∷ []) before.0
          ∙ ap (λ (h : Happening). hub ++ happening h ∷ []) (ap (λ (r : Known × Happening). r.1) (sym is) ∙ kept.same)
          ∙ ap (λ (l : List Event). hub ++ happening it ∷ l) (sym (none_said said none_are)),
      subst IsQuiet (ap (λ (r : Known × Happening). r.0) is) kept.quiet,
    )
equal read none from quiet _ _ _ (in_vain hub user k way has_told) =
    let before = equal read none from quiet hub user k way in
    let silent : next_told (taken k) ≡ (taken k, None) = none_first (taken k) (quiet_taken k before.1) in
    (before.0, subst IsQuiet (ap (λ (r : Known × Option Happening). r.0) (sym silent)) (quiet_taken k before.1))
equal read none from quiet _ _ _ (said_on hub user k conn piece answer way) =
    let before = equal read none from quiet hub user k way in
    (ap (λ (l : List Event). l ++ saying conn piece answer ∷ []) before.0, quiet_noted conn (asked_id piece) k before.1)
equal read none from quiet _ _ _ (closed_on hub user k conn way) =
    let before = equal read none from quiet hub user k way in
    (ap (λ (l : List Event). l ++ closing conn ∷ []) before.0, quiet_gone conn k before.1)

pub quiet_set : (next : Links) (k : Known) → AreUnwatched next.ends → IsQuiet k → IsQuiet (renewed next k)
quiet_set = quiet_renewed
