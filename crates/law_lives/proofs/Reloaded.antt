-- Which hosts stay over a reload, and why others don't.
use Rattle.std.proofs.Common.{◌≡◌, ℕ, Bool, true, false, Option, Some, None, List, [], ◌∷◌, ◌++◌, Result, Ok, Err, filter, map, inl, inr, refl, sym, ap, ◌∙◌, subst, ◌&&◌, true≢false, if◌then◌else◌}
use Rattle.std.specs.Prelude.{◌⊎◌}
use Rattle.std.specs.List.{AllByRecursion, list_any}
use Rattle.std.proofs.lemmas.Bool.{and_from, cases_Bool}
use Rattle.net_base.specs.declared.numbers.DpId.{DpId}
use Rattle.net_base.specs.declared.numbers.Moment.{Moment}
use Rattle.fg_outside.specs.declared.hub.Happening.{Happening}
use Rattle.fg_outside.specs.declared.hub.Happening.TheVariants as happenings
use Rattle.conf_types.specs.declared.state.HostRec.{HostRec}
use Rattle.conf_types.specs.declared.state.UpRec.{UpRec}
use Rattle.conf_types.specs.Configuration.{Configuration}
use Rattle.conf_types.specs.Links.{is_up}
use Rattle.conf_types.specs.State.{IsHost, is_running}
use Rattle.host_learn.specs.Kept.{finds_room, kept, kept_hosts, last_of_each, may_stay}
use Rattle.host_learn.specs.Learning.{is_heard}
use Rattle.host_learn.specs.Table.{Table}
use Rattle.host_learn.proofs.KeptParts.{kept_part, kept_stays}
use Rattle.host_list.specs.Parts.{IsPartOf}
use Rattle.host_list.proofs.Lists.{filter_part, part_of_part}
use Rattle.switch_session.specs.declared.closing.Closing.TheVariants.{UnknownDp}
use Rattle.ctl_world.specs.declared.conns.Conn.{Conn}
use Rattle.ctl_world.specs.Connections.{conn_of, is_open, without}
use Rattle.ctl_world.specs.Ends.{close, stands}
use Rattle.ctl_world.specs.World.{IsSound, World, now, running_of, ups, ups_of}
use Rattle.ctl_core.specs.Settlings.{settle}
use Rattle.ctl_core.specs.Reloading.{accepted, close_each, close_stray, reload, renew, strays}
use Rattle.ctl_core.specs.Turns.{turn}
use Rattle.law_lives.proofs.Speaking.{Speaks, settle_stays, wanted_stays}
use Rattle.law_lives.specs.Hosts.{IsAmong, IsKnown, stands_in}
use Rattle.law_lives.specs.Reloads.{HasCause, HasNoRoom, IsKept, KeepsBy, KeepsByWhat, is_followed, may_stay_in}
use Rattle.law_lives.proofs.Among.{among_second, of_all}
use Rattle.law_lives.proofs.Apart.{AreApart, without_less}
use Rattle.law_lives.proofs.Frames.{all_stand}
use Rattle.law_lives.proofs.Heard.{settle_hosts}
use Rattle.law_lives.proofs.Kept.{LeavesNoRoom, any_part, filter_around, kept_or, last_keeps}
use Rattle.law_lives.proofs.Less.{Less, less_on}
use Rattle.law_lives.proofs.SameAt.{stands_still}
use Rattle.law_lives.proofs.Standing.{Keeps, close_keeps, stands_same, ups_same}

module _ (w : World) (sound : IsSound w) (apart : AreApart w.conns) (next : Configuration) where
  -- ---- the closings

  record Left (v : World) : Type 0 where
    keeps : Keeps w.hosts.hosts v
    conf : v.conf ≡ w.conf
    moment : v.moment ≡ w.moment
    less : (id : DpId) → Less (conn_of v.conns id) (conn_of w.conns id)

  begun : Left w
  begun = record { keeps = all_stand w sound apart; conf = refl; moment = refl; less = λ id. inr refl }

  closed_left : (number : ℕ) (v : World) → Left v → Left (close UnknownDp number v)
  closed_left number v left = record {
    keeps = close_keeps w.hosts.hosts UnknownDp number v left.keeps;
    conf = left.conf;
    moment = left.moment;
    less = λ id. less_on (conn_of (without number v.conns) id) (conn_of v.conns id) (conn_of w.conns id) (without_less number v.conns left.keeps.apart id) (left.less id);
  }

  strays_left : (numbers : List ℕ) (v : World) → Left v → Left (close_each numbers v)
  strays_left [] v left = left
  strays_left (number ∷ numbers) v left =
      strays_left numbers (close_stray number v)
      (elim (is_open v.conns number) as (λ b. Left (if b then close UnknownDp number v else v)) [ true ↦ closed_left number v left | false ↦ left ])

  abbrev shut : World
  shut = close_each (strays next w.conns) w

  left : Left shut
  left = strays_left (strays next w.conns) w begun

  -- ---- the new configuration

  abbrev ups_then : List UpRec
  ups_then = ups_of next shut.conns

  abbrev may : HostRec → Bool
  may h = may_stay next ups_then shut.moment.0 h

  abbrev kept_then : List HostRec
  kept_then = kept_hosts next ups_then shut.moment.0 shut.hosts

  record Done (v : World) : Type 0 where
    hosts : v.hosts ≡ kept next ups_then shut.moment.0 shut.hosts
    conf : v.conf ≡ next
    moment : v.moment ≡ shut.moment
    ups : ups_of next v.conns ≡ ups_then
    stand : stands (running_of next v.conns) (ups_of next v.conns) ≡ stands (running_of next shut.conns) ups_then

  doing : Speaks Done
  doing = record {
    changes = λ f is number v done. record {
      hosts = done.hosts;
      conf = done.conf;
      moment = done.moment;
      ups = ups_same f is next number v.conns ∙ done.ups;
      stand = stands_same f is next number v.conns ∙ done.stand;
    };
    says = λ number m xid v at done. record { hosts = done.hosts; conf = done.conf; moment = done.moment; ups = done.ups; stand = done.stand };
    meets = λ neighbours v done. record { hosts = done.hosts; conf = done.conf; moment = done.moment; ups = done.ups; stand = done.stand };
  }

  abbrev behind : World
  behind = settle (reload (Ok next) w)

  done : Done behind
  done =
      settle_stays Done doing (reload (Ok next) w) (wanted_stays Done doing (renew next shut) (record { hosts = refl; conf = refl; moment = refl; ups = refl; stand = refl }))

  hosts_are : behind.hosts.hosts ≡ kept_then
  hosts_are = ap (λ (t : Table). t.hosts) done.hosts

  ups_are : ups behind ≡ ups_then
  ups_are = ap (λ (c : Configuration). ups_of c behind.conns) done.conf ∙ done.ups

  may_is : (λ (h : HostRec). may_stay_in behind h) ≡ may
  may_is i h = may_stay (done.conf i) (ups_are i) ((done.moment i).0) h

  stands_is : (h : HostRec) → stands_in behind h ≡ stands (running_of next shut.conns) ups_then h
  stands_is h =
      ap (λ (c : Configuration). stands (running_of c behind.conns) (ups_of c behind.conns) h) done.conf ∙ ap (λ (test : HostRec → Bool). test h) done.stand

  -- ---- why one isn't kept

  module _ (first : List HostRec) (h : HostRec) (more : List HostRec) (is : w.hosts.hosts ≡ first ++ h ∷ more) where
    among : IsAmong h w.hosts.hosts
    among = subst (IsAmong h) (sym is) (among_second h first (h ∷ more) (inl refl))

    stood : stands (running_of w.conf w.conns) (ups_of w.conf w.conns) h ≡ true
    stood =
        let at = of_all (IsHost w.conf (now w)) h w.hosts.hosts sound.valid.hosts among in
        and_from (is_running (running_of w.conf w.conns) h.dp) (is_up (ups_of w.conf w.conns) h.dp h.port) at.runs at.up

    gone : stands_in shut h ≡ false → stands_in behind h ≡ false
    gone off =
        elim (cases_Bool (stands_in behind h)) [
          | inl on ↦
              let still : stands (running_of w.conf shut.conns) (ups_of w.conf shut.conns) h ≡ true =
              stands_still w.conf next shut.conns w.conns h (left.less h.dp) stood (sym (stands_is h) ∙ on) in
              absurd (true≢false (sym (ap (λ (c : Configuration). stands (running_of c shut.conns) (ups_of c shut.conns) h) left.conf ∙ still) ∙ off))
          | inr other ↦ other
        ]

    abbrev left_first : List HostRec
    left_first = filter (stands_in shut) first

    abbrev left_more : List HostRec
    left_more = filter (stands_in shut) more

    around : stands_in shut h ≡ true → shut.hosts.hosts ≡ left_first ++ h ∷ left_more
    around on = left.keeps.known ∙ ap (filter (stands_in shut)) is ∙ filter_around (stands_in shut) first h more on

    staying : stands_in shut h ≡ true → may h ≡ true → filter may shut.hosts.hosts ≡ filter may left_first ++ h ∷ filter may left_more
    staying on stays = ap (filter may) (around on) ∙ filter_around may left_first h left_more stays

    no_room : LeavesNoRoom next shut.hosts.limit kept_then h → HasNoRoom behind h
    no_room none = (
      none.0,
      none.1,
      hosts_are ∙ none.2,
      (λ i. finds_room (done.conf i) ((done.hosts i).limit) none.0 h) ∙ none.3,
    )

    last_one : stands_in shut h ≡ true → may h ≡ true → list_any (is_heard next h) (filter may left_more) ≡ false → IsKnown behind h ⊎ HasCause behind h more
    last_one on stays none =
        let there : IsAmong h (last_of_each next (filter may shut.hosts.hosts)) =
        subst (λ hosts. IsAmong h (last_of_each next hosts)) (sym (staying on stays)) (last_keeps next (filter may left_first) h (filter may left_more) none) in
        elim (kept_or next shut.hosts.limit [] (last_of_each next (filter may shut.hosts.hosts)) h there) [
          | inl kept_one ↦ inl (subst (IsAmong h) (sym hosts_are) kept_one)
          | inr full ↦ inr (inr (inr (inr (no_room full))))
        ]

    followed : list_any (is_heard next h) (filter may left_more) ≡ true → is_followed behind h more ≡ true
    followed some =
        (λ i. list_any (λ k. is_heard (done.conf i) h k && may_is i k) more) ∙ any_part (is_heard next h) may (stands_in shut) more some

    cause_of : IsKnown behind h ⊎ HasCause behind h more
    cause_of =
        elim (cases_Bool (stands_in shut h)) [
          | inr off ↦ inr (inl (gone off))
          | inl on ↦ elim (cases_Bool (may h)) [
            | inr barred ↦ inr (inr (inl (ap (λ (test : HostRec → Bool). test h) may_is ∙ barred)))
            | inl stays ↦ elim (cases_Bool (list_any (is_heard next h) (filter may left_more))) [
              | inl some ↦ inr (inr (inr (inl (followed some))))
              | inr none ↦ last_one on stays none
            ]
          ]
        ]

  kept_is : IsKept w behind
  kept_is = record {
    part =
        subst (λ hosts. IsPartOf hosts w.hosts.hosts) (sym hosts_are)
        (part_of_part kept_then shut.hosts.hosts w.hosts.hosts (kept_part next ups_then shut.moment.0 shut.hosts)
        (subst (λ hosts. IsPartOf hosts w.hosts.hosts) (sym left.keeps.known) (filter_part (stands_in shut) w.hosts.hosts)));
    allowed =
        subst (λ (test : HostRec → Bool). AllByRecursion (λ h. test h ≡ true) behind.hosts.hosts) (sym may_is)
        (subst (AllByRecursion (λ h. may h ≡ true)) (sym hosts_are) (kept_stays next ups_then shut.moment.0 shut.hosts));
    causes = cause_of;
  }

reloaded_hosts : (read : Result Configuration (List ℕ)) (w : World) → IsSound w → AreApart w.conns → KeepsBy read w (settle (reload read w))
reloaded_hosts (Ok next) w sound apart = kept_is w sound apart next
reloaded_hosts (Err cause) w sound apart = settle_hosts (reload (Err cause) w)

-- what was said counts for nothing
unsaid_kept : (read : Result Configuration (List ℕ)) (w after : World) → KeepsBy read (record w { said = [] }) after → KeepsBy read w after
unsaid_kept (Ok next) w after kept = record { part = kept.part; allowed = kept.allowed; causes = kept.causes }
unsaid_kept (Err cause) w after kept = kept

pub turned_kept : (w : World) → IsSound w → AreApart w.conns → (h : Happening) → KeepsByWhat h w (turn h w)
turned_kept w sound apart (happenings.Reload text) =
    unsaid_kept (accepted text) w (turn (happenings.Reload text) w)
    (reloaded_hosts (accepted text) (record w { said = [] }) (record { valid = sound.valid; hosts = sound.hosts; neighbours = sound.neighbours }) apart)
turned_kept w sound apart h = tt
