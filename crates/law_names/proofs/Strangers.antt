-- What the messages and the end of a connection touch that is no datapath: nothing.
use Rattle.std.proofs.Common.{◌≡◌, ◌<◌, ◌==◌, ℕ, Bool, true, false, cond, List, [], ◌∷◌, filter, Option, Some, None, refl, inl, inr, sym, ap, ◌∙◌, subst, arith, eqb-true}
use Rattle.std.specs.List.{AllByRecursion, cons_option, filter_map}
use Rattle.std.specs.Option.{option_map, option_map_or}
use Rattle.std.proofs.lemmas.Bool.{cases_Bool}
use Rattle.std.proofs.lemmas.Bool.Decides.{nat_tests}
use Rattle.net_base.specs.declared.numbers.DpId.{DpId}
use Rattle.conf_types.specs.Lists.{EachBefore}
use Rattle.conf_types.specs.State.{IsValidState, is_running}
use Rattle.of13_codec.specs.declared.message.Message.{Message}
use Rattle.switch_session.specs.declared.closing.Closing.{Closing}
use Rattle.ctl_world.specs.declared.conns.Conn.{Conn}
use Rattle.ctl_world.specs.declared.said.Said.TheVariants as said
use Rattle.ctl_world.specs.Connections.{change as changed, conn_of, conn_with, has_number, with_heard, without}
use Rattle.ctl_world.specs.Ends.{close, drop_conn, end_line, ended, forget_lost}
use Rattle.ctl_world.specs.World.{IsSound, World, now, runs, ups_by}
use Rattle.ctl_world.proofs.SoundChanges.{now_with_conns}
use Rattle.ctl_world.proofs.SoundEnds.{nothing_lost}
use Rattle.law_names.specs.Ends.{dps_on}
use Rattle.law_names.specs.Names.{Names}
use Rattle.law_names.proofs.Places.{changed_same, seen, without_same}
use Rattle.law_names.proofs.Stepped.{added_quiet, conns_quiet, then_quiet}

-- ---- its number leads to no datapath

none_above : (number : ℕ) (conns : List Conn) → AllByRecursion (λ (b : Conn). number < b.number) conns → filter (has_number number) conns ≡ []
none_above number [] above = refl
none_above number (x ∷ xs) above =
    let apart : has_number number x ≡ false = let less : number < x.number = above.0 in grind (arith, nat_tests) in
    ap (λ b. cond b (x ∷ filter (has_number number) xs) (filter (has_number number) xs)) apart ∙ none_above number xs above.1

abbrev dps_in : List Conn → List DpId
dps_in conns = filter_map (λ (c : Conn). c.dp) conns

pub no_dp_on : (number : ℕ) (conns : List Conn) (c : Conn) → EachBefore (λ (a b : Conn). a.number < b.number) conns → conn_with conns number ≡ Some c → c.dp ≡ None → dps_on number conns ≡ []
no_dp_on number [] c ordered at none = absurd (cc)
no_dp_on number (x ∷ xs) c ordered at none =
    elim (cases_Bool (has_number number x)) [
      | inl here ↦
          let e : Some x ≡ Some c = rw here at at in
          let same : x ≡ c = cc in
          let rest : filter (has_number number) xs ≡ [] = none_above number xs (subst (λ n. AllByRecursion (λ (b : Conn). n < b.number) xs) (eqb-true x.number number here) ordered.0) in
          ap (λ b. dps_in (cond b (x ∷ filter (has_number number) xs) (filter (has_number number) xs))) here
          ∙ ap (λ ys. dps_in (x ∷ ys)) rest ∙ ap (λ (d : Conn). cons_option d.dp []) same ∙ ap (λ o. cons_option o []) none
      | inr other ↦
          ap (λ b. dps_in (cond b (x ∷ filter (has_number number) xs) (filter (has_number number) xs))) other ∙ no_dp_on number xs c ordered.1 (rw other at at) none
    ]

-- the configuration, the moment and the hosts stay
pub record IsSame (before behind : World) : Type 0 where
  pub conf : behind.conf ≡ before.conf
  pub moment : behind.moment ≡ before.moment
  pub hosts : behind.hosts ≡ before.hosts

-- ---- so whatever becomes of it no datapath is seen otherwise, and nothing is lost

module _ (number : ℕ) (w : World) (none : dps_on number w.conns ≡ []) (sound : IsSound w) where
  not_on : (dp : DpId) → is_running (dps_on number w.conns) dp ≡ false
  not_on dp = ap (λ (ds : List DpId). is_running ds dp) none

  module _ (conns : List Conn) (same : (dp : DpId) → conn_of conns dp ≡ conn_of w.conns dp) where
    abbrev left : World
    left = record w { conns = conns }

    left_sound : IsSound left
    left_sound =
        let state = now_with_conns conns w (λ d. ap (λ o. option_map_or (λ (c : Conn). runs c.session.state.stage) o false) (same d.id)) (λ d. ap (λ o. option_map_or (ups_by d) o []) (same d.id)) in
        record { valid = subst (IsValidState w.conf) (sym state) sound.valid; hosts = sound.hosts; neighbours = sound.neighbours }

    unseen : Names w (forget_lost left) []
    unseen = subst (λ (v : World). Names w v []) (sym (nothing_lost left left_sound)) (conns_quiet w conns (λ dp. ap (option_map seen) (sym (same dp))))

    unseen_same : IsSame w (forget_lost left)
    unseen_same = subst (λ (v : World). IsSame w v) (sym (nothing_lost left left_sound)) (record { conf = refl; moment = refl; hosts = refl })

  dropped_same : IsSame w (drop_conn number w)
  dropped_same = unseen_same (without number w.conns) (λ dp. without_same number dp w.conns (not_on dp))

  pub stranger_closed_same : (cause : Closing) → IsSame w (close cause number w)
  stranger_closed_same cause = record { conf = dropped_same.conf; moment = dropped_same.moment; hosts = dropped_same.hosts }

  pub stranger_ended_same : (cause : Closing) → IsSame w (ended cause number w)
  stranger_ended_same cause = record { conf = dropped_same.conf; moment = dropped_same.moment; hosts = dropped_same.hosts }

  pub stranger_heard_same : (m : Message) (xid : ℕ) → IsSame w (forget_lost (record w { conns = changed number (with_heard m xid) w.conns }))
  stranger_heard_same m xid = unseen_same (changed number (with_heard m xid) w.conns) (λ dp. changed_same number dp (with_heard m xid) (λ c is. is) w.conns (not_on dp))

  dropped_unseen : Names w (drop_conn number w) []
  dropped_unseen = unseen (without number w.conns) (λ dp. without_same number dp w.conns (not_on dp))

  pub stranger_closed : (cause : Closing) → Names w (close cause number w) []
  stranger_closed cause = then_quiet w (drop_conn number w) (close cause number w) [] dropped_unseen (added_quiet (said.Closing number cause ∷ end_line number cause ∷ []) (drop_conn number w))

  pub stranger_ended : (cause : Closing) → Names w (ended cause number w) []
  stranger_ended cause = then_quiet w (drop_conn number w) (ended cause number w) [] dropped_unseen (added_quiet (end_line number cause ∷ []) (drop_conn number w))

  pub stranger_heard : (m : Message) (xid : ℕ) → Names w (forget_lost (record w { conns = changed number (with_heard m xid) w.conns })) []
  stranger_heard m xid = unseen (changed number (with_heard m xid) w.conns) (λ dp. changed_same number dp (with_heard m xid) (λ c is. is) w.conns (not_on dp))
