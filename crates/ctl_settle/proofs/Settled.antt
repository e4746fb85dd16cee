-- What rests settles as it is, what has settled rests, and worlds that look the same rest alike.
use Rattle.std.proofs.Common.{◌≡◌, ℕ, zero, suc, ◌+◌, ◌≤◌, ◌==◌, ◌||◌, true, false, Option, Some, None, List, [], ◌∷◌, count_by, is_some, length, not, filter, refl, inl, inr, sym, ap, subst, ◌∙◌, arith, eq-eqb, if◌then◌else◌}
use Rattle.std.specs.Prelude.{◌⊎◌, ◌↔◌}
use Rattle.std.specs.List.{AllByRecursion}
use Rattle.std.specs.Option.{option_map, option_map_or}
use Rattle.std.proofs.lemmas.Bool.{or_right}
use Rattle.std.proofs.lemmas.List.Sums.{count_by-le-length}
use Rattle.net_base.specs.declared.numbers.DpId.{DpId}
use Rattle.net_base.specs.declared.numbers.Moment.{Moment}
use Rattle.of_match.specs.declared.entry.Entry.{Entry}
use Rattle.of_match.specs.FlowTables.{IsInKeyOrder}
use Rattle.of13_codec.specs.declared.message.Message.{Message}
use Rattle.conf_types.specs.declared.datapath.Dp.{Dp}
use Rattle.conf_types.specs.declared.state.NeighRec.{NeighRec}
use Rattle.conf_types.specs.Configuration.{Configuration}
use Rattle.conf_types.specs.State.{State, is_running, is_to_forget}
use Rattle.cold_start.specs.Cold.{cold, cold_at}
use Rattle.plan_difference.specs.Difference.{difference}
use Rattle.neighbour_resolve.specs.declared.neighbour.Due.{Due}
use Rattle.neighbour_resolve.specs.declared.neighbour.Due.TheVariants.{Ask, Gone}
use Rattle.neighbour_resolve.specs.Asks.{AskOn, asks, in_order}
use Rattle.neighbour_resolve.specs.Due.{after_due, first_due, is_due, due_said, said_of}
use Rattle.ctl_world.specs.declared.conns.Conn.{Conn}
use Rattle.ctl_world.specs.Alike.{Face, IsAlike, face}
use Rattle.ctl_world.specs.Connections.{conn_of}
use Rattle.ctl_world.specs.Saying.{packet_out, say}
use Rattle.ctl_world.specs.World.{World, running}
use Rattle.ctl_world.proofs.Faces.{same_face, same_now, same_running}
use Rattle.ctl_settle.specs.Rest.{AreInOrder, IsAtRest, NoneIsOver, RestsUntil, at_moment}
use Rattle.ctl_settle.specs.Settling.{ask_all, ask_due, ask_each, ask_on, batch, batch_on, batches, say_batch, say_due, settle, settle_batches, take_due, wanted}
use Rattle.ctl_settle.proofs.Batches.{say_step}
use Rattle.ctl_settle.proofs.Waiting.{Case, batch_case, settled_done, settled_ordered, wanted_order}

-- ---- what rests settles as it is

none_asked : (most : ℕ) (w : World) → due_said w.conf w.moment.0 w.neighbours.neighbours ≡ None → ask_due most w ≡ w
none_asked zero w none = refl
none_asked (suc most) w none = ap (λ o. option_map_or (λ due. ask_due most (say_due due (take_due w))) o w) none

pub all_run : (dps ids : List DpId) → ((dp : DpId) → is_running ids dp ≡ true → is_running dps dp ≡ true) → AllByRecursion (λ dp. is_running dps dp ≡ true) ids
all_run dps [] within = tt
all_run dps (id ∷ ids) within =
    (within id (ap (λ b. b || is_running ids id) (eq-eqb id.0 id.0 refl)), all_run dps ids (λ dp runs. within dp (or_right (id.0 == dp.0) (is_running ids dp) runs)))

module _ (cold_order : (conf : Configuration) (state : State) (d : Dp) → IsInKeyOrder (cold conf state d))
    (equal : (from to : List Entry) → IsInKeyOrder from → IsInKeyOrder to → (difference from to ≡ []) ↔ (from ≡ to))
    (same_ids : (ids : List DpId) (dp : DpId) → is_running (in_order ids) dp ≡ is_running ids dp) where
  module _ (w : World) (rests : IsAtRest w) where
    quiet_on : (dp : DpId) (c : Conn) → c.sent ≡ wanted w dp → batch_on dp w c ≡ w
    quiet_on dp c has =
        let order : IsInKeyOrder (wanted w dp) = wanted_order cold_order w dp in
        let nothing : difference c.sent (wanted w dp) ≡ [] = (equal c.sent (wanted w dp) (subst IsInKeyOrder (sym has) order) order).1 has in
        elim (is_some c.session.state.awaited) as (λ b. (if b then w else say_batch c.number (difference c.sent (wanted w dp)) (wanted w dp) w) ≡ w) [
          | true ↦ refl
          | false ↦ ap (λ commands. say_batch c.number commands (wanted w dp) w) nothing
        ]

    quiet_batch : (dp : DpId) → is_running (running w) dp ≡ true → batch dp w ≡ w
    quiet_batch dp runs = by (conn_of w.conns dp) refl
      where
        by : (o : Option Conn) → conn_of w.conns dp ≡ o → option_map_or (batch_on dp w) o w ≡ w
        by None none = refl
        by (Some c) some =
            elim (rests.batches dp runs c some) [
              | inl waits ↦ ap (λ b. if b then w else say_batch c.number (difference c.sent (wanted w dp)) (wanted w dp) w) waits
              | inr has ↦ quiet_on dp c has
            ]

    quiet_batches : (dps : List DpId) → AllByRecursion (λ dp. is_running (running w) dp ≡ true) dps → batches dps w ≡ w
    quiet_batches [] all = refl
    quiet_batches (dp ∷ dps) all = ap (batches dps) (quiet_batch dp all.0) ∙ quiet_batches dps all.1

    pub settles_as_it_is : settle w ≡ w
    settles_as_it_is =
        ap settle_batches (none_asked (length w.neighbours.neighbours) w rests.asks)
        ∙ quiet_batches (in_order (running w)) (all_run (running w) (in_order (running w)) (λ dp runs. sym (same_ids (running w) dp) ∙ runs))

-- ---- what is said leaves the neighbours

record OnlySays (w v : World) : Type 0 where
  pub conf : v.conf ≡ w.conf
  pub moment : v.moment ≡ w.moment
  pub neighbours : v.neighbours ≡ w.neighbours

says_nothing : (w : World) → OnlySays w w
says_nothing w = record { conf = refl; moment = refl; neighbours = refl }

says_more : (w v u : World) → OnlySays w v → OnlySays v u → OnlySays w u
says_more w v u first second = record { conf = second.conf ∙ first.conf; moment = second.moment ∙ first.moment; neighbours = second.neighbours ∙ first.neighbours }

say_says : (number : ℕ) (m : Message) (w : World) → OnlySays w (say number m w)
say_says number m w =
    let is = (say_step number m w).is in
    record { conf = ap (λ (x : World). x.conf) is; moment = ap (λ (x : World). x.moment) is; neighbours = ap (λ (x : World). x.neighbours) is }

on_says : (a : AskOn) (w : World) → OnlySays w (ask_on a w)
on_says a w =
    elim (conn_of w.conns a.dp) as (λ o. OnlySays w (option_map_or (λ (c : Conn). say c.number (packet_out a.out) w) o w)) [
      | Some c ↦ say_says c.number (packet_out a.out) w
      | None ↦ says_nothing w
    ]

each_says : (frames : List AskOn) (w : World) → OnlySays w (ask_each frames w)
each_says [] w = says_nothing w
each_says (a ∷ more) w = says_more w (ask_on a w) (ask_each more (ask_on a w)) (on_says a w) (each_says more (ask_on a w))

due_says : (due : Due) (w : World) → OnlySays w (say_due due w)
due_says (Ask group vid ip) w = each_says (asks w.conf (running w) group vid ip) w
due_says (Gone group vid ip) w = says_nothing w

-- ---- once all that are due are asked none is due

abbrev said_in : World → Option Due
said_in w = due_said w.conf w.moment.0 w.neighbours.neighbours

said_kept : (w v : World) → OnlySays w v → said_in v ≡ said_in w
said_kept w v only = λ i. due_said (only.conf i) (only.moment i).0 (only.neighbours i).neighbours

abbrev dues : World → ℕ
dues w = count_by (is_due w.moment.0) w.neighbours.neighbours

dues_kept : (w v : World) → OnlySays w v → dues v ≡ dues w
dues_kept w v only = λ i. count_by (is_due (only.moment i).0) (only.neighbours i).neighbours

module _ (fewer : (conf : Configuration) (moment : ℕ) (before : List NeighRec) (n : NeighRec) → first_due moment before ≡ Some n
    → count_by (is_due moment) (after_due conf moment before) + 1 ≡ count_by (is_due moment) before) where
  none_due : (most : ℕ) (w : World) (o : Option NeighRec) → first_due w.moment.0 w.neighbours.neighbours ≡ o → dues w ≤ most → said_in (ask_due most w) ≡ None
  none_due zero w None none few = ap (option_map (said_of w.conf w.moment.0)) none
  none_due zero w (Some n) some few = absurd (omega (arith, few, fewer w.conf w.moment.0 w.neighbours.neighbours n some))
  none_due (suc most) w None none few =
      let nothing : said_in w ≡ None = ap (option_map (said_of w.conf w.moment.0)) none in
      ap said_in (none_asked (suc most) w nothing) ∙ nothing
  none_due (suc most) w (Some n) some few =
      let due : Due = said_of w.conf w.moment.0 n in
      let v : World = say_due due (take_due w) in
      let is : said_in w ≡ Some due = ap (option_map (said_of w.conf w.moment.0)) some in
      let left : dues v ≤ most = omega (arith, few, fewer w.conf w.moment.0 w.neighbours.neighbours n some, dues_kept (take_due w) v (due_says due (take_due w))) in
      ap (λ o. said_in (option_map_or (λ d. ask_due most (say_due d (take_due w))) o w)) is ∙ none_due most v (first_due v.moment.0 v.neighbours.neighbours) refl left

  all_asked : (w : World) → said_in (ask_all w) ≡ None
  all_asked w =
      none_due (length w.neighbours.neighbours) w (first_due w.moment.0 w.neighbours.neighbours) refl (count_by-le-length (is_due w.moment.0) w.neighbours.neighbours)

  -- ---- what has settled rests

  module _ (cold_order : (conf : Configuration) (state : State) (d : Dp) → IsInKeyOrder (cold conf state d))
      (equal : (from to : List Entry) → IsInKeyOrder from → IsInKeyOrder to → (difference from to ≡ []) ↔ (from ≡ to))
      (same_ids : (ids : List DpId) (dp : DpId) → is_running (in_order ids) dp ≡ is_running ids dp) where
    case_says : (w v : World) → Case cold_order w v → OnlySays w v
    case_says w v (inl same) = record { conf = ap (λ (x : World). x.conf) same; moment = ap (λ (x : World). x.moment) same; neighbours = ap (λ (x : World). x.neighbours) same }
    case_says w v (inr said) =
        let is = said.1.step.is in
        record { conf = ap (λ (x : World). x.conf) is; moment = ap (λ (x : World). x.moment) is; neighbours = ap (λ (x : World). x.neighbours) is }

    batches_say : (dps : List DpId) (w : World) → OnlySays w (batches dps w)
    batches_say [] w = says_nothing w
    batches_say (dp ∷ dps) w = says_more w (batch dp w) (batches dps (batch dp w)) (case_says w (batch dp w) (batch_case cold_order dp w)) (batches_say dps (batch dp w))

    pub settled_rests : (w : World) → AreInOrder w → IsAtRest (settle w)
    settled_rests w order =
        let v : World = ask_all w in
        record {
          asks = said_kept v (settle w) (batches_say (in_order (running v)) v) ∙ all_asked w;
          batches = settled_done cold_order equal same_ids w order.numbers order.keys;
        }

    pub settled_in_order : (w : World) → AreInOrder w → AreInOrder (settle w)
    settled_in_order w order =
        let both = settled_ordered cold_order w order.numbers order.keys in
        record { numbers = both.0; keys = both.1 }

-- ---- worlds that look the same rest alike

module _ (v w : World) (alike : IsAlike v w) where
  wanted_alike : (dp : DpId) → wanted v dp ≡ wanted w dp
  wanted_alike dp = λ i. cold_at (alike.conf i) (same_now v w alike i) dp

  pub rest_alike : IsAtRest w → IsAtRest v
  rest_alike rests = record {
    asks = (λ i. due_said (alike.conf i) (alike.moment i).0 (alike.neighbours i).neighbours) ∙ rests.asks;
    batches = λ dp runs c some. by dp (ap (λ (ids : List DpId). is_running ids dp) (sym (same_running v w alike)) ∙ runs) c some (conn_of w.conns dp) refl;
  }
    where
      by : (dp : DpId) → is_running (running w) dp ≡ true → (c : Conn) → conn_of v.conns dp ≡ Some c → (o : Option Conn) → conn_of w.conns dp ≡ o
          → (is_some c.session.state.awaited ≡ true) ⊎ (c.sent ≡ wanted v dp)
      by dp runs c some None none =
          let e : Some (face c) ≡ None = ap (option_map face) (sym some) ∙ same_face v.conns w.conns alike.conns dp ∙ ap (option_map face) none in absurd (cc)
      by dp runs c some (Some d) at =
          let e : Some (face c) ≡ Some (face d) = ap (option_map face) (sym some) ∙ same_face v.conns w.conns alike.conns dp ∙ ap (option_map face) at in
          let it : face c ≡ face d = cc in
          elim (rests.batches dp runs d at) [
            | inl waits ↦ inl (ap (λ (f : Face). is_some f.state.awaited) it ∙ waits)
            | inr has ↦ inr (ap (λ (f : Face). f.sent) it ∙ has ∙ sym (wanted_alike dp))
          ]

  pub over_alike : NoneIsOver w → NoneIsOver v
  over_alike over =
      (λ i. filter (λ h. not (is_to_forget (alike.conf i) (alike.moment i).0 h)) (alike.hosts i).hosts) ∙ over ∙ ap (λ table. table.hosts) (sym alike.hosts)

pub until_alike : (moment : ℕ) (v w : World) → IsAlike v w → RestsUntil moment w → RestsUntil moment v
until_alike moment v w alike until = λ m from before.
    let later = until m (omega (arith, from, ap (λ (x : Moment). x.0) alike.moment)) before in
    let same : IsAlike (at_moment m v) (at_moment m w) = record { conf = alike.conf; moment = refl; conns = alike.conns; hosts = alike.hosts; neighbours = alike.neighbours } in
    (rest_alike (at_moment m v) (at_moment m w) same later.0, over_alike (at_moment m v) (at_moment m w) same later.1)
