-- What the clock and a turn name.
use Rattle.std.proofs.Common.{◌≡◌, ℕ, Bool, true, false, not, List, [], ◌∷◌, ◌++◌, map, filter, codes, Result, Ok, Err, refl, subst}
use Rattle.std.specs.Prelude.{Contains}
use Rattle.fg_outside.specs.declared.hub.Happening.{Happening}
use Rattle.fg_outside.specs.declared.hub.Happening.TheVariants as happenings
use Rattle.conf_types.specs.declared.state.HostRec.{HostRec}
use Rattle.conf_types.specs.Configuration.{Configuration}
use Rattle.conf_types.specs.State.{is_to_forget}
use Rattle.conf_types.specs.Valid.{IsValid}
use Rattle.of13_codec.specs.declared.message.Message.TheVariants as messages
use Rattle.switch_session.specs.declared.closing.Closing.TheVariants.{Silent}
use Rattle.switch_session.specs.declared.quiet.Quiet.{Quiet}
use Rattle.switch_session.specs.declared.quiet.Quiet.TheVariants as quiet
use Rattle.switch_session.specs.Connections.{due_at}
use Rattle.ctl_world.specs.declared.conns.Conn.{Conn}
use Rattle.ctl_world.specs.declared.said.Said.TheVariants as said
use Rattle.ctl_world.specs.Connections.{change as changed, conn_with, is_open, with_looked}
use Rattle.ctl_world.specs.Ends.{ended}
use Rattle.ctl_world.specs.World.{World, now}
use Rattle.ctl_life.specs.Life.{closing_for, open_conn}
use Rattle.ctl_life.specs.Silence.{look, look_each, look_on, show, stir}
use Rattle.ctl_core.specs.Settlings.{settle}
use Rattle.ctl_core.specs.Reloading.{accepted, reload}
use Rattle.ctl_core.specs.Turns.{age, hear, pass, turn, work}
use Rattle.ctl_core.proofs.Telling.{show_names}
use Rattle.conf_types.specs.declared.change.Change.{Change}
use Rattle.conf_types.specs.declared.change.Change.TheVariants as change
use Rattle.law_changes.specs.Clock.{by_age, by_clock, by_look, by_look_on, by_looks, by_moment, by_passing, by_stir}
use Rattle.law_names.specs.Differing.{host}
use Rattle.law_names.specs.Ends.{by_end}
use Rattle.law_changes.specs.Frames.{by_piece}
use Rattle.law_names.specs.Names.{Names}
use Rattle.law_changes.specs.Settlings.{by_settling}
use Rattle.law_changes.specs.Turns.{touched}
use Rattle.law_changes.proofs.Heard.{piece_named}
use Rattle.law_names.proofs.Hosts.{gone_named}
use Rattle.law_changes.proofs.Settled.{settle_named}
use Rattle.law_names.proofs.Stepped.{added_quiet, close_named, ended_named, join, kept_quiet, nothing, of_option, of_two, open_quiet, say_quiet, still}

-- ---- the clock

show_named : (moment : ℕ) (w : World) → Names w (show moment w) (by_moment moment w)
show_named = show_names

stir_named : (q : Quiet) (number : ℕ) (w : World) → IsValid w.conf → Names w (stir q number w) (by_stir q number w)
stir_named quiet.Well number w valid = nothing w
stir_named quiet.Echo number w valid = say_quiet number (messages.EchoRequest []) w
stir_named quiet.Silent number w valid = close_named Silent number w valid

look_on_named : (w : World) (c : Conn) → IsValid w.conf → Names w (look_on w c) (by_look_on w c)
look_on_named w c valid =
    let looked : World = record w { conns = changed c.number (with_looked w.moment) w.conns } in
    join w looked (look_on w c) [] (by_look_on w c) (kept_quiet c.number (with_looked w.moment) (λ d. refl) (λ d. refl) w) (stir_named (due_at c.session w.moment) c.number looked valid)

look_named : (number : ℕ) (w : World) → IsValid w.conf → Names w (look number w) (by_look number w)
look_named number w valid = of_option w (look_on w) (by_look_on w) (conn_with w.conns number) (λ c. look_on_named w c valid)

looks_named : (numbers : List ℕ) (w : World) → IsValid w.conf → Names w (look_each numbers w) (by_looks numbers w)
looks_named [] w valid = nothing w
looks_named (number ∷ numbers) w valid =
    let looked : World = look number w in
    let first = look_named number w valid in
    join w looked (look_each numbers looked) (by_look number w) (by_looks numbers looked) first (looks_named numbers looked (still w looked (by_look number w) first valid))

twice : (b : Bool) → not (not b) ≡ b
twice true = refl
twice false = refl

age_named : (w : World) → Names w (age w) (by_age w)
age_named w = record {
  conf = refl;
  named = record {
    hosts = λ group vid mac other.
        subst (λ (hs : List HostRec). Contains (map (host w.conf) hs) (change.Host group vid mac)) (λ i. filter (λ h. twice (is_to_forget w.conf w.moment.0 h) i) w.hosts.hosts)
        (gone_named w.conf group vid mac (now w) (λ h. not (is_to_forget w.conf w.moment.0 h)) w.hosts.hosts other);
    ports = λ dp port other. absurd (other refl);
    dps = λ dp other. absurd (other refl);
    neighbours = λ group vid ip other. absurd (other refl);
  };
}

pub clock_named : (moment : ℕ) (w : World) → IsValid w.conf → Names w (pass moment w) (by_clock moment w)
clock_named moment w valid =
    let shown : World = show moment w in
    let numbers : List ℕ = map (λ (c : Conn). c.number) shown.conns in
    let looked : World = look_each numbers shown in
    join w shown (pass moment w) (by_moment moment w) (by_passing shown) (show_named moment w)
    (join shown looked (age looked) (by_looks numbers shown) (by_age looked) (looks_named numbers shown valid) (age_named looked))

-- ---- a turn

then_settled : (w v : World) (xs : List Change) → Names w v xs → Names w (settle v) (xs ++ by_settling v)
then_settled w v xs first = join w v (settle v) xs (by_settling v) first (settle_named v)

-- no new configuration comes
abbrev pub Stays : Happening → Type 0
Stays h = (text : List ℕ) (next : Configuration) → h ≡ happenings.Reload text → accepted text ≡ Ok next → ⊥

pub work_named : (h : Happening) (w : World) → IsValid w.conf → Stays h → Names w (work h w) (touched h w)
work_named (happenings.Opened number) w valid stays =
    of_two w w (settle (open_conn number w)) [] (by_settling (open_conn number w)) (is_open w.conns number) (nothing w) (then_settled w (open_conn number w) [] (open_quiet number w))
work_named (happenings.Heard number piece) w valid stays = of_two w (hear number piece w) w (by_piece number piece w) [] (is_open w.conns number) (piece_named number piece w valid) (nothing w)
work_named (happenings.Closed number cause) w valid stays =
    let left : World = ended (closing_for cause) number w in
    of_two w (settle left) w (by_end number w ++ by_settling left) [] (is_open w.conns number) (then_settled w left (by_end number w) (ended_named (closing_for cause) number w valid)) (nothing w)
work_named (happenings.Moment moment) w valid stays = then_settled w (pass moment w) (by_clock moment w) (clock_named moment w valid)
work_named (happenings.Reload text) w valid stays = by (accepted text) refl
  where
    by : (read : Result Configuration (List ℕ)) → accepted text ≡ read → Names w (settle (reload read w)) (by_settling (reload read w))
    by (Ok next) is = absurd (stays text next refl is)
    by (Err cause) is = then_settled w (reload (Err cause) w) [] (added_quiet (said.Line (codes "reload: " ++ cause) ∷ []) w)

pub turn_named : (h : Happening) (w : World) → IsValid w.conf → Stays h → Names w (turn h w) (touched h (record w { said = [] }))
turn_named h w valid stays = let n = work_named h (record w { said = [] }) valid stays in record { conf = n.conf; named = n.named }
