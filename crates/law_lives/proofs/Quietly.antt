-- What opens, ends, is shown and is loaded tells no switch to send a frame.
use Rattle.std.proofs.Common.{◌≡◌, ℕ, Bool, true, false, Option, Some, None, List, [], ◌∷◌, ◌++◌, Result, Ok, Err, codes, map, refl, ◌∙◌, if◌then◌else◌}
use Rattle.std.specs.Option.{option_map_or}
use Rattle.net_base.specs.declared.numbers.DpId.{DpId}
use Rattle.conf_types.specs.Configuration.{Configuration}
use Rattle.conf_types.specs.Groups.{group_of}
use Rattle.of13_codec.specs.declared.message.Message.TheVariants as messages
use Rattle.neighbour_resolve.specs.Asks.{in_order}
use Rattle.switch_session.specs.declared.closing.Closing.{Closing}
use Rattle.switch_session.specs.declared.closing.Closing.TheVariants.{Silent, UnknownDp}
use Rattle.switch_session.specs.declared.quiet.Quiet.{Quiet}
use Rattle.switch_session.specs.declared.quiet.Quiet.TheVariants as quiet
use Rattle.switch_session.specs.Connections.{due_at}
use Rattle.ctl_world.specs.declared.conns.Conn.{Conn}
use Rattle.ctl_world.specs.declared.said.Said.TheVariants as told
use Rattle.ctl_world.specs.Connections.{change, conn_with, is_open, with_looked}
use Rattle.ctl_world.specs.Ends.{close, end_line, ended}
use Rattle.ctl_world.specs.World.{World, running}
use Rattle.ctl_life.specs.Life.{open_conn}
use Rattle.ctl_life.specs.Silence.{look, look_each, look_on, show, stir}
use Rattle.ctl_life.proofs.Openings.{with_fresh}
use Rattle.ctl_core.specs.Hearing.{want_in}
use Rattle.ctl_core.specs.Reloading.{close_each, close_stray, reload, renew, strays, want_all, want_each}
use Rattle.ctl_core.specs.Turns.{pass}
use Rattle.ctl_core.proofs.Walk.{wants_by}
use Rattle.law_lives.specs.Outs.{outs}
use Rattle.law_lives.proofs.Answered.{close_outs}
use Rattle.law_lives.proofs.Outs.{no_outs, said_outs}

pub opened_outs : (number : ℕ) (w : World) → outs (open_conn number w).said ≡ outs w.said
opened_outs number w = said_outs number (messages.Hello 4 (Some 16)) (with_fresh number w) (λ n. refl)

pub ended_outs : (cause : Closing) (number : ℕ) (w : World) → outs (ended cause number w).said ≡ outs w.said
ended_outs cause number w = no_outs w.said (end_line number cause ∷ []) refl

stir_outs : (q : Quiet) (number : ℕ) (w : World) → outs (stir q number w).said ≡ outs w.said
stir_outs quiet.Well number w = refl
stir_outs quiet.Echo number w = said_outs number (messages.EchoRequest []) w (λ n. refl)
stir_outs quiet.Silent number w = close_outs Silent number w

look_outs : (number : ℕ) (w : World) → outs (look number w).said ≡ outs w.said
look_outs number w = by (conn_with w.conns number)
  where
    by : (o : Option Conn) → outs (option_map_or (look_on w) o w).said ≡ outs w.said
    by None = refl
    by (Some c) = stir_outs (due_at c.session w.moment) c.number (record w { conns = change c.number (with_looked w.moment) w.conns })

looks_outs : (numbers : List ℕ) (w : World) → outs (look_each numbers w).said ≡ outs w.said
looks_outs [] w = refl
looks_outs (number ∷ numbers) w = looks_outs numbers (look number w) ∙ look_outs number w

pub passed_outs : (moment : ℕ) (w : World) → outs (pass moment w).said ≡ outs w.said
passed_outs moment w = looks_outs (map (λ (c : Conn). c.number) w.conns) (show moment w)

stray_outs : (number : ℕ) (w : World) → outs (close_stray number w).said ≡ outs w.said
stray_outs number w = elim (is_open w.conns number) as (λ b. outs (if b then close UnknownDp number w else w).said ≡ outs w.said) [ true ↦ close_outs UnknownDp number w | false ↦ refl ]

strays_outs : (numbers : List ℕ) (w : World) → outs (close_each numbers w).said ≡ outs w.said
strays_outs [] w = refl
strays_outs (number ∷ numbers) w = strays_outs numbers (close_stray number w) ∙ stray_outs number w

wanted_outs : (groups : List DpId) (w : World) → outs (want_each groups w).said ≡ outs w.said
wanted_outs [] w = refl
wanted_outs (group ∷ groups) w = wanted_outs groups (want_in group w) ∙ wants_by (λ (v : World). outs v.said ≡ outs w.said) group w refl refl

pub reloaded_outs : (read : Result Configuration (List ℕ)) (w : World) → outs (reload read w).said ≡ outs w.said
reloaded_outs (Ok next) w =
    let v : World = renew next (close_each (strays next w.conns) w) in
    wanted_outs (in_order (map (group_of v.conf) (running v))) v ∙ strays_outs (strays next w.conns) w
reloaded_outs (Err cause) w = no_outs w.said (told.Line (codes "reload: " ++ cause) ∷ []) refl
