-- Nothing that is done in a turn but what a Moment shows changes the clock.
use Rattle.std.proofs.Common.{◌≡◌, ℕ, List, [], ◌∷◌, Result}
use Rattle.net_base.specs.declared.numbers.Moment.{Moment}
use Rattle.conf_types.specs.Configuration.{Configuration}
use Rattle.of13_codec.specs.declared.message.Message.{Message}
use Rattle.of13_codec.specs.declared.message.Message.TheVariants as messages
use Rattle.switch_session.specs.declared.quiet.Quiet.{Quiet}
use Rattle.switch_session.specs.declared.quiet.Quiet.TheVariants as quiet
use Rattle.switch_session.specs.Connections.{due_at}
use Rattle.ctl_world.specs.Connections.{change, conn_with, with_asked, with_looked, with_said}
use Rattle.ctl_world.specs.Saying.{ask, say, say_by}
use Rattle.ctl_world.specs.World.{World}
use Rattle.ctl_core.specs.Settlings.{settle}
use Rattle.ctl_life.specs.Silence.{look, look_each, look_on, stir}
use Rattle.ctl_core.specs.Hearing.{hear_frames}
use Rattle.ctl_core.specs.Reloading.{reload}
use Rattle.ctl_core.proofs.Walk.{with_any}
use Rattle.law_lives.proofs.Plain as plain

module _ (t : Moment) where
  abbrev pub Shows : World → Type 0
  Shows w = w.moment ≡ t

  pub said_shows : (number : ℕ) (m : Message) (w : World) → Shows w → Shows (say number m w)
  said_shows number m w is = with_any Shows (say_by with_said m w) (conn_with w.conns number) w (λ c. is) is

  asked_shows : (number : ℕ) (m : Message) (w : World) → Shows w → Shows (ask number m w)
  asked_shows number m w is = with_any Shows (say_by with_asked m w) (conn_with w.conns number) w (λ c. is) is

  keeps : plain.Plainly Shows
  keeps = record {
    says = λ number m no w is. said_shows number m w is;
    asks = λ number m no w is. asked_shows number m w is;
    repeats = λ number m no xid w is. is;
    closes = λ cause number w is. is;
    tells = λ text w is. is;
    hears = λ m xid number w is. is;
    takes = λ number dp w is. is;
    notes = λ number entries w is. is;
    reads = λ number w is. is;
    hosts = λ table w is. is;
    neighbours = λ table w is. is;
    renews = λ next w is. is;
  }

  pub settled_shows : (w : World) → Shows w → Shows (settle w)
  settled_shows w is = plain.settled_shows Shows keeps w is

  pub reload_shows : (read : Result Configuration (List ℕ)) (w : World) → Shows w → Shows (reload read w)
  reload_shows read w is = plain.reload_shows Shows keeps read w is

  pub frames_show : (number most : ℕ) (w : World) → Shows w → Shows (hear_frames most number w)
  frames_show number most w is = plain.frames_show Shows keeps most number w is

  -- ---- connections looked at

  stir_shows : (due : Quiet) (number : ℕ) (w : World) → Shows w → Shows (stir due number w)
  stir_shows quiet.Well number w is = is
  stir_shows quiet.Echo number w is = said_shows number (messages.EchoRequest []) w is
  stir_shows quiet.Silent number w is = is

  pub look_shows : (number : ℕ) (w : World) → Shows w → Shows (look number w)
  look_shows number w is =
      with_any Shows (look_on w) (conn_with w.conns number) w
      (λ c. stir_shows (due_at c.session w.moment) c.number (record w { conns = change c.number (with_looked w.moment) w.conns }) is) is

  pub looks_show : (numbers : List ℕ) (w : World) → Shows w → Shows (look_each numbers w)
  looks_show [] w is = is
  looks_show (number ∷ numbers) w is = looks_show numbers (look number w) (look_shows number w is)
