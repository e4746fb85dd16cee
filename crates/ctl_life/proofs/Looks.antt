-- A connection that is open is looked at, by its number.
use Rattle.std.proofs.Common.{◌≡◌, ℕ, true, false, is_some, Option, Some, None, refl, sym, ap, ◌∙◌, true≢false}
use Rattle.std.specs.Option.{option_map_or}
use Rattle.switch_session.specs.declared.quiet.Quiet.TheVariants.{Well}
use Rattle.switch_session.specs.Connections.{due_at}
use Rattle.ctl_world.specs.declared.conns.Conn.{Conn}
use Rattle.ctl_world.specs.Connections.{change, conn_with, is_open, with_looked}
use Rattle.ctl_world.specs.World.{World}
use Rattle.ctl_life.specs.Silence.{look, look_on, stir}
use Rattle.ctl_world.proofs.Numbered.{has_it, shut_none}
use Rattle.ctl_life.proofs.Openings.{open_is}

pub look_not : (number : ℕ) (w : World) → is_open w.conns number ≡ false → look number w ≡ w
look_not number w shut = ap (λ (o : Option Conn). option_map_or (look_on w) o w) (shut_none number w.conns shut)

pub look_open : (number : ℕ) (w : World) → is_open w.conns number ≡ true
    → stir (option_map_or (λ (c : Conn). due_at c.session w.moment) (conn_with w.conns number) Well) number (record w { conns = change number (with_looked w.moment) w.conns }) ≡ look number w
look_open number w is_there = by (conn_with w.conns number) refl
  where
    by : (o : Option Conn) → conn_with w.conns number ≡ o
        → stir (option_map_or (λ (c : Conn). due_at c.session w.moment) o Well) number (record w { conns = change number (with_looked w.moment) w.conns }) ≡ option_map_or (look_on w) o w
    by (Some c) is = ap (λ (n : ℕ). stir (due_at c.session w.moment) n (record w { conns = change n (with_looked w.moment) w.conns })) (sym (has_it number w.conns c is))
    by None is = absurd (true≢false (sym is_there ∙ open_is w.conns number ∙ ap (λ (o : Option Conn). is_some o) is))
