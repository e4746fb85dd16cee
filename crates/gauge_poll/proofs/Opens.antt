-- No connection opens by what is done with those that are open.
use Rattle.std.proofs.Common.{◌≡◌, ℕ, Bool, true, false, not, ◌||◌, Option, Some, None, List, [], ◌∷◌, filter, refl, sym, ◌∙◌, if◌then◌else◌}
use Rattle.std.specs.Option.{option_map_or}
use Rattle.net_base.specs.declared.numbers.DpId.{DpId}
use Rattle.of13_codec.specs.declared.message.Message.{Message}
use Rattle.of13_codec.specs.declared.message.Message.TheVariants as messages
use Rattle.switch_session.specs.declared.closing.Closing.{Closing}
use Rattle.switch_session.specs.declared.closing.Closing.TheVariants.{Replaced, Silent, WrongVersion}
use Rattle.switch_session.specs.declared.quiet.Quiet.{Quiet}
use Rattle.switch_session.specs.declared.quiet.Quiet.TheVariants as quiet
use Rattle.switch_session.specs.Connections.{due_at}
use Rattle.ctl_world.specs.declared.conns.Conn.{Conn}
use Rattle.ctl_world.specs.Connections.{change, conn_of, conn_with, has_number, is_open, with_dp, with_looked, with_said}
use Rattle.ctl_world.specs.Ends.{close, ended}
use Rattle.ctl_world.specs.Saying.{say, say_by}
use Rattle.ctl_world.specs.World.{World}
use Rattle.ctl_life.specs.Life.{echo, replace, take_dp, turn_away}
use Rattle.ctl_life.specs.Silence.{look, look_each, look_on, stir}
use Rattle.ctl_life.proofs.Openings.{change_open}

-- what is open in the one world is open in the other
abbrev pub Within : World → World → Type 0
Within v w = (n : ℕ) → is_open v.conns n ≡ true → is_open w.conns n ≡ true

pub changed : (f : Conn → Conn) → ((c : Conn) → (f c).number ≡ c.number) → (number : ℕ) (conns : List Conn) (n : ℕ) → is_open (change number f conns) n ≡ true → is_open conns n ≡ true
changed f same number conns n there = sym (change_open f same number n conns) ∙ there

kept_one : (here rest kept : Bool) → (kept ≡ true → rest ≡ true) → (here || kept) ≡ true → (here || rest) ≡ true
kept_one true rest kept part there = refl
kept_one false rest kept part there = part there

part_open : (p : Conn → Bool) (conns : List Conn) (n : ℕ) → is_open (filter p conns) n ≡ true → is_open conns n ≡ true
part_open p [] n = λ there. there
part_open p (c ∷ cs) n = by (p c) (part_open p cs n)
  where
    some : (here rest : Bool) → rest ≡ true → (here || rest) ≡ true
    some true rest is = refl
    some false rest is = is

    by : (b : Bool) → (is_open (filter p cs) n ≡ true → is_open cs n ≡ true) → is_open (if b then c ∷ filter p cs else filter p cs) n ≡ true → is_open (c ∷ cs) n ≡ true
    by true part there = kept_one (has_number n c) (is_open cs n) (is_open (filter p cs) n) part there
    by false part there = some (has_number n c) (is_open cs n) (part there)

-- ---- what is said, and how connections end

pub say_within : (number : ℕ) (m : Message) (w : World) → Within (say number m w) w
say_within number m w n = by (conn_with w.conns number)
  where
    by : (o : Option Conn) → is_open (option_map_or (say_by with_said m w) o w).conns n ≡ true → is_open w.conns n ≡ true
    by (Some c) there = changed with_said (λ k. refl) c.number w.conns n there
    by None there = there

pub close_within : (cause : Closing) (number : ℕ) (w : World) → Within (close cause number w) w
close_within cause number w n there = part_open (λ (c : Conn). not (has_number number c)) w.conns n there

pub ended_within : (cause : Closing) (number : ℕ) (w : World) → Within (ended cause number w) w
ended_within cause number w n there = part_open (λ (c : Conn). not (has_number number c)) w.conns n there

pub echo_within : (m : Message) (number xid : ℕ) (w : World) → Within (echo m number xid w) w
echo_within (messages.EchoRequest payload) number xid w n there = there
echo_within m number xid w n there = there

pub turn_away_within : (cause : Closing) (number xid : ℕ) (w : World) → Within (turn_away cause number xid w) w
turn_away_within WrongVersion number xid w n there = close_within WrongVersion number w n there
turn_away_within cause number xid w n there = close_within cause number w n there

-- ---- the setup

pub replace_within : (dp : DpId) (w : World) → Within (replace dp w) w
replace_within dp w n = by (conn_of w.conns dp)
  where
    by : (o : Option Conn) → is_open (option_map_or (λ (c : Conn). close Replaced c.number w) o w).conns n ≡ true → is_open w.conns n ≡ true
    by (Some c) there = close_within Replaced c.number w n there
    by None there = there

pub take_dp_within : (number : ℕ) (dp : DpId) (w : World) → Within (take_dp number dp w) w
take_dp_within number dp w n there = changed (with_dp dp) (λ k. refl) number w.conns n there

-- ---- the clock

stir_within : (due : Quiet) (number : ℕ) (w : World) → Within (stir due number w) w
stir_within quiet.Well number w n there = there
stir_within quiet.Echo number w n there = say_within number (messages.EchoRequest []) w n there
stir_within quiet.Silent number w n there = close_within Silent number w n there

look_within : (number : ℕ) (w : World) → Within (look number w) w
look_within number w n = by (conn_with w.conns number)
  where
    by : (o : Option Conn) → is_open (option_map_or (look_on w) o w).conns n ≡ true → is_open w.conns n ≡ true
    by (Some c) there =
        changed (with_looked w.moment) (λ k. refl) c.number w.conns n
        (stir_within (due_at c.session w.moment) c.number (record w { conns = change c.number (with_looked w.moment) w.conns }) n there)
    by None there = there

pub look_each_within : (numbers : List ℕ) (w : World) → Within (look_each numbers w) w
look_each_within [] w n there = there
look_each_within (number ∷ numbers) w n there = look_within number w n (look_each_within numbers (look number w) n there)
