-- The plans that are kept of the datapaths of connections, beside what is known.
use Rattle.std.specs.Prelude.{◌≡◌, ◌⊎◌, ℕ, ◌==◌, Bool, true, false, if◌then◌else◌, List, [], ◌∷◌, ◌++◌, map, filter, Option, Some, None, is_some, IsSomeAnd}
use Rattle.std.specs.List.{AllByRecursion, find}
use Rattle.std.specs.Option.{option_map, option_map_or}
use Rattle.net_base.specs.declared.numbers.DpId.{DpId}
use Rattle.conf_types.specs.Configuration.{Configuration}
use Rattle.conf_types.specs.Lists.{AreDistinct}
use Rattle.conf_types.specs.State.{State, is_running}
use Rattle.cold_start.specs.Cold.{cold_at}
pub use Rattle.warm_plan.specs.Kept.{Kept}
use Rattle.switch_session.specs.declared.state.Stage.{Stage}
use Rattle.switch_session.specs.declared.state.Stage.TheVariants.{Greeting, Features, Ports, Wiping, Running, Shut}
use Rattle.ctl_world.specs.declared.conns.Conn.{Conn}
use Rattle.ctl_world.specs.Connections.{conn_of, conn_with}
use Rattle.ctl_world.specs.World.{World, now, running, runs}
use Rattle.ctl_settle.specs.declared.plans.Held.{Held}
use Rattle.ctl_settle.specs.Settling.{wanted}

-- ---- by the number of a connection

abbrev pub is_for : ℕ → Held → Bool
is_for number h = h.conn == number

abbrev pub plan_for : List Held → ℕ → Option Kept
plan_for held number = option_map (λ h. h.plan) (find (is_for number) held)

-- one for each connection at most
abbrev pub numbers : List Held → List ℕ
numbers held = map (λ h. h.conn) held

abbrev pub AreApart : List Held → Type 0
AreApart held = AreDistinct (numbers held)

-- ---- a plan and what is noted of its connection

-- it runs, or did until it was closed
abbrev pub has_run : Stage → Bool
has_run Greeting = false
has_run Features = false
has_run Ports = false
has_run Wiping = false
has_run Running = true
has_run Shut = true

-- what was taken of the plan is what was said
pub record IsPlanOf (c : Conn) (p : Kept) : Type 0 where
  pub sent : p.sent ≡ c.sent
  pub dp : c.dp ≡ Some p.dp
  pub run : has_run c.session.state.stage ≡ true

-- where none is kept, nothing was said, or the connection is closed
abbrev pub Fits : Option Conn → Option Kept → Type 0
Fits None p = Unit {0}
Fits (Some c) None = (c.sent ≡ []) ⊎ (c.session.state.stage ≡ Shut)
Fits (Some c) (Some p) = IsPlanOf c p

-- of each connection
abbrev pub Fit : List Conn → List Held → Type 0
Fit conns held = (number : ℕ) → Fits (conn_with conns number) (plan_for held number)

-- behind a settling each datapath that runs has its plan, and no connection that ended
pub record AreHeld (w : World) (held : List Held) : Type 0 where
  pub fit : Fit w.conns held
  pub there : (dp : DpId) → is_running (running w) dp ≡ true → (c : Conn) → conn_of w.conns dp ≡ Some c → is_some (plan_for held c.number) ≡ true
  pub shut : (number : ℕ) → conn_with w.conns number ≡ None → plan_for held number ≡ None

-- ---- brought up to what is known

abbrev pub runs_on : List Conn → ℕ → Bool
runs_on conns number = option_map_or (λ c. runs c.session.state.stage) (conn_with conns number) false

module _ (conf : Configuration) (state : State) where
  abbrev pub renewed : Held → Held
  renewed h = record h { plan = record h.plan { conf = conf; state = state; wanted = cold_at conf state h.plan.dp } }

  -- nothing was sent to its switch yet
  abbrev pub opened : DpId → Kept
  opened dp = record { dp = dp; conf = conf; state = state; sent = []; wanted = cold_at conf state dp; is_spent = false }

  module _ (conns : List Conn) where
    abbrev pub with_plan_on : DpId → List Held → Conn → List Held
    with_plan_on dp held c = if is_some (plan_for held c.number) then held else held ++ record { conn = c.number; plan = opened dp } ∷ []

    abbrev pub with_plan : DpId → List Held → List Held
    with_plan dp held = option_map_or (with_plan_on dp held) (conn_of conns dp) held

    abbrev pub with_plans : List DpId → List Held → List Held
    with_plans [] held = held
    with_plans (dp ∷ dps) held = with_plans dps (with_plan dp held)

-- those of connections that don't run are dropped, the others want the cold start of what is known, and of each datapath
-- that begins to run one is made
abbrev pub brought : World → List Held → List Held
brought w held = with_plans w.conf (now w) w.conns (running w) (map (renewed w.conf (now w)) (filter (λ h. runs_on w.conns h.conn) held))

-- ---- taken

-- all that is to be said was
abbrev pub took : Held → Held
took h = record h { plan = record h.plan { sent = h.plan.wanted } }

abbrev pub taken : (number : ℕ) → List Held → List Held
taken number [] = []
taken number (h ∷ hs) = if is_for number h then took h ∷ hs else h ∷ taken number hs

abbrev pub taken_on : List Held → Conn → List Held
taken_on held c = if is_some c.session.state.awaited then held else taken c.number held

-- by the batch of a datapath
abbrev pub with_batch : DpId → World → List Held → List Held
with_batch dp w held = option_map_or (taken_on held) (conn_of w.conns dp) held

-- ---- ready to be taken

-- each plan wants the cold start of its datapath
abbrev pub AreFresh : World → List Held → Type 0
AreFresh w held = (number : ℕ) (p : Kept) → plan_for held number ≡ Some p → p.wanted ≡ cold_at w.conf (now w) p.dp

-- and was brought up to what is known
abbrev pub AreCurrent : World → List Held → Type 0
AreCurrent w held = AllByRecursion (λ h. (h.plan.conf ≡ w.conf) × (h.plan.state ≡ now w)) held

pub record AreBrought (w : World) (plans : List Held) : Type 0 where
  pub held : AreHeld w plans
  pub fresh : AreFresh w plans
  pub current : AreCurrent w plans

-- what the switch of a datapath has is what its plan was sent, and what it is to have is what the plan wants
abbrev pub IsReady : World → List Held → DpId → Type 0
IsReady w held dp = (c : Conn) → conn_of w.conns dp ≡ Some c → IsSomeAnd (plan_for held c.number) (λ p. (p.sent ≡ c.sent) × (p.wanted ≡ wanted w dp))
