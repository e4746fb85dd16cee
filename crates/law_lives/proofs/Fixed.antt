-- The configuration is that of the last reload that was accepted, and the moment the greatest that was shown.
use Rattle.std.proofs.Common.{◌≡◌, ℕ, max, Bool, true, false, Some, List, [], ◌∷◌, Result, Ok, Err, refl, ap, ◌∙◌, if◌then◌else◌}
use Rattle.net_base.specs.declared.numbers.Moment.{Moment}
use Rattle.fg_outside.specs.declared.hub.Happening.{Happening}
use Rattle.fg_outside.specs.declared.hub.Happening.TheVariants as happenings
use Rattle.conf_types.specs.Configuration.{Configuration}
use Rattle.of13_codec.specs.declared.message.Message.TheVariants as messages
use Rattle.switch_session.specs.declared.closing.Closing.{Closing}
use Rattle.ctl_world.specs.Connections.{is_open}
use Rattle.ctl_world.specs.Ends.{ended}
use Rattle.ctl_world.specs.World.{World}
use Rattle.ctl_core.specs.Settlings.{settle}
use Rattle.ctl_life.specs.Life.{closing_for, feed, open_conn}
use Rattle.ctl_life.proofs.Openings.{with_fresh}
use Rattle.ctl_core.specs.Reloading.{accepted, close_each, reload, renew, strays}
use Rattle.ctl_core.specs.Story.{behind}
use Rattle.ctl_core.specs.Turns.{hear, pass, turn, work}
use Rattle.law_lives.specs.Known.{conf_by, conf_more, conf_or, moment_more}
use Rattle.std.specs.List.{fold}
use Rattle.law_lives.proofs.Walk.{Steps, hear_stays, pass_stays, said_stays, settle_stays, strays_stay, wanted_stays}

abbrev pub Any : ℕ → Closing → Type 0
Any number cause = Unit {0}

abbrev Fixed : Configuration → Moment → World → Type 0
Fixed conf moment w = (w.conf ≡ conf) × (w.moment ≡ moment)

module _ (conf : Configuration) (moment : Moment) where
  single : Steps Any (Fixed conf moment)
  single = record {
    changes = λ f is number w same. same;
    says = λ number m xid w at same. same;
    closes = λ cause number w any at same. same;
    knows = λ hosts neighbours w same. same;
  }

  settled : (w : World) → Fixed conf moment w → Fixed conf moment (settle w)
  settled w same = settle_stays Any (Fixed conf moment) single w same

opened_fixed : (number : ℕ) (w : World) (b : Bool) → Fixed w.conf w.moment (if b then w else settle (open_conn number w))
opened_fixed number w true = (refl, refl)
opened_fixed number w false =
    settled w.conf w.moment (open_conn number w)
    (said_stays Any (Fixed w.conf w.moment) (single w.conf w.moment) number (messages.Hello 4 (Some 16)) (with_fresh number w) (refl, refl))

heard_fixed : (number : ℕ) (piece : List ℕ) (w : World) (b : Bool) → Fixed w.conf w.moment (if b then hear number piece w else w)
heard_fixed number piece w true =
    hear_stays Any (Fixed w.conf w.moment) (single w.conf w.moment) number (λ conf heard cause is. tt) (λ n. tt) piece w (refl, refl)
heard_fixed number piece w false = (refl, refl)

closed_fixed : (number : ℕ) (cause : Closing) (w : World) (b : Bool) → Fixed w.conf w.moment (if b then settle (ended cause number w) else w)
closed_fixed number cause w true = settled w.conf w.moment (ended cause number w) (refl, refl)
closed_fixed number cause w false = (refl, refl)

shown_fixed : (moment : ℕ) (w : World) → Fixed w.conf (record { 0 = max w.moment.0 moment }) (settle (pass moment w))
shown_fixed moment w =
    let m : Moment = record { 0 = max w.moment.0 moment } in
    settled w.conf m (pass moment w) (pass_stays Any (Fixed w.conf m) (single w.conf m) (λ n. tt) moment w (refl, refl))

reloaded_fixed : (read : Result Configuration (List ℕ)) (w : World) → Fixed (conf_or w.conf read) w.moment (settle (reload read w))
reloaded_fixed (Ok next) w =
    let left : World = close_each (strays next w.conns) w in
    let kept : Fixed w.conf w.moment left = strays_stay Any (Fixed w.conf w.moment) (single w.conf w.moment) (λ n. tt) (strays next w.conns) w (refl, refl) in
    settled next w.moment (reload (Ok next) w) (wanted_stays Any (Fixed next w.moment) (single next w.moment) (renew next left) (refl, kept.1))
reloaded_fixed (Err cause) w = settled w.conf w.moment (reload (Err cause) w) (refl, refl)

work_fixed : (h : Happening) (w : World) → Fixed (conf_more w.conf h) (record { 0 = moment_more w.moment.0 h }) (work h w)
work_fixed (happenings.Opened number) w = opened_fixed number w (is_open w.conns number)
work_fixed (happenings.Heard number piece) w = heard_fixed number piece w (is_open w.conns number)
work_fixed (happenings.Closed number cause) w = closed_fixed number (closing_for cause) w (is_open w.conns number)
work_fixed (happenings.Moment moment) w = shown_fixed moment w
work_fixed (happenings.Reload text) w = reloaded_fixed (accepted text) w

pub turn_moment : (h : Happening) (w : World) → (turn h w).moment.0 ≡ moment_more w.moment.0 h
turn_moment h w = ap (λ (m : Moment). m.0) (work_fixed h (record w { said = [] })).1

pub conf_known : (w : World) (story : List Happening) → (behind w story).conf ≡ conf_by w.conf story
conf_known w [] = refl
conf_known w (h ∷ hs) = conf_known (turn h w) hs ∙ ap (λ (c : Configuration). conf_by c hs) (work_fixed h (record w { said = [] })).0

pub moment_known : (w : World) (story : List Happening) → (behind w story).moment.0 ≡ fold moment_more w.moment.0 story
moment_known w [] = refl
moment_known w (h ∷ hs) = moment_known (turn h w) hs ∙ ap (λ (m : ℕ). fold moment_more m hs) (turn_moment h w)
