-- Which hosts are known behind a turn in which nothing is heard.
use Rattle.std.proofs.Common.{◌≡◌, ℕ, ◌&&◌, max, not, Bool, true, false, cond, Option, Some, None, List, [], ◌∷◌, filter, map, refl, sym, ap, ◌∙◌, if◌then◌else◌}
use Rattle.std.specs.Option.{option_map_or}
use Rattle.net_base.specs.declared.numbers.Moment.{Moment}
use Rattle.fg_outside.specs.declared.hub.Happening.{Happening}
use Rattle.fg_outside.specs.declared.hub.Happening.TheVariants as happenings
use Rattle.conf_types.specs.declared.state.HostRec.{HostRec}
use Rattle.conf_types.specs.Configuration.{Configuration}
use Rattle.conf_types.specs.State.{is_to_forget}
use Rattle.of13_codec.specs.declared.message.Message.TheVariants as messages
use Rattle.switch_session.specs.declared.closing.Closing.{Closing}
use Rattle.ctl_world.specs.declared.conns.Conn.{Conn}
use Rattle.ctl_world.specs.Connections.{is_open}
use Rattle.ctl_world.specs.Ends.{close, ended}
use Rattle.ctl_world.specs.World.{IsSound, World}
use Rattle.ctl_core.specs.Settlings.{settle}
use Rattle.ctl_life.specs.Life.{closing_for, open_conn}
use Rattle.ctl_life.specs.Silence.{look_each, show}
use Rattle.ctl_life.proofs.Openings.{with_fresh}
use Rattle.ctl_core.specs.Turns.{age, pass, turn}
use Rattle.law_lives.proofs.Fixed.{Any}
use Rattle.law_lives.proofs.Speaking.{Speaks, looks_stay, settle_stays}
use Rattle.law_lives.specs.Hosts.{KeepsTheStanding, KnowsByWhat, is_young, stands_in}
use Rattle.law_lives.proofs.Apart.{AreApart}
use Rattle.law_lives.proofs.Frames.{all_stand}
use Rattle.law_lives.proofs.Heard.{same_standing, settle_hosts, settle_keeps}
use Rattle.ctl_packets.proofs.PacketHosts.{say_hosts}
use Rattle.law_lives.proofs.Standing.{Keeps, close_keeps, ended_keeps, speaks, stands_same}

filter_both : (p q : HostRec → Bool) (xs : List HostRec) → filter q (filter p xs) ≡ filter (λ x. p x && q x) xs
filter_both p q [] = refl
filter_both p q (x ∷ xs) =
    elim (p x) as (λ b. filter q (cond b (x ∷ filter p xs) (filter p xs)) ≡ cond (b && q x) (x ∷ filter (λ y. p y && q y) xs) (filter (λ y. p y && q y) xs)) [
      | true ↦ ap (λ ys. cond (q x) (x ∷ ys) ys) (filter_both p q xs)
      | false ↦ filter_both p q xs
    ]

opened_hosts : (number : ℕ) (w : World) (b : Bool) → (if b then w else settle (open_conn number w)).hosts ≡ w.hosts
opened_hosts number w true = refl
opened_hosts number w false = settle_hosts (open_conn number w) ∙ say_hosts number (messages.Hello 4 (Some 16)) (with_fresh number w)

module _ (w : World) (sound : IsSound w) (apart : AreApart w.conns) where
  closed_hosts : (number : ℕ) (cause : Closing) (b : Bool) → IsSound (if b then settle (ended cause number w) else w) → KeepsTheStanding w (if b then settle (ended cause number w) else w)
  closed_hosts number cause true sound_behind =
      (settle_keeps w.hosts.hosts (ended cause number w) (ended_keeps w.hosts.hosts cause number w (all_stand w sound apart))).known
  closed_hosts number cause false sound_behind = same_standing w w sound refl

  -- ---- the clock

  module _ (moment : Moment) where
    record Shown (v : World) : Type 0 where
      keeps : Keeps w.hosts.hosts v
      conf : v.conf ≡ w.conf
      shown : v.moment ≡ moment

    looking : Speaks Shown
    looking =
        let all = speaks w.hosts.hosts in
        record {
          changes = λ f is number v at. record { keeps = all.changes f is number v at.keeps; conf = at.conf; shown = at.shown };
          says = λ number m xid v there at. record { keeps = all.says number m xid v there at.keeps; conf = at.conf; shown = at.shown };
          meets = λ neighbours v at. record { keeps = all.meets neighbours v at.keeps; conf = at.conf; shown = at.shown };
        }

    closing : (cause : Closing) (number : ℕ) (v : World) → Any number cause → is_open v.conns number ≡ true → Shown v → Shown (close cause number v)
    closing cause number v any there at = record { keeps = close_keeps w.hosts.hosts cause number v at.keeps; conf = at.conf; shown = at.shown }

    abbrev young : World → HostRec → Bool
    young v h = stands_in v h && not (is_to_forget w.conf moment.0 h)

    record Young (v : World) : Type 0 where
      known : v.hosts.hosts ≡ filter (young v) w.hosts.hosts
      shown : v.moment ≡ moment

    staying : Speaks Young
    staying = record {
      changes = λ f is number v at. record {
        known = at.known ∙ ap (λ (test : HostRec → Bool). filter (λ h. test h && not (is_to_forget w.conf moment.0 h)) w.hosts.hosts) (sym (stands_same f is v.conf number v.conns));
        shown = at.shown;
      };
      says = λ number m xid v there at. record { known = at.known; shown = at.shown };
      meets = λ neighbours v at. record { known = at.known; shown = at.shown };
    }

    aged : (v : World) → Shown v → Young (age v)
    aged v at = record {
      known =
          (λ i. filter (λ h. not (is_to_forget (at.conf i) (at.shown i).0 h)) v.hosts.hosts)
          ∙ ap (filter (λ h. not (is_to_forget w.conf moment.0 h))) at.keeps.known
          ∙ filter_both (stands_in v) (λ h. not (is_to_forget w.conf moment.0 h)) w.hosts.hosts;
      shown = at.shown;
    }

  shown_hosts : (moment : ℕ) → (settle (pass moment w)).hosts.hosts ≡ filter (is_young w (settle (pass moment w))) w.hosts.hosts
  shown_hosts moment =
      let m : Moment = record { 0 = max w.moment.0 moment } in
      let begun = all_stand w sound apart in
      let v : World = look_each (map (λ (c : Conn). c.number) w.conns) (show moment w) in
      let looked : Shown m v =
      looks_stay (Shown m) (looking m) Any (closing m) (λ n. tt) (map (λ (c : Conn). c.number) w.conns) (show moment w) (record { keeps = record { known = begun.known; apart = begun.apart }; conf = refl; shown = refl }) in
      let done : Young m (settle (pass moment w)) = settle_stays (Young m) (staying m) (pass moment w) (aged m v looked) in
      done.known ∙ ap (λ (n : Moment). filter (λ h. stands_in (settle (pass moment w)) h && not (is_to_forget w.conf n.0 h)) w.hosts.hosts) (sym done.shown)

unsaid : (w : World) → IsSound w → IsSound (record w { said = [] })
unsaid w sound = record { valid = sound.valid; hosts = sound.hosts; neighbours = sound.neighbours }

pub turned_hosts : (w : World) → IsSound w → AreApart w.conns → (h : Happening) → IsSound (turn h w) → KnowsByWhat h w (turn h w)
turned_hosts w sound apart (happenings.Opened number) sound_behind = opened_hosts number (record w { said = [] }) (is_open w.conns number)
turned_hosts w sound apart (happenings.Heard number piece) sound_behind = tt
turned_hosts w sound apart (happenings.Closed number cause) sound_behind =
    closed_hosts (record w { said = [] }) (unsaid w sound) apart number (closing_for cause) (is_open w.conns number) sound_behind
turned_hosts w sound apart (happenings.Moment moment) sound_behind = shown_hosts (record w { said = [] }) (unsaid w sound) apart moment
turned_hosts w sound apart (happenings.Reload text) sound_behind = tt
