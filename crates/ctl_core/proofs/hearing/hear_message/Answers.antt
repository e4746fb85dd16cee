use Rattle.std.proofs.Common.{◌≡◌, ◌||◌, ℕ, Bool, true, false, List, Option, Some, refl, sym, ap, subst, ◌∙◌, true≢false}
use Rattle.std.specs.Option.{option_copied, option_map_or}
use Rattle.std.proofs.lemmas.Result.{IfOk-weaker, on_ok_weaker}
use Rattle.of13_codec.specs.declared.message.Message.{Message}
use Rattle.switch_session.specs.declared.state.Step.{Step}
use Rattle.switch_session.specs.declared.state.Step.TheVariants.{Nothing}
use Rattle.switch_session.specs.Stages.{leads}
use Rattle.ctl_world.specs.declared.conns.Conn.{Conn}
use Rattle.ctl_world.specs.Alike.{IsAlike}
use Rattle.ctl_world.specs.Connections.{change, conn_with, with_heard}
use Rattle.ctl_world.specs.Ends.{forget_lost}
use Rattle.switch_session.specs.Staying.{leaves}
use Rattle.ctl_world.specs.World.{World}
use Rattle.ctl_world.proofs.Faces.{alike_same}
use Rattle.ctl_core.specs.Changes.{Changes, step_changes}
use Rattle.ctl_core.specs.Found.{is_reply, is_settled}
use Rattle.ctl_core.specs.Hearing.{follow}
use Rattle.ctl_core.specs.Told.{IsExact, is_calm}
use Rattle.ctl_core.proofs.Calm.{leaves_calm}
use Rattle.ctl_core.proofs.Silent.{neither}
use Rattle.ctl_core.proofs.Stays.{nothing_lost, world_stays}
use Rattle.ctl_core.proofs.Telling.{IsQuiet, follow_settled, replied_lost, replied_quiet, reply_settled, tells_behind}
use Rattle.ctl_core.proofs.hearing.hear_message.Goals as goal

-- the step of a connection that is there
step_there : (m : Message) (xid : ℕ) (conns : List Conn) (number : ℕ) (d : Conn) (step : Step) → conn_with conns number ≡ Some d
    → step ≡ option_map_or (λ (e : Conn). (leads e.session.state m xid).1) (conn_with conns number) Nothing → step ≡ (leads d.session.state m xid).1
step_there m xid conns number d step at is = is ∙ ap (λ o. option_map_or (λ (e : Conn). (leads e.session.state m xid).1) o Nothing) at

pub returns-then-stays : goal.returns-then-stays
returns-then-stays c =
    let m = c.args.message.now in
    let xid = c.args.xid in
    let number = c.args.conn in
    let w : World = c.args.world.now in
    let d : Conn = c.in-Some.found.now in
    let at : conn_with w.conns number ≡ Some d = sym c.get.ensures ∙ ap option_copied c.in-Some.is in
    let step = step_there m xid w.conns number d c.in_ok-step.step at c.in_ok-step.ensures.step in
    let same : (leads d.session.state m xid).0 ≡ d.session.state = c.stays-stays.ensures.left c.if-stays.true d at in
    let v : World = record w { conns = c.hear.new.self } in
    let heard : World = record w { conns = change number (with_heard m xid) w.conns } in
    let left : v ≡ heard = ap (λ cs. record w { conns = cs }) c.in_ok-step.ensures.noted in
    let put : heard ≡ w = world_stays m xid number w d at same in
    let kept : v ≡ forget_lost heard = left ∙ sym (nothing_lost m xid number w d at same (c.a_sound_world_has_lost_nothing.ensures w c.requires)) in
    record {
      heard = rw at (on_ok_weaker c.follow.result (λ is. is ∙ ap (λ s. follow s m xid number d.dp v) step ∙ ap (follow (leads d.session.state m xid).1 m xid number d.dp) kept) c.follow.ensures.done);
      tells = IfOk-weaker c.follow.result _ _ (λ found tells. tells_behind v w c.follow.new.world (subst (λ (u : World). IsAlike u w) (sym (left ∙ put)) (alike_same w)) found tells) c.follow.ensures.tells;
      told =
          let same_state : leaves d.session.state m xid ≡ true = (rw at at (sym c.stays-stays.ensures.exact)) ∙ c.if-stays.true in
          rw at (rw same_state (IfOk-weaker c.follow.result _ _
          (λ found told same_step. told (ap (λ s. step_changes s m d.dp v) step ∙ ap (step_changes (leads d.session.state m xid).1 m d.dp) (left ∙ put) ∙ same_step)) c.follow.ensures.told));
      exact =
          let same_state : leaves d.session.state m xid ≡ true = (rw at at (sym c.stays-stays.ensures.exact)) ∙ c.if-stays.true in
          let calm : is_calm c.in_ok-step.step ≡ true = ap is_calm step ∙ leaves_calm d.session.state m xid same_state in
          IfOk-weaker c.follow.result _ _ (λ found exact. subst (λ (u : World). IsExact u c.follow.new.world found) (left ∙ put) (exact calm)) c.follow.ensures.exact;
    }

second : (a b : Bool) → a ≡ false → (a || b) ≡ true → b ≡ true
second true b none is = absurd (true≢false none)
second false b none is = is

-- the reply to a barrier came
pub returns : goal.returns
returns c =
    let w : World = c.args.world.now in
    let d : Conn = c.in-Some.found.now in
    let m = c.args.message.now in
    let xid = c.args.xid in
    let at : conn_with w.conns c.args.conn ≡ Some d = sym c.get.ensures ∙ ap option_copied c.in-Some.is in
    let other_state : leaves d.session.state m xid ≡ false = (rw at at (sym c.stays-stays.ensures.exact)) ∙ c.if-stays.false in
    let replies : is_reply d m ≡ true =
    sym (ap (λ o. option_map_or (λ (e : Conn). is_reply e m) o false) at) ∙ second c.stays-stays.result _ c.if-stays.false (sym c.is_quiet.ensures ∙ c.if-not-is_quiet.false) in
    let settled : is_settled (leads d.session.state m xid).1 ≡ true = reply_settled d m xid replies other_state in
    let heard : World = record w { conns = change c.args.conn (with_heard m xid) w.conns } in
    let left : record w { conns = c.hear.new.self } ≡ heard = ap (λ cs. record w { conns = cs }) c.in_ok-step.ensures.noted in
    let lost : forget_lost heard ≡ heard = replied_lost m xid c.args.conn w d at settled c.such_changes_leave_it_sound.ensures.change c.a_sound_world_has_lost_nothing.ensures c.requires in
    record {
      heard = rw at (left ∙ sym (follow_settled (leads d.session.state m xid).1 m xid c.args.conn d.dp (forget_lost heard) settled ∙ lost));
      tells = subst (IsQuiet w) (sym left) (replied_quiet m xid c.args.conn w d at settled, λ until all. all);
      told = rw at (rw other_state (λ none. absurd (true≢false none)));
      exact = λ sound behind. (refl, tt);
    }

-- the state of the connection changes
leaves_not : (m : Message) (xid : ℕ) (d : Conn) (o : Option Conn) (stays quiet : Bool) → o ≡ Some d → stays ≡ option_map_or (λ (e : Conn). leaves e.session.state m xid) o true
    → quiet ≡ (stays || option_map_or (λ (e : Conn). is_reply e m) o false) → quiet ≡ false → leaves d.session.state m xid ≡ false
leaves_not m xid d o stays quiet at exact asked off =
    sym (exact ∙ ap (λ p. option_map_or (λ (e : Conn). leaves e.session.state m xid) p true) at) ∙ (neither stays (option_map_or (λ (e : Conn). is_reply e m) o false) (sym asked ∙ off)).first

pub hear_change-requires : goal.hear_change-requires
hear_change-requires c =
    let d : Conn = c.in-Some.found.now in
    let at : conn_with c.args.world.now.conns c.args.conn ≡ Some d = sym c.get.ensures ∙ ap option_copied c.in-Some.is in
    let changes = leaves_not c.args.message.now c.args.xid d (conn_with c.args.world.now.conns c.args.conn) c.stays-stays.result c.is_quiet.result at c.stays-stays.ensures.exact c.is_quiet.ensures c.if-not-is_quiet.true in
    subst (Changes c.args.message.now c.args.xid d.dp) (sym at) (refl, changes)

pub returns-then-not-is_quiet : goal.returns-then-not-is_quiet
returns-then-not-is_quiet c =
    let d : Conn = c.in-Some.found.now in
    let at : conn_with c.args.world.now.conns c.args.conn ≡ Some d = sym c.get.ensures ∙ ap option_copied c.in-Some.is in
    let changes = leaves_not c.args.message.now c.args.xid d (conn_with c.args.world.now.conns c.args.conn) c.stays-stays.result c.is_quiet.result at c.stays-stays.ensures.exact c.is_quiet.ensures c.if-not-is_quiet.true in
    record {
      heard = c.hear_change.ensures.heard;
      tells = c.hear_change.ensures.tells;
      told = rw at (rw changes (IfOk-weaker c.hear_change.result _ _ (λ found tells none. absurd (true≢false none)) c.hear_change.ensures.tells));
      exact = c.hear_change.ensures.exact;
    }
