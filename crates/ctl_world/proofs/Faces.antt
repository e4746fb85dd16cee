-- Worlds that look the same to a settling: what runs, what is up, and what is said.
use Rattle.std.proofs.Common.{◌≡◌, ℕ, ◌==◌, true, false, cond, Option, Some, None, List, [], ◌∷◌, map, filter, find, refl, sym, ap, subst, ◌∙◌, if◌then◌else◌}
use Rattle.std.specs.List.{flat_map}
use Rattle.std.specs.Option.{option_map, option_map_or}
use Rattle.net_base.specs.declared.numbers.DpId.{DpId}
use Rattle.conf_types.specs.declared.datapath.Dp.{Dp}
use Rattle.conf_types.specs.declared.state.UpRec.{UpRec}
use Rattle.conf_types.specs.State.{IsValidState}
use Rattle.of13_codec.specs.declared.message.Message.{Message}
use Rattle.ctl_world.specs.declared.conns.Conn.{Conn}
use Rattle.ctl_world.specs.declared.said.Said.{Said}
use Rattle.ctl_world.specs.Alike.{Face, IsAlike, face}
use Rattle.ctl_world.specs.Connections.{change, conn_of, conn_with, has_number, is_of, with_said}
use Rattle.ctl_world.specs.Saying.{add_said, say, say_by}
use Rattle.ctl_world.specs.World.{IsSound, World, has_ports, is_at_work, is_up_by, now, running, runs, ups, ups_on}

-- ---- the connection of a datapath, by its face

abbrev face_of : List Face → DpId → Option Face
face_of faces dp = find (λ f. option_map_or (λ (d : DpId). d.0 == dp.0) f.dp false) faces

found_face : (conns : List Conn) (dp : DpId) → option_map face (conn_of conns dp) ≡ face_of (map face conns) dp
found_face [] dp = refl
found_face (c ∷ cs) dp =
    elim (is_of dp c) as (λ b. option_map face (cond b (Some c) (conn_of cs dp)) ≡ cond b (Some (face c)) (face_of (map face cs) dp)) [
      | true ↦ refl
      | false ↦ found_face cs dp
    ]

pub same_face : (v w : List Conn) → map face v ≡ map face w → (dp : DpId) → option_map face (conn_of v dp) ≡ option_map face (conn_of w dp)
same_face v w same dp = found_face v dp ∙ ap (λ faces. face_of faces dp) same ∙ sym (found_face w dp)

module _ {A : Type 0} (g : Face → A) (none : A) where
  by_face : (o : Option Conn) → option_map_or (λ c. g (face c)) o none ≡ option_map_or g (option_map face o) none
  by_face (Some c) = refl
  by_face None = refl

  seen_alike : (v w : List Conn) → map face v ≡ map face w → (dp : DpId) → option_map_or (λ c. g (face c)) (conn_of v dp) none ≡ option_map_or (λ c. g (face c)) (conn_of w dp) none
  seen_alike v w same dp = by_face (conn_of v dp) ∙ ap (λ o. option_map_or g o none) (same_face v w same dp) ∙ sym (by_face (conn_of w dp))

-- ---- what runs and what is up

module _ (v w : World) (alike : IsAlike v w) where
  work : (d : Dp) → is_at_work v.conns d ≡ is_at_work w.conns d
  work d = seen_alike (λ f. runs f.state.stage) false v.conns w.conns alike.conns d.id

  up : (d : Dp) → ups_on v.conns d ≡ ups_on w.conns d
  up d =
      let made : Face → List UpRec = λ f. if has_ports f.state.stage then map (λ p. record { dp = d.id; port = p.no }) (filter (is_up_by f.state.ports) d.ports) else [] in
      seen_alike made [] v.conns w.conns alike.conns d.id

  pub same_running : running v ≡ running w
  same_running = λ i. map (λ d. d.id) (filter (λ d. work d i) (alike.conf i).dps)

  pub same_ups : ups v ≡ ups w
  same_ups = λ i. flat_map (λ d. up d i) (alike.conf i).dps

  pub same_now : now v ≡ now w
  same_now = λ i. record {
    moment = (alike.moment i).0;
    running = same_running i;
    ups = same_ups i;
    hosts = (alike.hosts i).hosts;
    neighbours = (alike.neighbours i).neighbours;
  }

  pub alike_sound : IsSound w → IsSound v
  alike_sound sound = record {
    valid = subst (λ conf. IsValidState conf (now v)) (sym alike.conf) (subst (IsValidState w.conf) (sym same_now) sound.valid);
    hosts = ap (λ table. table.limit) alike.hosts ∙ sound.hosts;
    neighbours = ap (λ table. table.limit) alike.neighbours ∙ sound.neighbours;
  }

-- ---- worlds that look the same as a third

pub alike_same : (w : World) → IsAlike w w
alike_same w = record { conf = refl; moment = refl; conns = refl; hosts = refl; neighbours = refl }

pub alike_turned : (v w : World) → IsAlike v w → IsAlike w v
alike_turned v w alike = record { conf = sym alike.conf; moment = sym alike.moment; conns = sym alike.conns; hosts = sym alike.hosts; neighbours = sym alike.neighbours }

pub alike_through : (u v w : World) → IsAlike u v → IsAlike v w → IsAlike u w
alike_through u v w first second = record {
  conf = first.conf ∙ second.conf;
  moment = first.moment ∙ second.moment;
  conns = first.conns ∙ second.conns;
  hosts = first.hosts ∙ second.hosts;
  neighbours = first.neighbours ∙ second.neighbours;
}

-- ---- what is said

module _ (f : Conn → Conn) (same : (c : Conn) → face (f c) ≡ face c) (number : ℕ) where
  faces_kept : (conns : List Conn) → map face (change number f conns) ≡ map face conns
  faces_kept [] = refl
  faces_kept (c ∷ cs) =
      elim (has_number number c) as (λ b. map face (if b then f c ∷ cs else c ∷ change number f cs) ≡ face c ∷ map face cs) [
        | true ↦ ap (λ x. x ∷ map face cs) (same c)
        | false ↦ ap (λ faces. face c ∷ faces) (faces_kept cs)
      ]

  pub change_alike : (w : World) → IsAlike (record w { conns = change number f w.conns }) w
  change_alike w = record { conf = refl; moment = refl; conns = faces_kept w.conns; hosts = refl; neighbours = refl }

pub added_alike : (more : List Said) (w : World) → IsAlike (add_said more w) w
added_alike more w = record { conf = refl; moment = refl; conns = refl; hosts = refl; neighbours = refl }

pub say_alike : (number : ℕ) (m : Message) (w : World) → IsAlike (say number m w) w
say_alike number m w =
    elim (conn_with w.conns number) as (λ o. IsAlike (option_map_or (say_by with_said m w) o w) w) [
      | Some c ↦ let kept = change_alike with_said (λ d. refl) c.number w in record { conf = refl; moment = refl; conns = kept.conns; hosts = refl; neighbours = refl }
      | None ↦ alike_same w
    ]
