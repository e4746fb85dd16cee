-- Worlds that look the same to a settling have the same plans.
use Rattle.std.proofs.Common.{◌≡◌, ℕ, ◌==◌, true, false, cond, Option, Some, None, List, [], ◌∷◌, map, find, is_some, refl, inl, inr, sym, ap, ◌∙◌}
use Rattle.std.specs.Option.{option_map}
use Rattle.net_base.specs.declared.numbers.DpId.{DpId}
use Rattle.conf_types.specs.State.{is_running}
use Rattle.warm_plan.specs.Kept.{Kept}
use Rattle.ctl_world.specs.declared.conns.Conn.{Conn}
use Rattle.ctl_world.specs.Alike.{Face, IsAlike, face}
use Rattle.ctl_world.specs.Connections.{conn_of, conn_with, has_number}
use Rattle.ctl_world.specs.World.{World, running}
use Rattle.ctl_world.proofs.Faces.{same_face, same_running}
use Rattle.ctl_settle.specs.declared.plans.Held.{Held}
use Rattle.ctl_settle.specs.Plans.{AreHeld, Fits, has_run, plan_for}

-- ---- the connection with a number, by its face

abbrev face_with : List Face → ℕ → Option Face
face_with faces number = find (λ f. f.number == number) faces

found_face : (conns : List Conn) (number : ℕ) → option_map face (conn_with conns number) ≡ face_with (map face conns) number
found_face [] number = refl
found_face (c ∷ cs) number =
    elim (has_number number c) as (λ b. option_map face (cond b (Some c) (conn_with cs number)) ≡ cond b (Some (face c)) (face_with (map face cs) number)) [
      | true ↦ refl
      | false ↦ found_face cs number
    ]

number_face : (v w : List Conn) → map face v ≡ map face w → (number : ℕ) → option_map face (conn_with v number) ≡ option_map face (conn_with w number)
number_face v w same number = found_face v number ∙ ap (λ faces. face_with faces number) same ∙ sym (found_face w number)

fits_face : (o q : Option Conn) → option_map face o ≡ option_map face q → (p : Option Kept) → Fits q p → Fits o p
fits_face None q same p fits = tt
fits_face (Some c) None same p fits = absurd (cc)
fits_face (Some c) (Some d) same None (inl none) = let it : face c ≡ face d = cc in inl (ap (λ (f : Face). f.sent) it ∙ none)
fits_face (Some c) (Some d) same None (inr shut) = let it : face c ≡ face d = cc in inr (ap (λ (f : Face). f.state.stage) it ∙ shut)
fits_face (Some c) (Some d) same (Some p) is =
    let it : face c ≡ face d = cc in
    record { sent = is.sent ∙ sym (ap (λ (f : Face). f.sent) it); dp = ap (λ (f : Face). f.dp) it ∙ is.dp; run = ap (λ (f : Face). has_run f.state.stage) it ∙ is.run }

none_by_face : (o q : Option Conn) → option_map face o ≡ option_map face q → o ≡ None → q ≡ None
none_by_face o None same none = refl
none_by_face None (Some d) same none = absurd (cc)
none_by_face (Some c) (Some d) same none = absurd (cc)

module _ (v w : World) (held : List Held) (alike : IsAlike v w) (are : AreHeld w held) where
  same_there : (dp : DpId) → is_running (running v) dp ≡ true → (c : Conn) → conn_of v.conns dp ≡ Some c → is_some (plan_for held c.number) ≡ true
  same_there dp runs c at = by (conn_of w.conns dp) refl
    where
      by : (o : Option Conn) → conn_of w.conns dp ≡ o → is_some (plan_for held c.number) ≡ true
      by None none = let e : Some (face c) ≡ None = ap (option_map face) (sym at) ∙ same_face v.conns w.conns alike.conns dp ∙ ap (option_map face) none in absurd (cc)
      by (Some d) some =
          let e : Some (face c) ≡ Some (face d) = ap (option_map face) (sym at) ∙ same_face v.conns w.conns alike.conns dp ∙ ap (option_map face) some in
          let it : face c ≡ face d = cc in
          ap (λ (f : Face). is_some (plan_for held f.number)) it ∙ are.there dp (ap (λ (ids : List DpId). is_running ids dp) (sym (same_running v w alike)) ∙ runs) d some

  pub held_alike : AreHeld v held
  held_alike = record {
    fit = λ n. fits_face (conn_with v.conns n) (conn_with w.conns n) (number_face v.conns w.conns alike.conns n) (plan_for held n) (are.fit n);
    there = same_there;
    shut = λ n none. are.shut n (none_by_face (conn_with v.conns n) (conn_with w.conns n) (number_face v.conns w.conns alike.conns n) none);
  }
