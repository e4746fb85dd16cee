-- On which connection a datapath is, where one of them is changed.
use Rattle.std.proofs.Common.{◌≡◌, ℕ, ◌==◌, true, false, cond, Option, Some, None, List, [], ◌∷◌, refl, ap, ◌∙◌, if◌then◌else◌}
use Rattle.std.specs.Option.{option_map, option_map_or}
use Rattle.net_base.specs.declared.numbers.DpId.{DpId}
use Rattle.ctl_world.specs.declared.conns.Conn.{Conn}
use Rattle.ctl_world.specs.Connections.{change, conn_of, has_number, is_of}

abbrev number_of : Option Conn → Option ℕ
number_of o = option_map (λ (c : Conn). c.number) o

module _ (f : Conn → Conn) (number_same : (c : Conn) → (f c).number ≡ c.number) (dp_same : (c : Conn) → (f c).dp ≡ c.dp) (number : ℕ) where
  pub dp_on : (conns : List Conn) (id : DpId) → number_of (conn_of (change number f conns) id) ≡ number_of (conn_of conns id)
  dp_on [] id = refl
  dp_on (c ∷ cs) id =
      elim (has_number number c) as (λ b. number_of (conn_of (if b then f c ∷ cs else c ∷ change number f cs) id) ≡ number_of (conn_of (c ∷ cs) id)) [
        | true ↦ ap (λ o. number_of (cond (option_map_or (λ (d : DpId). d.0 == id.0) o false) (Some (f c)) (conn_of cs id))) (dp_same c)
            ∙ elim (is_of id c) as (λ b. number_of (cond b (Some (f c)) (conn_of cs id)) ≡ number_of (cond b (Some c) (conn_of cs id))) [ true ↦ ap (λ (n : ℕ). Some n) (number_same c) | false ↦ refl ]
        | false ↦ elim (is_of id c) as (λ b. number_of (cond b (Some c) (conn_of (change number f cs) id)) ≡ number_of (cond b (Some c) (conn_of cs id))) [
          | true ↦ refl
          | false ↦ dp_on cs id
        ]
      ]
