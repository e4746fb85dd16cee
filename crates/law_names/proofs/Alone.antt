-- What one of two steps alone changes.
use Rattle.std.proofs.Common.{◌≡◌, Bool, true, false, not, Option, sym, ap, ◌∙◌}
use Rattle.std.specs.Option.{option_eq}
use Rattle.net_base.specs.declared.address.Mac.{Mac}
use Rattle.conf_types.specs.declared.change.Change.{Change}
use Rattle.conf_types.specs.declared.change.Change.TheVariants as change
use Rattle.conf_types.specs.Changes.{Standing, mac_of_neighbour, standing_of}
use Rattle.conf_types.specs.Configuration.{Configuration}
use Rattle.conf_types.specs.Links.{is_up}
use Rattle.conf_types.specs.State.{State, is_running}
use Rattle.law_units.specs.Reached.{is_other}
use Rattle.law_names.specs.Differing.{differs, is_one_address, is_one_place}
use Rattle.law_names.proofs.Joined.{not_true, one_address, one_by, one_place, same_bool}

module _ (conf : Configuration) (a b d : State) where
  -- what stays between the first two is told of the third by each of them
  before_same : (c : Change) → differs conf a b c ≡ false → differs conf a d c ≡ differs conf b d c
  before_same (change.Host group vid mac) stays =
      ap (λ (o : Option Standing). not (option_eq is_one_place o (standing_of conf d group vid mac))) (one_by is_one_place one_place (standing_of conf a group vid mac) (standing_of conf b group vid mac) (not_true _ stays))
  before_same (change.Port dp port) stays = ap (λ (x : Bool). is_other x (is_up d.ups dp port)) (same_bool (is_up a.ups dp port) (is_up b.ups dp port) stays)
  before_same (change.Dp dp) stays = ap (λ (x : Bool). is_other x (is_running d.running dp)) (same_bool (is_running a.running dp) (is_running b.running dp) stays)
  before_same (change.Neighbour group vid ip) stays =
      ap (λ (o : Option Mac). not (option_eq is_one_address o (mac_of_neighbour d.neighbours group vid ip)))
      (one_by is_one_address one_address (mac_of_neighbour a.neighbours group vid ip) (mac_of_neighbour b.neighbours group vid ip) (not_true _ stays))

  -- and the other way round
  behind_same : (c : Change) → differs conf b d c ≡ false → differs conf a b c ≡ differs conf a d c
  behind_same (change.Host group vid mac) stays =
      ap (λ (o : Option Standing). not (option_eq is_one_place (standing_of conf a group vid mac) o)) (one_by is_one_place one_place (standing_of conf b group vid mac) (standing_of conf d group vid mac) (not_true _ stays))
  behind_same (change.Port dp port) stays = ap (λ (x : Bool). is_other (is_up a.ups dp port) x) (same_bool (is_up b.ups dp port) (is_up d.ups dp port) stays)
  behind_same (change.Dp dp) stays = ap (λ (x : Bool). is_other (is_running a.running dp) x) (same_bool (is_running b.running dp) (is_running d.running dp) stays)
  behind_same (change.Neighbour group vid ip) stays =
      ap (λ (o : Option Mac). not (option_eq is_one_address (mac_of_neighbour a.neighbours group vid ip) o))
      (one_by is_one_address one_address (mac_of_neighbour b.neighbours group vid ip) (mac_of_neighbour d.neighbours group vid ip) (not_true _ stays))

  pub first_alone : (c : Change) → differs conf a b c ≡ true → differs conf b d c ≡ false → differs conf a d c ≡ true
  first_alone c is stays = sym (behind_same c stays) ∙ is

  pub second_alone : (c : Change) → differs conf a b c ≡ false → differs conf b d c ≡ true → differs conf a d c ≡ true
  second_alone c stays is = before_same c stays ∙ is
