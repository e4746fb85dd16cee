-- What one saying has for the hub.
use Rattle.std.proofs.Common.{◌≡◌, ℕ, List, [], ◌∷◌, refl}
use Rattle.switch_session.specs.declared.closing.Closing.{Closing}
use Rattle.ctl_life.specs.declared.saying.Saying.TheVariants.{Close, Line}
use Rattle.hub_drive.specs.declared.sayings.Outlet.{Outlet}
use Rattle.hub_drive.specs.declared.sayings.Outlet.TheVariants.{Records, Hub, Nowhere}
use Rattle.hub_drive.specs.Driving.{shut, deeds_by}

pub shut_one : (outlet : Outlet) (conn : ℕ) (cause : Closing) → shut conn ∷ [] ≡ deeds_by outlet (Close conn cause)
shut_one Records conn cause = refl
shut_one Hub conn cause = refl
shut_one Nowhere conn cause = refl

pub line_nothing : (outlet : Outlet) (text : List ℕ) → [] ≡ deeds_by outlet (Line text)
line_nothing Records text = refl
line_nothing Hub text = refl
line_nothing Nowhere text = refl
