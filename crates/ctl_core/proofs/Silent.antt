-- Where no connection is silent, none falls silent that is looked at by its number.
use Rattle.std.proofs.Common.{◌≡◌, ℕ, ◌||◌, Bool, true, false, List, [], ◌∷◌, Option, Some, None, refl, sym, ap, ◌∙◌, true≢false, if◌then◌else◌}
use Rattle.std.specs.List.{find, list_any}
use Rattle.std.specs.Option.{option_map_or}
use Rattle.std.proofs.lemmas.Option.{none-some, same_Some}
use Rattle.conf_types.specs.State.{State}
use Rattle.ctl_world.specs.declared.conns.Conn.{Conn}
use Rattle.ctl_world.specs.Connections.{conn_with, has_number}
use Rattle.ctl_world.specs.World.{World}
use Rattle.ctl_life.specs.Silence.{falls_silent, is_silent}

pub record IsNeither (a b : Bool) : Type 0 where
  pub first : a ≡ false
  pub second : b ≡ false

pub neither : (a b : Bool) → (a || b) ≡ false → IsNeither a b
neither true b is = absurd (true≢false is)
neither false b is = record { first = refl; second = is }

module _ {A : Type 0} (test key : A → Bool) where
  not_found : (xs : List A) → list_any test xs ≡ false → (x : A) → find key xs ≡ Some x → test x ≡ false
  not_found [] none x is = absurd (none-some x is)
  not_found (y ∷ ys) none x is = by (key y) is (λ e. not_found ys (neither (test y) (list_any test ys) none).second x e)
    where
      by : (b : Bool) → (if b then Some y else find key ys) ≡ Some x → (find key ys ≡ Some x → test x ≡ false) → test x ≡ false
      by true e more = ap test (sym (same_Some y x e)) ∙ (neither (test y) (list_any test ys) none).first
      by false e more = more e

module _ (v : World) (none : list_any (is_silent v.moment) v.conns ≡ false) where
  falls_not : (number : ℕ) → falls_silent v number ≡ false
  falls_not number = by (conn_with v.conns number) refl
    where
      by : (o : Option Conn) → conn_with v.conns number ≡ o → option_map_or (is_silent v.moment) o false ≡ false
      by None is = refl
      by (Some c) is = not_found (is_silent v.moment) (has_number number) v.conns none c is

  pub none_falls : (numbers : List ℕ) → list_any (falls_silent v) numbers ≡ false
  none_falls [] = refl
  none_falls (number ∷ numbers) = ap (λ b. b || list_any (falls_silent v) numbers) (falls_not number) ∙ none_falls numbers

-- what was known is kept where one is silent
pub none_silent : (b : Bool) (s : State) → (if b then Some s else None) ≡ None → b ≡ false
none_silent true s is = absurd (none-some s (sym is))
none_silent false s is = refl

pub was_kept : (b : Bool) (known s : State) → (if b then Some known else None) ≡ Some s → s ≡ known
was_kept true known s is = sym (same_Some known s is)
was_kept false known s is = absurd (none-some s is)
