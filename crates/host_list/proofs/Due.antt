-- Where no shelf is due, no host is.
use Rattle.std.proofs.Common.{◌≡◌, ℕ, ◌≤◌, ◌==◌, ◌&&◌, ◌||◌, Bool, true, false, not, Some, None, List, [], ◌∷◌, nat_le, inl, inr, refl, sym, ap, ◌∙◌, arith, if◌then◌else◌}
use Rattle.std.specs.List.{AllByRecursion, list_any}
use Rattle.std.proofs.lemmas.Bool.{cases_Bool, and_parts, eqb-true, false≢true}
use Rattle.net_base.specs.declared.numbers.DpId.{DpId}
use Rattle.conf_types.specs.declared.state.HostRec.{HostRec}
use Rattle.conf_types.specs.Configuration.{Configuration}
use Rattle.conf_types.specs.State.{forgotten_at, is_permanent, is_to_forget}
use Rattle.conf_types.proofs.Reached.{same_id}
use Rattle.host_list.specs.declared.shelves.Shelf.{Shelf}
use Rattle.host_list.specs.Addresses.{Entry}
use Rattle.host_list.specs.Order.{first_place, is_due_from}
use Rattle.host_list.specs.Shelves.{is_on, is_shelved}
use Rattle.host_list.proofs.Shelved.{le_is, le_true}

later : (conf : Configuration) (dp : DpId) (a b : ℕ) → a ≤ b → forgotten_at conf dp a ≤ forgotten_at conf dp b
later conf dp a b less = omega (arith, less)

neither : (a b : Bool) → (a || b) ≡ false → (a ≡ false) × (b ≡ false)
neither true b is = absurd (false≢true (sym is))
neither false b is = (refl, is)

module _ (conf : Configuration) (moment : ℕ) where
  -- a host on a shelf that isn't due isn't either
  not_due : (shelf : Shelf) (host : HostRec) → is_on host shelf ≡ true → is_due_from conf moment shelf ≡ false → nat_le (forgotten_at conf host.dp host.learned.0) moment ≡ false
  not_due shelf host on off =
      let both = and_parts (shelf.dp.0 == host.dp.0) (nat_le shelf.least.0 host.learned.0) on in
      let dp : shelf.dp ≡ host.dp = same_id shelf.dp host.dp (eqb-true shelf.dp.0 host.dp.0 both.0) in
      let least : shelf.least.0 ≤ host.learned.0 = le_is shelf.least.0 host.learned.0 both.1 in
      let stays : nat_le (forgotten_at conf host.dp shelf.least.0) moment ≡ false = ap (λ (d : DpId). nat_le (forgotten_at conf d shelf.least.0) moment) (sym dp) ∙ off in
      elim (cases_Bool (nat_le (forgotten_at conf host.dp host.learned.0) moment)) [
        | inl due ↦
            let at_most : forgotten_at conf host.dp host.learned.0 ≤ moment = le_is (forgotten_at conf host.dp host.learned.0) moment due in
            let before = later conf host.dp shelf.least.0 host.learned.0 least in
            absurd (false≢true (sym stays ∙ le_true (forgotten_at conf host.dp shelf.least.0) moment (omega (arith, at_most, before))))
        | inr is ↦ is
      ]

  pub none_of : (shelves : List Shelf) (host : HostRec) → is_shelved shelves host ≡ true → list_any (is_due_from conf moment) shelves ≡ false → nat_le (forgotten_at conf host.dp host.learned.0) moment ≡ false
  none_of [] host on off = absurd (false≢true on)
  none_of (shelf ∷ shelves) host on off =
      let parts = neither (is_due_from conf moment shelf) (list_any (is_due_from conf moment) shelves) off in
      elim (cases_Bool (is_on host shelf)) [
        | inl here ↦ not_due shelf host here parts.0
        | inr other ↦ none_of shelves host (sym (ap (λ b. b || is_shelved shelves host) other) ∙ on) parts.1
      ]

  never : (b : Bool) → (b && false) ≡ false
  never true = refl
  never false = refl

  pub not_forgotten : (host : HostRec) → nat_le (forgotten_at conf host.dp host.learned.0) moment ≡ false → is_to_forget conf moment host ≡ false
  not_forgotten host off = ap (λ b. not (is_permanent conf host) && b) off ∙ never (not (is_permanent conf host))

  pub none_due : (shelves : List Shelf) → list_any (is_due_from conf moment) shelves ≡ false → (entries : List Entry) → AllByRecursion (λ (e : Entry). is_shelved shelves e.1 ≡ true) entries → first_place (is_to_forget conf moment) entries ≡ None
  none_due shelves off [] on = refl
  none_due shelves off (e ∷ entries) on =
      let stays = not_forgotten e.1 (none_of shelves e.1 on.0 off) in
      ap (λ b. if b then Some e.0 else first_place (is_to_forget conf moment) entries) stays ∙ none_due shelves off entries on.1
