-- The hosts at the ports of those that don't stand are those that don't.
use Rattle.std.proofs.Common.{◌≡◌, ◌||◌, Bool, true, false, cond, not, List, [], ◌∷◌, ◌++◌, filter, inl, inr, refl, sym, ap, ◌∙◌, if◌then◌else◌}
use Rattle.std.specs.List.{AllByRecursion, fold}
use Rattle.std.proofs.lemmas.Bool.{cases_Bool, false≢true, or_right}
use Rattle.std.proofs.lemmas.List.Folds.{list_any-append}
use Rattle.net_base.specs.declared.numbers.DpId.{DpId}
use Rattle.conf_types.specs.declared.state.HostRec.{HostRec}
use Rattle.conf_types.specs.declared.state.UpRec.{UpRec}
use Rattle.conf_types.specs.State.{is_host_at}
use Rattle.ctl_world.specs.Ends.{stands}
use Rattle.ctl_world.specs.Lost.{is_at_any, lost_ports, with_lost}
use Rattle.ctl_world.proofs.Leaving.{at_its_port, stand_alike}

-- ---- a port more

module _ (ports : List UpRec) (h : HostRec) where
  abbrev port_of : UpRec
  port_of = record { dp = h.dp; port = h.port }

  pushed : (g : HostRec) → is_at_any (ports ++ port_of ∷ []) g ≡ (is_at_any ports g || (is_host_at h.dp h.port g || false))
  pushed g = list_any-append (λ (u : UpRec). is_host_at u.dp u.port g) ports (port_of ∷ [])

  pushed_keeps : (g : HostRec) → is_at_any ports g ≡ true → is_at_any (ports ++ port_of ∷ []) g ≡ true
  pushed_keeps g is = pushed g ∙ ap (λ b. b || (is_host_at h.dp h.port g || false)) is

  pushed_has : is_at_any (ports ++ port_of ∷ []) h ≡ true
  pushed_has = pushed h ∙ or_right (is_at_any ports h) (is_host_at h.dp h.port h || false) (ap (λ b. b || false) (at_its_port h))

alone : (b : Bool) → (b || false) ≡ true → b ≡ true
alone true is = refl
alone false is = is

module _ (running : List DpId) (ups : List UpRec) where
  -- a host at one of these ports doesn't stand
  abbrev AreLost : List UpRec → Type 0
  AreLost ports = (g : HostRec) → is_at_any ports g ≡ true → stands running ups g ≡ false

  keeps_one : (ports : List UpRec) (h g : HostRec) → is_at_any ports g ≡ true → is_at_any (with_lost running ups ports h) g ≡ true
  keeps_one ports h g is =
      elim (stands running ups h || is_at_any ports h) as (λ b. is_at_any (if b then ports else ports ++ port_of ports h ∷ []) g ≡ true) [
        | true ↦ is
        | false ↦ pushed_keeps ports h g is
      ]

  keeps : (hosts : List HostRec) (ports : List UpRec) (g : HostRec) → is_at_any ports g ≡ true → is_at_any (fold (with_lost running ups) ports hosts) g ≡ true
  keeps [] ports g is = is
  keeps (h ∷ hosts) ports g is = keeps hosts (with_lost running ups ports h) g (keeps_one ports h g is)

  has_one : (ports : List UpRec) (h : HostRec) → stands running ups h ≡ false → is_at_any (with_lost running ups ports h) h ≡ true
  has_one ports h lost = by (is_at_any ports h) refl
    where
      by : (b : Bool) → is_at_any ports h ≡ b → is_at_any (with_lost running ups ports h) h ≡ true
      by true there = keeps_one ports h h there
      by false not_there =
          ap (λ b. is_at_any (if (b || is_at_any ports h) then ports else ports ++ port_of ports h ∷ []) h) lost
          ∙ ap (λ b. is_at_any (if b then ports else ports ++ port_of ports h ∷ []) h) not_there ∙ pushed_has ports h

  has_each : (hosts : List HostRec) (ports : List UpRec) → AllByRecursion (λ g. stands running ups g ≡ false → is_at_any (fold (with_lost running ups) ports hosts) g ≡ true) hosts
  has_each [] ports = tt
  has_each (h ∷ hosts) ports = (λ lost. keeps hosts (with_lost running ups ports h) h (has_one ports h lost), has_each hosts (with_lost running ups ports h))

  lost_one : (ports : List UpRec) (h : HostRec) → AreLost ports → AreLost (with_lost running ups ports h)
  lost_one ports h all g = by (stands running ups h) (is_at_any ports h) refl
    where
      by : (b there : Bool) → stands running ups h ≡ b → is_at_any (if (b || there) then ports else ports ++ port_of ports h ∷ []) g ≡ true → stands running ups g ≡ false
      by true there is at = all g at
      by false true is at = all g at
      by false false is at =
          elim (cases_Bool (is_at_any ports g)) [
            | inl before ↦ all g before
            | inr not_before ↦
                let here : (is_host_at h.dp h.port g || false) ≡ true = sym (ap (λ b. b || (is_host_at h.dp h.port g || false)) not_before) ∙ sym (pushed ports h g) ∙ at in
                stand_alike running ups h g (alone (is_host_at h.dp h.port g) here) ∙ is
          ]

  lost_each : (hosts : List HostRec) (ports : List UpRec) → AreLost ports → AreLost (fold (with_lost running ups) ports hosts)
  lost_each [] ports all = all
  lost_each (h ∷ hosts) ports all = lost_each hosts (with_lost running ups ports h) (lost_one ports h all)

  -- ---- all of them

  exactly : (ports : List UpRec) (g : HostRec) → AreLost ports → (stands running ups g ≡ false → is_at_any ports g ≡ true) → not (is_at_any ports g) ≡ stands running ups g
  exactly ports g all has = by (stands running ups g) (is_at_any ports g) refl refl
    where
      by : (s at : Bool) → stands running ups g ≡ s → is_at_any ports g ≡ at → not at ≡ s
      by true true is there = absurd (false≢true (sym (all g there) ∙ is))
      by true false is there = refl
      by false true is there = refl
      by false false is there = absurd (false≢true (sym there ∙ has is))

  same_filter : (p q : HostRec → Bool) (hosts : List HostRec) → AllByRecursion (λ h. p h ≡ q h) hosts → filter p hosts ≡ filter q hosts
  same_filter p q [] all = refl
  same_filter p q (h ∷ hosts) all = λ i. cond (all.0 i) (h ∷ same_filter p q hosts all.1 i) (same_filter p q hosts all.1 i)

  each_exactly : (ports : List UpRec) (hosts : List HostRec) → AreLost ports → AllByRecursion (λ g. stands running ups g ≡ false → is_at_any ports g ≡ true) hosts
      → AllByRecursion (λ g. not (is_at_any ports g) ≡ stands running ups g) hosts
  each_exactly ports [] all has = tt
  each_exactly ports (h ∷ hosts) all has = (exactly ports h all has.0, each_exactly ports hosts all has.1)

  pub off_lost : (hosts : List HostRec) → filter (λ h. not (is_at_any (lost_ports running ups hosts) h)) hosts ≡ filter (stands running ups) hosts
  off_lost hosts =
      let ports : List UpRec = lost_ports running ups hosts in
      same_filter (λ h. not (is_at_any ports h)) (stands running ups) hosts
      (each_exactly ports hosts (lost_each hosts [] (λ g is. absurd (false≢true is))) (has_each hosts []))

-- ---- one port after the other

pub off_more : (u : UpRec) (ports : List UpRec) (hosts : List HostRec)
    → filter (λ h. not (is_at_any ports h)) (filter (λ h. not (is_host_at u.dp u.port h)) hosts) ≡ filter (λ h. not (is_at_any (u ∷ ports) h)) hosts
off_more u ports [] = refl
off_more u ports (h ∷ hosts) =
    let rest = filter (λ g. not (is_at_any (u ∷ ports) g)) hosts in
    elim (is_host_at u.dp u.port h) as (λ b. filter (λ g. not (is_at_any ports g)) (cond (not b) (h ∷ filter (λ g. not (is_host_at u.dp u.port g)) hosts) (filter (λ g. not (is_host_at u.dp u.port g)) hosts))
    ≡ cond (not (b || is_at_any ports h)) (h ∷ rest) rest) [
      | true ↦ off_more u ports hosts
      | false ↦ ap (λ gs. cond (not (is_at_any ports h)) (h ∷ gs) gs) (off_more u ports hosts)
    ]

pub off_none : (hosts : List HostRec) → filter (λ h. not (is_at_any [] h)) hosts ≡ hosts
off_none [] = refl
off_none (h ∷ hosts) = ap (λ hs. h ∷ hs) (off_none hosts)
