-- No two open connections are of one datapath: where one is changed, goes, comes, or comes to be a datapath's.
use Rattle.std.proofs.Common.{◌≡◌, ℕ, ◌==◌, Bool, true, false, cond, not, nat_lt, Option, Some, None, List, [], ◌∷◌, inl, inr, refl, sym, ap, ◌∙◌, subst, eq-eqb, true≢false, if◌then◌else◌}
use Rattle.std.specs.List.{AllByRecursion}
use Rattle.std.specs.Option.{option_map_or}
use Rattle.std.proofs.lemmas.Bool.{cases_Bool, eqb-true}
use Rattle.net_base.specs.declared.numbers.DpId.{DpId}
use Rattle.conf_types.specs.Lists.{EachBefore}
use Rattle.host_learn.proofs.Lists.{all_map, all_part, before_part, filter_part}
use Rattle.switch_session.specs.declared.state.Stage.TheVariants.{Ports}
use Rattle.ctl_world.specs.declared.conns.Conn.{Conn}
use Rattle.ctl_world.specs.Connections.{change, conn_of, conn_with, has_number, is_of, put, with_dp, without}
use Rattle.ctl_world.specs.World.{has_ports}
use Rattle.law_lives.proofs.Less.{Less, told_ports}

abbrev Others : Conn → Conn → Type 0
Others a b = (dp : DpId) → is_of dp a ≡ true → is_of dp b ≡ true → ⊥

abbrev pub AreApart : List Conn → Type 0
AreApart conns = EachBefore Others conns

-- it is of none of them
abbrev pub IsOff : DpId → List Conn → Type 0
IsOff dp conns = AllByRecursion (λ c. is_of dp c ≡ false) conns

not_both : (b : Bool) → (b ≡ true → ⊥) → b ≡ false
not_both true is = absurd (is refl)
not_both false is = refl

off_others : (dp : DpId) (c : Conn) (conns : List Conn) → is_of dp c ≡ true → AllByRecursion (Others c) conns → IsOff dp conns
off_others dp c conns is others = all_map (Others c) (λ b. is_of dp b ≡ false) (λ b other. not_both (is_of dp b) (other dp is)) conns others

off_none : (dp : DpId) (conns : List Conn) → IsOff dp conns → conn_of conns dp ≡ None
off_none dp [] off = refl
off_none dp (c ∷ cs) off = ap (λ b. cond b (Some c) (conn_of cs dp)) off.0 ∙ off_none dp cs off.1

pub none_off : (dp : DpId) (conns : List Conn) → conn_of conns dp ≡ None → IsOff dp conns
none_off dp [] none = tt
none_off dp (c ∷ cs) none =
    elim (cases_Bool (is_of dp c)) [
      | inl here ↦ let e : Some c ≡ None = rw here at none in absurd (cc)
      | inr other ↦ (other, none_off dp cs (rw other at none))
    ]

-- ---- one is changed, but stays its datapath's

module _ (f : Conn → Conn) (same : (c : Conn) → (f c).dp ≡ c.dp) where
  is_same : (dp : DpId) (c : Conn) → is_of dp (f c) ≡ is_of dp c
  is_same dp c = ap (λ (o : Option DpId). option_map_or (λ (d : DpId). d.0 == dp.0) o false) (same c)

  others_changed : (a : Conn) (number : ℕ) (conns : List Conn) → AllByRecursion (Others a) conns → AllByRecursion (Others a) (change number f conns)
  others_changed a number [] others = tt
  others_changed a number (c ∷ cs) others =
      elim (has_number number c) as (λ b. AllByRecursion (Others a) (if b then f c ∷ cs else c ∷ change number f cs)) [
        | true ↦ (λ dp of_a of_c. others.0 dp of_a (sym (is_same dp c) ∙ of_c), others.1)
        | false ↦ (others.0, others_changed a number cs others.1)
      ]

  pub change_apart : (number : ℕ) (conns : List Conn) → AreApart conns → AreApart (change number f conns)
  change_apart number [] apart = tt
  change_apart number (c ∷ cs) apart =
      elim (has_number number c) as (λ b. AreApart (if b then f c ∷ cs else c ∷ change number f cs)) [
        | true ↦ (all_map (Others c) (Others (f c)) (λ b other dp of_c of_b. other dp (sym (is_same dp c) ∙ of_c) of_b) cs apart.0, apart.1)
        | false ↦ (others_changed c number cs apart.0, change_apart number cs apart.1)
      ]

-- ---- one goes

pub without_apart : (number : ℕ) (conns : List Conn) → AreApart conns → AreApart (without number conns)
without_apart number conns apart = before_part Others (without number conns) conns apart (filter_part (λ (c : Conn). not (has_number number c)) conns)

-- the others have the connection that they had
pub without_less : (number : ℕ) (conns : List Conn) → AreApart conns → (dp : DpId) → Less (conn_of (without number conns) dp) (conn_of conns dp)
without_less number [] apart dp = inl refl
without_less number (c ∷ cs) apart dp =
    let rest : Less (conn_of (without number cs) dp) (conn_of cs dp) = without_less number cs apart.1 dp in
    elim (cases_Bool (has_number number c)) [
      | inl goes ↦ elim (cases_Bool (is_of dp c)) [
        | inl its ↦
            let off : IsOff dp (without number cs) = all_part (λ b. is_of dp b ≡ false) (without number cs) cs (off_others dp c cs its apart.0) (filter_part (λ (b : Conn). not (has_number number b)) cs) in
            inl (ap (λ b. told_ports (conn_of (cond (not b) (c ∷ without number cs) (without number cs)) dp)) goes ∙ ap told_ports (off_none dp (without number cs) off))
        | inr other ↦
            subst (λ (o : Option Conn). Less o (conn_of (c ∷ cs) dp)) (sym (ap (λ b. conn_of (cond (not b) (c ∷ without number cs) (without number cs)) dp) goes))
            (subst (Less (conn_of (without number cs) dp)) (sym (ap (λ b. cond b (Some c) (conn_of cs dp)) other)) rest)
      ]
      | inr stays ↦
          subst (λ (o : Option Conn). Less o (conn_of (c ∷ cs) dp)) (sym (ap (λ b. conn_of (cond (not b) (c ∷ without number cs) (without number cs)) dp) stays))
          (elim (is_of dp c) as (λ b. Less (cond b (Some c) (conn_of (without number cs) dp)) (cond b (Some c) (conn_of cs dp))) [ true ↦ inr refl | false ↦ rest ])
    ]

-- where the one of a datapath goes, none is the datapath's
pub without_off : (dp : DpId) (conns : List Conn) (c : Conn) → AreApart conns → conn_of conns dp ≡ Some c → IsOff dp (without c.number conns)
without_off dp [] c apart is = tt
without_off dp (x ∷ xs) c apart is =
    elim (cases_Bool (is_of dp x)) [
      | inl its ↦
          let e : Some x ≡ Some c = rw its at is in
          let same : x ≡ c = cc in
          let goes : has_number c.number x ≡ true = ap (λ (k : Conn). k.number == c.number) same ∙ eq-eqb c.number c.number refl in
          subst (IsOff dp) (sym (ap (λ b. cond (not b) (x ∷ without c.number xs) (without c.number xs)) goes))
          (all_part (λ b. is_of dp b ≡ false) (without c.number xs) xs (off_others dp x xs its apart.0) (filter_part (λ (b : Conn). not (has_number c.number b)) xs))
      | inr other ↦
          let rest : IsOff dp (without c.number xs) = without_off dp xs c apart.1 (rw other at is) in
          elim (has_number c.number x) as (λ b. IsOff dp (cond (not b) (x ∷ without c.number xs) (without c.number xs))) [ true ↦ rest | false ↦ (other, rest) ]
    ]

-- ---- one comes

put_others : (a c : Conn) (conns : List Conn) → Others a c → AllByRecursion (Others a) conns → AllByRecursion (Others a) (put c conns)
put_others a c [] here others = (here, tt)
put_others a c (d ∷ ds) here others =
    elim (nat_lt c.number d.number) as (λ b. AllByRecursion (Others a) (if b then c ∷ d ∷ ds else d ∷ put c ds)) [ true ↦ (here, others) | false ↦ (others.0, put_others a c ds here others.1) ]

module _ (c : Conn) (none : c.dp ≡ None) where
  never : (dp : DpId) → is_of dp c ≡ true → ⊥
  never dp is = true≢false (sym is ∙ ap (λ (o : Option DpId). option_map_or (λ (d : DpId). d.0 == dp.0) o false) none)

  all_others : (conns : List Conn) → AllByRecursion (Others c) conns
  all_others [] = tt
  all_others (d ∷ ds) = (λ dp of_c of_d. never dp of_c, all_others ds)

  pub put_apart : (conns : List Conn) → AreApart conns → AreApart (put c conns)
  put_apart [] apart = (tt, tt)
  put_apart (d ∷ ds) apart =
      elim (nat_lt c.number d.number) as (λ b. AreApart (if b then c ∷ d ∷ ds else d ∷ put c ds)) [
        | true ↦ (all_others (d ∷ ds), apart)
        | false ↦ (put_others d c ds (λ dp of_d of_c. never dp of_c) apart.0, put_apart ds apart.1)
      ]

-- ---- one comes to be a datapath's that had none

module _ (dp : DpId) (number : ℕ) where
  off_both : (a b : Conn) → is_of dp a ≡ false → Others a b → Others a (with_dp dp b)
  off_both a b off others id of_a of_b =
      let same : dp.0 ≡ id.0 = eqb-true dp.0 id.0 of_b in
      let it : id ≡ dp = λ i. record { 0 = sym same i } in
      true≢false (sym (subst (λ (k : DpId). is_of k a ≡ true) it of_a) ∙ off)

  others_taken : (a : Conn) → is_of dp a ≡ false → (conns : List Conn) → AllByRecursion (Others a) conns → AllByRecursion (Others a) (change number (with_dp dp) conns)
  others_taken a off [] others = tt
  others_taken a off (c ∷ cs) others =
      elim (has_number number c) as (λ b. AllByRecursion (Others a) (if b then with_dp dp c ∷ cs else c ∷ change number (with_dp dp) cs)) [
        | true ↦ (off_both a c off others.0, others.1)
        | false ↦ (others.0, others_taken a off cs others.1)
      ]

  taken_others : (c : Conn) (conns : List Conn) → IsOff dp conns → AllByRecursion (Others (with_dp dp c)) conns
  taken_others c [] off = tt
  taken_others c (d ∷ ds) off = (
    λ id of_c of_d.
        let same : dp.0 ≡ id.0 = eqb-true dp.0 id.0 of_c in
        let it : id ≡ dp = λ i. record { 0 = sym same i } in
        true≢false (sym (subst (λ (k : DpId). is_of k d ≡ true) it of_d) ∙ off.0),
    taken_others c ds off.1,
  )

  pub take_apart : (conns : List Conn) → IsOff dp conns → AreApart conns → AreApart (change number (with_dp dp) conns)
  take_apart [] off apart = tt
  take_apart (c ∷ cs) off apart =
      elim (has_number number c) as (λ b. AreApart (if b then with_dp dp c ∷ cs else c ∷ change number (with_dp dp) cs)) [
        | true ↦ (taken_others c cs off.1, apart.1)
        | false ↦ (others_taken c off.0 cs apart.0, take_apart cs off.1 apart.1)
      ]

  -- its ports aren't told yet, and the others have the connection that they had
  pub take_less : (conns : List Conn) → AreApart conns → ((c : Conn) → conn_with conns number ≡ Some c → c.session.state.stage ≡ Ports) → (id : DpId)
      → Less (conn_of (change number (with_dp dp) conns) id) (conn_of conns id)
  take_less [] apart ports id = inl refl
  take_less (c ∷ cs) apart ports id =
      elim (cases_Bool (has_number number c)) [
        | inl here ↦
            let at : c.session.state.stage ≡ Ports = ports c (ap (λ b. cond b (Some c) (conn_with cs number)) here) in
            subst (λ (o : Option Conn). Less o (conn_of (c ∷ cs) id)) (sym (ap (λ b. conn_of (if b then with_dp dp c ∷ cs else c ∷ change number (with_dp dp) cs) id) here))
            (elim (dp.0 == id.0) as (λ b. Less (cond b (Some (with_dp dp c)) (conn_of cs id)) (conn_of (c ∷ cs) id)) [
              | true ↦ inl (ap has_ports at)
              | false ↦ elim (cases_Bool (is_of id c)) [
                | inl its ↦ inl (ap told_ports (off_none id cs (off_others id c cs its apart.0)))
                | inr other ↦ inr (sym (ap (λ b. cond b (Some c) (conn_of cs id)) other))
              ]
            ])
        | inr other ↦
            let rest : Less (conn_of (change number (with_dp dp) cs) id) (conn_of cs id) =
            take_less cs apart.1 (λ d is. ports d (ap (λ b. cond b (Some c) (conn_with cs number)) other ∙ is)) id in
            subst (λ (o : Option Conn). Less o (conn_of (c ∷ cs) id)) (sym (ap (λ b. conn_of (if b then with_dp dp c ∷ cs else c ∷ change number (with_dp dp) cs) id) other))
            (elim (is_of id c) as (λ b. Less (cond b (Some c) (conn_of (change number (with_dp dp) cs) id)) (cond b (Some c) (conn_of cs id))) [ true ↦ inr refl | false ↦ rest ])
      ]
