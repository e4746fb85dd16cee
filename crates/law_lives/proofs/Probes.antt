-- One ECHO_REQUEST is said for each span of 20 seconds in which no byte comes.
use Rattle.std.proofs.Common.{◌≡◌, ℕ, ◌==◌, ◌+◌, ◌-◌, ◌||◌, Bool, true, false, nat_le, Option, Some, None, List, [], ◌∷◌, ◌++◌, map, inl, inr, refl, sym, ap, subst, ◌∙◌, append_assoc, eq-eqb, arith, if◌then◌else◌}
use Rattle.std.specs.List.{list_any}
use Rattle.std.specs.Option.{option_map, option_map_or}
use Rattle.std.proofs.lemmas.Bool.{cases_Bool, eqb-true, lt-leb}
use Rattle.net_base.specs.declared.numbers.Moment.{Moment}
use Rattle.of13_codec.specs.declared.message.Message.{Message}
use Rattle.of13_codec.specs.declared.message.Message.TheVariants as messages
use Rattle.switch_session.specs.declared.closing.Closing.{Closing}
use Rattle.switch_session.specs.declared.closing.Closing.TheVariants.{Silent as SilentClosing}
use Rattle.switch_session.specs.declared.quiet.Quiet.{Quiet}
use Rattle.switch_session.specs.declared.quiet.Quiet.TheVariants.{Well, Echo, Silent}
use Rattle.switch_session.specs.Connections.{asks_echo, due, due_at, next_id}
use Rattle.ctl_world.specs.declared.conns.Conn.{Conn}
use Rattle.ctl_world.specs.declared.said.Said.{Said}
use Rattle.ctl_world.specs.declared.said.Said.TheVariants as told
use Rattle.ctl_world.specs.Connections.{change, conn_with, is_open, with_asked, with_dp, with_heard, with_looked, with_said, with_sent, without}
use Rattle.ctl_world.specs.Ends.{close, end_line}
use Rattle.ctl_world.specs.Frames.{with_read}
use Rattle.ctl_world.specs.Saying.{say, say_by}
use Rattle.ctl_world.specs.World.{World}
use Rattle.ctl_life.specs.Silence.{look, look_each, look_on, stir}
use Rattle.ctl_world.proofs.Numbered.{apart, changed_other, changed_own, has_it, shut_none, unlike, with_seen, without_other, without_own}
use Rattle.law_lives.proofs.Moments.{look_shows}
use Rattle.law_lives.proofs.Plain.{Plainly, is_probe}

-- ---- how many were said on a connection

abbrev pub counts : Bool → ℕ
counts true = 1
counts false = 0

abbrev pub probe_in : ℕ → Said → ℕ
probe_in n (told.Message k m xid) = if k == n then counts (is_probe m) else 0
probe_in n (told.Closing k cause) = 0
probe_in n (told.Line text) = 0

abbrev pub probes_in : ℕ → List Said → ℕ
probes_in n [] = 0
probes_in n (x ∷ xs) = probe_in n x + probes_in n xs

pub probes_more : (n : ℕ) (xs : List Said) (x : Said) → probes_in n (xs ++ x ∷ []) ≡ probes_in n xs + probe_in n x
probes_more n [] x = omega arith
probes_more n (y ∷ ys) x = omega (arith, probes_more n ys x)

plain_probe : (n k : ℕ) (m : Message) (xid : ℕ) → is_probe m ≡ false → probe_in n (told.Message k m xid) ≡ 0
plain_probe n k m xid isnt = elim (k == n) as (λ b. (if b then counts (is_probe m) else 0) ≡ 0) [ true ↦ ap counts isnt | false ↦ refl ]

other_probe : (n k : ℕ) (m : Message) (xid : ℕ) → (k ≡ n → ⊥) → probe_in n (told.Message k m xid) ≡ 0
other_probe n k m xid differs = ap (λ (b : Bool). if b then counts (is_probe m) else 0) (apart k n differs)

-- ---- what a connection is asked, and when it was heard

abbrev pub seen : Conn → Option (Bool × ℕ)
seen c = Some (c.session.echoed, c.session.heard.0)

abbrev pub seen_at : ℕ → World → Option (Bool × ℕ)
seen_at n w = option_map_or seen (conn_with w.conns n) None

-- of what was seen, and of how many were said
abbrev pub Sees : (Bool → ℕ → ℕ → Type 0) → ℕ → Option (Bool × ℕ) → Type 0
Sees P said None = Unit {0}
Sees P said (Some x) = P x.0 x.1 said

module _ (n : ℕ) (P : Bool → ℕ → ℕ → Type 0) where
  abbrev pub Has : World → Type 0
  Has w = Sees P (probes_in n w.said) (seen_at n w)

  changed : (k : ℕ) (f : Conn → Conn) → ((c : Conn) → (f c).number ≡ c.number) → ((c : Conn) → seen (f c) ≡ seen c) → (said : ℕ) (conns : List Conn) → Sees P said (option_map_or seen (conn_with conns n) None)
      → Sees P said (option_map_or seen (conn_with (change k f conns) n) None)
  changed k f same sees said conns has = subst (Sees P said) (sym (with_seen f same k seen sees n conns None)) has

  left : (k : ℕ) (said : ℕ) (conns : List Conn) → Sees P said (option_map_or seen (conn_with conns n) None) → Sees P said (option_map_or seen (conn_with (without k conns) n) None)
  left k said conns has =
      elim (cases_Bool (n == k)) [
        | inl is ↦
            subst (λ (o : Option Conn). Sees P said (option_map_or seen o None)) (sym (ap (conn_with (without k conns)) (eqb-true n k is) ∙ without_own k conns)) tt
        | inr other ↦ subst (λ (o : Option Conn). Sees P said (option_map_or seen o None)) (sym (without_other k n (unlike n k other) conns)) has
      ]

  -- one thing more is said, which is no probe on it
  one_more : (w : World) (x : Said) (o : Option (Bool × ℕ)) → probe_in n x ≡ 0 → Sees P (probes_in n w.said) o → Sees P (probes_in n (w.said ++ x ∷ [])) o
  one_more w x o none has = subst (λ (k : ℕ). Sees P k o) (let more = probes_more n w.said x in omega (arith, more, none)) has

  spoken : (k : ℕ) (m : Message) (f : Conn → Conn) → ((c : Conn) → (f c).number ≡ c.number) → ((c : Conn) → seen (f c) ≡ seen c)
      → (w : World) → ((c : Conn) → conn_with w.conns k ≡ Some c → (xid : ℕ) → probe_in n (told.Message c.number m xid) ≡ 0) → Has w → Has (option_map_or (say_by f m w) (conn_with w.conns k) w)
  spoken k m f same sees w none has = by (conn_with w.conns k) refl
    where
      by : (o : Option Conn) → conn_with w.conns k ≡ o → Has (option_map_or (say_by f m w) o w)
      by None is = has
      by (Some c) is =
          let xid : ℕ = next_id c.session.last_xid in
          one_more w (told.Message c.number m xid) (option_map_or seen (conn_with (change c.number f w.conns) n) None) (none c is xid) (changed c.number f same sees (probes_in n w.said) w.conns has)

  pub closed_has : (cause : Closing) (k : ℕ) (w : World) → Has w → Has (close cause k w)
  closed_has cause k w has =
      let o : Option (Bool × ℕ) = option_map_or seen (conn_with (without k w.conns) n) None in
      let x : Said = told.Closing k cause in
      let v : World = record w { said = w.said ++ x ∷ [] } in
      subst (λ (s : List Said). Sees P (probes_in n s) o) (append_assoc w.said (x ∷ []) (end_line k cause ∷ []))
      (one_more v (end_line k cause) o refl (one_more w x o refl (left k (probes_in n w.said) w.conns has)))

  pub ended_has : (cause : Closing) (k : ℕ) (w : World) → Has w → Sees P (probes_in n (w.said ++ end_line k cause ∷ [])) (option_map_or seen (conn_with (without k w.conns) n) None)
  ended_has cause k w has = one_more w (end_line k cause) (option_map_or seen (conn_with (without k w.conns) n) None) refl (left k (probes_in n w.said) w.conns has)

  pub said_has : (k : ℕ) (m : Message) → is_probe m ≡ false → (w : World) → Has w → Has (say k m w)
  said_has k m isnt w has = spoken k m with_said (λ c. refl) (λ c. refl) w (λ c is xid. plain_probe n c.number m xid isnt) has

  pub keeps : Plainly Has
  keeps = record {
    says = λ k m isnt w has. said_has k m isnt w has;
    asks = λ k m isnt w has. spoken k m with_asked (λ c. refl) (λ c. refl) w (λ c is xid. plain_probe n c.number m xid isnt) has;
    repeats = λ k m isnt xid w has. one_more w (told.Message k m xid) (seen_at n w) (plain_probe n k m xid isnt) has;
    closes = closed_has;
    tells = λ text w has. one_more w (told.Line text) (seen_at n w) refl has;
    hears = λ m xid k w has. changed k (with_heard m xid) (λ c. refl) (λ c. refl) (probes_in n w.said) w.conns has;
    takes = λ k dp w has. changed k (with_dp dp) (λ c. refl) (λ c. refl) (probes_in n w.said) w.conns has;
    notes = λ k entries w has. changed k (with_sent entries) (λ c. refl) (λ c. refl) (probes_in n w.said) w.conns has;
    reads = λ k w has. changed k with_read (λ c. refl) (λ c. refl) (probes_in n w.said) w.conns has;
    hosts = λ table w has. has;
    neighbours = λ table w has. has;
    renews = λ next w has. has;
  }

-- ---- what is due

abbrev IsDue : Bool → Bool → ℕ → Quiet → Type 0
IsDue echoed late said Well = (said ≡ counts echoed) × (echoed ≡ late)
IsDue echoed late said Echo = (said + 1 ≡ 1) × (true ≡ late)
IsDue echoed late said Silent = Unit {0}

is_due : (echoed : Bool) (silence said : ℕ) → said ≡ counts echoed → (echoed ≡ true → nat_le 20000 silence ≡ true) → IsDue echoed (nat_le 20000 silence) said (due echoed silence)
is_due true silence said count early =
    elim (nat_le 60000 silence) as (λ b. IsDue true (nat_le 20000 silence) said (if b then Silent else Well)) [ true ↦ tt | false ↦ (count, sym (early refl)) ]
is_due false silence said count early =
    elim (nat_le 60000 silence) as (λ b. IsDue false (nat_le 20000 silence) said (if b then Silent else (if nat_le 20000 silence then Echo else Well))) [
      | true ↦ tt
      | false ↦ elim (nat_le 20000 silence) as (λ b. IsDue false b said (if b then Echo else Well)) [ true ↦ (omega (arith, count), refl) | false ↦ (count, refl) ]
    ]

-- no time has passed
pub now_early : (moment : ℕ) → false ≡ nat_le 20000 (moment - moment)
now_early moment = sym (lt-leb 20000 (moment - moment) (omega arith))

-- ---- a moment

module _ (t : Moment) (n before : ℕ) where
  -- as many as were asked for, and none too early
  abbrev pub Early : Bool → ℕ → ℕ → Type 0
  Early echoed heard said = (before + said ≡ counts echoed) × (echoed ≡ true → nat_le 20000 (t.0 - heard) ≡ true)

  -- and none too late
  abbrev pub Asked : Bool → ℕ → ℕ → Type 0
  Asked echoed heard said = (before + said ≡ counts echoed) × (echoed ≡ nat_le 20000 (t.0 - heard))

  early_of : (said : ℕ) (o : Option (Bool × ℕ)) → Sees Asked said o → Sees Early said o
  early_of said None asked = tt
  early_of said (Some x) asked = (asked.0, λ yes. sym asked.1 ∙ yes)

  -- another connection is looked at
  look_other : (P : Bool → ℕ → ℕ → Type 0) (k : ℕ) → (k ≡ n → ⊥) → (w : World) → Has n P w → Has n P (look k w)
  look_other P k differs w has = by (conn_with w.conns k) refl
    where
      on : (q : Quiet) (c : Conn) (v : World) → c.number ≡ k → Has n P v → Has n P (stir q c.number v)
      on Well c v its at = at
      on Echo c v its at =
          spoken n P c.number (messages.EchoRequest []) with_said (λ d. refl) (λ d. refl) v
          (λ d is xid. other_probe n d.number (messages.EchoRequest []) xid (λ e. differs (sym its ∙ sym (has_it c.number v.conns d is) ∙ e))) at
      on Silent c v its at = closed_has n P SilentClosing c.number v at

      by : (o : Option Conn) → conn_with w.conns k ≡ o → Has n P (option_map_or (look_on w) o w)
      by None is = has
      by (Some c) is =
          let f : Conn → Conn = with_looked w.moment in
          let its : c.number ≡ k = has_it k w.conns c is in
          let v : World = record w { conns = change c.number f w.conns } in
          on (due_at c.session w.moment) c v its
          (subst (λ (o : Option Conn). Sees P (probes_in n w.said) (option_map_or seen o None))
          (sym (changed_other f (λ d. refl) c.number n (λ e. differs (sym its ∙ sym e)) w.conns)) has)

  -- it is looked at itself
  module _ (w : World) (shows : w.moment ≡ t) (c : Conn) (some : conn_with w.conns n ≡ Some c) where
    abbrev looked : Conn → Conn
    looked = with_looked w.moment

    abbrev seen_world : World
    seen_world = record w { conns = change n looked w.conns }

    found : conn_with seen_world.conns n ≡ Some (looked c)
    found = changed_own looked (λ d. refl) n w.conns ∙ ap (option_map looked) some

    asked_in : (q : Quiet) → due_at c.session w.moment ≡ q → seen_at n seen_world ≡ Some (asks_echo q c.session.echoed, c.session.heard.0)
    asked_in q is = ap (λ (o : Option Conn). option_map_or seen o None) found ∙ ap (λ (x : Quiet). Some (asks_echo x c.session.echoed, c.session.heard.0)) is

    stirred : (q : Quiet) → due_at c.session w.moment ≡ q → IsDue c.session.echoed (nat_le 20000 (t.0 - c.session.heard.0)) (before + probes_in n w.said) q → Has n Asked (stir q n seen_world)
    stirred Well is goes = subst (Sees Asked (probes_in n w.said)) (sym (asked_in Well is)) goes
    stirred Echo is goes = by (conn_with seen_world.conns n) refl
      where
        by : (o : Option Conn) → conn_with seen_world.conns n ≡ o → Has n Asked (option_map_or (say_by with_said (messages.EchoRequest []) seen_world) o seen_world)
        by None none = let bad : ◌≡◌ {A = Option Conn} None (Some (looked c)) = sym none ∙ found in absurd (cc)
        by (Some d) is_d =
            let xid : ℕ = next_id d.session.last_xid in
            let x : Said = told.Message d.number (messages.EchoRequest []) xid in
            let one : probe_in n x ≡ 1 = ap (λ (b : Bool). if b then 1 else 0) (eq-eqb d.number n (has_it n seen_world.conns d is_d)) in
            changed n Asked d.number with_said (λ k. refl) (λ k. refl) (probes_in n (w.said ++ x ∷ [])) seen_world.conns
            (subst (Sees Asked (probes_in n (w.said ++ x ∷ []))) (sym (asked_in Echo is)) (let more = probes_more n w.said x in omega (arith, goes.0, more, one), goes.1))
    stirred Silent is goes =
        subst (λ (o : Option Conn). Sees Asked (probes_in n (close SilentClosing n seen_world).said) (option_map_or seen o None)) (sym (without_own n seen_world.conns)) tt

  look_own : (w : World) → w.moment ≡ t → Has n Early w → Has n Asked (look n w)
  look_own w shows has = by (conn_with w.conns n) refl has
    where
      by : (o : Option Conn) → conn_with w.conns n ≡ o → Sees Early (probes_in n w.said) (option_map_or seen o None) → Has n Asked (option_map_or (look_on w) o w)
      by None none early = subst (λ (o : Option Conn). Sees Asked (probes_in n w.said) (option_map_or seen o None)) (sym none) tt
      by (Some c) some early =
          let late : ℕ = t.0 - c.session.heard.0 in
          let is : due_at c.session w.moment ≡ due c.session.echoed late = ap (λ (m : Moment). due_at c.session m) shows in
          subst (λ (k : ℕ). Has n Asked (stir (due_at c.session w.moment) k (record w { conns = change k (with_looked w.moment) w.conns }))) (sym (has_it n w.conns c some))
          (subst (λ (q : Quiet). Has n Asked (stir q n (record w { conns = change n (with_looked w.moment) w.conns }))) (sym is)
          (stirred w shows c some (due c.session.echoed late) is (is_due c.session.echoed late (before + probes_in n w.said) early.0 early.1)))

  looks : (numbers : List ℕ) (w : World) → w.moment ≡ t → (list_any (λ (k : ℕ). k == n) numbers ≡ false → Has n Asked w) → Has n Early w → Has n Asked (look_each numbers w)
  looks [] w shows asked early = asked refl
  looks (k ∷ ks) w shows asked early =
      elim (cases_Bool (k == n)) [
        | inl own ↦
            let here : Has n Asked (look k w) = subst (λ (x : ℕ). Has n Asked (look x w)) (sym (eqb-true k n own)) (look_own w shows early) in
            looks ks (look k w) (look_shows t k w shows) (λ off. here) (early_of (probes_in n (look k w).said) (seen_at n (look k w)) here)
        | inr other ↦
            looks ks (look k w) (look_shows t k w shows)
            (λ off. look_other Asked k (unlike k n other) w (asked (ap (λ (b : Bool). b || list_any (λ (x : ℕ). x == n) ks) other ∙ off))) (look_other Early k (unlike k n other) w early)
      ]

  numbers_open : (conns : List Conn) → list_any (λ (k : ℕ). k == n) (map (λ (c : Conn). c.number) conns) ≡ is_open conns n
  numbers_open [] = refl
  numbers_open (c ∷ cs) = ap (λ (b : Bool). (c.number == n) || b) (numbers_open cs)

  pub all_asked : (w : World) → w.moment ≡ t → Has n Early w → Has n Asked (look_each (map (λ (c : Conn). c.number) w.conns) w)
  all_asked w shows early =
      looks (map (λ (c : Conn). c.number) w.conns) w shows
      (λ off. subst (λ (o : Option Conn). Sees Asked (probes_in n w.said) (option_map_or seen o None)) (sym (shut_none n w.conns (sym (numbers_open w.conns) ∙ off))) tt)
      early
