-- What is known of each connection by what was said of the tables on it: what a change and what is said leave of it.
use Rattle.std.proofs.Common.{◌≡◌, ℕ, ◌==◌, true, false, Option, Some, None, List, [], ◌∷◌, ◌++◌, inl, inr, refl, sym, ap, subst, ◌∙◌, append_assoc, if◌then◌else◌}
use Rattle.std.specs.Prelude.{IfSome}
use Rattle.std.specs.List.{fold}
use Rattle.std.specs.Option.{option_map, option_map_or}
use Rattle.std.proofs.lemmas.Bool.{cases_Bool, eqb-true}
use Rattle.std.proofs.lemmas.List.Sums.{fold-append}
use Rattle.of_match.specs.declared.entry.Entry.{Entry}
use Rattle.of13_codec.specs.declared.message.Message.{Message}
use Rattle.switch_session.specs.declared.state.Stage.{Stage}
use Rattle.switch_session.specs.Connections.{next_id}
use Rattle.ctl_world.specs.declared.conns.Conn.{Conn}
use Rattle.ctl_world.specs.declared.said.Said.{Said}
use Rattle.ctl_world.specs.declared.said.Said.TheVariants as said
use Rattle.ctl_world.specs.Connections.{change, conn_with, put, with_asked, with_said, without}
use Rattle.ctl_world.specs.Saying.{ask, say, say_by}
use Rattle.ctl_world.specs.TablesSaid.{is_hello, is_of_tables, said_more, tables_said}
use Rattle.ctl_world.specs.World.{World}
use Rattle.ctl_world.proofs.Numbered.{apart, changed_other, changed_own, has_it, put_other, put_own, unlike, without_other, without_own}

-- of the connection with a number: its stage, what it awaits, what was noted as sent, and what was said of the tables on it
abbrev pub Way : Type 1
Way = ℕ → Stage → Option ℕ → List Entry → List (Message × ℕ) → Type 0

abbrev pub OnConn : Way → ℕ → Conn → List (Message × ℕ) → Type 0
OnConn P n c told = P n c.session.state.stage c.session.state.awaited c.sent told

-- it holds of each connection
abbrev pub Holds : Way → List Said → List Conn → List Said → Type 0
Holds P past conns said = (n : ℕ) → IfSome (conn_with conns n) (λ c. OnConn P n c (tables_said n (past ++ said)))

-- something else holds of the one with this number
abbrev pub At : (Stage → Option ℕ → List Entry → List (Message × ℕ) → Type 0) → ℕ → Way → Way
At Q number P n stage awaited sent told = (n ≡ number → Q stage awaited sent told) × ((n ≡ number → ⊥) → P n stage awaited sent told)

-- ---- what is said

pub more_said : (n : ℕ) (past said more : List Said) → tables_said n (past ++ (said ++ more)) ≡ fold (said_more n) (tables_said n (past ++ said)) more
more_said n past said more = ap (tables_said n) (sym (append_assoc past said more)) ∙ fold-append (said_more n) [] (past ++ said) more

pub record IsPlain (m : Message) : Type 0 where
  pub hello : is_hello m ≡ false
  pub tables : is_of_tables m ≡ false

pub plain_more : (n : ℕ) (told : List (Message × ℕ)) (conn : ℕ) (m : Message) (xid : ℕ) → IsPlain m → said_more n told (said.Message conn m xid) ≡ told
plain_more n told conn m xid plain =
    ap (λ b. if conn == n then (if b then [] else if is_of_tables m then told ++ (m, xid) ∷ [] else told) else told) plain.hello
    ∙ ap (λ b. if conn == n then (if b then told ++ (m, xid) ∷ [] else told) else told) plain.tables
    ∙ elim (conn == n) as (λ b. (if b then told else told) ≡ told) [ true ↦ refl | false ↦ refl ]

pub other_more : (n : ℕ) (told : List (Message × ℕ)) (conn : ℕ) (m : Message) (xid : ℕ) → (n ≡ conn → ⊥) → said_more n told (said.Message conn m xid) ≡ told
other_more n told conn m xid differs =
    ap (λ b. if b then (if is_hello m then [] else if is_of_tables m then told ++ (m, xid) ∷ [] else told) else told) (apart conn n (λ is. differs (sym is)))

-- ---- one is changed

module _ (P P' : Way) (past said said' : List Said) (f : Conn → Conn) (same : (c : Conn) → (f c).number ≡ c.number) (number : ℕ) where
  pub changed_to : (conns : List Conn)
      → ((c : Conn) → conn_with conns number ≡ Some c → OnConn P number c (tables_said number (past ++ said)) → OnConn P' number (f c) (tables_said number (past ++ said')))
      → ((n : ℕ) (c : Conn) → (n ≡ number → ⊥) → OnConn P n c (tables_said n (past ++ said)) → OnConn P' n c (tables_said n (past ++ said')))
      → Holds P past conns said → Holds P' past (change number f conns) said'
  changed_to conns own others holds n =
      elim (cases_Bool (n == number)) [
        | inl is ↦ subst (λ k. IfSome (conn_with (change number f conns) k) (λ c. OnConn P' k c (tables_said k (past ++ said')))) (sym (eqb-true n number is))
            (subst (λ o. IfSome o (λ c. OnConn P' number c (tables_said number (past ++ said')))) (sym (changed_own f same number conns)) (mapped (conn_with conns number) refl (holds number)))
        | inr other ↦
            let differs : n ≡ number → ⊥ = unlike n number other in
            subst (λ o. IfSome o (λ c. OnConn P' n c (tables_said n (past ++ said')))) (sym (changed_other f same number n differs conns)) (kept n differs (conn_with conns n) (holds n))
      ]
    where
      mapped : (o : Option Conn) → conn_with conns number ≡ o → IfSome o (λ c. OnConn P number c (tables_said number (past ++ said)))
          → IfSome (option_map f o) (λ c. OnConn P' number c (tables_said number (past ++ said')))
      mapped None is h = h
      mapped (Some c) is h = own c is h

      kept : (n : ℕ) → (n ≡ number → ⊥) → (o : Option Conn) → IfSome o (λ c. OnConn P n c (tables_said n (past ++ said))) → IfSome o (λ c. OnConn P' n c (tables_said n (past ++ said')))
      kept n differs None h = h
      kept n differs (Some c) h = others n c differs h

-- ---- a message is said

module _ (P P' : Way) (past : List Said) (f : Conn → Conn) (same : (c : Conn) → (f c).number ≡ c.number) (number : ℕ) (m : Message) where
  pub said_to : (w : World)
      → ((c : Conn) → conn_with w.conns number ≡ Some c → OnConn P number c (tables_said number (past ++ w.said))
      → OnConn P' number (f c) (said_more number (tables_said number (past ++ w.said)) (said.Message number m (next_id c.session.last_xid))))
      → ((n : ℕ) (c : Conn) → (n ≡ number → ⊥) → OnConn P n c (tables_said n (past ++ w.said)) → OnConn P' n c (tables_said n (past ++ w.said)))
      → (v : World) → v ≡ option_map_or (say_by f m w) (conn_with w.conns number) w → Holds P past w.conns w.said → Holds P' past v.conns v.said
  said_to w own others v is holds = subst (λ (x : World). Holds P' past x.conns x.said) (sym is) (by (conn_with w.conns number) refl)
    where
      none : conn_with w.conns number ≡ None → (n : ℕ) → (o : Option Conn) → conn_with w.conns n ≡ o → IfSome o (λ c. OnConn P n c (tables_said n (past ++ w.said)))
          → IfSome o (λ c. OnConn P' n c (tables_said n (past ++ w.said)))
      none shut n None is h = h
      none shut n (Some c) is h =
          others n c (λ e. let s : conn_with w.conns number ≡ Some c = ap (conn_with w.conns) (sym e) ∙ is in let bad : ◌≡◌ {A = Option Conn} None (Some c) = sym shut ∙ s in absurd (cc)) h

      spoken : (c : Conn) → conn_with w.conns number ≡ Some c → Holds P' past (change number f w.conns) (w.said ++ said.Message number m (next_id c.session.last_xid) ∷ [])
      spoken c some =
          let x : Said = said.Message number m (next_id c.session.last_xid) in
          changed_to P P' past w.said (w.said ++ x ∷ []) f same number w.conns
          (λ d is h. let it : Some c ≡ Some d = sym some ∙ is in let e : c ≡ d = cc in
          subst (OnConn P' number (f d)) (sym (more_said number past w.said (x ∷ [])))
          (subst (λ (k : Conn). OnConn P' number (f d) (said_more number (tables_said number (past ++ w.said)) (said.Message number m (next_id k.session.last_xid)))) (sym e) (own d is h)))
          (λ n d differs h. subst (OnConn P' n d) (sym (more_said n past w.said (x ∷ []) ∙ other_more n (tables_said n (past ++ w.said)) number m (next_id c.session.last_xid) differs)) (others n d differs h))
          holds

      by : (o : Option Conn) → conn_with w.conns number ≡ o → Holds P' past (option_map_or (say_by f m w) o w).conns (option_map_or (say_by f m w) o w).said
      by None shut = λ n. none shut n (conn_with w.conns n) refl (holds n)
      by (Some c) some =
          subst (λ (k : ℕ). Holds P' past (change k f w.conns) (w.said ++ said.Message k m (next_id c.session.last_xid) ∷ [])) (sym (has_it number w.conns c some)) (spoken c some)

module _ (P P' : Way) (past : List Said) (number : ℕ) (m : Message) (w : World) where
  pub say_to : ((c : Conn) → conn_with w.conns number ≡ Some c → OnConn P number c (tables_said number (past ++ w.said))
      → OnConn P' number (with_said c) (said_more number (tables_said number (past ++ w.said)) (said.Message number m (next_id c.session.last_xid))))
      → ((n : ℕ) (c : Conn) → (n ≡ number → ⊥) → OnConn P n c (tables_said n (past ++ w.said)) → OnConn P' n c (tables_said n (past ++ w.said)))
      → Holds P past w.conns w.said → Holds P' past (say number m w).conns (say number m w).said
  say_to own others holds = said_to P P' past with_said (λ c. refl) number m w own others (say number m w) refl holds

  pub ask_to : ((c : Conn) → conn_with w.conns number ≡ Some c → OnConn P number c (tables_said number (past ++ w.said))
      → OnConn P' number (with_asked c) (said_more number (tables_said number (past ++ w.said)) (said.Message number m (next_id c.session.last_xid))))
      → ((n : ℕ) (c : Conn) → (n ≡ number → ⊥) → OnConn P n c (tables_said n (past ++ w.said)) → OnConn P' n c (tables_said n (past ++ w.said)))
      → Holds P past w.conns w.said → Holds P' past (ask number m w).conns (ask number m w).said
  ask_to own others holds = said_to P P' past with_asked (λ c. refl) number m w own others (ask number m w) refl holds

-- ---- one goes, and one comes

module _ (P P' : Way) (past said : List Said) where
  pub gone_to : (number : ℕ) (conns : List Conn) → ((n : ℕ) (c : Conn) → (n ≡ number → ⊥) → OnConn P n c (tables_said n (past ++ said)) → OnConn P' n c (tables_said n (past ++ said)))
      → Holds P past conns said → Holds P' past (without number conns) said
  gone_to number conns others holds n =
      elim (cases_Bool (n == number)) [
        | inl is ↦ subst (λ k. IfSome (conn_with (without number conns) k) (λ c. OnConn P' k c (tables_said k (past ++ said)))) (sym (eqb-true n number is))
            (subst (λ o. IfSome o (λ c. OnConn P' number c (tables_said number (past ++ said)))) (sym (without_own number conns)) tt)
        | inr other ↦
            let differs : n ≡ number → ⊥ = unlike n number other in
            subst (λ o. IfSome o (λ c. OnConn P' n c (tables_said n (past ++ said)))) (sym (without_other number n differs conns)) (kept n differs (conn_with conns n) (holds n))
      ]
    where
      kept : (n : ℕ) → (n ≡ number → ⊥) → (o : Option Conn) → IfSome o (λ c. OnConn P n c (tables_said n (past ++ said))) → IfSome o (λ c. OnConn P' n c (tables_said n (past ++ said)))
      kept n differs None h = h
      kept n differs (Some c) h = others n c differs h

  pub come_to : (c : Conn) (conns : List Conn) → conn_with conns c.number ≡ None → OnConn P' c.number c (tables_said c.number (past ++ said))
      → ((n : ℕ) (d : Conn) → (n ≡ c.number → ⊥) → OnConn P n d (tables_said n (past ++ said)) → OnConn P' n d (tables_said n (past ++ said)))
      → Holds P past conns said → Holds P' past (put c conns) said
  come_to c conns shut own others holds n =
      elim (cases_Bool (n == c.number)) [
        | inl is ↦ subst (λ k. IfSome (conn_with (put c conns) k) (λ d. OnConn P' k d (tables_said k (past ++ said)))) (sym (eqb-true n c.number is))
            (subst (λ o. IfSome o (λ d. OnConn P' c.number d (tables_said c.number (past ++ said)))) (sym (put_own c conns shut)) own)
        | inr other ↦
            let differs : n ≡ c.number → ⊥ = unlike n c.number other in
            subst (λ o. IfSome o (λ d. OnConn P' n d (tables_said n (past ++ said)))) (sym (put_other c n differs conns)) (kept n differs (conn_with conns n) (holds n))
      ]
    where
      kept : (n : ℕ) → (n ≡ c.number → ⊥) → (o : Option Conn) → IfSome o (λ d. OnConn P n d (tables_said n (past ++ said))) → IfSome o (λ d. OnConn P' n d (tables_said n (past ++ said)))
      kept n differs None h = h
      kept n differs (Some d) h = others n d differs h
