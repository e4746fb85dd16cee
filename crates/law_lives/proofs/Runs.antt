-- A log as far as a turn has come, and what holds of the lives in it and of the connections.
use Rattle.std.proofs.Common.{◌≡◌, ℕ, ◌==◌, Bool, true, false, Option, Some, None, List, [], ◌∷◌, ◌++◌, inl, inr, refl, sym, ap, subst, ◌∙◌, append_assoc, append-nil, eq-eqb, true≢false, if◌then◌else◌}
use Rattle.std.specs.List.{AllByRecursion, concat}
use Rattle.std.specs.Option.{option_map, option_map_or}
use Rattle.std.proofs.lemmas.Bool.{cases_Bool, eqb-true}
use Rattle.net_base.specs.declared.numbers.DpId.{DpId}
use Rattle.fg_outside.specs.declared.hub.Happening.{Happening}
use Rattle.of_match.proofs.AfterOrder.{all_append}
use Rattle.of13_codec.specs.declared.message.Message.{Message}
use Rattle.switch_session.specs.declared.closing.Closing.{Closing}
use Rattle.switch_session.specs.Connections.{next_id}
use Rattle.switch_session.specs.Frames.{IsFrame}
use Rattle.ctl_world.specs.declared.conns.Conn.{Conn}
use Rattle.ctl_world.specs.declared.said.Said.{Said}
use Rattle.ctl_world.specs.declared.said.Said.TheVariants as told
use Rattle.ctl_world.specs.Connections.{change, conn_with, without}
use Rattle.ctl_world.specs.Ends.{close, end_line}
use Rattle.ctl_world.specs.Saying.{say_by}
use Rattle.ctl_world.specs.World.{World}
use Rattle.ctl_world.proofs.Numbered.{apart, changed_other, changed_own, has_it, unlike, without_other, without_own}
use Rattle.law_lives.specs.Lives.{Life, Lives, Note, came, noted, noted_all, shut, speaks, went}
use Rattle.law_lives.specs.Sessions.{AreApart, EachMayStand, Has, IsIn, MayStand, MaySay, said_of}
use Rattle.law_lives.proofs.Meets.{ByStage}

-- ---- one connection

-- what holds of a life beside its bytes and its session, and of its connection
abbrev pub Way : Type 1
Way = Life → Conn → Type 0

pub record Lived (T : Life → Conn → Type 0) (l : Life) (c : Conn) : Type 0 where
  pub open_ : l.is_open ≡ true
  pub bytes : l.bytes ≡ concat l.frames ++ c.session.unread
  pub frames : AllByRecursion IsFrame l.frames
  pub last : l.last ≡ c.session.heard.0
  pub state : l.state ≡ c.session.state
  pub holds : T l c

pub record Ended (l : Life) : Type 0 where
  pub gone : l.is_open ≡ false
  pub rest : List ℕ
  pub bytes : l.bytes ≡ concat l.frames ++ rest
  pub frames : AllByRecursion IsFrame l.frames
  pub echoes : l.answered ≡ l.asked

abbrev pub Of : Way → Life → Option Conn → Type 0
Of T l None = Ended l
Of T l (Some c) = Lived T l c

-- between what is done for two messages
abbrev pub Calm : Life → Conn → Type 0
Calm l c = (l.dp ≡ c.dp) × ByStage l.state.stage l.dp l.steps l.barrier l.state.awaited × (l.answered ≡ l.asked)

-- ---- all of them, the one with a number apart

abbrev pub Alone : ℕ → Lives → Type 0
Alone number lives = (k : ℕ) (dp : DpId) → (k ≡ number → ⊥) → Has (lives number) dp → Has (lives k) dp → ⊥

pub record Fit (number : ℕ) (T : Life → Conn → Type 0) (b : Bool) (lives : Lives) (conns : List Conn) : Type 0 where
  pub own : Of T (lives number) (conn_with conns number)
  pub others : (n : ℕ) → (n ≡ number → ⊥) → Of Calm (lives n) (conn_with conns n)
  pub apart : (x y : ℕ) (dp : DpId) → (x ≡ number → ⊥) → (y ≡ number → ⊥) → Has (lives x) dp → Has (lives y) dp → x ≡ y
  pub alone : b ≡ true → Alone number lives

pub record Full (lives : Lives) (conns : List Conn) : Type 0 where
  pub each : (n : ℕ) → Of Calm (lives n) (conn_with conns n)
  pub apart : AreApart lives

pub fit_of : (number : ℕ) (lives : Lives) (conns : List Conn) → Full lives conns → Fit number Calm true lives conns
fit_of number lives conns full = record {
  own = full.each number;
  others = λ n differs. full.each n;
  apart = λ x y dp dx dy hx hy. full.apart x y dp hx hy;
  alone = λ yes k dp differs own other. differs (full.apart k number dp other own);
}

pub full_of : (number : ℕ) (lives : Lives) (conns : List Conn) → Fit number Calm true lives conns → Full lives conns
full_of number lives conns fit = record {
  each = λ n. elim (cases_Bool (n == number)) [
    | inl is ↦ subst (λ (k : ℕ). Of Calm (lives k) (conn_with conns k)) (sym (eqb-true n number is)) fit.own
    | inr other ↦ fit.others n (unlike n number other)
  ];
  apart = λ x y dp hx hy. elim (cases_Bool (x == number)) [
    | inl at_x ↦ elim (cases_Bool (y == number)) [
      | inl at_y ↦ eqb-true x number at_x ∙ sym (eqb-true y number at_y)
      | inr off_y ↦
          absurd (fit.alone refl y dp (unlike y number off_y) (subst (λ (k : ℕ). Has (lives k) dp) (eqb-true x number at_x) hx) hy)
    ]
    | inr off_x ↦ elim (cases_Bool (y == number)) [
      | inl at_y ↦
          absurd (fit.alone refl x dp (unlike x number off_x) (subst (λ (k : ℕ). Has (lives k) dp) (eqb-true y number at_y) hy) hx)
      | inr off_y ↦ fit.apart x y dp (unlike x number off_x) (unlike y number off_y) hx hy
    ]
  ];
}

-- ---- a note about one connection

module _ (number : ℕ) (f : Life → Life) where
  abbrev pub about : Lives → Lives
  about lives n = if number == n then f (lives n) else lives n

  pub about_own : (lives : Lives) → about lives number ≡ f (lives number)
  about_own lives = ap (λ (b : Bool). if b then f (lives number) else lives number) (eq-eqb number number refl)

  pub about_other : (lives : Lives) (n : ℕ) → (n ≡ number → ⊥) → about lives n ≡ lives n
  about_other lives n differs = ap (λ (b : Bool). if b then f (lives n) else lives n) (apart number n (λ is. differs (sym is)))

  pub fit_at : (T T' : Way) (b b' : Bool) (lives : Lives) (conns conns' : List Conn) → ((n : ℕ) → (n ≡ number → ⊥) → conn_with conns' n ≡ conn_with conns n)
      → Of T' (f (lives number)) (conn_with conns' number)
      → (b' ≡ true → (k : ℕ) (dp : DpId) → (k ≡ number → ⊥) → Has (f (lives number)) dp → Has (lives k) dp → ⊥)
      → Fit number T b lives conns → Fit number T' b' (about lives) conns'
  fit_at T T' b b' lives conns conns' same own alone fit = record {
    own = subst (λ (l : Life). Of T' l (conn_with conns' number)) (sym (about_own lives)) own;
    others = λ n differs.
        subst (λ (l : Life). Of Calm l (conn_with conns' n)) (sym (about_other lives n differs)) (subst (Of Calm (lives n)) (sym (same n differs)) (fit.others n differs));
    apart = λ x y dp dx dy hx hy.
        fit.apart x y dp dx dy (subst (λ (l : Life). Has l dp) (about_other lives x dx) hx) (subst (λ (l : Life). Has l dp) (about_other lives y dy) hy);
    alone = λ yes k dp differs own_has other_has.
        alone yes k dp differs (subst (λ (l : Life). Has l dp) (about_own lives) own_has) (subst (λ (l : Life). Has l dp) (about_other lives k differs) other_has);
  }

-- the connection itself is changed, and no note is made of that
pub fit_changed : (number : ℕ) (f : Conn → Conn) → ((c : Conn) → (f c).number ≡ c.number) → (T T' : Way) (b : Bool) (lives : Lives) (conns : List Conn)
    → ((c : Conn) → conn_with conns number ≡ Some c → Lived T (lives number) c → Lived T' (lives number) (f c)) → Fit number T b lives conns → Fit number T' b lives (change number f conns)
fit_changed number f same T T' b lives conns kept fit = record {
  own = subst (Of T' (lives number)) (sym (changed_own f same number conns)) (by (conn_with conns number) refl fit.own);
  others = λ n differs. subst (Of Calm (lives n)) (sym (changed_other f same number n differs conns)) (fit.others n differs);
  apart = fit.apart;
  alone = fit.alone;
}
  where
    by : (o : Option Conn) → conn_with conns number ≡ o → Of T (lives number) o → Of T' (lives number) (option_map f o)
    by None is own = own
    by (Some c) is own = kept c is own

-- ---- a log

said_of_more : (xs ys : List Note) → said_of (xs ++ ys) ≡ said_of xs ++ said_of ys
said_of_more [] ys = refl
said_of_more (came number frame said ∷ xs) ys = said_of_more xs ys
said_of_more (went said ∷ xs) ys = ap (λ (s : List Said). said ∷ s) (said_of_more xs ys)

noted_all_more : (xs : List Note) (x : Note) (lives : Lives) → noted_all (xs ++ x ∷ []) lives ≡ noted x (noted_all xs lives)
noted_all_more [] x lives = refl
noted_all_more (y ∷ ys) x lives = noted_all_more ys x (noted y lives)

each_more : (xs : List Note) (x : Note) (lives : Lives) → EachMayStand xs lives → MayStand x (noted_all xs lives) → EachMayStand (xs ++ x ∷ []) lives
each_more [] x lives each may = (may, tt)
each_more (y ∷ ys) x lives each may = (each.0, each_more ys x (noted y lives) each.1 may)

module _ (what : Happening) (start : Lives) where
  pub record Runs (R : Lives → List Conn → Type 0) (conns : List Conn) (said : List Said) : Type 0 where
    pub notes : List Note
    pub within : AllByRecursion (IsIn what) notes
    pub told : said_of notes ≡ said
    pub each : EachMayStand notes start
    pub now : R (noted_all notes start) conns

  pub still : (R R' : Lives → List Conn → Type 0) (conns conns' : List Conn) (said : List Said) → ((lives : Lives) → R lives conns → R' lives conns') → Runs R conns said → Runs R' conns' said
  still R R' conns conns' said kept runs = record { notes = runs.notes; within = runs.within; told = runs.told; each = runs.each; now = kept (noted_all runs.notes start) runs.now }

  one_note : (x : Note) → IsIn what x → (R R' : Lives → List Conn → Type 0) (conns conns' : List Conn) (said : List Said)
      → ((lives : Lives) → R lives conns → MayStand x lives × R' (noted x lives) conns') → Runs R conns said → Runs R' conns' (said ++ said_of (x ∷ []))
  one_note x in_it R R' conns conns' said grows runs =
      let g = grows (noted_all runs.notes start) runs.now in
      record {
        notes = runs.notes ++ x ∷ [];
        within = all_append (IsIn what) runs.notes (x ∷ []) runs.within (in_it, tt);
        told = said_of_more runs.notes (x ∷ []) ∙ ap (λ (s : List Said). s ++ said_of (x ∷ [])) runs.told;
        each = each_more runs.notes x start runs.each g.0;
        now = subst (λ (lives : Lives). R' lives conns') (sym (noted_all_more runs.notes x start)) g.1;
      }

  pub more : (x : Said) (R R' : Lives → List Conn → Type 0) (conns conns' : List Conn) (said : List Said)
      → ((lives : Lives) → R lives conns → MayStand (went x) lives × R' (noted (went x) lives) conns') → Runs R conns said → Runs R' conns' (said ++ x ∷ [])
  more x R R' conns conns' said grows runs = one_note (went x) tt R R' conns conns' said grows runs

  -- a frame
  pub frame_more : (number : ℕ) (frame : List ℕ) (said : Option (Message × ℕ)) → IsIn what (came number frame said) → (R R' : Lives → List Conn → Type 0) (conns conns' : List Conn) (before : List Said)
      → ((lives : Lives) → R lives conns → MayStand (came number frame said) lives × R' (noted (came number frame said) lives) conns') → Runs R conns before → Runs R' conns' before
  frame_more number frame said in_it R R' conns conns' before grows runs =
      subst (Runs R' conns') (append-nil before) (one_note (came number frame said) in_it R R' conns conns' before grows runs)

  pub to_full : (number : ℕ) (conns : List Conn) (said : List Said) → Runs (Fit number Calm true) conns said → Runs Full conns said
  to_full number conns said = still (Fit number Calm true) Full conns conns said (λ lives fit. full_of number lives conns fit)

  pub of_full : (number : ℕ) (conns : List Conn) (said : List Said) → Runs Full conns said → Runs (Fit number Calm true) conns said
  of_full number conns said = still Full (Fit number Calm true) conns conns said (λ lives full. fit_of number lives conns full)

  -- ---- a message is said

  module _ (number : ℕ) (m : Message) (f : Conn → Conn) (same : (c : Conn) → (f c).number ≡ c.number) (T T' : Way) (b b' : Bool) where
    pub spoken : (w : World)
        → ((lives : Lives) (c : Conn) → conn_with w.conns number ≡ Some c → Lived T (lives number) c → Fit number T b lives w.conns
        → MaySay number m lives × Lived T' (speaks m (next_id c.session.last_xid) (lives number)) (f c) × (b' ≡ true → Alone number lives))
        → Runs (Fit number T b) w.conns w.said
        → Runs (Fit number T' b') (option_map_or (say_by f m w) (conn_with w.conns number) w).conns (option_map_or (say_by f m w) (conn_with w.conns number) w).said
    spoken w grows runs = by (conn_with w.conns number) refl
      where
        own_at : (lives : Lives) (o : Option Conn) → conn_with w.conns number ≡ o → Fit number T b lives w.conns → Of T (lives number) o
        own_at lives o is fit = subst (Of T (lives number)) is fit.own

        by : (o : Option Conn) → conn_with w.conns number ≡ o → Runs (Fit number T' b') (option_map_or (say_by f m w) o w).conns (option_map_or (say_by f m w) o w).said
        by None is =
            still (Fit number T b) (Fit number T' b') w.conns w.conns w.said
            (λ lives fit. let own : Ended (lives number) = own_at lives None is fit in record {
              own = subst (Of T' (lives number)) (sym is) own;
              others = fit.others;
              apart = fit.apart;
              alone = λ yes k dp differs has other. absurd (true≢false (sym has.0 ∙ own.gone));
            })
            runs
        by (Some c) is =
            let xid : ℕ = next_id c.session.last_xid in
            subst (λ (k : ℕ). Runs (Fit number T' b') (change k f w.conns) (w.said ++ told.Message k m xid ∷ [])) (sym (has_it number w.conns c is))
            (more (told.Message number m xid) (Fit number T b) (Fit number T' b') w.conns (change number f w.conns) w.said
            (λ lives fit.
            let g = grows lives c is (own_at lives (Some c) is fit) fit in (
              g.0,
              fit_at number (speaks m xid) T T' b b' lives w.conns (change number f w.conns) (λ n differs. changed_other f same number n differs w.conns)
                  (subst (Of T' (speaks m xid (lives number))) (sym (changed_own f same number w.conns ∙ ap (option_map f) is)) g.1)
                  (λ yes k dp differs has other. g.2 yes k dp differs has other)
                  fit,
            ))
            runs)

  -- ---- it is closed

  pub closes : (T : Way) → ((l : Life) (c : Conn) → T l c → l.answered ≡ l.asked) → (b : Bool) (cause : Closing) (number : ℕ) (w : World) → Runs (Fit number T b) w.conns w.said
      → Runs Full (close cause number w).conns (close cause number w).said
  closes T echoes b cause number w runs =
      let left : List Conn = without number w.conns in
      let x : Said = told.Closing number cause in
      let line : Said = end_line number cause in
      subst (Runs Full left) (append_assoc w.said (x ∷ []) (line ∷ []))
      (more line Full Full left left (w.said ++ x ∷ []) (λ lives full. (tt, full))
      (to_full number left (w.said ++ x ∷ [])
      (more x (Fit number T b) (Fit number Calm true) w.conns left w.said
      (λ lives fit. (
        tt,
        fit_at number shut T Calm b true lives w.conns left (λ n differs. without_other number n differs w.conns)
            (subst (Of Calm (shut (lives number))) (sym (without_own number w.conns)) (ended lives (conn_with w.conns number) fit.own))
            (λ yes k dp differs has other. absurd (true≢false (sym has.0)))
            fit,
      ))
      runs)))
    where
      ended : (lives : Lives) (o : Option Conn) → Of T (lives number) o → Ended (shut (lives number))
      ended lives None own = record { gone = refl; rest = own.rest; bytes = own.bytes; frames = own.frames; echoes = own.echoes }
      ended lives (Some c) own = record { gone = refl; rest = c.session.unread; bytes = own.bytes; frames = own.frames; echoes = echoes (lives number) c own.holds }
