-- In each turn its own line is said, and a line behind each closing, and no other.
use Rattle.std.proofs.Common.{◌≡◌, ℕ, Bool, true, false, Some, List, [], ◌∷◌, ◌++◌, Result, Ok, Err, codes, refl, sym, ap, subst, ◌∙◌, append_assoc, if◌then◌else◌}
use Rattle.std.specs.List.{fold}
use Rattle.std.proofs.lemmas.List.Concat.{flat_map-append}
use Rattle.std.proofs.lemmas.List.Sums.{fold-append}
use Rattle.fg_outside.specs.declared.hub.Happening.{Happening}
use Rattle.fg_outside.specs.declared.hub.Happening.TheVariants as happenings
use Rattle.conf_types.specs.Configuration.{Configuration}
use Rattle.of13_codec.specs.declared.message.Message.TheVariants as messages
use Rattle.switch_session.specs.declared.closing.Closing.{Closing}
use Rattle.ctl_world.specs.declared.said.Said.{Said}
use Rattle.ctl_world.specs.declared.said.Said.TheVariants as told
use Rattle.ctl_world.specs.Connections.{is_open}
use Rattle.ctl_world.specs.Ends.{end_line, ended}
use Rattle.ctl_world.specs.World.{World}
use Rattle.ctl_core.specs.Settlings.{settle}
use Rattle.ctl_life.specs.Life.{closing_for, open_conn}
use Rattle.ctl_life.proofs.Openings.{with_fresh}
use Rattle.ctl_core.specs.Reloading.{accepted, close_each, reload, renew, strays}
use Rattle.ctl_core.specs.Turns.{hear, pass, turn, work}
use Rattle.law_lives.specs.Known.{open_by, open_more}
use Rattle.law_lives.specs.Lines.{HaveTheirLines, own_line, refusal, with_line, with_lines}
use Rattle.law_lives.specs.Told.{Told, as_told}
use Rattle.law_lives.proofs.Fixed.{Any}
use Rattle.law_lives.proofs.Opened.{taken, turn_open}
use Rattle.law_lives.proofs.Walk.{Steps, hear_stays, pass_stays, said_stays, settle_stays, strays_stay, wanted_stays}

module _ (own : List Said) where
  abbrev Lined : World → Type 0
  Lined w = w.said ≡ own ++ with_lines w.said

  more_lined : (w : World) (more : List Said) → with_lines more ≡ more → Lined w → w.said ++ more ≡ own ++ with_lines (w.said ++ more)
  more_lined w more is lined =
      ap (λ (all : List Said). all ++ more) lined ∙ append_assoc own (with_lines w.said) more
      ∙ sym (ap (λ (all : List Said). own ++ all) (flat_map-append with_line w.said more ∙ ap (λ (all : List Said). with_lines w.said ++ all) is))

  single : Steps Any Lined
  single = record {
    changes = λ f is number w lined. lined;
    says = λ number m xid w at lined. more_lined w (told.Message number m xid ∷ []) refl lined;
    closes = λ cause number w any at lined. more_lined w (told.Closing number cause ∷ end_line number cause ∷ []) refl lined;
    knows = λ hosts neighbours w lined. lined;
  }

  settled : (w : World) → Lined w → Lined (settle w)
  settled w lined = settle_stays Any Lined single w lined

module _ (w : World) (silent : w.said ≡ []) where
  none : Lined [] w
  none = subst (λ (all : List Said). all ≡ with_lines all) (sym silent) refl

  one : (line : Said) → with_lines (line ∷ []) ≡ [] → Lined (line ∷ []) (record w { said = w.said ++ line ∷ [] })
  one line no_more =
      subst (λ (all : List Said). all ++ line ∷ [] ≡ line ∷ [] ++ with_lines (all ++ line ∷ [])) (sym silent) (ap (λ (rest : List Said). line ∷ rest) (sym no_more))

  opened_lined : (number : ℕ) (b : Bool) → Lined [] (if b then w else settle (open_conn number w))
  opened_lined number true = none
  opened_lined number false =
      settled [] (open_conn number w) (said_stays Any (Lined []) (single []) number (messages.Hello 4 (Some 16)) (with_fresh number w) none)

  heard_lined : (number : ℕ) (piece : List ℕ) (b : Bool) → Lined [] (if b then hear number piece w else w)
  heard_lined number piece true = hear_stays Any (Lined []) (single []) number (λ conf heard cause is. tt) (λ n. tt) piece w none
  heard_lined number piece false = none

  ended_lined : (number : ℕ) (cause : Closing) (b : Bool) → Lined (if b then end_line number cause ∷ [] else []) (if b then settle (ended cause number w) else w)
  ended_lined number cause true = settled (end_line number cause ∷ []) (ended cause number w) (one (end_line number cause) refl)
  ended_lined number cause false = none

  reloaded_lined : (read : Result Configuration (List ℕ)) → Lined (refusal read) (settle (reload read w))
  reloaded_lined (Ok next) =
      let left : World = close_each (strays next w.conns) w in
      settled [] (reload (Ok next) w) (wanted_stays Any (Lined []) (single []) (renew next left) (strays_stay Any (Lined []) (single []) (λ n. tt) (strays next w.conns) w none))
  reloaded_lined (Err cause) = settled (refusal (Err cause)) (reload (Err cause) w) (one (told.Line (codes "reload: " ++ cause)) refl)

  work_lined : (before : List Told) → ((n : ℕ) → open_by n before ≡ is_open w.conns n) → (h : Happening) → Lined (own_line before h) (work h w)
  work_lined before same (happenings.Opened number) = opened_lined number (is_open w.conns number)
  work_lined before same (happenings.Heard number piece) = heard_lined number piece (is_open w.conns number)
  work_lined before same (happenings.Closed number cause) =
      subst (λ (b : Bool). Lined (if b then end_line number (closing_for cause) ∷ [] else []) (work (happenings.Closed number cause) w)) (sym (same number))
      (ended_lined number (closing_for cause) (is_open w.conns number))
  work_lined before same (happenings.Moment moment) = settled [] (pass moment w) (pass_stays Any (Lined []) (single []) (λ n. tt) moment w none)
  work_lined before same (happenings.Reload text) = reloaded_lined (accepted text)

-- open connections are those that were told
abbrev pub AreTold : List Told → World → Type 0
AreTold before w = (n : ℕ) → open_by n before ≡ is_open w.conns n

pub told_more : (before : List Told) (h : Happening) (w : World) → AreTold before w → AreTold (before ++ taken h w ∷ []) (turn h w)
told_more before h w same n =
    fold-append (open_more n) false before (taken h w ∷ []) ∙ ap (λ (b : Bool). open_more n b (taken h w)) (same n) ∙ turn_open h w n

pub have_lines : (before : List Told) (w : World) (story : List Happening) → AreTold before w → HaveTheirLines before (as_told w story)
have_lines before w [] same = tt
have_lines before w (h ∷ hs) same =
    (work_lined (record w { said = [] }) refl before same h, have_lines (before ++ taken h w ∷ []) (turn h w) hs (told_more before h w same))
