-- One turn: what was done about it up to a point.
use Rattle.std.proofs.Common.{◌≡◌, ℕ, List, Option, Some, ap, ◌∙◌}
use Rattle.std.specs.List.{flat_map}
use Rattle.fg_outside.specs.declared.hub.Happening.{Happening}
use Rattle.fg_outside.specs.HubStep.{HubStep}
use Rattle.fg_outside.specs.Wrote.{appended, AppendsFront}
use Rattle.fg_outside.proofs.SinkLemmas.{AppendsFront-none}
use Rattle.ctl_life.specs.declared.saying.Saying.{Saying}
use Rattle.hub_drive.specs.declared.sayings.Outlet.{Outlet}
use Rattle.hub_drive.specs.Driving.{deeds_by, line_by, sayings_of, turn_lines, turn_out, written_on}
use Rattle.hub_drive.specs.Machine.{Workings, printed}
use Rattle.hub_drive.specs.Driven.{Tells, TellsPart, Answers, AnswersPart}
use Rattle.hub_drive.proofs.Stories.{front-same, front-whole}
use Rattle.hub_drive.proofs.Telling.{Tells-same, TellsPart-none, TellsPart-same, TellsPart-whole}

module _ {S H : Type 0} (m : Workings S) (may : H → HubStep → H → Type 0) (outlet : Outlet) (h : Happening) (w : S) where
  -- nothing was done
  pub nothing_done : (hub : H) (out err : Option (List ℕ)) → AnswersPart m may outlet h w hub hub out out err err
  nothing_done hub out err = record {
    told = TellsPart-none may hub (flat_map (deeds_by outlet) (sayings_of m h w));
    out = AppendsFront-none out (turn_out m outlet h w);
    err = AppendsFront-none err (turn_lines m h w);
  }

  module _ (sayings : List Saying) (is : sayings ≡ sayings_of m h w) (old new : H) where
    same_deeds : flat_map (deeds_by outlet) sayings ≡ flat_map (deeds_by outlet) (sayings_of m h w)
    same_deeds = ap (λ (l : List Saying). flat_map (deeds_by outlet) l) is

    -- the hub was told all
    pub whole_told : Tells may old (flat_map (deeds_by outlet) sayings) new → Tells may old (flat_map (deeds_by outlet) (sayings_of m h w)) new
    whole_told told = Tells-same may old new (flat_map (deeds_by outlet) sayings) (flat_map (deeds_by outlet) (sayings_of m h w)) same_deeds told

    -- the hub was told a part
    pub part_told : (out err : Option (List ℕ)) → TellsPart may old (flat_map (deeds_by outlet) sayings) new → AnswersPart m may outlet h w old new out out err err
    part_told out err told = record {
      told = TellsPart-same may old new (flat_map (deeds_by outlet) sayings) (flat_map (deeds_by outlet) (sayings_of m h w)) same_deeds told;
      out = AppendsFront-none out (turn_out m outlet h w);
      err = AppendsFront-none err (turn_lines m h w);
    }

    module _ (moment : ℕ) (at : moment ≡ m.moment (m.turn h w)) (prints : List ℕ) (printed_is : prints ≡ printed m (m.turn h w)) (bytes lines : List ℕ) (made : bytes ≡ written_on outlet moment sayings prints) (lined : lines ≡ flat_map line_by sayings)
        (told : Tells may old (flat_map (deeds_by outlet) sayings) new) where
      same_bytes : bytes ≡ turn_out m outlet h w
      same_bytes =
          made
          ∙ ap (λ n. written_on outlet n sayings prints) at
          ∙ ap (λ (l : List Saying). written_on outlet (m.moment (m.turn h w)) l prints) is
          ∙ ap (λ (l : List ℕ). written_on outlet (m.moment (m.turn h w)) (sayings_of m h w) l) printed_is

      same_lines : lines ≡ turn_lines m h w
      same_lines = lined ∙ ap (λ (l : List Saying). flat_map line_by l) is

      all_told : Tells may old (flat_map (deeds_by outlet) (sayings_of m h w)) new
      all_told = whole_told told

      -- it was told all, and a part of what goes to standard output was written
      pub part_written : (out_old out_new err : Option (List ℕ)) → AppendsFront out_old out_new bytes → AnswersPart m may outlet h w old new out_old out_new err err
      part_written out_old out_new err front = record {
        told = TellsPart-whole may old new (flat_map (deeds_by outlet) (sayings_of m h w)) all_told;
        out = front-same out_old out_new bytes (turn_out m outlet h w) same_bytes front;
        err = AppendsFront-none err (turn_lines m h w);
      }

      -- all of that was written, and a part of the lines
      pub part_lined : (out_old out_new err_old err_new : Option (List ℕ)) → out_new ≡ appended out_old bytes → AppendsFront err_old err_new lines → AnswersPart m may outlet h w old new out_old out_new err_old err_new
      part_lined out_old out_new err_old err_new wrote front = record {
        told = TellsPart-whole may old new (flat_map (deeds_by outlet) (sayings_of m h w)) all_told;
        out = front-same out_old out_new bytes (turn_out m outlet h w) same_bytes (front-whole out_old out_new bytes wrote);
        err = front-same err_old err_new lines (turn_lines m h w) same_lines front;
      }

      -- all was done
      pub all_done : (out_old out_new err_old err_new : Option (List ℕ)) → out_new ≡ appended out_old bytes → err_new ≡ appended err_old lines → Answers m may outlet h w old new out_old out_new err_old err_new
      all_done out_old out_new err_old err_new wrote lines_wrote = record {
        told = all_told;
        out = wrote ∙ ap (λ (l : List ℕ). appended out_old l) same_bytes;
        err = lines_wrote ∙ ap (λ (l : List ℕ). appended err_old l) same_lines;
      }
