-- The same is written of recordings that are the same but for where bytes are cut.
use Rattle.std.proofs.Common.{◌≡◌, ℕ, List, Option, None, refl, sym, ap, ◌∙◌}
use Rattle.fg_outside.specs.Wrote.{appended}
use Rattle.fg_outside.specs.declared.hub.Happening.{Happening}
use Rattle.conf_types.specs.Configuration.{Configuration}
use Rattle.recording.specs.declared.record.Record.{Record}
use Rattle.recording.specs.Recording.{Records}
use Rattle.recording.specs.Turns.{turns}
use Rattle.recording.specs.Written.{WrittenRecord, written_records}
use Rattle.recording.proofs.Grammar.{one_list}
use Rattle.ctl_world.specs.World.{first}
use Rattle.recording.specs.Script.{IsStoryOf}
use Rattle.ctl_drive.specs.Replay.{WritesAll, closed_in}
use Rattle.law_recordings.specs.Cuts.{SameButCuts, WritesTheSame}
use Rattle.law_recordings.proofs.Alike.{Alike}
use Rattle.law_recordings.proofs.Cutting.{alike_stories}

pub same_written : (conf : Configuration) (records others : List Record) (story other : List Happening) → SameButCuts records others
    → story ≡ turns records (closed_in conf story) → other ≡ turns others (closed_in conf other) → WritesTheSame conf story other
same_written conf records others story other but is other_is =
    let alike : Alike (first conf) story other = alike_stories (first conf) records others story other but is other_is in
    record { records = alike.records; lines = alike.lines }

-- the story of a whole recording is that of its records
of_records : (conf : Configuration) (bytes : List ℕ) (records : List Record) (story : List Happening) → Records bytes records
    → IsStoryOf bytes story (closed_in conf story) None → story ≡ turns records (closed_in conf story)
of_records conf bytes records story are is =
    is.told ∙ ap (λ (rs : List Record). turns rs (closed_in conf story)) (one_list bytes is.records records (is.whole refl) are)

pub same_of_bytes : (conf : Configuration) (bytes other_bytes : List ℕ) (records others : List Record) (story other : List Happening)
    → Records bytes records → Records other_bytes others → SameButCuts records others
    → IsStoryOf bytes story (closed_in conf story) None → IsStoryOf other_bytes other (closed_in conf other) None → WritesTheSame conf story other
same_of_bytes conf bytes other_bytes records others story other are other_are but is other_is =
    same_written conf records others story other but (of_records conf bytes records story are is) (of_records conf other_bytes others other other_are other_is)

-- what stands on the streams, where both are answered whole
pub same_streams : (conf : Configuration) (bytes other_bytes : List ℕ) (records others : List Record) (story other : List Happening)
    (out_old out other_out err_old err other_err : Option (List ℕ))
    → Records bytes records → Records other_bytes others → SameButCuts records others
    → IsStoryOf bytes story (closed_in conf story) None → IsStoryOf other_bytes other (closed_in conf other) None
    → WritesAll conf story out_old out err_old err → WritesAll conf other out_old other_out err_old other_err
    → (out ≡ other_out) × (err ≡ other_err)
same_streams conf bytes other_bytes records others story other out_old out other_out err_old err other_err are other_are but is other_is all other_all =
    let same : WritesTheSame conf story other = same_of_bytes conf bytes other_bytes records others story other are other_are but is other_is in (
      all.out ∙ ap (λ (l : List WrittenRecord). appended out_old (written_records l)) same.records ∙ sym other_all.out,
      all.err ∙ ap (λ (l : List ℕ). appended err_old l) same.lines ∙ sym other_all.err,
    )
