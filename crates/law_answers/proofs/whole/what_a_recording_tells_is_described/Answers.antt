use Rattle.std.proofs.Common.{arith}
use Rattle.hub_drive.proofs.Came.{all_bytes}
use Rattle.law_answers.proofs.Bytes.{so_far_bytes, story_bytes}
use Rattle.law_answers.proofs.Described.{described}
use Rattle.law_answers.proofs.whole.what_a_recording_tells_is_described.Goals as goal

pub returns : goal.returns
returns c =
    let small = all_bytes c.args.recording.now (λ i. omega (arith, c.type_inv.recording i)) in
    record {
      whole = λ conf story closes refused valid is.
          described conf story (λ front. c.whatever_happens_is_right.ensures conf front valid) (c.each_connection_lives_as_it_is_to.ensures conf) (story_bytes c.a_recording_tells_of_bytes.ensures c.args.recording.now story closes refused small is);
      so_far = λ conf story closes valid is.
          described conf story (λ front. c.whatever_happens_is_right.ensures conf front valid) (c.each_connection_lives_as_it_is_to.ensures conf) (so_far_bytes c.a_recording_tells_of_bytes.ensures c.args.recording.now story closes small is);
    }
