use Rattle.conf_gather.proofs.GatherLemmas.{told_text, told_unread, no_refusal}
use Rattle.conf_gather.proofs.take.read_tree.Goals as goal

pub returns-in-Ok-clause-told : goal.returns-in-Ok-clause-told
returns-in-Ok-clause-told g c =
    told_text (g.F.Files.contents c.args.files.now) c.args.include.now c.as_str.result.now c.in-Ok.text c.parse_text.result c.as_str.ensures
    c.in-Ok.ensures.present
    (λ told. no_refusal c.in-Ok.text (c.in-Ok.ensures.missing told))
    (rw c.as_slice.ensures at c.parse_text.ensures.told)

pub returns-in-Err-clause-told : goal.returns-in-Err-clause-told
returns-in-Err-clause-told g c =
    rw (c.unread.ensures, c.in_ok-copied.ensures) (told_unread (g.F.Files.contents c.args.files.now) c.args.include.now c.as_str.result.now c.in-Err.why c.as_str.ensures c.in-Err.ensures.absent_only)
