use Rattle.std.proofs.Common.{◌≡◌, sym, ap, ◌∙◌, subst}
use Rattle.std.specs.Str.{IsUtf8}
use Rattle.std.proofs.lemmas.List.{take_all}
use Rattle.prom_text.specs.Samples.{escaped}
use Rattle.prom_text.proofs.Utf8.{escaped_utf8}
use Rattle.prom_text.proofs.spelling.escape_all.Goals as goal

pub returns-clause-text : goal.returns-clause-text
returns-clause-text c =
    let whole : c.loop-byte.made ≡ escaped c.args.value.now =
    c.loop-byte.invariant ∙ ap escaped (take_all c.loop-byte.byte-index c.as_bytes-bytes.result.now c.loop-byte-test.false) ∙ ap escaped c.as_bytes-bytes.ensures.value in
    subst IsUtf8 (sym whole) (escaped_utf8 c.args.value.now c.utf8.value)
