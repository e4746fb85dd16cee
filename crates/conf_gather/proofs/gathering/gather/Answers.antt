use Rattle.std.proofs.Common.{◌≡◌, Err, arith}
use Rattle.std.proofs.lemmas.Grind.{common_steps}
use Rattle.conf_gather.proofs.FilesLemmas.{passed_on}
use Rattle.conf_gather.proofs.gathering.gather.Goals as goal

pub returns-in_err-all-clause-files : goal.returns-in_err-all-clause-files
returns-in_err-all-clause-files g c =
    let result : c.from_residual-in_err-all.result ≡ Err c.in_err-all.field-0.0 = grind (arith, common_steps) in
    rw result (passed_on c.in_err-all.ensures.files)
