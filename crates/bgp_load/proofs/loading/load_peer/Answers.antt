use Rattle.std.proofs.Common.{◌≡◌, Result, Err, ap, arith}
use Rattle.std.proofs.lemmas.Grind.{common_steps}
use Rattle.yaml_tree.specs.declared.tree.Tree.{Tree}
use Rattle.conf_gather.specs.declared.refused.LoadRefused.{LoadRefused}
use Rattle.conf_gather.specs.declared.refused.LoadRefused.TheVariants.{Read}
use Rattle.conf_gather.specs.Gathered.{gathered}
use Rattle.conf_gather.specs.Gives.{◌>>=◌}
use Rattle.conf_gather.proofs.FilesLemmas.{never_unread}
use Rattle.conf_gather.proofs.GatherLemmas.{fails_first, other_err}
use Rattle.conf_load.proofs.LoadLemmas.{gathered_first}
use Rattle.bgp_load.specs.Peers.{peer_of}
use Rattle.bgp_load.proofs.loading.load_peer.Goals as goal

pub returns-in_err-tree-clause-told : goal.returns-in_err-tree-clause-told
returns-in_err-tree-clause-told g c = λ held told.
    let result : c.from_residual.result ≡ Err c.in_err-tree.field-0.0 = grind (arith, common_steps) in
    rw result (fails_first c.in_err-tree.field-0.0 (gathered (held 0) c.args.name.now) (peer_of c.args.router.now) (c.in_err-tree.ensures.told held told))

pub returns-clause-told : goal.returns-clause-told
returns-clause-told g c = λ held told.
    gathered_first (peer_of c.args.router.now) c.peer_of.result c.in_ok-tree.tree (gathered (held 0) c.args.name.now) (c.in_ok-tree.ensures.told held told) c.peer_of.ensures.told

pub returns-in_err-tree-clause-unread : goal.returns-in_err-tree-clause-unread
returns-in_err-tree-clause-unread g c = λ held file told err.
    let result : c.from_residual.result ≡ Err c.in_err-tree.field-0.0 = grind (arith, common_steps) in
    ap (λ (r : Result Tree LoadRefused). r >>= peer_of c.args.router.now) (c.in_err-tree.ensures.unread held file told (other_err c.in_err-tree.field-0.0 (Read file) (rw result at err)))

pub returns-clause-unread : goal.returns-clause-unread
returns-clause-unread g c = λ held file told err. absurd (never_unread c.peer_of.result file c.peer_of.ensures.within err)
