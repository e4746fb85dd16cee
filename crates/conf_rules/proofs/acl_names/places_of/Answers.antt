use Rattle.std.proofs.Common.{length, option_and_then, string_bytes, ap, ◌∙◌, arith}
use Rattle.std.specs.BTreeMap.{is_at}
use Rattle.std.specs.Cmp.Lexicographic.{slice_cmp}
use Rattle.std.specs.List.{slice_get}
use Rattle.std.specs.Map.{lookup}
use Rattle.std.specs.Ordering.{nat_cmp}
use Rattle.conf_types.specs.declared.acl.Acl.{Acl}
use Rattle.conf_types.specs.Lists.{is_same}
use Rattle.conf_rules.proofs.FirstPlaces.{none_found, placed_more}
use Rattle.conf_rules.proofs.acl_names.places_of.Goals as goal

pub loop-i-init : goal.loop-i-init
loop-i-init c = λ t.
    ap (λ es. option_and_then (slice_get c.args.acls.now) (lookup (is_at (λ k. slice_cmp nat_cmp t (string_bytes k))) es)) c.new-places.ensures.empty
    ∙ none_found (λ (a : Acl). is_same a.name t) c.args.acls.now (length c.args.acls.now) (omega arith)

pub loop-i-preserved : goal.loop-i-preserved
loop-i-preserved c = λ t.
    placed_more (λ (a : Acl). is_same a.name t) c.args.acls.now c.loop-i.i _ c.index-acls-i.result _ _ (omega arith) (omega arith) c.index-acls-i.is (c.loop-i.invariant t) (c.in_ok-add_acl.ensures t)
