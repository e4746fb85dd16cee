use Rattle.std.proofs.Common.{List, option_and_then, ap, ◌∙◌}
use Rattle.std.specs.List.{slice_get}
use Rattle.conf_types.specs.declared.acl.Acl.{Acl}
use Rattle.conf_types.specs.Attached.{acl_named}
use Rattle.conf_types.specs.Configuration.{Configuration}
use Rattle.conf_rules.proofs.acl_names.AclNames.find.Goals as goal

pub returns : goal.returns
returns c =
    let name = c.args.name.now in
    c.acl_at.ensures
    ∙ ap (λ (acls : List Acl). option_and_then (slice_get acls) c.place_of.result) (c.as_slice.ensures ∙ c.acls.ensures)
    ∙ ap (option_and_then (slice_get c.self.inside.conf.now.acls)) c.place_of.ensures
    ∙ c.self.invariant name
    ∙ ap (λ (conf : Configuration). acl_named conf.acls name) c.self.view_is
