use Rattle.std.proofs.Common.{◌≡◌, List, [], ◌∷◌, ◌++◌, length, false, Option, is_some, IfSome, sym, ap, subst, ◌∙◌}
use Rattle.yaml_tree.specs.declared.tree.Pair.{Pair}
use Rattle.conf_shape.specs.Reads.{entries_of}
use Rattle.conf_gather.specs.declared.keys.Section.{Section}
use Rattle.conf_gather.specs.Known.{AreKeysOf, section_key, AreKnown, GrowsIn}
use Rattle.conf_gather.specs.WrongTypes.{value_of, is_section}
use Rattle.conf_gather.proofs.KnownLemmas.{keys_push}
use Rattle.conf_gather.proofs.SectionLemmas.{new_known, other_known}
use Rattle.conf_gather.proofs.grown.Grown.with.Goals.{in-Some+in_ok-grow, in_default}
use Rattle.conf_gather.proofs.grown.Grown.with.Goals as goal

pub invariant_of-result : goal.invariant_of-result
invariant_of-result c =
    let keys : AreKeysOf (c.self.inside.pairs ++ c.args.pair ∷ []) c.add.new.self = keys_push c.self.inside.pairs c.args.pair c.self.inside.keys c.add.new.self c.self.invariant.0 c.in_ok-add.ensures in
    let none : is_some (value_of c.args.pair.key c.self.inside.pairs) ≡ false = ap (λ (l : List Pair). is_some (value_of c.args.pair.key l)) c.self.view_is ∙ c.requires in
    let known : AreKnown (c.self.inside.pairs ++ c.args.pair ∷ []) c.match-section_of.sections =
    elim c.match-section_of.branch [
      | in-Some+in_ok-grow w ↦
          let key : c.args.pair.key ≡ section_key w.in-Some.section = subst (λ (o : Option Section). IfSome o (λ section. c.args.pair.key ≡ section_key section)) w.in-Some.is c.section_of.ensures.key in
          let grows : GrowsIn w.in-Some.section (length c.self.inside.pairs) (entries_of c.args.pair.value) c.self.inside.sections w.grow.new.self = rw w.len.ensures at (rw w.as_entries.ensures at w.in_ok-grow.ensures) in
          rw w.sections-is (new_known c.self.inside.pairs c.args.pair w.in-Some.section c.self.inside.sections w.grow.new.self c.self.invariant.1 key none grows)
      | in_default w ↦
          let other : is_section c.args.pair.key ≡ false = sym c.section_of.ensures.found ∙ ap (λ (o : Option Section). is_some o) w.in_default.is in
          rw w.sections-is (other_known c.self.inside.pairs c.args.pair c.self.inside.sections c.self.invariant.1 other)
    ] in
    rw c.in_ok-push.ensures.ok (keys, known)
