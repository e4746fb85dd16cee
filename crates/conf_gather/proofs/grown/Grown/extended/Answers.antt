use Rattle.std.proofs.Common.{◌≡◌, Some, refl, sym, ap, ◌∙◌}
use Rattle.conf_gather.specs.Joined.{place_of, with_more}
use Rattle.conf_gather.specs.Known.{section_key}
use Rattle.conf_gather.proofs.JoinLemmas.{with_more_none, place_below, there, joins_at}
use Rattle.conf_gather.proofs.KnownLemmas.{keys_joined}
use Rattle.conf_gather.proofs.SectionLemmas.{known_here, more_known}
use Rattle.conf_gather.proofs.grown.Grown.extended.Goals as goal

pub returns-in_default : goal.returns-in_default
returns-in_default c =
    let known = known_here c.self.inside.pairs c.args.self c.args.section c.self.inside.sections c.of.result.now c.self.invariant.1 c.of.ensures c.self.view_is in
    sym (with_more_none (section_key c.args.section) 0 c.args.more.now c.args.self (known.place ∙ c.in_default.is))

pub extend_at-requires : goal.extend_at-requires
extend_at-requires c =
    let known = known_here c.self.inside.pairs c.self.inside.pairs c.args.section c.self.inside.sections c.of.result.now c.self.invariant.1 c.of.ensures refl in
    place_below (section_key c.args.section) c.self.inside.pairs c.in-Some.place (known.place ∙ c.in-Some.is)

pub invariant_of-result : goal.invariant_of-result
invariant_of-result c =
    let known = known_here c.self.inside.pairs c.self.inside.pairs c.args.section c.self.inside.sections c.of.result.now c.self.invariant.1 c.of.ensures refl in
    let place : place_of (section_key c.args.section) 0 c.self.inside.pairs ≡ Some c.in-Some.place = known.place ∙ c.in-Some.is in
    let section = there c.self.inside.pairs c.in-Some.place (place_below (section_key c.args.section) c.self.inside.pairs c.in-Some.place place) in
    let joined : c.in_ok-pairs.pairs ≡ with_more (section_key c.args.section) c.args.more.now c.self.inside.pairs =
    c.in_ok-pairs.ensures section.0 section.1 ∙ sym (joins_at (section_key c.args.section) c.args.more.now c.self.inside.pairs c.in-Some.place section.0 place section.1) in
    rw joined (
      keys_joined (section_key c.args.section) c.args.more.now c.self.inside.pairs c.self.inside.keys c.self.invariant.0,
      more_known c.self.inside.pairs c.args.more.now c.args.section c.in-Some.place c.self.inside.sections c.grow.new.self c.self.invariant.1 place c.in_ok-grow.ensures,
    )

pub returns : goal.returns
returns c =
    let known = known_here c.self.inside.pairs c.self.inside.pairs c.args.section c.self.inside.sections c.of.result.now c.self.invariant.1 c.of.ensures refl in
    let place : place_of (section_key c.args.section) 0 c.self.inside.pairs ≡ Some c.in-Some.place = known.place ∙ c.in-Some.is in
    let section = there c.self.inside.pairs c.in-Some.place (place_below (section_key c.args.section) c.self.inside.pairs c.in-Some.place place) in
    c.in_ok-pairs.ensures section.0 section.1
    ∙ sym (joins_at (section_key c.args.section) c.args.more.now c.self.inside.pairs c.in-Some.place section.0 place section.1)
    ∙ ap (with_more (section_key c.args.section) c.args.more.now) c.self.view_is
