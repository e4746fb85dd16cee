-- Behind each settling of a story no neighbour is due, and so the asks of all that were are said.
use Rattle.std.proofs.Common.{◌≡◌, ℕ, None, List, [], ◌∷◌, refl, sym, ◌∙◌}
use Rattle.std.specs.List.{AllByRecursion}
use Rattle.net_base.specs.declared.numbers.Moment.{Moment}
use Rattle.fg_outside.specs.declared.hub.Happening.{Happening}
use Rattle.conf_types.specs.Configuration.{Configuration}
use Rattle.conf_types.specs.Valid.{IsValid}
use Rattle.of13_codec.specs.declared.message.Message.{Message}
use Rattle.neighbour_resolve.specs.Due.{due_said}
use Rattle.ctl_world.specs.World.{World, first, running}
use Rattle.ctl_world.specs.Saying.{say}
use Rattle.ctl_core.specs.Settlings.{AreInOrder, settle}
use Rattle.law_stories.specs.Grounds.{Grounds}
use Rattle.law_stories.specs.Settlings.{Settling, settlings}
use Rattle.law_stories.proofs.StoryTold.{Any, IsTold, first_told, told_walks}
use Rattle.law_stories.proofs.StoryWalks.{any_pieces, story_seen}
use Rattle.law_lives.proofs.Speaking.{Speaks, settle_stays}
use Rattle.law_lives.specs.Outs.{AsksTheDue}
use Rattle.law_lives.proofs.Asked.{settle_asks}

module _ (w : World) where
  abbrev Fixed : World → Type 0
  Fixed v = (v.conf ≡ w.conf) × (v.moment ≡ w.moment)

  fixing : Speaks Fixed
  fixing = record { changes = λ f is number v same. same; says = λ number m xid v at same. same; meets = λ neighbours v same. same }

  settle_fixed : Fixed (settle w)
  settle_fixed = settle_stays Fixed fixing w (refl, refl)

module _ (laws : Grounds) (run : (number : ℕ) (m : Message) (w : World) → running (say number m w) ≡ running w) where
  asks_due : (s : Settling) → AreInOrder s.before → AsksTheDue s
  asks_due s order =
      let w : World = s.before in
      let same = settle_fixed w in
      let none : due_said w.conf w.moment.0 (settle w).neighbours.neighbours ≡ None =
      (λ i. due_said (sym same.0 i) (sym same.1 i).0 (settle w).neighbours.neighbours) ∙ (laws.rests w order).asks in
      let asked = settle_asks run w none in
      record { due = asked.0; settled = asked.1; outs = asked.2 }

  pub story_asks : (conf : Configuration) (story : List Happening) → IsValid conf → AllByRecursion AsksTheDue (settlings (first conf) story)
  story_asks conf story valid =
      story_seen Any IsTold (told_walks laws) AsksTheDue
      (λ past w told. asks_due (record { past = past; before = w }) (record { numbers = told.0.0.1.0; keys = told.0.0.1.1 })) [] (first conf) story (any_pieces story) (first_told laws conf valid)
