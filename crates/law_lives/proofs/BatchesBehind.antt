-- What is right at the end of each settling.
use Rattle.std.proofs.Common.{◌++◌, List, [], subst}
use Rattle.std.specs.Prelude.{IfSome}
use Rattle.std.specs.List.{AllByRecursion}
use Rattle.fg_outside.specs.declared.hub.Happening.{Happening}
use Rattle.conf_types.specs.Configuration.{Configuration}
use Rattle.conf_types.specs.Valid.{IsValid}
use Rattle.ctl_world.specs.declared.said.Said.{Said}
use Rattle.ctl_world.specs.TablesSaid.{tables_said}
use Rattle.ctl_world.specs.World.{World, first}
use Rattle.ctl_core.specs.Settlings.{AreInOrder, IsAtRest, settle}
use Rattle.law_stories.specs.Grounds.{Grounds}
use Rattle.law_stories.specs.Right.{HasOneBatch, IsNoted, NothingWaits}
use Rattle.law_stories.specs.Settlings.{settlings}
use Rattle.law_stories.proofs.Fits.{FitsEach, Told}
use Rattle.law_stories.proofs.StoryParts.{ends_of, held_of, noting_of}
use Rattle.law_stories.proofs.StoryTold.{Any, IsTold, first_told, settles, told_walks}
use Rattle.law_stories.proofs.StoryWalks.{any_pieces, story_seen}
use Rattle.law_stories.proofs.Ways.{OnConn}
use Rattle.law_lives.specs.Behind.{IsRightBehind}

pub in_order_of : (past : List Said) (w : World) → IsTold past w → AreInOrder w
in_order_of past w told = record { numbers = told.0.0.1.0; keys = told.0.0.1.1 }

module _ (laws : Grounds) where
  module _ (past : List Said) (w : World) (told : IsTold past w) where
    after : IsTold past (settle w)
    after = settles laws past w told

    at_rest : IsAtRest (settle w)
    at_rest = laws.rests w (in_order_of past w told)

    waits : NothingWaits (settle w)
    waits dp c runs is = at_rest.batches dp runs c is

    noted : IsNoted (settle w) (past ++ (settle w).said)
    noted dp c runs is = (noting_of past (settle w) after.0.0.1 after.1 dp c runs is).leads

    one_batch : HasOneBatch (settle w) (past ++ (settle w).said)
    one_batch number xid c is ports some =
        let t : Told = tables_said number (past ++ (settle w).said) in
        let it : OnConn FitsEach number c t = subst (λ o. IfSome o (λ d. OnConn FitsEach number d t)) is (after.1 number) in
        ends_of c.session.state.stage c.session.state.awaited c.sent t xid it ports some

    right : IsRightBehind (record { past = past; before = w })
    right = record {
      valid = after.0.0.0;
      sound = after.0.1;
      rests = at_rest;
      nothing_waits = waits;
      noted = noted;
      held = held_of (settle w) (past ++ (settle w).said) waits noted;
      one_batch = one_batch;
    }

  pub story_behind : (conf : Configuration) (story : List Happening) → IsValid conf → AllByRecursion IsRightBehind (settlings (first conf) story)
  story_behind conf story valid = story_seen Any IsTold (told_walks laws) IsRightBehind right [] (first conf) story (any_pieces story) (first_told laws conf valid)
