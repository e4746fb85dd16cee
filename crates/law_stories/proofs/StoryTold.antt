-- Behind a story and before each of its settlings what is known is sound, and what was said of the tables fits each connection.
use Rattle.std.proofs.Common.{ℕ, ◌++◌, Option, None, List, [], sym, subst}
use Rattle.std.specs.Prelude.{IfSome}
use Rattle.std.proofs.lemmas.List.{append-nil}
use Rattle.of13_codec.specs.declared.message.Message.{Message}
use Rattle.yaml_subset.specs.Reading.{read_of}
use Rattle.conf_types.specs.Configuration.{Configuration}
use Rattle.conf_types.specs.Valid.{IsValid}
use Rattle.ctl_world.specs.declared.said.Said.{Said}
use Rattle.ctl_world.specs.Connections.{conn_with}
use Rattle.ctl_world.specs.TablesSaid.{tables_said}
use Rattle.ctl_world.specs.World.{World, first}
use Rattle.ctl_world.proofs.SoundEnds.{ended_sound}
use Rattle.ctl_core.specs.Settlings.{settle}
use Rattle.ctl_life.specs.Life.{read, says}
use Rattle.ctl_core.specs.Hearing.{hear_frame}
use Rattle.ctl_core.specs.Reloading.{accepted}
use Rattle.ctl_core.proofs.SoundFrames.{heard_sound, read_sound}
use Rattle.ctl_core.proofs.SoundReloads.{reload_sound}
use Rattle.ctl_core.proofs.SoundTurns.{feed_sound, open_sound, pass_sound}
use Rattle.law_stories.specs.Grounds.{Grounds}
use Rattle.law_stories.proofs.Fits.{FitsEach}
use Rattle.law_stories.proofs.Lows.{wanted_low}
use Rattle.law_stories.proofs.PlainSteps.{ended_stays, feed_stays, pass_stays, read_stays, reload_stays}
use Rattle.law_stories.proofs.SettleFits.{settled_fit}
use Rattle.law_stories.proofs.Setup.{AreFit, heard_fit, open_fit}
use Rattle.ctl_core.proofs.Ordered.{AreOrdered}
use Rattle.law_stories.proofs.StorySound.{StandsSound, first_stands, settle_sound, text_valid}
use Rattle.ctl_core.proofs.Stands.{ended_stands, feed_stands, heard_stands, open_stands, pass_stands, read_stands, reload_stands, settle_stands}
use Rattle.law_stories.proofs.StoryWalks.{Walks}
use Rattle.law_stories.proofs.Ways.{OnConn}

abbrev pub IsTold : List Said → World → Type 0
IsTold past w = StandsSound w × AreFit past w

abbrev pub Any : List ℕ → Type 0
Any piece = Unit {0}

turned : (past : List Said) (w : World) → AreFit past w → AreFit (past ++ w.said) (record w { said = [] })
turned past w fit n =
    subst (λ (all : List Said). IfSome (conn_with w.conns n) (λ c. OnConn FitsEach n c (tables_said n all))) (sym (append-nil (past ++ w.said))) (fit n)

read_told : (past : List Said) (number : ℕ) (w : World) → IsTold past w → IsTold past (read number w)
read_told past number w (stands, fit) = ((read_stands IsValid number w stands.0, read_sound number w stands.1), read_stays FitsEach past number w fit)

heard_told : (past : List Said) (heard : Option (Message × ℕ)) (number : ℕ) (w : World) → IsTold past w → IsTold past (hear_frame heard number w)
heard_told past heard number w (stands, fit) = ((heard_stands IsValid heard number w stands.0, heard_sound heard number w stands.0.0 stands.1), heard_fit past heard number w fit)

module _ (laws : Grounds) where
  orders : (w : World) → AreOrdered w.conns → AreOrdered (settle w).conns
  orders w ordered = (laws.numbers w ordered.0 ordered.1, laws.keys w ordered.0 ordered.1)

  pub settles : (past : List Said) (w : World) → IsTold past w → IsTold past (settle w)
  settles past w (stands, fit) = (
    (settle_stands IsValid orders w stands.0, settle_sound laws w stands.1),
    settled_fit laws.order laws.leads laws.same past w stands.0.1 (λ v dp same. wanted_low v dp (subst IsValid (sym same) stands.0.0)) fit,
  )

  pub told_walks : Walks Any IsTold
  told_walks = record {
    unsaid = λ past w (stands, fit). ((stands.0, record { valid = stands.1.valid; hosts = stands.1.hosts; neighbours = stands.1.neighbours }), turned past w fit);
    opens = λ past number w shut (stands, fit). ((open_stands IsValid number w shut stands.0, open_sound number w stands.1), open_fit past number w shut fit);
    feeds = λ past number piece w such (stands, fit). ((feed_stands IsValid number piece w stands.0, feed_sound number piece w stands.1), feed_stays FitsEach past number piece w fit);
    reads = λ past number w told. read_told past number w told;
    hears = λ past frame number w is told. heard_told past (says frame) number (read number w) (read_told past number w told);
    fails = λ past number w is told. heard_told past None number (read number w) (read_told past number w told);
    ends = λ past cause number w (stands, fit).
        ((ended_stands IsValid cause number w stands.0, ended_sound cause number w stands.0.0 stands.1), ended_stays FitsEach past cause number w fit);
    passes = λ past moment w (stands, fit). ((pass_stands IsValid moment w stands.0, pass_sound moment w stands.0.0 stands.1), pass_stays FitsEach past moment w fit);
    reloads = λ past text w (stands, fit). (
      (
        reload_stands IsValid (accepted text) (λ next is. text_valid laws (read_of text) next is) w stands.0,
        reload_sound laws.valid text w stands.0.0 stands.1,
      ),
      reload_stays FitsEach past (accepted text) w fit,
    );
    settles = settles;
  }

  pub first_told : (conf : Configuration) → IsValid conf → IsTold [] (first conf)
  first_told conf valid = (first_stands laws conf valid, λ n. tt)
