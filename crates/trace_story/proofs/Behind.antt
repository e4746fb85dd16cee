-- What is known behind a story, how a run over it ended, and what became of the files that it was read from.
use Rattle.std.proofs.Common.{◌≡◌, ◌⊎◌, inl, inr, ℕ, Bool, true, false, List, [], ◌∷◌, Option, Some, None, refl, sym, ap, arith, subst, ◌∙◌}
use Rattle.fg_outside.specs.declared.hub.Happening.{Happening}
use Rattle.fg_outside.specs.Contents.{Contents}
use Rattle.of_match.specs.declared.packet.Packet.{Packet}
use Rattle.conf_types.specs.Configuration.{Configuration}
use Rattle.ctl_world.specs.World.{World, first}
use Rattle.ctl_core.specs.Story.{behind}
use Rattle.hub_drive.specs.declared.replay.Replayed.{Replayed}
use Rattle.hub_drive.specs.declared.replay.Replayed.TheVariants as replayed
use Rattle.hub_drive.specs.Machine.{behind as machine_behind}
use Rattle.hub_drive.specs.Replay.{GivesBack}
use Rattle.hub_drive.specs.Still.{Ended as EndedSo}
use Rattle.ctl_drive.specs.Controller.{controller}
use Rattle.trace_story.specs.declared.following.Followed.{Followed}
use Rattle.trace_story.specs.declared.following.Followed.TheVariants.{Showed, Ended}
use Rattle.trace_story.specs.declared.showing.How.{How}
use Rattle.trace_story.specs.declared.showing.Shown.{Shown}
use Rattle.trace_story.specs.Followed.{EndsSo, Follows, IsShown, TellsStory, is_whole}
use Rattle.trace_story.specs.Shown.{shown}

same_behind : (w : World) (hs : List Happening) → machine_behind controller w hs ≡ behind w hs
same_behind w [] = refl
same_behind w (h ∷ hs) = same_behind (controller.turn h w) hs

-- ---- what came of it

module _ (contents : Option Contents) (recording : List ℕ) (absence fault : Type 0) (conf : Configuration) (stands : World → Type 0) where
  abbrev pub Ran : Replayed → Type 0
  Ran end = EndedSo controller contents recording absence fault (first conf) stands end

  -- the recording isn't whole, or wasn't read, or memory ran out
  pub ends : (end : Replayed) → is_whole end ≡ false → Ran end → EndsSo contents recording absence fault conf end
  ends (replayed.Read None) other ran = absurd cc
  ends (replayed.Read (Some refused)) other (story, few, known, told) = (story, (few, told))
  ends replayed.Unread other ran = ran
  ends replayed.Spent other ran = ran
  ends replayed.WriteFault other ran = ran
  ends replayed.Memory other ran = tt

  -- it is whole: what is known behind its story
  pub whole : (end : Replayed) → is_whole end ≡ true → Ran end → (story : List Happening) × TellsStory contents recording conf story None × stands (behind (first conf) story)
  whole (replayed.Read None) is (story, few, known, told) = (story, (few, told), subst stands (same_behind (first conf) story) known)
  whole (replayed.Read (Some refused)) is ran = absurd cc
  whole replayed.Unread is ran = absurd cc
  whole replayed.Spent is ran = absurd cc
  whole replayed.WriteFault is ran = absurd cc
  whole replayed.Memory is ran = absurd cc

  module _ (how : How) (dp : List ℕ) (port : ℕ) (p : Packet) where
    shows : (story : List Happening) (made : Followed) → TellsStory contents recording conf story None → IsShown (shown how (behind (first conf) story) dp port p) made
        → Follows how contents recording absence fault conf dp port p made
    shows story (Showed s) told is = (story, told, is)
    shows story (Ended end) told is = subst (EndsSo contents recording absence fault conf) (sym is) tt

    -- what is shown by what is known behind it
    pub showed : (end : Replayed) → is_whole end ≡ true → Ran end → (made : Followed) → ((w : World) → stands w → IsShown (shown how w dp port p) made)
        → Follows how contents recording absence fault conf dp port p made
    showed end is ran made by_world =
        let known = whole end is ran in
        shows known.0 made known.1 (by_world (behind (first conf) known.0) known.2)

-- ---- which end it is

pub whole_read : (end : Replayed) → is_whole end ≡ true → end ≡ replayed.Unread → ⊥
whole_read (replayed.Read refused) is same = absurd cc
whole_read replayed.Unread is same = absurd cc
whole_read replayed.Spent is same = absurd cc
whole_read replayed.WriteFault is same = absurd cc
whole_read replayed.Memory is same = absurd cc

abbrev end_or : Replayed → Followed → Replayed
end_or end (Showed s) = end
end_or end (Ended e) = e

-- what is shown isn't an end, but for want of memory
shown_apart : (s : Shown) (made : Followed) → IsShown s made → made ≡ Ended replayed.Unread → ⊥
shown_apart s (Showed t) is same = absurd cc
shown_apart s (Ended e) is same = absurd cc

-- ---- the files

module _ {F : Type 0} (held : F → Option Contents) (faults absences : F → ℕ) (refused : F → List ℕ) (name : List ℕ) where
  -- that weren't asked
  pub not_asked : (files : F) (unread : Type 0) → (unread → ⊥) → GivesBack held faults absences refused name files files unread
  not_asked files unread read = record {
    there = λ bytes tells not_read. absurd (read not_read);
    named = λ not_read below. absurd (read not_read);
    no_fault = λ other below. refl;
    same_contents = refl;
    no_fewer_faults = omega arith;
    no_fewer_absences = omega arith;
  }

  -- of which the same is said in other words
  told_as : (old new : F) (unread not_read : Type 0) → (not_read → unread) → (unread → not_read) → GivesBack held faults absences refused name old new unread
      → GivesBack held faults absences refused name old new not_read
  told_as old new unread not_read to from back = record {
    there = λ bytes tells is. back.there bytes tells (to is);
    named = λ is below. back.named (to is) below;
    no_fault = λ other below. back.no_fault (λ is. other (from is)) below;
    same_contents = back.same_contents;
    no_fewer_faults = back.no_fewer_faults;
    no_fewer_absences = back.no_fewer_absences;
  }

  pub ended_back : (old new : F) (end : Replayed) → GivesBack held faults absences refused name old new (end ≡ replayed.Unread) → GivesBack held faults absences refused name old new (Ended end ≡ Ended replayed.Unread)
  ended_back old new end back = told_as old new (end ≡ replayed.Unread) (Ended end ≡ Ended replayed.Unread) (λ is. ap (end_or end) is) (λ is. ap (λ (e : Replayed). Ended e) is) back

  pub showed_back : (old new : F) (end : Replayed) (s : Shown) (made : Followed) → is_whole end ≡ true → IsShown s made → GivesBack held faults absences refused name old new (end ≡ replayed.Unread)
      → GivesBack held faults absences refused name old new (made ≡ Ended replayed.Unread)
  showed_back old new end s made is shows back =
      told_as old new (end ≡ replayed.Unread) (made ≡ Ended replayed.Unread) (λ same. absurd (shown_apart s made shows same)) (λ same. absurd (whole_read end is same)) back
