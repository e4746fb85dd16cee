-- A run of the story stands for the course that it is on.
use Rattle.std.proofs.Common.{◌≡◌, ◌∙◌, ℕ, ◌+◌, ◌*◌, ◌%◌, ◌^◌, List, [], ◌++◌, Some, sym, ap, subst, add-one}
use Rattle.std.specs.Prelude.{Result, Ok, Err, OnOk}
use Rattle.fg_outside.specs.declared.hub.Happening.{Happening}
use Rattle.fg_outside.specs.declared.hub.Happening.TheVariants.{Opened, Heard, Moment}
use Rattle.of13_codec.specs.Messages.{written}
use Rattle.ctl_life.specs.declared.saying.Saying.{Saying}
use Rattle.ctl_world.specs.World.{first}
use Rattle.ctl_core.specs.Turns.{turn}
use Rattle.bench_story.specs.declared.counted.Counts.{Counts}
use Rattle.bench_story.specs.declared.run.Run.{Run}
use Rattle.bench_story.specs.Counted.{barrier_request, count_of, flow_mod, replies_to, total}
use Rattle.bench_story.specs.Setup.{configuration}
use Rattle.bench_story.specs.Story.{Course, Knows, StandsFor, after, begun, comes, opened, says, sayings, shows, takes}
use Rattle.bench_story.specs.Switch.{features, hello, packet_in, port_reply}
use Rattle.bench_story.proofs.Counting.{count-append, rest, total-append}

pub on_ok : {A E : Type 0} {P Q : Type 0} (r : Result A E) → (P → Q) → OnOk r P → OnOk r Q
on_ok (Ok x) f p = f p
on_ok (Err e) f p = tt

module _ (old new : Run) (h : Happening) (left : List ℕ) (c : Course) (said : List Saying) (knows : Knows old c) (is : said ≡ sayings h c.known) where
  counted : (kind before after : ℕ) → before ≡ count_of kind c.said → after ≡ before + count_of kind said → after ≡ count_of kind (c.said ++ sayings h c.known)
  counted kind before after was now =
      now ∙ ap (λ (n : ℕ). n + count_of kind said) was ∙ ap (λ (s : List Saying). count_of kind c.said + count_of kind s) is ∙ sym (count-append kind c.said (sayings h c.known))

  summed : new.counts.sum ≡ (old.counts.sum + total said) % 2 ^ 32 → new.counts.sum ≡ total (c.said ++ sayings h c.known) % 2 ^ 32
  summed now =
      now ∙ ap (λ (n : ℕ). (n + total said) % 2 ^ 32) knows.sum ∙ rest (total c.said) (total said)
      ∙ ap (λ (s : List Saying). (total c.said + total s) % 2 ^ 32) is ∙ ap (λ (n : ℕ). n % 2 ^ 32) (sym (total-append c.said (sayings h c.known)))

  -- a turn was taken, and what was said in it counted and owed
  pub taken : new.controller ≡ Some (turn h c.known) → new.counts.batches ≡ old.counts.batches + count_of barrier_request said
      → new.counts.commands ≡ old.counts.commands + count_of flow_mod said → new.counts.sum ≡ (old.counts.sum + total said) % 2 ^ 32
      → new.owed ≡ left ++ replies_to said → StandsFor new (takes h left c)
  unfolding takes
  taken known batches commands sum owes = record {
    knows = record {
      known = known;
      batches = counted barrier_request old.counts.batches new.counts.batches knows.batches batches;
      commands = counted flow_mod old.counts.commands new.counts.commands knows.commands commands;
      sum = summed sum;
    };
    owed = owes ∙ ap (λ (s : List Saying). left ++ replies_to s) is;
  }

-- ---- the parts of the story

pub kept : (old new : Run) (c : Course) → new.controller ≡ old.controller → new.counts ≡ old.counts → Knows old c → Knows new c
kept old new c same counts knows = record {
  known = same ∙ knows.known;
  batches = ap (λ (t : Counts). t.batches) counts ∙ knows.batches;
  commands = ap (λ (t : Counts). t.commands) counts ∙ knows.commands;
  sum = ap (λ (t : Counts). t.sum) counts ∙ knows.sum;
}

pub begins : (run : Run) → run.controller ≡ Some (first configuration) → run.counts ≡ record { batches = 0; commands = 0; sum = 0 } → run.owed ≡ [] → StandsFor run begun
unfolding begun count_of total
begins run known none owes = record {
  knows = record {
    known = known;
    batches = ap (λ (t : Counts). t.batches) none;
    commands = ap (λ (t : Counts). t.commands) none;
    sum = ap (λ (t : Counts). t.sum) none;
  };
  owed = owes;
}

pub heard : (run : Run) (message piece left : List ℕ) (c : Course) → left ≡ [] → piece ≡ c.owed ++ message → StandsFor run (takes (Heard 1 piece) left c) → StandsFor run (says message c)
unfolding says
heard run message piece left c none is stands = rw (none, is) at stands

pub shown : (run : Run) (moment : ℕ) (left : List ℕ) (c : Course) → left ≡ c.owed → StandsFor run (takes (Moment moment) left c) → StandsFor run (shows moment c)
unfolding shows
shown run moment left c is stands = rw is at stands

-- the switch has said another list that is the same
pub same_said : (run : Run) (message other : List ℕ) (c : Course) → message ≡ other → StandsFor run (says message c) → StandsFor run (says other c)
same_said run message other c is stands = subst (λ (m : List ℕ). StandsFor run (says m c)) is stands

pub opens : (run : Run) (left : List ℕ) → left ≡ begun.owed → StandsFor run (takes (Opened 1) left begun) → StandsFor run (takes (Opened 1) [] begun)
unfolding begun
opens run left is stands = subst (λ (l : List ℕ). StandsFor run (takes (Opened 1) l begun)) is stands

pub is_opened : (run : Run) → StandsFor run (says [] (says [] (says port_reply (says features (says hello (takes (Opened 1) [] begun)))))) → StandsFor run opened
unfolding opened
is_opened run stands = stands

pub has_come : (run : Run) (host : ℕ) (c : Course) → StandsFor run (says [] (says (written (packet_in host) 0) (shows (10 * host) c))) → StandsFor run (comes host c)
unfolding comes
has_come run host c stands = stands

pub none_came : (run : Run) → StandsFor run opened → StandsFor run (after 0)
unfolding after
none_came run stands = stands

pub one_more : (run : Run) (hosts : ℕ) → StandsFor run (comes hosts (after hosts)) → StandsFor run (after (hosts + 1))
unfolding after
one_more run hosts stands = rw add-one stands
