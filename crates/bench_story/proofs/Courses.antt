-- A course tells what a controller knows and says to which all of it happens.
use Rattle.std.proofs.Common.{◌≡◌, ◌∙◌, ℕ, zero, suc, ◌*◌, ◌≤◌, List, [], ◌∷◌, ◌++◌, map, refl, sym, ap, arith, append_assoc}
use Rattle.std.specs.List.{flat_map}
use Rattle.std.proofs.lemmas.List.{append-nil, map-append}
use Rattle.fg_outside.specs.declared.hub.Happening.{Happening}
use Rattle.fg_outside.specs.declared.hub.Happening.TheVariants.{Opened, Heard, Moment}
use Rattle.of13_codec.specs.Messages.{written}
use Rattle.ctl_world.specs.declared.said.Said.{Said}
use Rattle.ctl_world.specs.World.{World, first}
use Rattle.ctl_life.specs.declared.saying.Saying.{Saying}
use Rattle.ctl_life.specs.Sayings.{saying_of}
use Rattle.ctl_core.specs.Story.{behind, said_by_turn}
use Rattle.ctl_core.specs.Turns.{turn}
use Rattle.bench_story.specs.Counted.{count_of}
use Rattle.bench_story.specs.Measured.{said_of}
use Rattle.bench_story.specs.Setup.{configuration}
use Rattle.bench_story.specs.Story.{Course, after, begun, comes, opened, says, sayings, shows, takes}
use Rattle.bench_story.specs.Switch.{features, hello, packet_in, port_reply}
use Rattle.bench_story.proofs.Counting.{count-append}

-- ---- one turn more

behind-push : (w : World) (hs : List Happening) (h : Happening) → behind w (hs ++ h ∷ []) ≡ turn h (behind w hs)
behind-push w [] h = refl
behind-push w (g ∷ hs) h = behind-push (turn g w) hs h

abbrev all_of : World → List Happening → List Said
all_of w hs = flat_map (λ (told : List Said). told) (said_by_turn w hs)

all-push : (w : World) (hs : List Happening) (h : Happening) → all_of w (hs ++ h ∷ []) ≡ all_of w hs ++ (turn h (behind w hs)).said
all-push w [] h = append-nil (turn h w).said
all-push w (g ∷ hs) h =
    ap (λ (l : List Said). (turn g w).said ++ l) (all-push (turn g w) hs h)
    ∙ sym (append_assoc (turn g w).said (all_of (turn g w) hs) (turn h (behind (turn g w) hs)).said)

said-push : (hs : List Happening) (h : Happening) → said_of (hs ++ h ∷ []) ≡ said_of hs ++ sayings h (behind (first configuration) hs)
said-push hs h =
    ap (map saying_of) (all-push (first configuration) hs h)
    ∙ map-append saying_of (all_of (first configuration) hs) (turn h (behind (first configuration) hs)).said

-- ---- what a course tells of itself

pub record IsTold (c : Course) : Type 0 where
  pub known : c.known ≡ behind (first configuration) c.happened
  pub said : c.said ≡ said_of c.happened

told_begun : IsTold begun
unfolding begun
told_begun = record { known = refl; said = refl }

told_takes : (h : Happening) (left : List ℕ) (c : Course) → IsTold c → IsTold (takes h left c)
unfolding takes
told_takes h left c told = record {
  known = ap (turn h) told.known ∙ sym (behind-push (first configuration) c.happened h);
  said =
      ap (λ (l : List Saying). l ++ sayings h c.known) told.said
      ∙ ap (λ (w : World). said_of c.happened ++ sayings h w) told.known
      ∙ sym (said-push c.happened h);
}

told_says : (message : List ℕ) (c : Course) → IsTold c → IsTold (says message c)
unfolding says
told_says message c told = told_takes (Heard 1 (c.owed ++ message)) [] c told

told_shows : (moment : ℕ) (c : Course) → IsTold c → IsTold (shows moment c)
unfolding shows
told_shows moment c told = told_takes (Moment moment) c.owed c told

told_opened : IsTold opened
unfolding opened
told_opened = told_says [] _ (told_says [] _ (told_says port_reply _ (told_says features _ (told_says hello _ (told_takes (Opened 1) [] begun told_begun)))))

told_comes : (host : ℕ) (c : Course) → IsTold c → IsTold (comes host c)
unfolding comes
told_comes host c told = told_says [] _ (told_says (written (packet_in host) 0) _ (told_shows (10 * host) c told))

pub told_after : (hosts : ℕ) → IsTold (after hosts)
unfolding after
told_after zero = told_opened
told_after (suc n) = told_comes n (after n) (told_after n)

-- ---- what was said stays said

pub record Extends (c more : Course) : Type 0 where
  pub rest : List Saying
  pub is : more.said ≡ c.said ++ rest

extends_none : (c : Course) → Extends c c
extends_none c = record { rest = []; is = sym (append-nil c.said) }

extends_takes : (c : Course) (h : Happening) (left : List ℕ) (d : Course) → Extends c d → Extends c (takes h left d)
unfolding takes
extends_takes c h left d so_far = record {
  rest = so_far.rest ++ sayings h d.known;
  is = ap (λ (l : List Saying). l ++ sayings h d.known) so_far.is ∙ append_assoc c.said so_far.rest (sayings h d.known);
}

extends_says : (c : Course) (message : List ℕ) (d : Course) → Extends c d → Extends c (says message d)
unfolding says
extends_says c message d so_far = extends_takes c (Heard 1 (d.owed ++ message)) [] d so_far

extends_shows : (c : Course) (moment : ℕ) (d : Course) → Extends c d → Extends c (shows moment d)
unfolding shows
extends_shows c moment d so_far = extends_takes c (Moment moment) d.owed d so_far

extends_comes : (c : Course) (host : ℕ) (d : Course) → Extends c d → Extends c (comes host d)
unfolding comes
extends_comes c host d so_far = extends_says c [] _ (extends_says c (written (packet_in host) 0) _ (extends_shows c (10 * host) d so_far))

extends_after : (hosts : ℕ) → Extends opened (after hosts)
unfolding after
extends_after zero = extends_none opened
extends_after (suc n) = extends_comes opened n (after n) (extends_after n)

-- so no count falls
pub more_is_counted : (kind hosts : ℕ) → count_of kind opened.said ≤ count_of kind (after hosts).said
more_is_counted kind hosts =
    let all = extends_after hosts in
    let count = ap (count_of kind) all.is ∙ count-append kind opened.said all.rest in
    omega (arith, count)
