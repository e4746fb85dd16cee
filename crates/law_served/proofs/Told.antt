-- What was said on a connection, by what the hub was told.
use Rattle.std.proofs.Common.{◌≡◌, ◌==◌, ℕ, inl, inr, List, [], ◌∷◌, ◌++◌, Option, refl, sym, ap, ◌∙◌, append_assoc}
use Rattle.std.proofs.lemmas.Bool.Decides.{eqb_tells}
use Rattle.std.proofs.lemmas.List.{append-nil}
use Rattle.std.specs.List.{flat_map}
use Rattle.std.specs.Prelude.{if◌then◌else◌}
use Rattle.fg_outside.specs.declared.hub.Happening.{Happening}
use Rattle.fg_outside.specs.declared.hub.Said.{Said as Answer}
use Rattle.fg_outside.specs.declared.hub.Said.TheVariants as answers
use Rattle.fg_outside.specs.HubStep.{Event, HubStep, happening, saying, closing, story}
use Rattle.fg_outside.proofs.StoryLemmas.{story-append}
use Rattle.fg_outside.specs.Wrote.{appended}
use Rattle.link_hub.specs.Runs.{said_by, said_on}
use Rattle.watch_hub.specs.WatchedStory.{spoken}
use Rattle.ctl_world.specs.World.{World}
use Rattle.ctl_life.specs.declared.saying.Saying.{Saying}
use Rattle.ctl_life.specs.declared.saying.Saying.TheVariants.{Send, Close, Line}
use Rattle.ctl_core.specs.Turns.{turn}
use Rattle.hub_drive.specs.declared.drive.Drove.{Drove}
use Rattle.hub_drive.specs.declared.drive.Drove.TheVariants as drove
use Rattle.hub_drive.specs.declared.sayings.Outlet.TheVariants.{Hub}
use Rattle.hub_drive.specs.Driving.{Deed, gave, said, shut, deeds, deeds_by}
use Rattle.ctl_drive.specs.Driving.{deeds_of, sayings_of}
use Rattle.ctl_serve.specs.Served.{last_call}
use Rattle.law_served.specs.Messages.{AllTaken, message_on, messages_on}

-- the bytes that were said on a connection, whatever was answered
abbrev told_on : ℕ → List Deed → List ℕ
told_on conn [] = []
told_on conn (gave h ∷ ds) = told_on conn ds
told_on conn (said c piece ∷ ds) = (if c == conn then piece else []) ++ told_on conn ds
told_on conn (shut c ∷ ds) = told_on conn ds

told-append : (conn : ℕ) (xs ys : List Deed) → told_on conn (xs ++ ys) ≡ told_on conn xs ++ told_on conn ys
told-append conn [] ys = refl
told-append conn (gave h ∷ xs) ys = told-append conn xs ys
told-append conn (said c piece ∷ xs) ys =
    ap (λ (l : List ℕ). (if c == conn then piece else []) ++ l) (told-append conn xs ys)
    ∙ sym (append_assoc (if c == conn then piece else []) (told_on conn xs) (told_on conn ys))
told-append conn (shut c ∷ xs) ys = told-append conn xs ys

-- a message that wasn't taken is none of this connection
another : (c conn : ℕ) (piece : List ℕ) (answer : Answer) → (c ≡ conn → answer ≡ answers.Taken) → (answer ≡ answers.Taken → ⊥) → (if c == conn then piece else []) ≡ []
another c conn piece answer taken other = elim (eqb_tells c conn) [ inl is ↦ absurd (other (taken is.1)) | inr differ ↦ rw differ.0 refl ]

taken_by : (c conn : ℕ) (piece : List ℕ) (answer : Answer) → (c ≡ conn → answer ≡ answers.Taken) → said_by conn (saying c piece answer) ≡ (if c == conn then piece else [])
taken_by c conn piece answers.Taken taken = refl
taken_by c conn piece answers.Gone taken = sym (another c conn piece answers.Gone taken (λ is. cc))
taken_by c conn piece answers.Memory taken = sym (another c conn piece answers.Memory taken (λ is. cc))

taken_is_told : (conn : ℕ) (events : List Event) → AllTaken conn events → said_on conn events ≡ told_on conn (deeds events)
taken_is_told conn [] all = refl
taken_is_told conn (happening it ∷ events) all = taken_is_told conn events all
taken_is_told conn (saying c piece answer ∷ events) all =
    ap (λ (l : List ℕ). l ++ said_on conn events) (taken_by c conn piece answer all.0)
    ∙ ap (λ (l : List ℕ). (if c == conn then piece else []) ++ l) (taken_is_told conn events all.1)
taken_is_told conn (closing c ∷ events) all = taken_is_told conn events all

-- happenings say nothing
told_spoken : (conn : ℕ) (events : List Event) → told_on conn (deeds events) ≡ told_on conn (deeds (spoken events))
told_spoken conn [] = refl
told_spoken conn (happening it ∷ events) = told_spoken conn events
told_spoken conn (saying c piece answer ∷ events) = ap (λ (l : List ℕ). (if c == conn then piece else []) ++ l) (told_spoken conn events)
told_spoken conn (closing c ∷ events) = told_spoken conn events

told_sayings : (conn : ℕ) (sayings : List Saying) → told_on conn (flat_map (deeds_by Hub) sayings) ≡ flat_map (message_on conn) sayings
told_sayings conn [] = refl
told_sayings conn (Send c message ∷ sayings) = ap (λ (l : List ℕ). (if c == conn then message else []) ++ l) (told_sayings conn sayings)
told_sayings conn (Close c cause ∷ sayings) = told_sayings conn sayings
told_sayings conn (Line text ∷ sayings) = told_sayings conn sayings

told_story : (conn : ℕ) (w : World) (hs : List Happening) → told_on conn (deeds_of Hub w hs) ≡ messages_on conn w hs
told_story conn w [] = refl
told_story conn w (h ∷ hs) =
    told-append conn (flat_map (deeds_by Hub) (sayings_of h w)) (deeds_of Hub (turn h w) hs)
    ∙ ap (λ (l : List ℕ). l ++ told_on conn (deeds_of Hub (turn h w) hs)) (told_sayings conn (sayings_of h w))
    ∙ ap (λ (l : List ℕ). flat_map (message_on conn) (sayings_of h w) ++ l) (told_story conn (turn h w) hs)

-- the last call of a hub adds nothing to its story
last_is_silent : (end : Drove) → story (last_call end) ≡ []
last_is_silent drove.Done = refl
last_is_silent drove.HubFault = refl
last_is_silent drove.Spent = refl
last_is_silent drove.WriteFault = refl
last_is_silent drove.Memory = refl

same_story : (steps : List HubStep) (end : Drove) → story (steps ++ last_call end) ≡ story steps
same_story steps end =
    story-append steps (last_call end) ∙ ap (λ (l : List Event). story steps ++ l) (last_is_silent end) ∙ append-nil (story steps)

-- what was taken on a connection is what the controller said there
pub said_is : (conn : ℕ) (w : World) (hs : List Happening) (end : Drove) (steps : List HubStep) (events : List Event) → spoken events ≡ spoken (story steps) → deeds events ≡ deeds_of Hub w hs → AllTaken conn (story steps)
    → said_on conn (story (steps ++ last_call end)) ≡ messages_on conn w hs
said_is conn w hs end steps events same told all =
    ap (λ (l : List Event). said_on conn l) (same_story steps end)
    ∙ taken_is_told conn (story steps) all
    ∙ told_spoken conn (story steps)
    ∙ ap (λ (l : List Event). told_on conn (deeds l)) (sym same)
    ∙ sym (told_spoken conn events)
    ∙ ap (λ (l : List Deed). told_on conn l) told
    ∙ told_story conn w hs

-- what a link was given and what waits, where that is what was taken
pub given : (opened now : Option (List ℕ)) (taken messages unsent : List ℕ) → taken ≡ messages → appended opened taken ≡ appended now unsent → appended opened messages ≡ appended now unsent
given opened now taken messages unsent same served = ap (λ (l : List ℕ). appended opened l) (sym same) ∙ served
