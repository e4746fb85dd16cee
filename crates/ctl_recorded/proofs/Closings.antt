-- What is closed in a story whose messages are said on the hub's connections.
use Rattle.std.proofs.Common.{◌≡◌, ℕ, ◌+◌, ◌≤◌, List, [], ◌∷◌, ◌++◌, length, map, refl, sym, ap, subst, ◌∙◌, append_assoc, arith, length-append}
use Rattle.std.proofs.lemmas.List.{append-nil, length-map}
use Rattle.std.specs.List.{AllByRecursion}
use Rattle.fg_outside.specs.declared.hub.Happening.{Happening}
use Rattle.fg_outside.specs.HubStep.{Event, happenings}
use Rattle.recording.specs.declared.record.Record.{Record}
use Rattle.recording.specs.Turns.{Closing, Told, closings, told_by, turns}
use Rattle.recording.proofs.Turning.{told_by-later}
use Rattle.recording_hub.specs.Recorded.{held}
use Rattle.ctl_world.specs.World.{World}
use Rattle.hub_drive.specs.declared.sayings.Outlet.TheVariants.{Hub}
use Rattle.hub_drive.specs.Driving.{Deed, gave, said, shut, IsFront, deeds}
use Rattle.ctl_drive.specs.Driving.{closings_of, deeds_of}
use Rattle.hub_drive.proofs.Deeds.{closings_are, happened-append, happened-deeds, happened_in, happenings_are, shut_in, shut-deeds}
use Rattle.ctl_drive.specs.Controller.{controller}

-- ---- where a front was told

shut-append : (given : ℕ) (xs ys : List Deed) → shut_in given (xs ++ ys) ≡ shut_in given xs ++ shut_in (given + length (happened_in xs)) ys
shut-append given [] ys = ap (λ n. shut_in n ys) (omega arith)
shut-append given (gave h ∷ xs) ys =
    shut-append (given + 1) xs ys
    ∙ ap (λ n. shut_in (given + 1) xs ++ shut_in n ys) (omega arith)
shut-append given (said conn piece ∷ xs) ys = shut-append given xs ys
shut-append given (shut conn ∷ xs) ys = ap (λ (l : List Closing). record { conn = conn; behind = given } ∷ l) (shut-append given xs ys)

-- what is closed where nothing happens is closed behind all that happened
behind_all : (n : ℕ) (ds : List Deed) → happened_in ds ≡ [] → AllByRecursion (λ (c : Closing). n ≤ c.behind) (shut_in n ds)
behind_all n [] none = tt
behind_all n (gave h ∷ ds) none = absurd cc
behind_all n (said conn piece ∷ ds) none = behind_all n ds none
behind_all n (shut conn ∷ ds) none = (omega arith, behind_all n ds none)

no_more : {X : Type 0} (xs ys : List X) → xs ≡ xs ++ ys → ys ≡ []
no_more xs [] is = refl
no_more xs (y ∷ ys) is = absurd (omega (arith, ap length is, length-append xs (y ∷ ys)))

-- closings behind all that records tell change nothing
told_by-behind : (records : List Record) (closes more : List Closing) → AllByRecursion (λ (c : Closing). length (told_by closes records).given ≤ c.behind) more → told_by (closes ++ more) records ≡ told_by closes records
told_by-behind records closes [] all = ap (λ (l : List Closing). told_by l records) (append-nil closes)
told_by-behind records closes (c ∷ more) all =
    let one : told_by (closes ++ c ∷ []) records ≡ told_by closes records = told_by-later closes c records all.0 in
    ap (λ (l : List Closing). told_by l records) (sym (append_assoc closes (c ∷ []) more))
    ∙ told_by-behind records (closes ++ c ∷ []) more (subst (λ (t : Told). AllByRecursion (λ (d : Closing). length t.given ≤ d.behind) more) (sym one) all.1)
    ∙ one

pub front_closed : (w : World) (hs : List Happening) (events : List Event) (records : List Record) → IsFront (deeds events) (deeds_of Hub w hs) → happenings events ≡ hs
    → turns records (closings 0 events) ≡ map held hs → turns records (closings_of 0 w hs) ≡ map held hs
front_closed w hs events records front happened tells =
    let in_front : happened_in (deeds events) ≡ hs = sym (happenings_are events) ∙ happened in
    let all : hs ≡ hs ++ happened_in front.rest =
    sym (happened-deeds controller Hub w hs)
    ∙ ap (λ (l : List Deed). happened_in l) front.parts
    ∙ happened-append (deeds events) front.rest
    ∙ ap (λ (l : List Happening). l ++ happened_in front.rest) in_front
    in
    let none : happened_in front.rest ≡ [] = no_more hs (happened_in front.rest) all in
    let more : List Closing = shut_in (length hs) front.rest in
    let closed : closings_of 0 w hs ≡ closings 0 events ++ more =
    sym (shut-deeds controller Hub 0 w hs)
    ∙ ap (λ (l : List Deed). shut_in 0 l) front.parts
    ∙ shut-append 0 (deeds events) front.rest
    ∙ ap (λ n. shut_in 0 (deeds events) ++ shut_in n front.rest) (omega (arith, ap length in_front))
    ∙ ap (λ (l : List Closing). l ++ more) (sym (closings_are 0 events))
    in
    let many : length (told_by (closings 0 events) records).given ≡ length hs = ap length tells ∙ length-map hs held in
    ap (λ (l : List Closing). turns records l) closed
    ∙ ap (λ (t : Told). t.given)
    (told_by-behind records (closings 0 events) more
    (subst (λ n. AllByRecursion (λ (c : Closing). n ≤ c.behind) more) (sym many) (behind_all (length hs) front.rest none)))
    ∙ tells
