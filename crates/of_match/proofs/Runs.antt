-- Runs through the tables: actions in parts, the entry that is chosen, and why a run is allowed.
use Rattle.std.proofs.Common.{◌≡◌, ℕ, ◌<◌, List, [], ◌∷◌, ◌++◌, length, get_or, drop, Option, Some, None, refl, sym, ap, ◌∙◌, arith, append_assoc, append-nil}
use Rattle.std.specs.Prelude.{option_and_then}
use Rattle.std.specs.Option.{option_map_or}
use Rattle.std.proofs.lemmas.Bool.Decides.{nat_tests}
use Rattle.of_match.specs.declared.action.Action.{Action}
use Rattle.of_match.specs.declared.action.Instr.{Instr}
use Rattle.of_match.specs.declared.entry.Entry.{Entry}
use Rattle.of_match.specs.declared.packet.Packet.{Packet}
use Rattle.of_match.specs.Act.{act_sends, act_left, sends_of, left_by}
use Rattle.of_match.specs.Pipeline.{actions_in, actions_of, prefer, keep_first}

-- ---- actions in two parts

pub act_left-append : (xs ys : List Action) (p : Packet) → act_left (xs ++ ys) p ≡ option_and_then (act_left ys) (act_left xs p)
act_left-append [] ys p = refl
act_left-append (a ∷ xs) ys p =
    elim (left_by a p) as (λ o. option_and_then (act_left (xs ++ ys)) o ≡ option_and_then (act_left ys) (option_and_then (act_left xs) o)) [
      | None ↦ refl
      | Some q ↦ act_left-append xs ys q
    ]

pub act_sends-append : (xs ys : List Action) (port : ℕ) (p : Packet) → act_sends (xs ++ ys) port p ≡ act_sends xs port p ++ option_map_or (act_sends ys port) (act_left xs p) []
act_sends-append [] ys port p = refl
act_sends-append (a ∷ xs) ys port p =
    ap (λ l. sends_of a port p ++ l) (elim (left_by a p) as (λ o. option_map_or (act_sends (xs ++ ys) port) o [] ≡ option_map_or (act_sends xs port) o [] ++ option_map_or (act_sends ys port) (option_and_then (act_left xs) o) []) [
      | None ↦ refl
      | Some q ↦ act_sends-append xs ys port q
    ])
    ∙ sym (append_assoc (sends_of a port p) _ _)

-- ---- the first instruction, and those behind it

actions_first : (instrs : List Instr) (x : Instr) → 0 < length instrs → x ≡ get_or instrs 0 x → actions_of instrs ≡ actions_in x ++ actions_of (drop 1 instrs)
actions_first [] x lt is = absurd (omega arith)
actions_first (i ∷ more) x lt is = ap (λ y. actions_in y ++ actions_of more) (sym is)

pub left_first : (instrs : List Instr) (x : Instr) (p q : Packet) → 0 < length instrs → x ≡ get_or instrs 0 x → Some q ≡ act_left (actions_in x) p → act_left (actions_of instrs) p ≡ act_left (actions_of (drop 1 instrs)) q
left_first instrs x p q lt is left =
    ap (λ l. act_left l p) (actions_first instrs x lt is) ∙ act_left-append (actions_in x) (actions_of (drop 1 instrs)) p
    ∙ ap (option_and_then (act_left (actions_of (drop 1 instrs)))) (sym left)

pub sends_first : (instrs : List Instr) (x : Instr) (port : ℕ) (p q : Packet) → 0 < length instrs → x ≡ get_or instrs 0 x → Some q ≡ act_left (actions_in x) p → act_sends (actions_of instrs) port p ≡ act_sends (actions_in x) port p ++ act_sends (actions_of (drop 1 instrs)) port q
sends_first instrs x port p q lt is left =
    ap (λ l. act_sends l port p) (actions_first instrs x lt is) ∙ act_sends-append (actions_in x) (actions_of (drop 1 instrs)) port p
    ∙ ap (λ o. act_sends (actions_in x) port p ++ option_map_or (act_sends (actions_of (drop 1 instrs)) port) o []) (sym left)

pub left_ended : (instrs : List Instr) (x : Instr) (p : Packet) → 0 < length instrs → x ≡ get_or instrs 0 x → None ≡ act_left (actions_in x) p → act_left (actions_of instrs) p ≡ None
left_ended instrs x p lt is left =
    ap (λ l. act_left l p) (actions_first instrs x lt is) ∙ act_left-append (actions_in x) (actions_of (drop 1 instrs)) p
    ∙ ap (option_and_then (act_left (actions_of (drop 1 instrs)))) (sym left)

pub sends_ended : (instrs : List Instr) (x : Instr) (port : ℕ) (p : Packet) → 0 < length instrs → x ≡ get_or instrs 0 x → None ≡ act_left (actions_in x) p → act_sends (actions_of instrs) port p ≡ act_sends (actions_in x) port p
sends_ended instrs x port p lt is left =
    ap (λ l. act_sends l port p) (actions_first instrs x lt is) ∙ act_sends-append (actions_in x) (actions_of (drop 1 instrs)) port p
    ∙ ap (λ o. act_sends (actions_in x) port p ++ option_map_or (act_sends (actions_of (drop 1 instrs)) port) o []) (sym left)
    ∙ append-nil (act_sends (actions_in x) port p)

-- ---- the entry that is chosen

-- the best so far, unless another has a higher priority
abbrev pub better : Option Entry → Option Entry → Option Entry
better None o = o
better (Some best) o = Some (prefer best o)

-- the first of three, by either bracketing
prefer-keep_first : (x b y : Entry) → prefer b (Some (prefer x (Some y))) ≡ prefer (keep_first x (Some b)) (Some y)
prefer-keep_first x b y = grind (arith, nat_tests)

pub better-keep_first : (x : Entry) (best o : Option Entry) → better best (Some (prefer x o)) ≡ better (Some (keep_first x best)) o
better-keep_first x None o = refl
better-keep_first x (Some b) None = refl
better-keep_first x (Some b) (Some y) = ap Some (prefer-keep_first x b y)
