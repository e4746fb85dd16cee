-- A batch behind what was said of the tables leads from what was noted to what is wanted.
use Rattle.std.proofs.Common.{◌≡◌, ℕ, true, false, List, [], ◌∷◌, ◌++◌, map, nat_lt, refl, sym, subst, if◌then◌else◌}
use Rattle.std.specs.List.{AllByRecursion}
use Rattle.std.proofs.lemmas.List.{map-append}
use Rattle.of_match.specs.declared.entry.Command.{Command}
use Rattle.of_match.specs.declared.entry.Command.TheVariants.{Add, DeleteAll, DeleteStrict}
use Rattle.of_match.specs.declared.entry.Entry.{Entry}
use Rattle.of_match.specs.FlowTables.{above, after, below}
use Rattle.of_match.specs.Settled.{Settles, SettlesInTurn, after_all}
use Rattle.of_match.proofs.AfterOrder.{all_append, all_filter}
use Rattle.of13_codec.specs.declared.message.Message.{Message}
use Rattle.of13_codec.specs.declared.message.Message.TheVariants as messages
use Rattle.plan_difference.specs.Difference.{deletes, difference, has}
use Rattle.flow_messages.specs.Commands.{Says, barrier, command, nothing}
use Rattle.flow_messages.specs.Messages.{command_message}
use Rattle.law_stories.specs.Right.{LeadsTo}
use Rattle.law_stories.proofs.Fits.{IsLow, Told}

-- ---- commands of a difference are about tables of a switch

abbrev pub IsLowCommand : Command → Type 0
IsLowCommand (Add e) = IsLow e
IsLowCommand (DeleteStrict key) = nat_lt key.table 0xff ≡ true
IsLowCommand DeleteAll = Unit {0}

low_deletes : (es : List Entry) → AllByRecursion IsLow es → AllByRecursion IsLowCommand (deletes es)
low_deletes [] all = tt
low_deletes (e ∷ es) all = (all.0, low_deletes es all.1)

pub low_difference : (from to : List Entry) → AllByRecursion IsLow from → AllByRecursion IsLow to → AllByRecursion IsLowCommand (difference from to)
low_difference from [] low all = low_deletes from low
low_difference from (e ∷ to) low all =
    all_append IsLowCommand (deletes (below e.key from)) ((if has from e then [] else Add e ∷ []) ++ difference (above e.key from) to)
    (low_deletes (below e.key from) (all_filter IsLow _ from low))
    (all_append IsLowCommand (if has from e then [] else Add e ∷ []) (difference (above e.key from) to)
    (elim (has from e) as (λ b. AllByRecursion IsLowCommand (if b then [] else Add e ∷ [])) [ true ↦ tt | false ↦ (all.0, tt) ])
    (low_difference (above e.key from) to (all_filter IsLow _ from low) all.1))

-- ---- what is added stands

low_after : (tables : List Entry) (e : Entry) → AllByRecursion IsLow tables → IsLow e → AllByRecursion IsLow (after tables (Add e))
low_after tables e low here =
    all_append IsLow (below e.key tables) (e ∷ above e.key tables) (all_filter IsLow _ tables low) (here, all_filter IsLow _ tables low)

pub low_added : (tables es : List Entry) → AllByRecursion IsLow tables → AllByRecursion IsLow es → AllByRecursion IsLow (after_all tables (map Add es))
low_added tables [] low all = low
low_added tables (e ∷ es) low all = low_added (after tables (Add e)) es (low_after tables e low all.0) all.1

-- ---- messages of commands, and a barrier

commands_said : (commands : List Command) → AllByRecursion IsLowCommand commands → Says (map command_message commands ++ messages.BarrierRequest ∷ []) (commands ∷ [])
commands_said [] low = barrier [] [] nothing
commands_said (Add e ∷ more) low = command _ (Add e) _ _ _ (let one = low.0 in rw one refl) (commands_said more low.1)
commands_said (DeleteStrict key ∷ more) low = command _ (DeleteStrict key) _ _ _ (let one = low.0 in rw one refl) (commands_said more low.1)
commands_said (DeleteAll ∷ more) low = command _ DeleteAll _ _ _ refl (commands_said more low.1)

says_append : (xs : List Message) (first : List (List Command)) → Says xs first → (ys : List Message) (bs : List (List Command)) → Says ys bs → Says (xs ++ ys) (first ++ bs)
says_append _ _ nothing ys bs s = s
says_append _ _ (barrier more batches before) ys bs s = barrier (more ++ ys) (batches ++ bs) (says_append more batches before ys bs s)
says_append _ _ (command m c more batch batches is before) ys bs s = command m c (more ++ ys) batch (batches ++ bs) is (says_append more (batch ∷ batches) before ys bs s)

-- ---- the last batch

last_batch : (batches : List (List Command)) (commands : List Command) (held settled : List Entry) → SettlesInTurn held (batches ++ commands ∷ []) settled
    → (between : List Entry) × SettlesInTurn held batches between × Settles between commands settled
last_batch [] commands held settled (between, one, last) = (held, refl, subst (Settles held commands) (sym last) one)
last_batch (b ∷ batches) commands held settled (between, one, rest) =
    let more = last_batch batches commands between settled rest in
    (more.0, (between, one, more.1), more.2)

pub leads_on : (told more : Told) (from to : List Entry) (commands : List Command) → AllByRecursion IsLowCommand commands → LeadsTo told from
    → map (λ (m : Message × ℕ). m.0) more ≡ map command_message commands ++ messages.BarrierRequest ∷ []
    → ((settled : List Entry) → Settles from commands settled → settled ≡ to) → LeadsTo (told ++ more) to
leads_on told more from to commands low leads is law = (
  leads.0 ++ commands ∷ [],
  subst (λ ms. Says ms (leads.0 ++ commands ∷ [])) (sym (map-append (λ (m : Message × ℕ). m.0) told more))
      (says_append (map (λ (m : Message × ℕ). m.0) told) leads.0 leads.1 (map (λ (m : Message × ℕ). m.0) more) (commands ∷ []) (subst (λ ms. Says ms (commands ∷ [])) (sym is) (commands_said commands low))),
  λ held settled turns. let parts = last_batch leads.0 commands held settled turns in
      law settled (subst (λ es. Settles es commands settled) (leads.2 held parts.0 parts.1) parts.2),
)
