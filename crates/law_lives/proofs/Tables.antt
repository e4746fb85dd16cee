-- A switch whose features are accepted has each table that an entry of a plan names.
use Rattle.std.proofs.Common.{◌≡◌, ℕ, ◌<◌, ◌≤◌, ◌==◌, Bool, true, false, not, nat_lt, is_some, Some, None, List, refl, arith, if◌then◌else◌}
use Rattle.std.specs.List.{AllByRecursion}
use Rattle.std.proofs.lemmas.Bool.Decides.{nat_tests}
use Rattle.net_base.specs.declared.numbers.DpId.{DpId}
use Rattle.host_learn.proofs.Lists.{all_both, all_map}
use Rattle.of_match.specs.declared.action.Instr.{Instr}
use Rattle.of_match.specs.declared.action.Instr.TheVariants.{Goto, Apply}
use Rattle.of_match.specs.declared.entry.Entry.{Entry}
use Rattle.conf_types.specs.Configuration.{Configuration, dp_with}
use Rattle.switch_session.specs.declared.closing.Closing.TheVariants.{Auxiliary, TooFewTables, UnknownDp}
use Rattle.law_entries.specs.Doable.{CanBeDone, LeadsOn}
use Rattle.law_entries.specs.Short.{IsShort}
use Rattle.ctl_core.specs.Hearing.{unfit}
use Rattle.law_lives.specs.Causes.{IsWithin, LeadsWithin}

enough : (n_tables : ℕ) (a b c : Bool) → nat_lt n_tables 9 ≡ b → (if a then Some UnknownDp else if b then Some TooFewTables else if c then Some Auxiliary else None) ≡ None → 9 ≤ n_tables
enough n_tables true b c is none = absurd (cc)
enough n_tables false true c is none = absurd (cc)
enough n_tables false false c is none = grind (arith, nat_tests)

leads_within : (n_tables : ℕ) → 9 ≤ n_tables → (table : ℕ) (i : Instr) → LeadsOn table i → LeadsWithin n_tables i
leads_within n_tables nine table (Goto u) on = let most : u ≤ 8 = on.1 in omega arith
leads_within n_tables nine table (Apply actions) on = tt

pub all_within : (conf : Configuration) (dp : DpId) (n_tables auxiliary : ℕ) → unfit conf dp n_tables auxiliary ≡ None → (entries : List Entry) → AllByRecursion IsShort entries → AllByRecursion CanBeDone entries
    → AllByRecursion (IsWithin n_tables) entries
all_within conf dp n_tables auxiliary fits entries short doable =
    let nine : 9 ≤ n_tables = enough n_tables (not (is_some (dp_with conf.dps dp))) (nat_lt n_tables 9) (not (auxiliary == 0)) refl fits in
    all_map (λ e. IsShort e × CanBeDone e) (IsWithin n_tables)
    (λ e both. let at : e.key.table < 9 = both.0.table in
    record { table = omega arith; onward = all_map (LeadsOn e.key.table) (LeadsWithin n_tables) (leads_within n_tables nine e.key.table) e.instrs both.1.onward }) entries
    (all_both IsShort CanBeDone entries short doable)
