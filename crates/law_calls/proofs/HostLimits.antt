-- No call takes a table of hosts past its limit, and one that is refused leaves it as it is.
use Rattle.std.proofs.Common.{◌≡◌, ℕ, ◌≤◌, ◌==◌, Bool, true, false, not, List, [], ◌∷◌, length, filter, Some, None, refl, sym, ap, ◌∙◌, subst, arith, if◌then◌else◌}
use Rattle.std.specs.List.{find}
use Rattle.std.proofs.lemmas.Bool.{true≢false}
use Rattle.net_base.specs.declared.numbers.DpId.{DpId}
use Rattle.conf_types.specs.declared.state.HostRec.{HostRec}
use Rattle.conf_types.specs.declared.state.UpRec.{UpRec}
use Rattle.conf_types.specs.Configuration.{Configuration}
use Rattle.conf_types.specs.State.{is_host_at, is_to_forget}
use Rattle.host_learn.specs.declared.learn.Learn.{Learn}
use Rattle.host_learn.specs.declared.learn.Learn.TheVariants.{Learned, Moved, Refreshed, Full, NotLearnable}
use Rattle.host_learn.specs.Kept.{kept, last_of_each, may_stay}
use Rattle.host_learn.specs.Learning.{hosts_after, learned, outcome}
use Rattle.host_learn.specs.Table.{Table, off_datapath, without_first}
use Rattle.host_learn.proofs.Sizes.{fewer, learned_within, one_fewer, room_within}
use Rattle.law_calls.specs.declared.hosts.HostCall.{HostCall}
use Rattle.law_calls.specs.declared.hosts.HostCall.TheVariants as calls
use Rattle.law_calls.specs.declared.hosts.HostAnswer.{HostAnswer}
use Rattle.law_calls.specs.declared.hosts.HostAnswer.TheVariants as answers
use Rattle.law_calls.specs.Hosts.{IsMade, Makes, is_refused}
use Rattle.law_calls.specs.Runs.{Run}
use Rattle.law_calls.proofs.RunLemmas.{run_keeps}

-- ---- the limit

module _ (limit : ℕ) where
  record IsWithin (table : Table) : Type 0 where
    pub same : table.limit ≡ limit
    pub few : length table.hosts ≤ limit

  -- another list within the limit
  with_hosts : (old new : Table) (hosts : List HostRec) → IsWithin old → length hosts ≤ limit → new ≡ record old { hosts = hosts } → IsWithin new
  with_hosts old new hosts was few is = subst IsWithin (sym is) (record { same = was.same; few = few })

  hears : (old new : Table) (conf : Configuration) (heard : HostRec) → IsWithin old → new ≡ learned conf old heard → IsWithin new
  hears old new conf heard was is =
      let few : length (learned conf old heard).hosts ≤ old.limit = learned_within conf old.limit heard old.hosts (subst (λ (n : ℕ). length old.hosts ≤ n) (sym was.same) was.few) in
      with_hosts old new (learned conf old heard).hosts was (subst (λ (n : ℕ). length (learned conf old heard).hosts ≤ n) was.same few) is

  keeps_off : (old new : Table) (test : HostRec → Bool) → IsWithin old → new ≡ record old { hosts = filter test old.hosts } → IsWithin new
  keeps_off old new test was is = with_hosts old new (filter test old.hosts) was (omega (arith, fewer test old.hosts, was.few)) is

  ages : (old new : Table) (test : HostRec → Bool) → IsWithin old → new ≡ record old { hosts = without_first test old.hosts } → IsWithin new
  ages old new test was is = with_hosts old new (without_first test old.hosts) was (omega (arith, one_fewer test old.hosts, was.few)) is

  renews : (old new : Table) (conf : Configuration) (ups : List UpRec) (moment : ℕ) → IsWithin old → new ≡ kept conf ups moment old → IsWithin new
  renews old new conf ups moment was is =
      let few : length (kept conf ups moment old).hosts ≤ old.limit = room_within conf old.limit [] (last_of_each conf (filter (may_stay conf ups moment) old.hosts)) (omega arith) in
      with_hosts old new (kept conf ups moment old).hosts was (subst (λ (n : ℕ). length (kept conf ups moment old).hosts ≤ n) was.same few) is

  makes : (old : Table) (call : HostCall) (answer : HostAnswer) (new : Table) → IsWithin old → Makes old call answer new → IsWithin new
  makes old (calls.Hear conf heard) (answers.Heard told) new was made = hears old new conf.now heard was made.1
  makes old (calls.Hear conf heard) answers.Memory new was made = subst IsWithin (sym made) was
  makes old (calls.Hear conf heard) (answers.Aged host) new was made = absurd made
  makes old (calls.Hear conf heard) answers.Done new was made = absurd made
  makes old (calls.Age conf moment) (answers.Aged host) new was made = ages old new (is_to_forget conf.now moment.0) was made.1
  makes old (calls.Age conf moment) (answers.Heard told) new was made = absurd made
  makes old (calls.Age conf moment) answers.Done new was made = absurd made
  makes old (calls.Age conf moment) answers.Memory new was made = absurd made
  makes old (calls.ForgetDue conf moment) answers.Done new was made = keeps_off old new (λ host. not (is_to_forget conf.now moment.0 host)) was made
  makes old (calls.ForgetDue conf moment) (answers.Heard told) new was made = absurd made
  makes old (calls.ForgetDue conf moment) (answers.Aged host) new was made = absurd made
  makes old (calls.ForgetDue conf moment) answers.Memory new was made = absurd made
  makes old (calls.ForgetPort dp port) answers.Done new was made = keeps_off old new (λ host. not (is_host_at dp port host)) was made
  makes old (calls.ForgetPort dp port) (answers.Heard told) new was made = absurd made
  makes old (calls.ForgetPort dp port) (answers.Aged host) new was made = absurd made
  makes old (calls.ForgetPort dp port) answers.Memory new was made = absurd made
  makes old (calls.ForgetDp dp) answers.Done new was made = ages_off old new dp was made
    where
      ages_off : (old new : Table) (dp : DpId) → IsWithin old → new ≡ record old { hosts = off_datapath dp old.hosts } → IsWithin new
      ages_off old new dp was is = with_hosts old new (off_datapath dp old.hosts) was (omega (arith, fewer (λ host. not (host.dp.0 == dp.0)) old.hosts, was.few)) is
  makes old (calls.ForgetDp dp) (answers.Heard told) new was made = absurd made
  makes old (calls.ForgetDp dp) (answers.Aged host) new was made = absurd made
  makes old (calls.ForgetDp dp) answers.Memory new was made = absurd made
  makes old (calls.Keep conf ups moment) answers.Done new was made = renews old new conf.now ups.now moment.0 was made
  makes old (calls.Keep conf ups moment) answers.Memory new was made = subst IsWithin (sym made) was
  makes old (calls.Keep conf ups moment) (answers.Heard told) new was made = absurd made
  makes old (calls.Keep conf ups moment) (answers.Aged host) new was made = absurd made

pub run_within : (from to : Table) (list : List HostCall) → length from.hosts ≤ from.limit → Run IsMade from list to → (to.limit ≡ from.limit) × (length to.hosts ≤ to.limit)
run_within from to list few way =
    let last = run_keeps IsMade (IsWithin from.limit) (λ old call new was made. makes from.limit old call made.0 new was made.1) from (record { same = refl; few = few }) list to way in
    (last.same, subst (λ (n : ℕ). length to.hosts ≤ n) (sym last.same) last.few)

-- ---- refusals change nothing

none_first : (test : HostRec → Bool) (hosts : List HostRec) → find test hosts ≡ None → without_first test hosts ≡ hosts
none_first test [] none = refl
none_first test (host ∷ hosts) none =
    elim (test host) as (λ b. (if b then Some host else find test hosts) ≡ None → (if b then hosts else host ∷ without_first test hosts) ≡ host ∷ hosts) [
      | true ↦ λ e. absurd (let no : Some host ≡ None = e in cc)
      | false ↦ λ e. ap (λ (rest : List HostRec). host ∷ rest) (none_first test hosts e)
    ] none

told_full : (conf : Configuration) (old new : Table) (heard : HostRec) (told : Learn) → told ≡ outcome conf old heard → new ≡ learned conf old heard → hosts_after conf heard old.hosts told ≡ old.hosts → new ≡ old
told_full conf old new heard told is behind same =
    behind ∙ ap (λ (hosts : List HostRec). record old { hosts = hosts }) (ap (hosts_after conf heard old.hosts) (sym is) ∙ same)

pub refused_same : (old : Table) (call : HostCall) (answer : HostAnswer) (new : Table) → Makes old call answer new → is_refused answer ≡ true → new ≡ old
refused_same old (calls.Hear conf heard) (answers.Heard Full) new made refused = told_full conf.now old new heard Full made.0 made.1 refl
refused_same old (calls.Hear conf heard) (answers.Heard NotLearnable) new made refused = told_full conf.now old new heard NotLearnable made.0 made.1 refl
refused_same old call (answers.Heard Learned) new made refused = absurd (true≢false (sym refused))
refused_same old call (answers.Heard Moved) new made refused = absurd (true≢false (sym refused))
refused_same old call (answers.Heard Refreshed) new made refused = absurd (true≢false (sym refused))
refused_same old call (answers.Aged (Some host)) new made refused = absurd (true≢false (sym refused))
refused_same old call answers.Done new made refused = absurd (true≢false (sym refused))
refused_same old (calls.Hear conf heard) answers.Memory new made refused = made
refused_same old (calls.Hear conf heard) (answers.Aged None) new made refused = absurd made
refused_same old (calls.Age conf moment) (answers.Aged None) new made refused =
    made.1 ∙ ap (λ (hosts : List HostRec). record old { hosts = hosts }) (none_first (is_to_forget conf.now moment.0) old.hosts (sym made.0))
refused_same old (calls.Age conf moment) (answers.Heard Full) new made refused = absurd made
refused_same old (calls.Age conf moment) (answers.Heard NotLearnable) new made refused = absurd made
refused_same old (calls.Age conf moment) answers.Memory new made refused = absurd made
refused_same old (calls.ForgetDue conf moment) (answers.Heard Full) new made refused = absurd made
refused_same old (calls.ForgetDue conf moment) (answers.Heard NotLearnable) new made refused = absurd made
refused_same old (calls.ForgetDue conf moment) (answers.Aged None) new made refused = absurd made
refused_same old (calls.ForgetDue conf moment) answers.Memory new made refused = absurd made
refused_same old (calls.ForgetPort dp port) (answers.Heard Full) new made refused = absurd made
refused_same old (calls.ForgetPort dp port) (answers.Heard NotLearnable) new made refused = absurd made
refused_same old (calls.ForgetPort dp port) (answers.Aged None) new made refused = absurd made
refused_same old (calls.ForgetPort dp port) answers.Memory new made refused = absurd made
refused_same old (calls.ForgetDp dp) (answers.Heard Full) new made refused = absurd made
refused_same old (calls.ForgetDp dp) (answers.Heard NotLearnable) new made refused = absurd made
refused_same old (calls.ForgetDp dp) (answers.Aged None) new made refused = absurd made
refused_same old (calls.ForgetDp dp) answers.Memory new made refused = absurd made
refused_same old (calls.Keep conf ups moment) answers.Memory new made refused = made
refused_same old (calls.Keep conf ups moment) (answers.Heard Full) new made refused = absurd made
refused_same old (calls.Keep conf ups moment) (answers.Heard NotLearnable) new made refused = absurd made
refused_same old (calls.Keep conf ups moment) (answers.Aged None) new made refused = absurd made
