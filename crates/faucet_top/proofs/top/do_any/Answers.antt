use Rattle.std.proofs.Common.{Some, ap, sym, ◌∙◌}
use Rattle.command_line.specs.declared.meaning.Job.{Job}
use Rattle.faucet_top.specs.Status.{number_of_status}
use Rattle.faucet_top.proofs.ReadLemmas.{hub_fault_by_number}
use Rattle.faucet_top.proofs.EndLemmas.{some_is}
use Rattle.faucet_top.proofs.ServedLemmas.{local_any}
use Rattle.faucet_top.proofs.top.do_any.Goals as goal

pub returns-in-Serve-clause-gives : goal.returns-in-Serve-clause-gives
returns-in-Serve-clause-gives g c =
    rw (c.in-Serve.is, c.number.ensures) c.serve_switches-status.ensures.replies

pub returns-in-Serve-clause-no_read_fault : goal.returns-in-Serve-clause-no_read_fault
returns-in-Serve-clause-no_read_fault g c = λ local unread written below.
    absurd (local _ _ _ _ (ap (λ (j : Job). Some j) c.in-Serve.is))

pub returns-in-Serve-clause-hub : goal.returns-in-Serve-clause-hub
returns-in-Serve-clause-hub g c = λ local.
    absurd (local.0 _ _ _ _ (ap (λ (j : Job). Some j) c.in-Serve.is))

pub returns-in-Serve-clause-contents : goal.returns-in-Serve-clause-contents
returns-in-Serve-clause-contents g c = λ local.
    absurd (local _ _ _ _ (ap (λ (j : Job). Some j) c.in-Serve.is))

pub returns-in-Serve-clause-hub_fault : goal.returns-in-Serve-clause-hub_fault
returns-in-Serve-clause-hub_fault g c = λ six. c.serve_switches-status.ensures.hub_fault (hub_fault_by_number _ (sym c.number.ensures ∙ six))

pub returns-in-Serve-clause-no_hub_fault : goal.returns-in-Serve-clause-no_hub_fault
returns-in-Serve-clause-no_hub_fault g c = λ six four.
    c.serve_switches-status.ensures.no_hub_fault (λ is. six (c.number.ensures ∙ ap number_of_status is)) (λ is. four (c.number.ensures ∙ ap number_of_status is))

pub returns-in-GaugeServe-clause-gives : goal.returns-in-GaugeServe-clause-gives
returns-in-GaugeServe-clause-gives g c =
    rw (c.in-GaugeServe.is, c.number-in-GaugeServe.ensures) (rw c.as_str-config.ensures at c.watch_switches-status.ensures.replies)

pub returns-in-GaugeServe-clause-hub : goal.returns-in-GaugeServe-clause-hub
returns-in-GaugeServe-clause-hub g c = λ local.
    absurd (local.1 _ _ _ (ap (λ (j : Job). Some j) c.in-GaugeServe.is))

pub returns-in-GaugeServe-clause-no_read_fault : goal.returns-in-GaugeServe-clause-no_read_fault
returns-in-GaugeServe-clause-no_read_fault g c = λ local unread written below.
    c.watch_switches-status.ensures.no_read_fault (λ is. unread (c.number-in-GaugeServe.ensures ∙ ap number_of_status is)) (λ is. written (c.number-in-GaugeServe.ensures ∙ ap number_of_status is))

pub returns-in-GaugeServe-clause-hub_fault : goal.returns-in-GaugeServe-clause-hub_fault
returns-in-GaugeServe-clause-hub_fault g c = λ six. c.watch_switches-status.ensures.hub_fault (hub_fault_by_number _ (sym c.number-in-GaugeServe.ensures ∙ six))

pub returns-in-GaugeServe-clause-no_hub_fault : goal.returns-in-GaugeServe-clause-no_hub_fault
returns-in-GaugeServe-clause-no_hub_fault g c = λ six four.
    c.watch_switches-status.ensures.no_hub_fault (λ is. six (c.number-in-GaugeServe.ensures ∙ ap number_of_status is)) (λ is. four (c.number-in-GaugeServe.ensures ∙ ap number_of_status is))

pub local-status-requires : goal.local-status-requires
local-status-requires g c = record {
  local = (
    λ config events reload_ms listen is. c.in_default.not-Serve config events reload_ms listen (some_is is),
    λ config events listen is. c.in_default.not-GaugeServe config events listen (some_is is),
    λ config router events listen is. c.in_default.not-BgpServe config router events listen (some_is is),
  );
  frame = c.requires.frame;
}

pub returns-in_default-clause-gives : goal.returns-in_default-clause-gives
returns-in_default-clause-gives g c =
    local_any g.H.Hub.may g.F.Files.contents g.F.Files.faults _ _ _ (Some c.args.job.now) c.args.hub c.args.hub c.args.files _ _ _ _ _ _ _ _ _ _ (Some c.args.job.now) (
      λ config events reload_ms listen is. c.in_default.not-Serve config events reload_ms listen (some_is is),
      λ config events listen is. c.in_default.not-GaugeServe config events listen (some_is is),
      λ config router events listen is. c.in_default.not-BgpServe config router events listen (some_is is),
    ) c.local-status.ensures.gives

pub returns-in-Serve-clause-named : goal.returns-in-Serve-clause-named
returns-in-Serve-clause-named g c = λ reads. absurd (rw c.in-Serve.is at reads)

pub returns-in-GaugeServe-clause-named : goal.returns-in-GaugeServe-clause-named
returns-in-GaugeServe-clause-named g c = λ reads. absurd (rw c.in-GaugeServe.is at reads)

pub returns-in-BgpServe-clause-named : goal.returns-in-BgpServe-clause-named
returns-in-BgpServe-clause-named g c = λ reads. absurd (rw c.in-BgpServe.is at reads)

pub returns-in-BgpServe-clause-gives : goal.returns-in-BgpServe-clause-gives
returns-in-BgpServe-clause-gives g c =
    rw (c.in-BgpServe.is, c.number-in-BgpServe.ensures) (rw (c.as_str-config-in-BgpServe.ensures, c.as_str-router.ensures) at c.speak_on_hub-status.ensures.replies)

pub returns-in-BgpServe-clause-hub : goal.returns-in-BgpServe-clause-hub
returns-in-BgpServe-clause-hub g c = λ local.
    absurd (local.2 _ _ _ _ (ap (λ (j : Job). Some j) c.in-BgpServe.is))

pub returns-in-BgpServe-clause-no_read_fault : goal.returns-in-BgpServe-clause-no_read_fault
returns-in-BgpServe-clause-no_read_fault g c = λ local unread written below.
    c.speak_on_hub-status.ensures.no_read_fault (λ is. unread (c.number-in-BgpServe.ensures ∙ ap number_of_status is)) (λ is. written (c.number-in-BgpServe.ensures ∙ ap number_of_status is))

pub returns-in-BgpServe-clause-hub_fault : goal.returns-in-BgpServe-clause-hub_fault
returns-in-BgpServe-clause-hub_fault g c = λ six. c.speak_on_hub-status.ensures.hub_fault (hub_fault_by_number _ (sym c.number-in-BgpServe.ensures ∙ six))

pub returns-in-BgpServe-clause-no_hub_fault : goal.returns-in-BgpServe-clause-no_hub_fault
returns-in-BgpServe-clause-no_hub_fault g c = λ six four.
    c.speak_on_hub-status.ensures.no_hub_fault (λ is. six (c.number-in-BgpServe.ensures ∙ ap number_of_status is)) (λ is. four (c.number-in-BgpServe.ensures ∙ ap number_of_status is))
