-- What a run of `bench` delivers.
use Rattle.std.proofs.Common.{◌≡◌, ℕ, inl, inr, List, [], Option, refl, sym, ap}
use Rattle.fg_outside.proofs.SinkLemmas.{appended-nil, AppendsFront-none}
use Rattle.bench_story.specs.declared.measuring.Measured.{Measured}
use Rattle.bench_story.specs.Measured.{measured}
use Rattle.faucet_top.specs.declared.deliver.Status.{Status}
use Rattle.faucet_top.specs.declared.deliver.Status.TheVariants as statuses
use Rattle.faucet_top.specs.Answer.{bench_answer, bench_line, out_of_memory}
use Rattle.faucet_top.specs.Ends.{Ends}
use Rattle.faucet_top.specs.Given.{Delivers, GivesBench}
use Rattle.faucet_top.specs.Status.{number_of_status}
use Rattle.faucet_top.proofs.CheckLemmas.{line_delivered}

module _ (hosts : ℕ) (o0 o1 e0 e1 : Option (List ℕ)) (m0 m1 n0 n1 : ℕ) (ended : Status) where
  line_written : (m : Measured) → Ends statuses.Done (bench_line m) o0 o1 m0 m1 ended → Delivers (bench_answer m) (number_of_status ended) o0 o1 e0 e0 m0 m1 n0 n0
  line_written m (inl whole) = inl (ap number_of_status whole.0, whole.1, sym (appended-nil e0), whole.2, refl)
  line_written m (inr front) = inr (ap number_of_status front.0, front.1, AppendsFront-none e0 [], inl front.2)

  pub measured_given : (m : Measured) → m ≡ measured hosts → Ends statuses.Done (bench_line m) o0 o1 m0 m1 ended → GivesBench hosts (number_of_status ended) o0 o1 e0 e0 m0 m1 n0 n0
  measured_given m is ends = (bench_answer m, inl (ap bench_answer is), line_written m ends)

  pub unmeasured_given : Ends statuses.Memory out_of_memory.err e0 e1 n0 n1 ended → GivesBench hosts (number_of_status ended) o0 o0 e0 e1 m0 m0 n0 n1
  unmeasured_given ends = (out_of_memory, inr refl, line_delivered [] o0 o0 e0 e1 m0 m0 n0 n1 out_of_memory statuses.Memory ended refl refl ends)
