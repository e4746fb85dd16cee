-- Probes that are said, one more.
use Rattle.std.proofs.Common.{◌≡◌, ℕ, ◌+◌, ◌<◌, List, [], ◌∷◌, ◌++◌, length, take, drop, get_or, refl, sym, ap, ◌∙◌, subst, append_assoc}
use Rattle.std.proofs.lemmas.List.{take-append-drop, take_more}
use Rattle.fg_outside.specs.declared.hub.Said.TheVariants.{Memory}
use Rattle.fg_outside.specs.HubStep.{HubStep, said, Event, happening, saying, closing}
use Rattle.fg_outside.proofs.StoryLemmas.{Story-start, Story-next}
use Rattle.probe_hub.specs.declared.probing.ProbeSaid.{ProbeSaid}
use Rattle.probe_hub.specs.Says.{AreSaid, AreTold, IsSaid, IsTold, SaysAll, SaysOne, SaysPart}

are_more : (probes : List ProbeSaid) (events : List Event) (probe : ProbeSaid) (event : Event) → AreSaid probes events → IsSaid probe event → AreSaid (probes ++ probe ∷ []) (events ++ event ∷ [])
are_more [] [] probe event all one = (one, tt)
are_more [] (e ∷ events) probe event all one = absurd all
are_more (p ∷ probes) [] probe event all one = absurd all
are_more (p ∷ probes) (e ∷ events) probe event all one = (all.0, are_more probes events probe event all.1 one)

told_as : (probe : ProbeSaid) (event : Event) → IsSaid probe event → IsTold probe event
told_as probe (happening it) one = absurd one
told_as probe (saying conn piece answer) one = (one.0, one.1)
told_as probe (closing conn) one = absurd one

told_more : (probes : List ProbeSaid) (events : List Event) (probe : ProbeSaid) (rest : List ProbeSaid) (event : Event) → AreSaid probes events → IsTold probe event → AreTold (events ++ event ∷ []) (probes ++ probe ∷ rest)
told_more [] [] probe rest event all one = (one, tt)
told_more [] (e ∷ events) probe rest event all one = absurd all
told_more (p ∷ probes) [] probe rest event all one = absurd all
told_more (p ∷ probes) (e ∷ events) probe rest event all one = (told_as p e all.0, told_more probes events probe rest event all.1 one)

split_at : (probes : List ProbeSaid) (i : ℕ) (probe : ProbeSaid) → i < length probes → probe ≡ get_or probes i probe → take i probes ++ (probe ∷ drop (i + 1) probes) ≡ probes
split_at probes i probe within is =
    sym (append_assoc (take i probes) (probe ∷ []) (drop (i + 1) probes))
    ∙ ap (λ (l : List ProbeSaid). l ++ drop (i + 1) probes) (ap (λ (p : ProbeSaid). take i probes ++ p ∷ []) is ∙ sym (take_more probes i probe within))
    ∙ take-append-drop (i + 1) probes

module _ {H : Type 0} (may : H → HubStep → H → Type 0) where
  pub says_none : (hub : H) → SaysAll may hub [] hub
  says_none hub = record { events = []; story = Story-start may hub; are = tt }

  says_more : (from mid to : H) (probes : List ProbeSaid) (probe : ProbeSaid) → SaysAll may from probes mid → SaysOne may mid probe to → SaysAll may from (probes ++ probe ∷ []) to
  says_more from mid to probes probe before one = record {
    events = before.events ++ saying probe.conn probe.bytes one.answer ∷ [];
    story = Story-next may from mid to before.events (said probe.conn probe.bytes one.answer) before.story one.step;
    are = are_more probes before.events probe (saying probe.conn probe.bytes one.answer) before.are (refl, refl, one.told);
  }

  -- one of them more
  pub says_next : (from mid to : H) (probes : List ProbeSaid) (i : ℕ) (probe : ProbeSaid) → i < length probes → probe ≡ get_or probes i probe → SaysAll may from (take i probes) mid → SaysOne may mid probe to
      → SaysAll may from (take (i + 1) probes) to
  says_next from mid to probes i probe within is before one =
      subst (λ (ps : List ProbeSaid). SaysAll may from ps to) (ap (λ (p : ProbeSaid). take i probes ++ p ∷ []) is ∙ sym (take_more probes i probe within))
      (says_more from mid to (take i probes) probe before one)

  pub says_nothing : (hub : H) (probes : List ProbeSaid) → SaysPart may hub probes hub
  says_nothing hub probes = record { events = []; story = Story-start may hub; are = tt }

  -- a front of them, and the next one, for which memory ran out
  pub says_part : (from mid to : H) (probes : List ProbeSaid) (i : ℕ) (probe : ProbeSaid) → i < length probes → probe ≡ get_or probes i probe → SaysAll may from (take i probes) mid
      → may mid (said probe.conn probe.bytes Memory) to → SaysPart may from probes to
  says_part from mid to probes i probe within is before step_may =
      let last : Event = saying probe.conn probe.bytes Memory in
      record {
        events = before.events ++ last ∷ [];
        story = Story-next may from mid to before.events (said probe.conn probe.bytes Memory) before.story step_may;
        are = subst (λ (l : List ProbeSaid). AreTold (before.events ++ last ∷ []) l) (split_at probes i probe within is) (told_more (take i probes) before.events probe (drop (i + 1) probes) last before.are (refl, refl));
      }
