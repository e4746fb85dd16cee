-- What the opening batch of a datapath does.
use Rattle.std.proofs.Common.{◌≡◌, ℕ, zero, suc, ◌^◌, ◌<◌, nat_lt, inl, inr, Bool, true, false, List, [], ◌∷◌, ◌++◌, map, Option, Some, None, IsPermutation, refl, sym, ap, subst, ◌∙◌, arith}
use Rattle.std.specs.Prelude.{Contains}
use Rattle.std.specs.List.{AllByRecursion}
use Rattle.std.specs.Str.{bytes_eq}
use Rattle.std.proofs.lemmas.Bool.Decides.{eqb_tells}
use Rattle.std.proofs.lemmas.List.{append_assoc, append-nil}
use Rattle.std.proofs.lemmas.List.Elements.{All-from_recursion, All-contains}
use Rattle.std.proofs.lemmas.List.Sorted.{IsPermutation-sym, Contains-permutation}
use Rattle.std.proofs.lemmas.Option.{same_Some}
use Rattle.std.proofs.lemmas.Slice.Eq.{bytes_eq-Decides}
use Rattle.std.specs.Option.{option_map}
use Rattle.conf_types.specs.declared.datapath.Dp.{Dp}
use Rattle.conf_types.specs.Configuration.{Configuration, dp_with}
use Rattle.conf_types.specs.State.{State}
use Rattle.conf_types.specs.Valid.{IsValid}
use Rattle.of_match.specs.declared.entry.Command.TheVariants.{Add, DeleteAll}
use Rattle.of_match.specs.declared.entry.Entry.{Entry}
use Rattle.of_match.specs.declared.packet.Packet.{Packet}
use Rattle.of_match.specs.Settled.{SettlesInTurn}
use Rattle.of_match.specs.Shaped.{IsShaped}
use Rattle.packet_way.specs.Description.{sends}
use Rattle.plan_base.specs.Accepted.{IsFlowEntry}
use Rattle.law_runs.specs.Runs.{SendsJust}
use Rattle.plan_units.specs.Laws.{IsSetting}
use Rattle.plan_units.specs.Units.{plan}
use Rattle.law_entries.specs.Short.{IsShort}
use Rattle.cold_start.specs.Cold.{cold}
use Rattle.of13_codec.specs.Messages.{written}
use Rattle.of13_codec.specs.Spelling.{Spells}
use Rattle.of13_codec.specs.WellFormed.{IsWellFormed, FitsFrame}
use Rattle.of13_codec.specs.declared.message.Message.{Message}
use Rattle.of13_codec.specs.declared.message.Message.TheVariants as messages
use Rattle.opening_batch.specs.Opening.{dp_called, nothing_learned, batch_of, opening_of}
use Rattle.flow_messages.specs.Messages.{add, delete_all}
use Rattle.opening_batch.specs.Messages.{adds, next_xid, xid_after, opening}
use Rattle.flow_messages.specs.Commands.{command_in, Says, nothing, barrier, command}
use Rattle.opening_batch.specs.Opened.{written_from, SpellAll, Opens}
use Rattle.opening_batch.proofs.Framed.{NumberLen, FieldsLen, MatchLen, ActionsLen, IsWritten, IsAdded, wipe, add_of, wipe_written, all_added}
use Rattle.opening_batch.proofs.Nothing.{called_is, nothing_valid}

-- ---- the messages of an opening batch

abbrev adds_then_barrier : List Entry → List Message
adds_then_barrier es = map add es ++ messages.BarrierRequest ∷ []

abbrev opening_messages : List Entry → List Message
opening_messages es = delete_all ∷ messages.BarrierRequest ∷ adds_then_barrier es

adds_written : (xid : ℕ) (es : List Entry) → adds xid es ++ written messages.BarrierRequest (xid_after xid es) ≡ written_from xid (adds_then_barrier es)
adds_written xid [] = sym (append-nil (written messages.BarrierRequest xid))
adds_written xid (e ∷ es) =
    append_assoc (written (add e) xid) (adds (next_xid xid) es) (written messages.BarrierRequest (xid_after (next_xid xid) es))
    ∙ ap (λ l. written (add e) xid ++ l) (adds_written (next_xid xid) es)

opening_written : (es : List Entry) → opening es ≡ written_from 1 (opening_messages es)
opening_written es =
    append_assoc (written delete_all 1 ++ written messages.BarrierRequest 2) (adds 3 es) (written messages.BarrierRequest (xid_after 3 es))
    ∙ ap (λ l. written delete_all 1 ++ written messages.BarrierRequest 2 ++ l) (adds_written 3 es)
    ∙ append_assoc (written delete_all 1) (written messages.BarrierRequest 2) (written_from 3 (adds_then_barrier es))

add_said : (e : Entry) → nat_lt e.key.table 0xff ≡ true → command_in (add_of e) ≡ Some (Add e)
add_said e one = rw one refl

adds_said : (es : List Entry) → AllByRecursion IsAdded es → Says (adds_then_barrier es) (map Add es ∷ [])
adds_said [] all = barrier [] [] nothing
adds_said (e ∷ es) all = command _ (Add e) _ _ _ (add_said e (all.0).table) (adds_said es all.1)

opening_said : (es : List Entry) → AllByRecursion IsAdded es → Says (opening_messages es) ((DeleteAll ∷ []) ∷ map Add es ∷ [])
opening_said es all = command _ DeleteAll _ _ _ refl (barrier _ _ (adds_said es all))

-- ---- the messages are well formed, so the bytes spell them

abbrev pub Spelled : Type 0
Spelled = (m : Message) (xid : ℕ) → IsWellFormed m → FitsFrame m → xid < 2 ^ 32 → Spells m xid (written m xid)

record CanBeWritten (m : Message) : Type 0 where
  formed : IsWellFormed m
  fits : FitsFrame m

next_fits : (xid : ℕ) → xid < 2 ^ 32 → next_xid xid < 2 ^ 32
next_fits xid less = elim (eqb_tells xid 0xffffffff) [
  | inl same ↦ rw same.0 (omega arith)
  | inr other ↦ rw other.0 (let ne = other.1 in omega (arith, less, ne))
]

spells_all : Spelled → (xid : ℕ) → xid < 2 ^ 32 → (ms : List Message) → AllByRecursion CanBeWritten ms → SpellAll xid ms (written_from xid ms)
spells_all law xid less [] all = refl
spells_all law xid less (m ∷ more) all =
    record {
      first = written m xid;
      rest = written_from (next_xid xid) more;
      whole = refl;
      in_front = law m xid (all.0).formed (all.0).fits less;
      behind = spells_all law (next_xid xid) (next_fits xid less) more all.1;
    }

adds_can : (es : List Entry) → AllByRecursion IsAdded es → AllByRecursion CanBeWritten (adds_then_barrier es)
adds_can [] all = (record { formed = tt; fits = omega arith }, tt)
adds_can (e ∷ es) all = (let w = (all.0).written in record { formed = w.formed; fits = w.fits }, adds_can es all.1)

opening_can : IsWritten wipe → (es : List Entry) → AllByRecursion IsAdded es → AllByRecursion CanBeWritten (opening_messages es)
opening_can w es all = (record { formed = w.formed; fits = w.fits }, (record { formed = tt; fits = omega arith }, adds_can es all))

-- ---- the batch of a datapath

abbrev pub AreShort : Type 0
AreShort = (conf : Configuration) (now : State) (d : Dp) → IsSetting conf now d → AllByRecursion IsShort (plan conf now d)

abbrev pub AreSame : Type 0
AreSame = (conf : Configuration) (now : State) (d : Dp) → IsSetting conf now d → IsPermutation (plan conf now d) (cold conf now d)

abbrev pub AreFlows : Type 0
AreFlows = (conf : Configuration) (now : State) (d : Dp) → IsSetting conf now d → AllByRecursion IsFlowEntry (cold conf now d)

abbrev pub Holds : Type 0
Holds = (conf : Configuration) (now : State) (d : Dp) (held settled : List Entry) → SettlesInTurn held ((DeleteAll ∷ []) ∷ map Add (cold conf now d) ∷ []) settled → settled ≡ cold conf now d

abbrev pub Goes : Type 0
Goes = (conf : Configuration) (now : State) (d : Dp) → IsSetting conf now d → (port : ℕ) (p : Packet) → port < 2 ^ 32 → IsShaped p → SendsJust (cold conf now d) port 0 p (sends conf now d.id port p)

-- what holds of all of a list holds of all of its parts in another order
all_of : (P : Entry → Type 0) (all es : List Entry) → AllByRecursion P all → ((e : Entry) → Contains es e → Contains all e) → AllByRecursion P es
all_of P all es h within = by es (λ e c. All-contains P all e (All-from_recursion P all h) (within e c))
  where
    here : (e : Entry) (more : List Entry) → Contains (e ∷ more) e
    here e more = (zero, omega arith, refl)

    there : (e f : Entry) (more : List Entry) → Contains more f → Contains (e ∷ more) f
    there e f more (k, low, is) = (suc k, omega (arith, low), is)

    by : (fs : List Entry) → ((e : Entry) → Contains fs e → P e) → AllByRecursion P fs
    by [] k = tt
    by (f ∷ fs) k = (k f (here f fs), by fs (λ e c. k e (there f e fs c)))

permuted : (P : Entry → Type 0) (xs ys : List Entry) → IsPermutation xs ys → AllByRecursion P xs → AllByRecursion P ys
permuted P xs ys p all = all_of P xs ys all (λ e c. Contains-permutation ys xs e (IsPermutation-sym xs ys p) c)

setting : (conf : Configuration) → IsValid conf → (d : Dp) → dp_with conf.dps d.id ≡ Some d → IsSetting conf (nothing_learned conf) d
setting conf valid d is = record { valid = valid; state = nothing_valid conf valid; addresses = record { hosts = tt; neighbours = tt }; is_dp = is }

module _ (number_len : NumberLen) (fields_len : FieldsLen) (match_len : MatchLen) (actions_len : ActionsLen) (spelled : Spelled)
    (short : AreShort) (same : AreSame) (flows : AreFlows) (holds : Holds) (goes : Goes) (conf : Configuration) (valid : IsValid conf) (dp batch : List ℕ) where
  opens : (d : Dp) → dp_with conf.dps d.id ≡ Some d → d.name ≡ dp → batch_of conf d ≡ batch → Opens conf dp batch
  opens d is named made =
      let now = nothing_learned conf in
      let es = cold conf now d in
      let set = setting conf valid d is in
      let added = all_added number_len fields_len match_len actions_len es (flows conf now d set) (permuted IsShort (plan conf now d) es (same conf now d set) (short conf now d set)) in
      record {
        datapath = d;
        messages = opening_messages es;
        commands = (DeleteAll ∷ []) ∷ map Add es ∷ [];
        is_dp = is;
        named = named;
        sent = sym made ∙ opening_written es;
        spelled = subst (SpellAll 1 (opening_messages es)) (sym (sym made ∙ opening_written es))
            (spells_all spelled 1 (omega arith) (opening_messages es) (opening_can (wipe_written number_len fields_len match_len actions_len) es added));
        said = opening_said es added;
        holds = holds conf now d;
        goes = goes conf now d set;
      }

  by_name : (o : Option Dp) → dp_called conf.dps dp ≡ o → option_map (batch_of conf) o ≡ Some batch → Opens conf dp batch
  by_name None is made = absurd cc
  by_name (Some d) is made =
      let called = called_is conf valid d dp is in
      opens d called.0 ((bytes_eq-Decides d.name dp).0 called.1) (same_Some (batch_of conf d) batch made)

  pub batch_opens : opening_of conf dp ≡ Some batch → Opens conf dp batch
  batch_opens made = by_name (dp_called conf.dps dp) refl made
