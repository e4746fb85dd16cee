-- The messages of an opening batch are well formed, so that the batch spells them.
use Rattle.std.proofs.Common.{◌≡◌, ℕ, suc, ◌+◌, ◌*◌, ◌^◌, ◌<◌, ◌≤◌, nat_lt, Bool, true, List, [], ◌∷◌, ◌++◌, length, replicate, refl, sym, ap, arith}
use Rattle.std.specs.List.{AllByRecursion, flat_map}
use Rattle.std.proofs.lemmas.Bool.{lt-ltb}
use Rattle.std.proofs.lemmas.List.{length-append}
use Rattle.net_base.specs.declared.field.Field.{Field}
use Rattle.of_match.specs.declared.action.Action.{Action}
use Rattle.of_match.specs.declared.action.Instr.{Instr}
use Rattle.of_match.specs.declared.action.Instr.TheVariants.{Goto, Apply}
use Rattle.of_match.specs.declared.entry.Entry.{Entry}
use Rattle.of_match.specs.WellFormed.{IsAction, AreApplied, AreInstrs}
use Rattle.of_wire.specs.Parts.{number, field_bytes, match_bytes, action_bytes, instr_bytes}
use Rattle.of_wire.specs.WellFormed.{IsMatch}
use Rattle.of13_codec.specs.declared.flow_mod.FlowMod.{FlowMod}
use Rattle.of13_codec.specs.declared.message.Message.TheVariants as messages
use Rattle.of13_codec.specs.Messages.{flow_mod_target, flow_mod_terms, flow_mod_filter}
use Rattle.of13_codec.specs.WellFormed.{IsFlowMod, FitsFrame}
use Rattle.plan_base.specs.Accepted.{IsFlowEntry}
use Rattle.law_entries.specs.Short.{count_actions, IsShort}

-- ---- what the codec says of lengths

abbrev pub NumberLen : Type 0
NumberLen = (len value : ℕ) → length (number len value) ≡ len

abbrev pub FieldsLen : Type 0
FieldsLen = (fields : List Field) → length (flat_map field_bytes fields) ≤ 36 * length fields

abbrev pub MatchLen : Type 0
MatchLen = (fields : List Field) → length (match_bytes fields) ≤ 11 + 36 * length fields

abbrev pub ActionsLen : Type 0
ActionsLen = (actions : List Action) → AllByRecursion IsAction actions → length (flat_map action_bytes actions) ≤ 24 * length actions

-- a message that can be written
pub record IsWritten (m : FlowMod) : Type 0 where
  pub formed : IsFlowMod m
  pub fits : FitsFrame (messages.FlowMod m)

-- the flow mods of the wipe and of an entry
abbrev pub wipe : FlowMod
wipe = record { cookie = 0; cookie_mask = 0; table = 0xff; command = 3; idle = 0; hard = 0; priority = 0; buffer = 0xffffffff; out_port = 0xffffffff; out_group = 0xffffffff; flags = 0; fields = []; instrs = [] }

abbrev pub add_of : Entry → FlowMod
add_of e =
    record {
      cookie = 0x5adc15c0;
      cookie_mask = 0;
      table = e.key.table;
      command = 0;
      idle = 0;
      hard = 0;
      priority = e.key.priority;
      buffer = 0xffffffff;
      out_port = 0xffffffff;
      out_group = 0xffffffff;
      flags = 0;
      fields = e.key.fields;
      instrs = e.instrs;
    }

-- an entry that can be added, in one table
pub record IsAdded (e : Entry) : Type 0 where
  pub written : IsWritten (add_of e)
  pub table : nat_lt e.key.table 0xff ≡ true

module _ (number_len : NumberLen) (fields_len : FieldsLen) (match_len : MatchLen) (actions_len : ActionsLen) where
  -- ---- lengths

  front_len : (m : FlowMod) → length (flow_mod_target m ++ flow_mod_terms m ++ flow_mod_filter m) ≡ 40
  front_len m =
      omega (
        arith,
        length-append (flow_mod_target m ++ flow_mod_terms m) (flow_mod_filter m),
        length-append (flow_mod_target m) (flow_mod_terms m),
        length-append (number 8 m.cookie ++ number 8 m.cookie_mask ++ number 1 m.table) (number 1 m.command),
        length-append (number 8 m.cookie ++ number 8 m.cookie_mask) (number 1 m.table),
        length-append (number 8 m.cookie) (number 8 m.cookie_mask),
        length-append (number 2 m.idle ++ number 2 m.hard ++ number 2 m.priority) (number 4 m.buffer),
        length-append (number 2 m.idle ++ number 2 m.hard) (number 2 m.priority),
        length-append (number 2 m.idle) (number 2 m.hard),
        length-append (number 4 m.out_port ++ number 4 m.out_group ++ number 2 m.flags) (replicate {A = ℕ} 2 0),
        length-append (number 4 m.out_port ++ number 4 m.out_group) (number 2 m.flags),
        length-append (number 4 m.out_port) (number 4 m.out_group),
        number_len 8 m.cookie,
        number_len 8 m.cookie_mask,
        number_len 1 m.table,
        number_len 1 m.command,
        number_len 2 m.idle,
        number_len 2 m.hard,
        number_len 2 m.priority,
        number_len 4 m.buffer,
        number_len 4 m.out_port,
        number_len 4 m.out_group,
        number_len 2 m.flags,
      )

  frame_fits : (m : FlowMod) → length m.fields ≤ 64 → length (flat_map instr_bytes m.instrs) ≤ 48016 → FitsFrame (messages.FlowMod m)
  frame_fits m few short =
      omega (
        arith,
        length-append (flow_mod_target m ++ flow_mod_terms m ++ flow_mod_filter m ++ match_bytes m.fields) (flat_map instr_bytes m.instrs),
        length-append (flow_mod_target m ++ flow_mod_terms m ++ flow_mod_filter m) (match_bytes m.fields),
        front_len m,
        match_len m.fields,
        few,
        short,
      )

  goto_len : (table : ℕ) → length (instr_bytes (Goto table)) ≡ 8
  goto_len table =
      omega (
        arith,
        length-append (number 2 1 ++ number 2 8 ++ number 1 table) (replicate {A = ℕ} 3 0),
        length-append (number 2 1 ++ number 2 8) (number 1 table),
        length-append (number 2 1) (number 2 8),
        number_len 2 1,
        number_len 2 8,
        number_len 1 table,
      )

  apply_len : (actions : List Action) → length (instr_bytes (Apply actions)) ≡ 8 + length (flat_map action_bytes actions)
  apply_len actions =
      let body = flat_map action_bytes actions in
      omega (
        arith,
        length-append (number 2 4 ++ number 2 (8 + length body) ++ replicate {A = ℕ} 4 0) body,
        length-append (number 2 4 ++ number 2 (8 + length body)) (replicate {A = ℕ} 4 0),
        length-append (number 2 4) (number 2 (8 + length body)),
        number_len 2 4,
        number_len 2 (8 + length body),
      )

  apply_most : (actions : List Action) (more : List Instr) → AreApplied actions → length (flat_map instr_bytes (Apply actions ∷ more)) ≤ 8 + 24 * length actions + length (flat_map instr_bytes more)
  apply_most actions more are =
      omega (arith, length-append (instr_bytes (Apply actions)) (flat_map instr_bytes more), apply_len actions, actions_len actions are.each)

  goto_most : (table : ℕ) → length (flat_map instr_bytes (Goto table ∷ [])) ≤ 8
  goto_most table = omega (arith, length-append (instr_bytes (Goto table)) [], goto_len table)

  -- each instruction has 8 bytes, and those of its actions
  instrs_len : (instrs : List Instr) → AreInstrs instrs → length (flat_map instr_bytes instrs) ≤ 16 + 24 * count_actions instrs
  instrs_len [] h = omega arith
  instrs_len (Goto table ∷ []) h = omega (arith, goto_most table)
  instrs_len (Goto table ∷ i ∷ more) h = absurd h
  instrs_len (Apply actions ∷ []) h = omega (arith, apply_most actions [] h)
  instrs_len (Apply actions ∷ Goto table ∷ []) h = omega (arith, apply_most actions (Goto table ∷ []) h.0, goto_most table)
  instrs_len (Apply actions ∷ Goto table ∷ i ∷ more) h = absurd h
  instrs_len (Apply actions ∷ Apply others ∷ more) h = absurd h

  few_bytes : (e : Entry) → AreInstrs e.instrs → count_actions e.instrs ≤ 2000 → length (flat_map instr_bytes e.instrs) ≤ 48016
  few_bytes e are few = omega (arith, instrs_len e.instrs are, few)

  -- ---- entries

  pub added : (e : Entry) → IsFlowEntry e → IsShort e → IsAdded e
  added e flow short =
      record {
        written = record {
          formed = record {
            cookie = omega arith;
            cookie_mask = omega arith;
            table = flow.table;
            command = omega arith;
            idle = omega arith;
            hard = omega arith;
            priority = flow.priority;
            buffer = omega arith;
            out_port = omega arith;
            out_group = omega arith;
            flags = omega arith;
            fields = flow.fields;
            instrs = flow.instrs;
          };
          fits = frame_fits (add_of e) short.fields (few_bytes e flow.instrs short.actions);
        };
        table = lt-ltb e.key.table 0xff (let nine : e.key.table < 9 = short.table in omega arith);
      }

  pub all_added : (es : List Entry) → AllByRecursion IsFlowEntry es → AllByRecursion IsShort es → AllByRecursion IsAdded es
  all_added [] flow short = tt
  all_added (e ∷ es) flow short = (added e flow.0 short.0, all_added es flow.1 short.1)

  no_field : IsMatch []
  no_field = record { ascending = tt; fitting = tt; prerequisites = tt }

  pub wipe_written : IsWritten wipe
  wipe_written =
      record {
        formed = record {
          cookie = omega arith;
          cookie_mask = omega arith;
          table = omega arith;
          command = omega arith;
          idle = omega arith;
          hard = omega arith;
          priority = omega arith;
          buffer = omega arith;
          out_port = omega arith;
          out_group = omega arith;
          flags = omega arith;
          fields = no_field;
          instrs = tt;
        };
        fits = frame_fits wipe (omega arith) (omega arith);
      }
