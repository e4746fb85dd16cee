-- The connection of a datapath is the one with its number.
use Rattle.std.proofs.Common.{◌≡◌, ◌<◌, false, true, cond, Some, List, [], ◌∷◌, inl, inr, ap, ◌∙◌, arith, eq-eqb}
use Rattle.std.proofs.lemmas.Bool.{cases_Bool}
use Rattle.std.proofs.lemmas.Bool.Decides.{nat_tests}
use Rattle.net_base.specs.declared.numbers.DpId.{DpId}
use Rattle.ctl_world.specs.declared.conns.Conn.{Conn}
use Rattle.ctl_world.specs.Connections.{conn_of, conn_with, has_number, is_of}
use Rattle.ctl_settle.proofs.Batches.{AreByNumber, found_all}

pub of_with : (conns : List Conn) (dp : DpId) (c : Conn) → AreByNumber conns → conn_of conns dp ≡ Some c → conn_with conns c.number ≡ Some c
of_with [] dp c ordered some = absurd (cc)
of_with (x ∷ xs) dp c ordered some =
    elim (cases_Bool (is_of dp x)) [
      | inl here ↦
          let e : Some x ≡ Some c = rw here at some in
          let same : x ≡ c = cc in
          let it : has_number c.number x ≡ true = eq-eqb x.number c.number (ap (λ (d : Conn). d.number) same) in
          ap (λ b. cond b (Some x) (conn_with xs c.number)) it ∙ e
      | inr other ↦
          let rest : conn_of xs dp ≡ Some c = rw other at some in
          let less : x.number < c.number = found_all (λ d. x.number < d.number) xs dp c ordered.0 rest in
          let off : has_number c.number x ≡ false = grind (arith, nat_tests) in
          ap (λ b. cond b (Some x) (conn_with xs c.number)) off ∙ of_with xs dp c ordered.1 rest
    ]
