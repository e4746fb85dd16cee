-- What is counted of a message, and owed for it, goes by its type.
use Rattle.std.proofs.Common.{◌≡◌, ℕ, ◌^◌, ◌<◌, ◌==◌, false, List, length, refl, arith}
use Rattle.std.specs.Prelude.{nat_lt}
use Rattle.std.proofs.lemmas.Bool.{le-ltb}
use Rattle.of_wire.specs.Numbers.{number_in}
use Rattle.of_wire.specs.Parts.{number}
use Rattle.of13_codec.specs.declared.message.Message.{Message}
use Rattle.of13_codec.specs.declared.message.Message.TheVariants.{BarrierReply, BarrierRequest}
use Rattle.of13_codec.specs.Messages.{body_of, framed, kind_of, version_of, written}
use Rattle.ctl_life.specs.declared.saying.Saying.TheVariants.{Send}
use Rattle.bench_story.specs.Counted.{is_of, reply_to}

framed_long : (version kind xid : ℕ) (body : List ℕ) → nat_lt (length (framed version kind xid body)) 8 ≡ false
unfolding number
framed_long version kind xid body = le-ltb (length (framed version kind xid body)) 8 (omega arith)

framed_kind : (version kind xid : ℕ) (body : List ℕ) → kind < 256 → number_in 1 1 (framed version kind xid body) ≡ kind
unfolding number number_in
framed_kind version kind xid body small = omega (arith, small)

framed_xid : (version kind xid : ℕ) (body : List ℕ) → xid < 2 ^ 32 → number_in 4 4 (framed version kind xid body) ≡ xid
unfolding number number_in
framed_xid version kind xid body small = omega (arith, small)

pub counted_by_type : (kind conn xid : ℕ) (m : Message) → kind_of m < 256 → is_of kind (Send conn (written m xid)) ≡ (kind_of m == kind)
unfolding written
counted_by_type kind conn xid m small = rw (framed_long (version_of m) (kind_of m) xid (body_of m), framed_kind (version_of m) (kind_of m) xid (body_of m) small) refl

pub replied_by_type : (conn xid : ℕ) → xid < 2 ^ 32 → reply_to (Send conn (written BarrierRequest xid)) ≡ written BarrierReply xid
unfolding written
replied_by_type conn xid small = rw (framed_long 4 20 xid (body_of BarrierRequest), framed_kind 4 20 xid (body_of BarrierRequest) (omega arith), framed_xid 4 20 xid (body_of BarrierRequest) small) refl
