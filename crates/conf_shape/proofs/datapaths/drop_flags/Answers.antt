use Rattle.conf_shape.proofs.datapaths.drop_flags.Goals as goal

pub returns : goal.returns
returns c = λ i. record {
  spoofed = c.flag_at.ensures i;
  broadcast = c.flag_at-2.ensures i;
  bpdu = c.flag_at-3.ensures i;
  lldp = c.flag_at-4.ensures i;
}
