use Rattle.conf_shape.proofs.datapaths.port_flags.Goals as goal

pub returns : goal.returns
returns c = λ i. record {
  enabled = c.flag_at.ensures i;
  unicast_flood = c.flag_at-2.ensures i;
  opstatus_reconf = c.flag_at-3.ensures i;
  output_only = c.flag_at-4.ensures i;
  hairpin = c.flag_at-5.ensures i;
  permanent_learn = c.flag_at-6.ensures i;
}
