use Rattle.conf_shape.proofs.datapaths.read_datapath.Goals as goal

pub returns : goal.returns
returns c = λ i. record {
  names = c.in_ok-read_names.ensures i;
  id = c.datapath_id.ensures i;
  hardware = c.in_ok-text_or.ensures i;
  timeout = c.number_at.ensures i;
  arp_timeout = c.number_at-2.ensures i;
  stack_priority = c.stack_priority.ensures i;
  lldp = c.lldp.ensures i;
  drops = c.drop_flags.ensures i;
  ports = c.in_ok-read_ports.ensures i;
}
