use Rattle.conf_shape.proofs.datapaths.read_port.Goals as goal

pub returns : goal.returns
returns c = λ i. record {
  names = c.in_ok-read_names.ensures i;
  has_number = c.is_given.ensures i;
  no = c.port_number.ensures i;
  flags = c.port_flags.ensures i;
  native = c.in_ok-option_at.ensures i;
  tagged = c.in_ok-list_at.ensures i;
  acls = c.in_ok-read_acls.ensures i;
  max_hosts = c.number_at.ensures i;
  mirror = c.in_ok-one_or_list_at.ensures i;
  stack = c.in_ok-option_at-2.ensures i;
}
