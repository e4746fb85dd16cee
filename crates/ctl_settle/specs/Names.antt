-- Which changes name what a step makes differ, for the crates above.
pub use Rattle.law_names.specs.Differing.{host, is_other}
pub use Rattle.law_names.specs.Ends.{dps_on}
pub use Rattle.law_names.specs.Names.{Names}
pub use Rattle.law_names.specs.Packets.{by_packet_in, by_parts, by_port, by_table}
