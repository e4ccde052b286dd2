-- Each part is written behind the one before, the law `key_written`.
use Rattle.std.proofs.Common.{length, arith, ap, ◌∙◌}
use Rattle.memory.proofs.SliceLaws.{tail_is}
use Rattle.packet.proofs.PacketKeyLaws.{KeyParts, key_written, parts_are}
use Rattle.packet.proofs.write_key.Goals as goal

pub returns : goal.returns
returns g c =
    let q = c.args.packet.now in
    let end_is = c.header_length-end.ensures in
    let within = g.met.V.Version.end_within q c.requires.right in
    let parts : KeyParts g.V.Version.ADDRESS c.args.key.now c.copy_from_slice.new.self c.copy_from_slice-2.new.self c.read_ports.new.to =
    record {
      room = c.requires.room ∙ g.met.V.Version.width_is;
      source_long = ap length c.copy_from_slice.ensures.after ∙ c.source.ensures.long;
      destination_long = ap length c.copy_from_slice-2.ensures.after ∙ c.destination.ensures.long;
      ports_long = omega arith;
    } in
    rw (c.ADDRESS-addresses.ensures, c.ADDRESS-2.ensures, c.ADDRESS.ensures)
    (key_written parts c.protocol.result
    ∙ parts_are (c.copy_from_slice.ensures.after ∙ c.source.ensures.value) (c.copy_from_slice-2.ensures.after ∙ c.destination.ensures.value)
    (c.read_ports.ensures ∙ rw (c.has_ports.ensures, end_is, tail_is _ q within)) c.protocol.ensures)
