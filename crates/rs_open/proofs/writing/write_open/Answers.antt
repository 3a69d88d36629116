use Rattle.rs_open.proofs.Written.{open_written}
use Rattle.rs_open.proofs.writing.write_open.Goals as goal

pub returns-clause-octets : goal.returns-clause-octets
returns-clause-octets c =
    open_written c.args.said.now c.capabilities_size.result c.put_open_front-end.result c.put_capability-end.result c.put_capability-end-2.result c.put_capability-end-3.result
    c.to_be_bytes.result c.args.out.now c.put_open_front-end.new.out c.put_capability-end.new.out c.put_capability-end-2.new.out c.put_capability-end-3.new.out c.put_capability.new.out
    c.requires c.capabilities_size.ensures c.to_be_bytes.ensures
    c.put_open_front-end.ensures.end c.put_capability-end.ensures.end c.put_capability-end-2.ensures.end c.put_capability-end-3.ensures.end
    c.put_open_front-end.ensures.octets c.put_capability-end.ensures.octets c.put_capability-end-2.ensures.octets c.put_capability-end-3.ensures.octets c.put_capability.ensures.octets
