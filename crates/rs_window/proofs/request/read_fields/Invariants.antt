use Rattle.std.proofs.Common.{◌≡◌, take, map}
use Rattle.httparse.specs.Spans.{header_bytes}
use Rattle.rs_window.specs.Requests.{said_of}
use Rattle.rs_window.proofs.request.read_fields.Given as goal

abbrev pub invariant-loop-field : goal.invariant-loop-field
invariant-loop-field l = l.said ≡ said_of (map (header_bytes l.octets) (take l.field-index l.fields))
