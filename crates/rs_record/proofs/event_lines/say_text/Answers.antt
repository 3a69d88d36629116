use Rattle.std.proofs.Common.{refl, sym, arith}
use Rattle.hex.specs.Hex.{IsBytes}
use Rattle.rs_record.specs.Accounts.{said_text}
use Rattle.rs_record.proofs.Shutdowns.{adds_shutdown}
use Rattle.rs_record.proofs.event_lines.say_text.Goals as goal

pub returns-in_ok-put_shutdown : goal.returns-in_ok-put_shutdown
returns-in_ok-put_shutdown c text e =
    let bytes : IsBytes c.args.octets.now = λ i. let f = c.type_inv.octets i in omega arith in
    adds_shutdown c.args.names.now.names c.args.line.now.items c.put_shutdown.new.line.items c.args.c c.in-Some.name.now c.in-Some.ensures.0 c.in-Some.ensures.1
    text (said_text text) c.args.octets.now refl (sym e) bytes c.in_ok-put_shutdown.ensures
