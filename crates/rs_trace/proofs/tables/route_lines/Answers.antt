use Rattle.std.proofs.Common.{◌∙◌, ◌<◌, ◌++◌, ap, arith, sym}
use Rattle.std.specs.List.{flat_map}
use Rattle.std.proofs.lemmas.List.{append-nil}
use Rattle.rs_attrs.specs.Writing.{spelt}
use Rattle.rs_core.specs.Core.{client_count}
use Rattle.rs_trace.specs.Output.{route_line}
use Rattle.rs_trace.specs.Tables.{line_of_route}
use Rattle.rs_trace.proofs.TableLemmas.{listed, none_ok, writes_on}
use Rattle.rs_trace.proofs.tables.route_lines.Goals as goal

pub loop-prefix-init : goal.loop-prefix-init
loop-prefix-init c =
    let line = line_of_route c.args.name.now c.in-Some.mode in (
      tt,
      tt,
      record {
        routes = c.routes-prefix-items.result;
        are = record { rising = c.routes-prefix-items.ensures.rising; each = c.routes-prefix-items.ensures.routes };
        so_far = ap (λ xs. xs ++ flat_map line c.into_iter-prefix-iterator.result) c.new-lines.ensures.items ∙ ap (λ xs. flat_map line xs) c.into_iter-prefix-iterator.ensures.into_iter_gives;
      },
    )

pub loop-prefix-preserved : goal.loop-prefix-preserved
loop-prefix-preserved c =
    let name = c.args.name.now in
    let mode = c.in-Some.mode in
    let written = c.loop-prefix.lines.items in (
      tt,
      tt,
      writes_on c.args.core.now c.args.c name mode written c.in_ok-route.field-0.items c.extend_from_slice.new.self.items _ c.loop-prefix.prefix-iterator c.next.new.self c.loop-prefix.invariant.2
          c.in-Some-2.ensures.steps
          (c.in_ok-route.ensures ∙ ap (route_line name c.in-Some-2.prefix) (c.deref-in-loop-prefix.ensures.value ∙ c.in_ok-octets.ensures ∙ ap (λ m. spelt m mode) c.deref.ensures))
          (c.in_ok-extend_from_slice.ensures.items ∙ ap (λ xs. written ++ xs) c.deref-in-loop-prefix-2.ensures.value),
    )

pub returns-in_err-octets : goal.returns-in_err-octets
returns-in_err-octets c = λ run agrees.
    let w = c.loop-prefix.invariant.2 in
    let lt : c.args.c < client_count c.args.core.now = omega (arith, c.if-c-clients.false, c.clients.ensures.count) in
    (_, listed c.args.core.now c.args.c c.args.name.now c.in-Some.mode w.routes lt w.are c.mode.result c.mode.ensures c.in-Some.is run agrees, none_ok _ c.from_residual.result c.from_residual.ensures.0)

pub returns-in_err-route : goal.returns-in_err-route
returns-in_err-route c = λ run agrees.
    let w = c.loop-prefix.invariant.2 in
    let lt : c.args.c < client_count c.args.core.now = omega (arith, c.if-c-clients.false, c.clients.ensures.count) in
    (_, listed c.args.core.now c.args.c c.args.name.now c.in-Some.mode w.routes lt w.are c.mode.result c.mode.ensures c.in-Some.is run agrees, none_ok _ c.from_residual-in_err-route.result c.from_residual-in_err-route.ensures.0)

pub returns-in_err-extend_from_slice : goal.returns-in_err-extend_from_slice
returns-in_err-extend_from_slice c = λ run agrees.
    let w = c.loop-prefix.invariant.2 in
    let lt : c.args.c < client_count c.args.core.now = omega (arith, c.if-c-clients.false, c.clients.ensures.count) in
    (_, listed c.args.core.now c.args.c c.args.name.now c.in-Some.mode w.routes lt w.are c.mode.result c.mode.ensures c.in-Some.is run agrees, none_ok _ c.from_residual-in_err-extend_from_slice.result c.from_residual-in_err-extend_from_slice.ensures.0)

pub returns : goal.returns
returns c = λ run agrees.
    let w = c.loop-prefix.invariant.2 in
    let lt : c.args.c < client_count c.args.core.now = omega (arith, c.if-c-clients.false, c.clients.ensures.count) in
    let line = line_of_route c.args.name.now c.in-Some.mode in
    let written = c.loop-prefix.lines.items in (
      flat_map line w.routes,
      listed c.args.core.now c.args.c c.args.name.now c.in-Some.mode w.routes lt w.are c.mode.result c.mode.ensures c.in-Some.is run agrees,
      sym (append-nil written) ∙ ap (λ xs. written ++ flat_map line xs) (sym c.in-None.ensures.steps.0) ∙ w.so_far,
    )
