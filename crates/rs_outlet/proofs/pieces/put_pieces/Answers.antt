use Rattle.std.proofs.Common.{◌≡◌, ◌∙◌, ◌++◌, ◌+◌, [], ◌∷◌, nat_eq, length, map, sym, ap, subst, refl, arith}
use Rattle.std.specs.List.{AllByRecursion, IsDistinct}
use Rattle.std.specs.Vec.Iter.{into_iter_items}
use Rattle.std.proofs.lemmas.List.{append_assoc, append-nil, length-append, length-map, map-append}
use Rattle.rs_outlet.specs.Decided.News.{AreFree, change_of, slot_of, written}
use Rattle.rs_outlet.specs.Decided.Plans.{HasRows, news_in, news_of}
use Rattle.rs_outlet.specs.Inside.{numbers_of}
use Rattle.rs_outlet.proofs.Decided.Numbering.{no_elements}
use Rattle.rs_outlet.proofs.Pending.Pieces.{are_apart, free_after, free_behind, free_front, once_rest, rows_rest, written_both}
use Rattle.rs_outlet.proofs.pieces.put_pieces.Goals as goal

pub loop-piece-init : goal.loop-piece-init
loop-piece-init c =
    let are : into_iter_items c.into_iter-piece-iterator.result ≡ c.args.pieces.items = c.into_iter-piece-iterator.ensures.into_iter_gives.0 in
    record {
      written = ap (λ ps. written (news_in ps) c.args.rows.now.rows.items) are;
      listed = ap (λ ps. c.args.fresh.now.items ++ map slot_of (news_in ps)) are;
      used = ap (λ ps. c.args.rows.now.used + length (news_in ps)) are;
      room = refl;
      rows = subst (AllByRecursion (HasRows c.args.rows.now.rows)) (sym are) c.requires.rows;
      free = subst (λ ps. AreFree c.args.rows.now.rows.items (news_in ps)) (sym are) c.requires.free;
      numbers = subst (λ ps. IsDistinct nat_eq (numbers_of (map change_of (news_in ps)))) (sym are) c.requires.numbers;
      spare = omega (arith, ap (λ ps. length (news_in ps)) are, c.requires.room);
    }

pub loop-piece-preserved : goal.loop-piece-preserved
loop-piece-preserved c =
    let rest = into_iter_items c.next.new.self in
    let x = c.in-Some.piece in
    let inv = c.loop-piece.invariant in
    let are : into_iter_items c.loop-piece.piece-iterator ≡ x ∷ rest = c.in-Some.ensures.steps.0 in
    let was = c.loop-piece.rows.rows.items in
    let once : IsDistinct nat_eq (numbers_of (map change_of (news_of x ++ news_in rest))) = subst (λ ps. IsDistinct nat_eq (numbers_of (map change_of (news_in ps)))) are inv.numbers in
    let apart = are_apart (news_of x) (news_in rest) once in
    let free : AreFree was (news_of x ++ news_in rest) = subst (λ ps. AreFree was (news_in ps)) are inv.free in
    let has : AllByRecursion (HasRows c.loop-piece.rows.rows) (x ∷ rest) = subst (AllByRecursion (HasRows c.loop-piece.rows.rows)) are inv.rows in
    let count : length (news_in (into_iter_items c.loop-piece.piece-iterator)) ≡ length (news_of x) + length (news_in rest) = ap (λ ps. length (news_in ps)) are ∙ length-append (news_of x) (news_in rest) in
    record {
      written =
          ap (written (news_in rest)) c.put_piece.ensures.rows ∙ sym (written_both (news_of x) (news_in rest) was)
          ∙ ap (λ ps. written (news_in ps) was) (sym are) ∙ inv.written;
      listed =
          ap (λ fs. fs ++ map slot_of (news_in rest)) c.put_piece.ensures.fresh
          ∙ append_assoc c.loop-piece.fresh.items (map slot_of (news_of x)) (map slot_of (news_in rest))
          ∙ ap (λ fs. c.loop-piece.fresh.items ++ fs) (sym (map-append slot_of (news_of x) (news_in rest)))
          ∙ ap (λ ps. c.loop-piece.fresh.items ++ map slot_of (news_in ps)) (sym are) ∙ inv.listed;
      used = omega (arith, inv.used, count, c.put_piece.ensures.used);
      room = c.put_piece.ensures.room ∙ inv.room;
      rows = rows_rest x c.loop-piece.rows.rows c.put_piece.new.rows.rows c.put_piece.ensures.room c.put_piece.ensures.kept rest apart has.1;
      free = subst (λ xs. AreFree xs (news_in rest)) (sym c.put_piece.ensures.rows) (free_after (news_of x) (news_in rest) was apart (free_behind (news_of x) (news_in rest) was free));
      numbers = once_rest (news_of x) (news_in rest) once;
      spare =
          let listed : length c.put_piece.new.fresh.items ≡ length c.loop-piece.fresh.items + length (news_of x) =
          ap length c.put_piece.ensures.fresh ∙ length-append c.loop-piece.fresh.items (map slot_of (news_of x)) ∙ ap (λ k. length c.loop-piece.fresh.items + k) (length-map (news_of x) slot_of) in
          omega (arith, inv.spare, count, listed, c.put_piece.ensures.capacity, c.loop-piece.fresh.ok, c.put_piece.new.fresh.ok);
    }

pub put_piece-requires-clause-free : goal.put_piece-requires-clause-free
put_piece-requires-clause-free c =
    let rest = into_iter_items c.next.new.self in
    let was = c.loop-piece.rows.rows.items in
    free_front (news_of c.in-Some.piece) (news_in rest) was (subst (λ ps. AreFree was (news_in ps)) c.in-Some.ensures.steps.0 c.loop-piece.invariant.free)

pub put_piece-requires-clause-room : goal.put_piece-requires-clause-room
put_piece-requires-clause-room c =
    let rest = into_iter_items c.next.new.self in
    omega (arith, c.loop-piece.invariant.spare, ap (λ ps. length (news_in ps)) c.in-Some.ensures.steps.0, length-append (news_of c.in-Some.piece) (news_in rest))

pub returns : goal.returns
returns c =
    let it = c.loop-piece.piece-iterator in
    let inv = c.loop-piece.invariant in
    let none : [] ≡ into_iter_items it = no_elements _ (let e : length (into_iter_items it) ≡ 0 = omega (arith, c.in-None.ensures.steps.0, it.rest.ok) in e) in
    record {
      rows = ap (λ ps. written (news_in ps) c.loop-piece.rows.rows.items) none ∙ inv.written;
      used = (let left : length (news_in (into_iter_items it)) ≡ 0 = ap (λ ps. length (news_in ps)) (sym none) in omega (arith, inv.used, left));
      fresh = sym (append-nil c.loop-piece.fresh.items) ∙ ap (λ ps. c.loop-piece.fresh.items ++ map slot_of (news_in ps)) none ∙ inv.listed;
    }
