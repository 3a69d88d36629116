use Rattle.std.proofs.Common.{rules, arith, ◌≡◌, ◌<◌, ◌≤◌, ◌++◌, [], refl, sym, ◌∙◌, ap, subst, length, length-append, append_assoc, codes}
use Rattle.std.proofs.lemmas.List.{append-nil, take-append-drop}
use Rattle.std.proofs.lemmas.Result.{on_ok_weaker}
use Rattle.hex.specs.Hex.{encode_lower, IsBytes}
use Rattle.rs_record.specs.Lines.{one_operand}
use Rattle.rs_record.proofs.Saying.{says_none}
use Rattle.rs_record.proofs.EventLemmas.{adds_parts, bytes_behind, bytes_front, goes_on}
use Rattle.rs_record.proofs.event_lines.put_parts.Goals as goal

pub loop-rest-init : goal.loop-rest-init
loop-rest-init c = ([], [], sym (append-nil c.args.line.now.items), refl, c.requires.some, λ place. says_none place [])

pub loop-rest-preserved : goal.loop-rest-preserved
loop-rest-preserved c =
    let before = c.loop-rest.invariant in
    let front = c.split_at.result.0.now in
    let behind = c.split_at.result.1.now in
    let part = one_operand (codes "more") (encode_lower front) in
    let bytes : IsBytes c.args.text.now = λ i. let f = c.type_inv.text i in omega arith in
    let both : c.loop-rest.rest.now ≡ front ++ behind = rw c.split_at.ensures.front (rw c.split_at.ensures.back (sym (take-append-drop 4096 c.loop-rest.rest.now))) in
    let put : c.put_text.new.line.items ≡ c.loop-rest.line.items ++ part = search rules in
    let text : c.args.text.now ≡ (before.1 ++ front) ++ behind = before.3 ∙ ap (λ xs. before.1 ++ xs) both ∙ sym (append_assoc before.1 front behind) in
    let size : length front ≡ 4096 = search rules in
    let left : 0 < length behind = omega (arith, c.loop-rest-test.true, size, ap length both, length-append front behind) in
    let whole : length (before.1 ++ front) ≤ 67108864 = omega (arith, c.requires.few, ap length text, length-append (before.1 ++ front) behind) in (
      before.0 ++ part,
      before.1 ++ front,
      put ∙ ap (λ xs. xs ++ part) before.2 ∙ append_assoc c.args.line.now.items before.0 part,
      text,
      left,
      goes_on before.0 before.1 front before.5 (omega (arith, size)) (omega (arith, size)) (bytes_behind before.1 front (bytes_front (before.1 ++ front) behind (subst IsBytes text bytes))) whole,
    )

pub returns : goal.returns
returns c =
    let before = c.loop-rest.invariant in
    let bytes : IsBytes c.args.text.now = λ i. let f = c.type_inv.text i in omega arith in
    let short : length c.loop-rest.rest.now ≤ 4096 = omega (arith, c.loop-rest-test.false) in
    on_ok_weaker c.put_text-2.result
    (λ put. adds_parts c.args.names.now.names c.args.line.now.items c.put_text-2.new.line.items c.args.text.now before.1 c.loop-rest.rest.now before.0 before.3 before.4 short bytes c.requires.few before.5
    (put ∙ ap (λ xs. xs ++ one_operand (codes "rules") (encode_lower c.loop-rest.rest.now)) before.2))
    c.put_text-2.ensures
