use Rattle.std.proofs.Common.{◌≡◌, ◌∙◌, ◌++◌, ℕ, [], None, true, nat_eq, length, map, cond, sym, ap, subst, refl, arith}
use Rattle.std.specs.FinMap as fin
use Rattle.std.proofs.lemmas.Bool.Decides.{nat_tests}
use Rattle.std.proofs.lemmas.List.{length-map}
use Rattle.rs_octets.specs.Prefixes.{Prefix}
use Rattle.rs_outlet.specs.Views.{HaveNumbers}
use Rattle.rs_outlet.specs.Decided.News.{change_of, slot_of}
use Rattle.rs_outlet.specs.Decided.Plans.{changes_in, news_in}
use Rattle.rs_outlet.specs.Inside.{IsBacked, RowsFit, is_changed, loc_of, numbers_from}
use Rattle.rs_outlet.specs.Pending.Slots.{AreFresh, open_at, withdrawn_count}
use Rattle.rs_outlet.proofs.Decided.Numbering.{no_elements}
use Rattle.rs_outlet.proofs.Pending.Adding.{first_of_two, open_both}
use Rattle.rs_outlet.proofs.Pending.Carrying.{keeps_both, keeps_same}
use Rattle.rs_outlet.proofs.Pending.News.{backed_news, fit_written, fresh_news, keeps_written, loc_written, none_chained, none_waits, none_withdrawn, numbered_written}
use Rattle.rs_outlet.proofs.Pending.Pieces.{have_rows}
use Rattle.rs_outlet.proofs.pieces.commit.Goals.{After-add}
use Rattle.rs_outlet.proofs.pieces.commit.Goals as goal

-- ---- where there is nothing to be carried out

idle : (count : ℕ) → nat_eq count 0 ≡ true → count ≡ 0
idle count is = grind (arith, nat_tests, is)

-- ---- where all is carried out

pub put_pieces-requires-clause-room : goal.put_pieces-requires-clause-room
put_pieces-requires-clause-room c = omega (arith, length-map (news_in c.args.pieces.items) change_of, ap length c.requires.none, c.args.fresh.ok, c.requires.fresh)

pub add-requires-clause-room : goal.add-requires-clause-room
add-requires-clause-room c =
    let fresh_is : c.put_pieces.new.fresh.items ≡ map slot_of (news_in c.args.pieces.items) = c.put_pieces.ensures.fresh ∙ ap (λ fs. fs ++ map slot_of (news_in c.args.pieces.items)) c.requires.none in
    let ns = news_in c.args.pieces.items in
    omega (arith, c.requires.waits, ap length fresh_is, length-map ns slot_of, length-map ns change_of, c.put_pieces.new.fresh.ok)

pub add-requires-clause-fresh : goal.add-requires-clause-fresh
add-requires-clause-fresh c =
    let fresh_is : c.put_pieces.new.fresh.items ≡ map slot_of (news_in c.args.pieces.items) = c.put_pieces.ensures.fresh ∙ ap (λ fs. fs ++ map slot_of (news_in c.args.pieces.items)) c.requires.none in
    subst (AreFresh c.args.waits.now.slots.items) (sym fresh_is) (fresh_news c.args.waits.now.slots.items (news_in c.args.pieces.items) (idle _ c.requires.idle) c.requires.once)

pub returns-clause-none : goal.returns-clause-none
returns-clause-none c = λ none. absurd (grind (arith, nat_tests, ap length none, c.args.pieces.ok, c.is_empty.ensures, c.if-is_empty.false))

-- what waits then
slots_are : (c : After-add) (q : Prefix) → open_at q c.add.new.self.slots.items ≡ open_at q (map slot_of (news_in c.args.pieces.items))
slots_are c q =
    let fresh_is : c.put_pieces.new.fresh.items ≡ map slot_of (news_in c.args.pieces.items) = c.put_pieces.ensures.fresh ∙ ap (λ fs. fs ++ map slot_of (news_in c.args.pieces.items)) c.requires.none in
    c.add.ensures.slots q ∙ open_both q c.args.waits.now.slots.items c.put_pieces.new.fresh.items
    ∙ ap (λ o. first_of_two o (open_at q c.put_pieces.new.fresh.items)) (none_waits q c.args.waits.now.slots.items (idle _ c.requires.idle))
    ∙ ap (open_at q) fresh_is

pub returns-then-is_empty-clause-done : goal.returns-then-is_empty-clause-done
returns-then-is_empty-clause-done c = record {
  all = omega (arith, c.requires.all);
  loc = λ ins due p d h q.
      let none : [] ≡ c.args.pieces.items = no_elements c.args.pieces.items (let e : length c.args.pieces.items ≡ 0 = grind (arith, nat_tests, c.is_empty.ensures, c.if-is_empty.true, c.args.pieces.ok) in e) in
      ap (λ ps. cond (is_changed (changes_in ps) q) (due q) (fin.get (loc_of c.args.rows.now.rows.items) q)) none;
  numbered = λ ins p h. h;
  chained = λ _ _.
      none_chained c.args.rows.now.rows.items c.args.waits.now.sorted c.args.waits.now.slots.items c.args.waits.now.chains.items (idle _ c.requires.idle);
  backed = λ backed. backed;
  fit = λ speech new fit. fit;
  keeps = λ ins p h q. keeps_same _ _ _ _ refl refl;
}

pub returns-clause-done : goal.returns-clause-done
returns-clause-done c = record {
  all =
      let fresh_is : c.put_pieces.new.fresh.items ≡ map slot_of (news_in c.args.pieces.items) = c.put_pieces.ensures.fresh ∙ ap (λ fs. fs ++ map slot_of (news_in c.args.pieces.items)) c.requires.none in
      let ns = news_in c.args.pieces.items in
      omega (arith, c.put_pieces.ensures.used, length-map ns change_of, c.requires.all, c.add.ensures.withdrawn, ap withdrawn_count fresh_is, none_withdrawn ns, c.add.ensures.capacity);
  loc = λ ins due p d h q.
      ap (λ xs. fin.get (loc_of xs) q) c.put_pieces.ensures.rows
      ∙ loc_written ins (news_in c.args.pieces.items) c.args.rows.now.rows.items (have_rows c.args.rows.now.rows c.args.pieces.items c.requires.rows) c.requires.numbers c.requires.free p h due d q;
  numbered = λ ins p h.
      subst (λ xs. HaveNumbers (numbers_from 0 xs) ins) (sym c.put_pieces.ensures.rows) (numbered_written ins (news_in c.args.pieces.items) c.args.rows.now.rows.items p h);
  chained = λ _ _.
      c.add.ensures.chained c.put_pieces.new.rows.rows.items
      (none_chained c.put_pieces.new.rows.rows.items c.args.waits.now.sorted c.args.waits.now.slots.items c.args.waits.now.chains.items (idle _ c.requires.idle));
  backed = λ _ q w is.
      subst (λ xs. IsBacked xs w.prefix w.due) (sym c.put_pieces.ensures.rows)
      (backed_news (news_in c.args.pieces.items) c.args.rows.now.rows.items (have_rows c.args.rows.now.rows c.args.pieces.items c.requires.rows) c.requires.numbers q w (sym (slots_are c q) ∙ is));
  fit = λ speech new fit.
      subst (RowsFit speech) (sym c.put_pieces.ensures.rows) (fit_written speech (news_in c.args.pieces.items) c.args.rows.now.rows.items (have_rows c.args.rows.now.rows c.args.pieces.items c.requires.rows) new fit);
  keeps = λ ins p h q.
      let was = c.args.waits.now.slots.items in
      let old = fin.get (loc_of c.args.rows.now.rows.items) q in
      keeps_both _ _ _ _ _ _
      (keeps_both _ _ _ _ _ _ (keeps_same (open_at q was) old None old (sym (none_waits q was (idle _ c.requires.idle))) refl)
      (keeps_written ins (news_in c.args.pieces.items) c.args.rows.now.rows.items (have_rows c.args.rows.now.rows c.args.pieces.items c.requires.rows) c.requires.numbers c.requires.free p h q))
      (keeps_same _ _ _ _ (slots_are c q) (ap (λ xs. fin.get (loc_of xs) q) c.put_pieces.ensures.rows));
}
