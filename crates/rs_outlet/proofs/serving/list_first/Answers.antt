use Rattle.std.proofs.Common.{◌∙◌, ℕ, [], ◌∷◌, get_or, length, map, take, ap, sym, subst, arith}
use Rattle.std.specs.Map.{keys_of}
use Rattle.std.proofs.lemmas.List.{map-append}
use Rattle.rs_octets.specs.Prefixes.{Prefix}
use Rattle.rs_outlet.specs.declared.pieces.Piece.TheVariants as piece
use Rattle.rs_outlet.specs.Decided.Due.{due_to}
use Rattle.rs_outlet.specs.Decided.HeldBy.{held_by}
use Rattle.rs_outlet.specs.Decided.News.{AreFree, change_of}
use Rattle.rs_outlet.specs.Decided.Plans.{changes_in, news_in, news_within}
use Rattle.rs_outlet.specs.Decided.Precedents.{AreDecidedAt, AreNewsAt}
use Rattle.rs_outlet.specs.Inside.{row_at}
use Rattle.rs_outlet.proofs.Answered.{if_some_at}
use Rattle.rs_outlet.proofs.Decided.Precedents.{keys_one, none_here, one_here, still_known}
use Rattle.rs_outlet.proofs.Pending.Pieces.{free_join, news_push, sixteen}
use Rattle.rs_outlet.proofs.serving.list_first.Goals as goal

pub news_at-requires-clause-known : goal.news_at-requires-clause-known
news_at-requires-clause-known c =
    let s = c.args.sources.now in
    still_known (held_by s) s.ins.now s.client c.args.speech c.args.known.now _ c.whole_at.ensures.rest c.requires.known

pub returns-in-Some-clause-some : goal.returns-in-Some-clause-some
returns-in-Some-clause-some c = omega (arith, c.len-count.ensures, sixteen c.in-Some.whole)

pub returns-in-Some-clause-free : goal.returns-in-Some-clause-free
returns-in-Some-clause-free c = λ free.
    let rows = c.args.rows.now.rows.items in
    let ps = c.args.pieces.now.items in
    let whole = c.in-Some.whole in
    subst (AreFree rows) (sym (ap news_in c.in_ok-push.ensures.items ∙ news_push ps (piece.Block whole)))
    (free_join (news_in ps) (news_within whole) rows free (if_some_at _ c.in_ok-whole.field-0 whole c.in-Some.is c.in_ok-whole.ensures.free))

pub returns-in-Some-clause-decided : goal.returns-in-Some-clause-decided
returns-in-Some-clause-decided c =
    let s = c.args.sources.now in
    let due_at = due_to (held_by s) s.client c.args.speech in
    let rows = c.args.rows.now.rows.items in
    let es = c.args.touched.now in
    let ps = c.args.pieces.now.items in
    let whole = c.in-Some.whole in
    subst (λ k. AreDecidedAt s.ins.now due_at rows (keys_of (take k es)) (changes_in ps) (changes_in c.push.new.self.items)) (sym c.len-count.ensures)
    (subst (AreDecidedAt s.ins.now due_at rows (keys_of (take (length (news_within whole)) es)) (changes_in ps)) (sym (ap changes_in c.in_ok-push.ensures.items ∙ ap (map change_of) (news_push ps (piece.Block whole)) ∙ map-append change_of (news_in ps) (news_within whole)))
    (if_some_at _ c.in_ok-whole.field-0 whole c.in-Some.is (c.in_ok-whole.ensures.decided c.args.speech c.requires.known (changes_in ps))))

pub returns-in_default-2-clause-decided : goal.returns-in_default-2-clause-decided
returns-in_default-2-clause-decided c =
    let s = c.args.sources.now in
    let due_at = due_to (held_by s) s.client c.args.speech in
    let rows = c.args.rows.now.rows.items in
    let es = c.args.touched.now in
    let n = (get_or es 0 c.index-touched-0.result).0 in
    subst (λ ks. AreDecidedAt s.ins.now due_at rows ks (changes_in c.args.pieces.now.items) (changes_in c.args.pieces.now.items)) (sym (keys_one es c.index-touched-0.result c.requires.touched c.index-touched-0.is ∙ ap (λ (x : ℕ × Prefix). x.0 ∷ []) c.index-touched-0.is))
    (none_here s.ins.now due_at rows n (subst (AreNewsAt s.ins.now due_at n) c.in_default-2.is c.in_ok-news.ensures.news) (c.is_free.ensures c.if-not-is_free.false) (changes_in c.args.pieces.now.items))

pub returns-clause-free : goal.returns-clause-free
returns-clause-free c = λ free.
    let s = c.args.sources.now in
    let due_at = due_to (held_by s) s.client c.args.speech in
    let rows = c.args.rows.now.rows.items in
    let ps = c.args.pieces.now.items in
    let n = (get_or c.args.touched.now 0 c.index-touched-0.result).0 in
    let news = c.in-Some-2.news in
    let h = subst (AreNewsAt s.ins.now due_at n) c.in-Some-2.is c.in_ok-news.ensures.news in
    subst (AreFree rows) (sym (ap news_in c.in_ok-push-2.ensures.items ∙ news_push ps (piece.One news)))
    (free_join (news_in ps) (news ∷ []) rows free (ap (row_at rows) h.placed.0 ∙ c.is_free.ensures c.if-not-is_free.false, tt))

pub returns-clause-decided : goal.returns-clause-decided
returns-clause-decided c =
    let s = c.args.sources.now in
    let due_at = due_to (held_by s) s.client c.args.speech in
    let rows = c.args.rows.now.rows.items in
    let es = c.args.touched.now in
    let ps = c.args.pieces.now.items in
    let n = (get_or es 0 c.index-touched-0.result).0 in
    let news = c.in-Some-2.news in
    subst (λ ks. AreDecidedAt s.ins.now due_at rows ks (changes_in ps) (changes_in c.push-2.new.self.items)) (sym (keys_one es c.index-touched-0.result c.requires.touched c.index-touched-0.is ∙ ap (λ (x : ℕ × Prefix). x.0 ∷ []) c.index-touched-0.is))
    (one_here s.ins.now due_at rows n news (subst (AreNewsAt s.ins.now due_at n) c.in-Some-2.is c.in_ok-news.ensures.news) (c.is_free.ensures c.if-not-is_free.false)
    (changes_in ps) (changes_in c.push-2.new.self.items) (ap changes_in c.in_ok-push-2.ensures.items ∙ ap (map change_of) (news_push ps (piece.One news)) ∙ map-append change_of (news_in ps) (news ∷ [])))
