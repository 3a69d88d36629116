use Rattle.std.proofs.Common.{◌≡◌, ◌<◌, ℕ, List, length, map, fold, Option, Some}
use Rattle.rs_texts.specs.Joined.{put}
use Rattle.rs_texts.specs.declared.joined.JoinFault.TheVariants as faults
use Rattle.rs_texts.proofs.Joining.{behind_first, err_is, if_err, large_first, on_ok}
use Rattle.rs_texts.proofs.joined.Joined.+put_all.Goals as goal

pub returns-in_err-put-in-len1-up-clause-large : goal.returns-in_err-put-in-len1-up-clause-large
returns-in_err-put-in-len1-up-clause-large g t c = err_is c.from_residual.result c.in_err-put-in-len1-up.field-0.0 (λ e. e ≡ faults.TooLarge → (all : List (List ℕ)) → map g.T.Text.octets c.args.texts.now ≡ map {A = List ℕ} {B = Option (List ℕ)} (λ x. Some x) all → 67108864 < length ((fold put (c.args.self.now.octets.items, c.args.self.now.starts.items) all).0)) (λ is all texts. large_first g.T.Text.octets c.args.texts.now c.text-item.result (c.args.self.now.octets.items, c.args.self.now.starts.items) c.in-len1-up.len_at_least c.text-item.is (c.in_err-put-in-len1-up.ensures.large is) all texts) c.from_residual.ensures.1

pub returns-in_ok-put-in-len1-up-clause-whole : goal.returns-in_ok-put-in-len1-up-clause-whole
returns-in_ok-put-in-len1-up-clause-whole g t c = on_ok c.put_all.result _ _ (λ told all texts. behind_first g.T.Text.octets (λ it. (c.put_all.new.self.octets.items, c.put_all.new.self.starts.items) ≡ it) c.args.texts.now c.text-item.result (c.args.self.now.octets.items, c.args.self.now.starts.items) (c.put.new.self.octets.items, c.put.new.self.starts.items) c.in-len1-up.len_at_least c.text-item.is c.in_ok-put-in-len1-up.ensures.whole told all texts) c.put_all.ensures.whole

pub returns-in_ok-put-in-len1-up-clause-large : goal.returns-in_ok-put-in-len1-up-clause-large
returns-in_ok-put-in-len1-up-clause-large g t c = if_err c.put_all.result _ _ (λ e told is all texts. behind_first g.T.Text.octets (λ it. 67108864 < length (it.0)) c.args.texts.now c.text-item.result (c.args.self.now.octets.items, c.args.self.now.starts.items) (c.put.new.self.octets.items, c.put.new.self.starts.items) c.in-len1-up.len_at_least c.text-item.is c.in_ok-put-in-len1-up.ensures.whole (told is) all texts) c.put_all.ensures.large
