use Rattle.std.proofs.Common.{refl, subst}
use Rattle.rs_window.specs.Requests.{IsAskedBy, IsRefusedFor}
use Rattle.rs_window.specs.Visits.{Answered, Refused}
use Rattle.rs_window.proofs.visit.Visit.begin.Goals as goal

pub returns-in-Refused : goal.returns-in-Refused
returns-in-Refused g c = Refused c.in-Refused.refusal c.in-Refused.is_head (subst (λ s. IsRefusedFor s c.in-Refused.refusal c.in-Refused.is_head) c.as_slice.ensures.value c.in-Refused.ensures) (record { status = c.put_refusal.ensures; page_is = c.requires.none; last = refl; ended = refl })

pub returns-in-Asked : goal.returns-in-Asked
returns-in-Asked g c = Answered c.in-Asked.request (subst (λ s. IsAskedBy s c.in-Asked.request) c.as_slice.ensures.value c.in-Asked.ensures) (let a = c.answer.ensures in record { page = a.page; finds_it = a.finds_it; status = a.status; page_is = a.page_is; said_is = a.said_is; chunked = a.chunked; last = a.last; ended = a.ended })
