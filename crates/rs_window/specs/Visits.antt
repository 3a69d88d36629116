-- The course of a visit.
use Rattle.std.specs.Prelude.{◌≡◌, ℕ, ◌<◌, ◌-◌, Bool, true, false, not, ◌||◌, List, [], ◌++◌, length, take, drop, Option, Some, None, if◌then◌else◌}
use Rattle.httparse.specs.Grammar.{HasNoRequest}
use Rattle.httparse.specs.Spans.{span_bytes}
use Rattle.rs_window.specs.declared.page.Page.{Page}
use Rattle.rs_window.specs.declared.page.Next.{Next}
use Rattle.rs_window.specs.declared.request.Refusal.{Refusal}
use Rattle.rs_window.specs.declared.request.Request.{Request}
use Rattle.rs_window.specs.declared.visit.Visit.{Visit}
use Rattle.rs_window.specs.Answers.{found, not_found, status_of}
use Rattle.rs_window.specs.Chunks.{IsFramed}
use Rattle.rs_window.specs.Pages.{page_behind, is_end, is_cut}
use Rattle.rs_window.specs.Requests.{IsAskedBy, IsRefusedFor}

-- what the visitor said and was not answered
abbrev pub said : Visit → List ℕ
said visit = visit.heard.items

-- what is to be sent still
abbrev pub unsent : Visit → List ℕ
unsent visit = visit.outbox

-- the page that is being written
abbrev pub page_of : Visit → Option Page
page_of visit = visit.page

-- the answer on its way is the last
abbrev pub is_last : Visit → Bool
is_last visit = visit.is_last

-- the visitor says nothing more
abbrev pub has_ended : Visit → Bool
has_ended visit = visit.has_ended

-- nothing was said yet
pub record IsFresh (visit : Visit) : Type 0 where
  pub said_is : said visit ≡ []
  pub unsent_is : unsent visit ≡ []
  pub page_is : page_of visit ≡ None
  pub last : is_last visit ≡ false
  pub ended : has_ended visit ≡ false

-- the visitor said this, of which a head's room is kept
pub record Hears (octets : List ℕ) (old new : Visit) : Type 0 where
  pub said_is : said new ≡ said old ++ take (8192 - length (said old)) octets
  pub unsent_is : unsent new ≡ unsent old
  pub page_is : page_of new ≡ page_of old
  pub chunked : new.is_chunked ≡ old.is_chunked
  pub last : is_last new ≡ is_last old
  pub ended : has_ended new ≡ has_ended old

-- the visitor says nothing more
pub record Ends (old new : Visit) : Type 0 where
  pub said_is : said new ≡ said old
  pub unsent_is : unsent new ≡ unsent old
  pub page_is : page_of new ≡ page_of old
  pub chunked : new.is_chunked ≡ old.is_chunked
  pub last : is_last new ≡ is_last old
  pub ended : has_ended new ≡ true

-- so many octets were sent
pub record Takes (count : ℕ) (old new : Visit) : Type 0 where
  pub said_is : said new ≡ said old
  pub unsent_is : unsent new ≡ drop count (unsent old)
  pub page_is : page_of new ≡ page_of old
  pub chunked : new.is_chunked ≡ old.is_chunked
  pub last : is_last new ≡ is_last old
  pub ended : has_ended new ≡ has_ended old

-- one piece of the page is put, as it is sent; a page that is cut off is the last answer
pub record PutsPiece (piece : List ℕ) (next : Next) (old new : Visit) : Type 0 where
  pub framed : IsFramed old.is_chunked piece (is_end next) (unsent new)
  pub page_is : page_of new ≡ page_behind next
  pub said_is : said new ≡ said old
  pub chunked : new.is_chunked ≡ old.is_chunked
  pub last : is_last new ≡ (is_last old || is_cut next)
  pub ended : has_ended new ≡ has_ended old

-- nothing is put, and it was the last answer
pub record CutsOff (old new : Visit) : Type 0 where
  pub unsent_is : unsent new ≡ []
  pub page_is : page_of new ≡ None
  pub said_is : said new ≡ said old
  pub chunked : new.is_chunked ≡ old.is_chunked
  pub last : is_last new ≡ true
  pub ended : has_ended new ≡ has_ended old

-- one piece of the page is put, unless memory is refused
pub data GoesOn (writes : List ℕ → Next → Type 0) (old new : Visit) : Type 0 where
  Wrote : (piece : List ℕ) (next : Next) → writes piece next → PutsPiece piece next old new → GoesOn writes old new
  NoMemory : CutsOff old new → GoesOn writes old new

-- what is put for a target that was found, or not
abbrev pub status_for : Option Page → List ℕ
status_for None = not_found
status_for (Some page) = found

-- a request is answered: what was said behind its head is kept for the next; HEAD has no page
pub record Answers (finds : List ℕ → Option Page → Type 0) (request : Request) (old new : Visit) : Type 0 where
  pub page : Option Page
  pub finds_it : finds (span_bytes (said old) request.target) page
  pub status : take 12 (unsent new) ≡ status_for page
  pub page_is : page_of new ≡ (if request.is_head then None else page)
  pub said_is : said new ≡ drop request.len (said old)
  pub chunked : new.is_chunked ≡ request.knows_chunks
  pub last : is_last new ≡ not request.stays
  pub ended : has_ended new ≡ has_ended old

-- what is refused is not answered but by its status, and is the last
pub record Refuses (refusal : Refusal) (old new : Visit) : Type 0 where
  pub status : take 12 (unsent new) ≡ status_of refusal
  pub page_is : page_of new ≡ None
  pub last : is_last new ≡ true
  pub ended : has_ended new ≡ has_ended old

-- there is no whole head yet; where the visitor says nothing more, there was none
pub record Waits (old new : Visit) : Type 0 where
  pub said_is : said new ≡ said old
  pub unsent_is : unsent new ≡ []
  pub page_is : page_of new ≡ None
  pub last : is_last new ≡ has_ended old
  pub ended : has_ended new ≡ has_ended old

-- an answer begins for a whole head that is GET or HEAD, and for what is refused; for nothing else
pub data Begins (finds : List ℕ → Option Page → Type 0) (old new : Visit) : Type 0 where
  NotYet : HasNoRequest (said old) → length (said old) < 8192 → Waits old new → Begins finds old new
  Answered : (request : Request) → IsAskedBy (said old) request → Answers finds request old new → Begins finds old new
  Refused : (refusal : Refusal) (is_head : Bool) → IsRefusedFor (said old) refusal is_head → Refuses refusal old new → Begins finds old new
