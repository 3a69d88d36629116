-- What the head of a request asks for, and why one is refused (RFC 9110, RFC 9112).
use Rattle.std.specs.Prelude.{◌≡◌, ℕ, ◌+◌, ◌≤◌, ◌<◌, ◌⊎◌, Bool, true, false, not, ◌&&◌, ◌||◌, ◌==◌, nat_lt, nat_le, List, [], ◌∷◌, map, drop, length, Option, Some, None, if◌then◌else◌, codes, count_by}
use Rattle.std.specs.List.{list_any, list_all, before_first}
use Rattle.std.specs.Str.{bytes_eq}
use Rattle.std.specs.Char.{to_ascii_lowercase, is_ascii_digit}
use Rattle.httparse.specs.Grammar.{RequestHead, ReadsRequest, HasNoRequest, NeverHasRequest, print_request}
use Rattle.httparse.specs.Spans.{IsWithin, span_bytes, name_and_value, RequestExceeds}
use Rattle.rs_window.specs.declared.request.Refusal.{Refusal}
use Rattle.rs_window.specs.declared.request.Refusal.TheVariants.{BadRequest, Forbidden, NotAllowed, TargetTooLong, FieldsTooLarge}
use Rattle.rs_window.specs.declared.request.Request.{Request}
use Rattle.rs_window.specs.declared.request.Said.{Said}
use Rattle.rs_window.specs.declared.request.Heard.{Heard}
use Rattle.rs_window.specs.declared.request.Heard.TheVariants.{Part, Asked, Refused}

-- the same in any case (RFC 9110, section 5.1)
abbrev pub is_same : List ℕ → List ℕ → Bool
is_same a b = bytes_eq (map to_ascii_lowercase a) (map to_ascii_lowercase b)

-- a field with this name
abbrev pub is_named : List ℕ → List ℕ × List ℕ → Bool
is_named name field = is_same field.0 name

-- a body comes behind a head that has such a field (RFC 9112, section 6)
abbrev pub announces_body : List ℕ × List ℕ → Bool
announces_body field = (is_named (codes "content-length") field && not (bytes_eq field.1 (codes "0"))) || is_named (codes "transfer-encoding") field

-- the host of a field `Host`, without its port
abbrev pub host_of : List ℕ → List ℕ
host_of value = before_first (λ octet. octet == 58) value

-- a digit or a dot
abbrev pub is_address_octet : ℕ → Bool
is_address_octet octet = is_ascii_digit octet || octet == 46

-- digits and dots alone: an IPv4 address, since no name ends in a number (the URL standard's hosts)
abbrev pub is_ipv4 : List ℕ → Bool
is_ipv4 host = not (length host == 0) && list_all is_address_octet host

-- it begins as an IPv6 address in brackets, as no name does
abbrev pub is_ipv6 : List ℕ → Bool
is_ipv6 [] = false
is_ipv6 (octet ∷ octets) = octet == 91

-- no name that somebody else can give this machine
abbrev pub is_local : List ℕ → Bool
is_local value = is_same (host_of value) (codes "localhost") || is_ipv4 (host_of value) || is_ipv6 value

-- a field `Host` with another
abbrev pub is_foreign : List ℕ × List ℕ → Bool
is_foreign field = is_named (codes "host") field && not (is_local field.1)

-- what fields say
abbrev pub said_of : List (List ℕ × List ℕ) → Said
said_of fields = record { has_body = list_any announces_body fields; hosts = count_by (is_named (codes "host")) fields; is_foreign = list_any is_foreign fields }

-- and what they say with one more
abbrev pub with_field : Said → List ℕ → List ℕ → Said
with_field said name value = record { has_body = said.has_body || announces_body (name, value); hosts = said.hosts + (if is_named (codes "host") (name, value) then 1 else 0); is_foreign = said.is_foreign || is_foreign (name, value) }

-- GET or HEAD
abbrev pub is_known : List ℕ → Bool
is_known method = bytes_eq method (codes "HEAD") || bytes_eq method (codes "GET")

-- why a request is refused: 405 for its method (RFC 9110, section 15.5.6); 400 where a body comes, or where there is more than
-- one `Host`, or none in HTTP/1.1 (RFC 9112, section 3.2); 403 where that is no name of this machine
abbrev pub refusal_for : Bool → ℕ → Said → Option Refusal
refusal_for known minor said =
    if not known then Some NotAllowed
    else (if said.has_body || nat_lt 1 said.hosts || (nat_le 1 minor && said.hosts == 0) then Some BadRequest
    else (if said.is_foreign then Some Forbidden else None))

abbrev pub said_by : RequestHead → Said
said_by head = said_of (map name_and_value head.fields)

abbrev pub refusal_of : RequestHead → Option Refusal
refusal_of head = refusal_for (is_known head.method) head.minor (said_by head)

-- the request that this head makes, at the front of the octets
pub record IsRequestFrom (octets : List ℕ) (head : RequestHead) (request : Request) : Type 0 where
  pub reads : ReadsRequest octets head (drop request.len octets)
  pub len : request.len ≡ length (print_request head)
  pub target : span_bytes octets request.target ≡ head.target
  pub within : IsWithin (length octets) request.target
  pub method : request.is_head ≡ bytes_eq head.method (codes "HEAD")
  pub version : request.knows_chunks ≡ nat_le 1 head.minor
  pub stays : request.stays ≡ true → 1 ≤ head.minor
  pub passes : refusal_of head ≡ None

-- a head at the front asks for it
abbrev pub IsAskedBy : List ℕ → Request → Type 0
IsAskedBy octets request = (head : RequestHead) × IsRequestFrom octets head request

-- a head at the front is refused for this
pub record IsRefusedHead (octets : List ℕ) (head : RequestHead) (refusal : Refusal) (is_head : Bool) : Type 0 where
  pub rest : List ℕ
  pub reads : ReadsRequest octets head rest
  pub method : is_head ≡ bytes_eq head.method (codes "HEAD")
  pub why : refusal_of head ≡ Some refusal

-- the octets are as many as a head may have, and no front of them is one
abbrev pub IsTooLong : List ℕ → Type 0
IsTooLong octets = HasNoRequest octets × (8192 ≤ length octets)

-- octets are refused for this, without a head: whatever follows, none begins there; it is too long, or has too many fields
abbrev pub IsRefusedText : List ℕ → Refusal → Type 0
IsRefusedText octets BadRequest = NeverHasRequest octets
IsRefusedText octets TargetTooLong = IsTooLong octets
IsRefusedText octets FieldsTooLarge = IsTooLong octets ⊎ RequestExceeds 32 octets
IsRefusedText octets _ = ⊥

abbrev pub IsRefusedFor : List ℕ → Refusal → Bool → Type 0
IsRefusedFor octets refusal is_head = ((head : RequestHead) × IsRefusedHead octets head refusal is_head) ⊎ ((is_head ≡ false) × IsRefusedText octets refusal)

-- what was heard is read so
abbrev pub IsHeard : List ℕ → Heard → Type 0
IsHeard octets Part = HasNoRequest octets × (length octets < 8192)
IsHeard octets (Asked request) = IsAskedBy octets request
IsHeard octets (Refused refusal is_head) = IsRefusedFor octets refusal is_head
