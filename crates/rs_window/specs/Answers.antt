-- The first words of each answer: the version, and the status (RFC 9112, section 4; RFC 9110, section 15).
use Rattle.std.specs.Prelude.{ℕ, List, codes}
use Rattle.rs_window.specs.declared.request.Refusal.{Refusal}
use Rattle.rs_window.specs.declared.request.Refusal.TheVariants.{BadRequest, Forbidden, NotAllowed, TargetTooLong, FieldsTooLarge}

abbrev pub found : List ℕ
found = codes "HTTP/1.1 200"

abbrev pub not_found : List ℕ
not_found = codes "HTTP/1.1 404"

abbrev pub status_of : Refusal → List ℕ
status_of BadRequest = codes "HTTP/1.1 400"
status_of Forbidden = codes "HTTP/1.1 403"
status_of NotAllowed = codes "HTTP/1.1 405"
status_of TargetTooLong = codes "HTTP/1.1 414"
status_of FieldsTooLarge = codes "HTTP/1.1 431"
