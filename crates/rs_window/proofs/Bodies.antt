-- What is sent of a page's pieces is a body in chunks.
use Rattle.std.proofs.Common.{◌≡◌, ◌≢◌, ℕ, List, [], ◌∷◌, ◌++◌, length, refl, sym, subst, append_assoc, arith}
use Rattle.httparse.specs.Ascii.{crlf_bytes}
use Rattle.rs_window.specs.Chunks.{IsCarried, IsSizeLine, Decodes, Last, More, AreCarried, Nothing, Piece, last_chunk}

-- with one piece more in front
more : (piece chunk octets body : List ℕ) → IsCarried piece chunk → Decodes body octets → Decodes (chunk ++ body) (piece ++ octets)
more [] chunk octets body e d = subst (λ c. Decodes (c ++ body) octets) (sym e) d
more (octet ∷ rest) chunk octets body k d = More (octet ∷ rest) chunk body octets k d

pub decodes : (octets sent : List ℕ) → AreCarried octets sent → Decodes (sent ++ last_chunk) octets
decodes octets sent Nothing = Last
decodes octets sent (Piece piece chunk others rest k all) = subst (λ s. Decodes s (piece ++ others)) (sym (append_assoc chunk rest last_chunk)) (more piece chunk others (rest ++ last_chunk) k (decodes others rest all))

-- octets, where there are any, are carried by their line, themselves, and CR LF
pub carried_some : (octets sent line : List ℕ) → octets ≢ [] → IsSizeLine (length octets) line → sent ≡ (line ++ octets) ++ crlf_bytes → IsCarried octets sent
carried_some [] sent line h s e = absurd (h refl)
carried_some (octet ∷ octets) sent line h s e = record { line = line; is_line = s; is_some = omega arith; octets_are = e }

pub carried_none : (octets sent : List ℕ) → octets ≡ [] → sent ≡ [] → IsCarried octets sent
carried_none [] sent e h = h
carried_none (octet ∷ octets) sent e h = absurd (cc)
