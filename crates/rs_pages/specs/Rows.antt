-- The row of a route, in JSON and in HTML.
use Rattle.std.specs.Prelude.{ℕ, List, ◌++◌, codes, decimal, unwrap_or}
use Rattle.rs_octets.specs.Prefixes.{Prefix}
use Rattle.rs_attrs.specs.Meaning.{Attribute}
use Rattle.rs_attrs.specs.Getters.{next_hop_of}
use Rattle.rs_page_parts.specs.Texts.{address_text, prefix_text}

-- what a row begins with: the prefix, and NEXT_HOP
unfoldable pub network_text : Prefix → ℕ → List ℕ
network_text p next_hop = codes "{\"network\":\"" ++ prefix_text p ++ codes "\",\"gateway\":\"" ++ address_text next_hop ++ codes "\","

-- a row, with what all of the page have in common, and the text of the attributes
unfoldable pub row_text : List ℕ → List ℕ → Prefix → List Attribute → List ℕ
row_text common bgp p m = network_text p (unwrap_or (next_hop_of m) 0) ++ common ++ codes "\"bgp\":" ++ bgp ++ codes "}\n"

-- a row for people: the prefix and NEXT_HOP, then the other cells
unfoldable pub table_row : List ℕ → Prefix → List Attribute → List ℕ
table_row cells p m = codes "<tr><td>" ++ prefix_text p ++ codes "<td>" ++ address_text (unwrap_or (next_hop_of m) 0) ++ cells ++ codes "</tr>\n"

-- a target of so many routes from a prefix on, within HTML
unfoldable pub from_text : List ℕ → Prefix → ℕ → List ℕ
from_text target from most = target ++ codes "?from=" ++ prefix_text from ++ codes "&amp;count=" ++ decimal most

-- a link to it
unfoldable pub more_text : List ℕ → Prefix → ℕ → List ℕ
more_text target from most = codes "<p><a href=\"" ++ from_text target from most ++ codes "\">More</a></p>\n"
