-- What the body of a ROUTE-REFRESH asks for (RFC 2918, 3): the AFI (2 octets), an octet that counts for nothing, the SAFI (1).
use Rattle.std.specs.Prelude.{ℕ, List, slice_index}
use Rattle.byteorder.specs.Endian.{big_number}
use Rattle.rs_open.specs.declared.refresh.AddressFamily.{AddressFamily}

abbrev pub family_of : List ℕ → AddressFamily
family_of body = record { afi = big_number 2 body; safi = slice_index body 3 }
