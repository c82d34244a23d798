-- The addresses of the rows that were read; only proofs of bodies use it.
use Rattle.std.specs.Prelude.{◌≡◌, List, filter_map, length}
use Rattle.audit_files.specs.Rows.{Fields}
use Rattle.review_texts.specs.declared.ipv6.HostAddress.{HostAddress}
use Rattle.review_commands.specs.Addresses.{host_address_of}

-- one address for each record
abbrev pub AreOf : List Fields → List HostAddress → Type 0
AreOf before list = (list ≡ filter_map host_address_of before) × (length list ≡ length before)
