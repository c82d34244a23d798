-- A sender's name has no `=`.
use Rattle.std.proofs.Common.{◌≡◌, ◌<◌, ℕ, zero, suc, true, false, List, [], ◌∷◌, length, get_or, arith, nat_le, nat_lt}
use Rattle.std.specs.Prelude.{◌&&◌}
use Rattle.std.specs.List.{list_all}
use Rattle.std.proofs.lemmas.Bool.{and_parts}
use Rattle.audit_commands.specs.Senders.{is_sender_byte, is_sender_name}

all_others : (name : List ℕ) → list_all is_sender_byte name ≡ true → (i : ℕ) → i < length name → get_or name i 0 ≡ 61 → ⊥
all_others [] e i h g = omega arith
all_others (b ∷ rest) e zero h g =
    let first : is_sender_byte b ≡ true = (and_parts (is_sender_byte b) (list_all is_sender_byte rest) e).0 in
    let bad : false ≡ true = rw g at first in
    cc
all_others (b ∷ rest) e (suc i) h g = all_others rest (and_parts (is_sender_byte b) (list_all is_sender_byte rest) e).1 i (omega arith) g

pub no_equals : (name : List ℕ) → is_sender_name name ≡ true → (i : ℕ) → i < length name → get_or name i 0 ≡ 61 → ⊥
no_equals name e =
    all_others name (and_parts (nat_le (length name) 64) (list_all is_sender_byte name)
    (and_parts (nat_lt 0 (length name)) (nat_le (length name) 64 && list_all is_sender_byte name) e).1).1
