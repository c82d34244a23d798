-- Words that are neither an address nor a network: they begin with no digit and have no slash.
use Rattle.std.proofs.Common.{◌≡◌, ℕ, zero, suc, ◌+◌, false, ◌&&◌, List, [], ◌∷◌, Option, None, Some}
use Rattle.std.proofs.Common.{length, take, drop, le-ltb, refl, arith}
use Rattle.std.specs.Prelude.{◌==◌, nat_lt, position}
use Rattle.std.specs.List.{list_any, position_or_len}
use Rattle.std.specs.Option.{option_map, option_and_then}
use Rattle.std.proofs.lemmas.Bool.{or_parts}
use Rattle.std.proofs.Math.Bool.{and-false}
use Rattle.sudo_text.specs.Bytes.{is_digit}
use Rattle.sudo_text.specs.declared.token.Ch.{Ch}
use Rattle.sudo_grammar.specs.Words.{bytes_of}
use Rattle.sudo_grammar.specs.Members.{cut_at, address_of, address_of_groups, octet_of}

-- no byte is a slash, so all come before the first one
slash_after : (cs : List Ch) → list_any (λ (c : Ch). c.byte == 47) cs ≡ false
    → position_or_len (λ b. b == 47) (bytes_of cs) ≡ length (bytes_of cs)
slash_after [] e = refl
slash_after (c ∷ cs) e =
    let parts = or_parts (c.byte == 47) (list_any (λ (d : Ch). d.byte == 47) cs) e in
    rw parts.0 (omega (arith, slash_after cs parts.1))

pub no_cut : (cs : List Ch) → list_any (λ (c : Ch). c.byte == 47) cs ≡ false → cut_at 47 (bytes_of cs) ≡ None
no_cut cs e = rw (slash_after cs e) (rw (le-ltb (length (bytes_of cs)) (length (bytes_of cs)) (omega arith)) refl)

no_octet : (b : ℕ) (bs : List ℕ) (i : ℕ) → is_digit b ≡ false → octet_of (take i (b ∷ bs)) ≡ None
no_octet b bs zero e = refl
no_octet b bs (suc i) e = rw e (rw (and-false (nat_lt 0 (length (b ∷ take i bs)) && nat_lt (length (b ∷ take i bs)) 4)) refl)

no_groups : (a b : List ℕ) (o : Option (List ℕ × List ℕ)) → octet_of a ≡ None
    → option_and_then address_of_groups (option_map (λ r. (a, b, r.0, r.1)) o) ≡ None
no_groups a b None e = refl
no_groups a b (Some r) e = rw e refl

no_thirds : (a : List ℕ) (o : Option (List ℕ × List ℕ)) → octet_of a ≡ None
    → option_and_then address_of_groups
    (option_and_then (λ (q : List ℕ × List ℕ). option_map (λ r. (a, q.0, r.0, r.1)) (cut_at 46 q.1)) o) ≡ None
no_thirds a None e = refl
no_thirds a (Some q) e = no_groups a q.0 (cut_at 46 q.1) e

pub no_address : (b : ℕ) (bs : List ℕ) → is_digit b ≡ false → address_of (b ∷ bs) ≡ None
no_address b bs e = go (position (λ x. x == 46) (b ∷ bs))
  where
    go : (o : Option ℕ)
        → option_and_then address_of_groups
        (option_and_then (λ (p : List ℕ × List ℕ). option_and_then
        (λ (q : List ℕ × List ℕ). option_map (λ r. (p.0, q.0, r.0, r.1)) (cut_at 46 q.1)) (cut_at 46 p.1))
        (option_map (λ i. (take i (b ∷ bs), drop (i + 1) (b ∷ bs))) o)) ≡ None
    go None = refl
    go (Some i) = no_thirds (take i (b ∷ bs)) (cut_at 46 (drop (i + 1) (b ∷ bs))) (no_octet b bs i e)
