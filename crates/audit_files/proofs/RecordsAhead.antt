-- The records that a reader has ahead, record by record.
use Rattle.std.proofs.Common.{◌≡◌, ◌<◌, ◌+◌, ◌⊎◌, ℕ, zero, suc, Bool, true, false, List, [], ◌∷◌, ◌++◌, length, refl}
use Rattle.std.proofs.Common.{sym, ap, cond, add-one, arith, inl, inr, Option, Some, None}
use Rattle.std.specs.Bool.{MatchBool}
use Rattle.csv.specs.Machine.{Read, ends_at_end, field_after, fields_after, is_end, next_record, step}
use Rattle.csv.specs.Reading.{Reached, records_from, records_next}
use Rattle.csv.specs.declared.parser.Config.{Config}
use Rattle.csv.specs.declared.parser.State.{State}
use Rattle.csv.specs.declared.parser.State.TheVariants as st
use Rattle.std.proofs.Common.{Bor, IsSome}
use Rattle.csv.specs.Reading.{ReadRecord, default_config}
use Rattle.csv.proofs.ReadFacts.{rows-end, rows-more}
use Rattle.audit_files.specs.Rows.{Fields}
use Rattle.audit_files.specs.Body.Rows.{MemoryReader, bytes_left, records_left}

-- a record takes at least one byte, but for the last one at the end of the text
abbrev Shrinks : List ℕ → Read → Type 0
Shrinks xs r = (length r.2 < length xs) ⊎ ((xs ≡ []) × (r.1 ≡ st.StartRecord) × (r.2 ≡ []))

-- a byte more before
shrinks_more : (c : ℕ) (rest : List ℕ) (r : Read) → Shrinks rest r → length r.2 < length (c ∷ rest)
shrinks_more c rest r (inl less) = omega arith
shrinks_more c rest r (inr (none, start, end)) = rw (end, none) (omega arith)

shrinks : (cfg : Config) (s : State) (f : Fields) (p xs : List ℕ) (r : Read) → next_record cfg s f p xs ≡ Some r → Shrinks xs r
unfolding next_record
shrinks cfg s f p [] r e = at_end (ends_at_end s) e
  where
    at_end : (b : Bool) → cond b (Some (f ++ (p ∷ []), st.StartRecord, [])) None ≡ Some r → Shrinks [] r
    at_end true e = inr (refl, cc, cc)
    at_end false e = cc
shrinks cfg s f p (c ∷ rest) r e =
    inl (at_byte (is_end (step cfg s c).1) e (shrinks cfg (step cfg s c).0 (fields_after (step cfg s c).1 f p)
    (field_after (step cfg s c).1 c p) rest r))
  where
    at_byte : (b : Bool)
        → cond b (Some (fields_after (step cfg s c).1 f p, (step cfg s c).0, rest))
        (next_record cfg (step cfg s c).0 (fields_after (step cfg s c).1 f p) (field_after (step cfg s c).1 c p) rest) ≡ Some r
        → (next_record cfg (step cfg s c).0 (fields_after (step cfg s c).1 f p) (field_after (step cfg s c).1 c p)
        rest ≡ Some r → Shrinks rest r)
        → length r.2 < length (c ∷ rest)
    at_byte true e more = let end : rest ≡ r.2 = cc in rw (← end) (omega arith)
    at_byte false e more = shrinks_more c rest r (more e)

-- nothing comes after the last record
none_after : (cfg : Config) (n : ℕ) → records_from cfg n st.StartRecord [] ≡ []
unfolding records_from next_record
none_after cfg zero = refl
none_after cfg (suc n) = refl

-- more turns than bytes give all records
pub enough : (cfg : Config) (n m : ℕ) (s : State) (xs : List ℕ) → length xs < n → length xs < m
    → records_from cfg n s xs ≡ records_from cfg m s xs
unfolding records_from
enough cfg zero m s xs a b = absurd (omega arith)
enough cfg (suc n) zero s xs a b = absurd (omega arith)
enough cfg (suc n) (suc m) s xs a b = by (next_record cfg s [] [] xs) (λ r. shrinks cfg s [] [] xs r) (λ r. enough cfg n m r.1 r.2)
  where
    by : (o : Option Read) → ((r : Read) → o ≡ Some r → Shrinks xs r) → ((r : Read) → length r.2 < n → length r.2 < m
        → records_from cfg n r.1 r.2 ≡ records_from cfg m r.1 r.2)
        → records_next (records_from cfg n) o ≡ records_next (records_from cfg m) o
    by None h more = refl
    by (Some r) h more = elim (h r refl) [
      | inl less ↦ ap (λ (rest : List Fields). r.0 ∷ rest) (more r (omega arith) (omega arith))
      | inr last ↦ rw (last.1, last.2, none_after cfg n, none_after cfg m) refl
    ]

-- the next record, and those after it
pub left_more : (cfg : Config) (s : State) (xs : List ℕ) (r : Read) → next_record cfg s [] [] xs ≡ Some r
    → records_from cfg (length xs + 1) s xs ≡ r.0 ∷ records_from cfg (length r.2 + 1) r.1 r.2
unfolding records_from
left_more cfg s xs r e = elim (shrinks cfg s [] [] xs r e) [
  | inl less ↦ rw (add-one, e) (ap (λ (rest : List Fields). r.0 ∷ rest)
      (enough cfg (length xs) (length r.2 + 1) r.1 r.2 less (omega arith)))
  | inr last ↦ rw (add-one, e, last.0, last.1, last.2) (ap (λ (rest : List Fields). r.0 ∷ rest) (sym (none_after cfg 1)))
]

-- no record is left
pub left_none : (cfg : Config) (s : State) (xs : List ℕ) → next_record cfg s [] [] xs ≡ None → records_from cfg (length xs + 1) s xs ≡ []
unfolding records_from
left_none cfg s xs e = rw (add-one, e) refl

-- the bytes of a slice
abbrev bytes : Bor (List ℕ) → Option (List ℕ)
bytes s = Some s.now

-- two readers with a record between them
joined : (a b : MemoryReader) (fields : Fields) (xs z : List ℕ) (p : Read) → bytes_left a ≡ Some xs → bytes_left b ≡ Some z
    → next_record default_config a.state [] [] xs ≡ Some p → fields ≡ p.0 → p.1 ≡ b.state → p.2 ≡ z
    → IsSome (bytes_left b) × (records_left a ≡ fields ∷ records_left b)
joined a b fields xs z p before after found same state rest =
    rw (after, before, same, ← state, ← rest) (refl, left_more default_config a.state xs p found)

-- a read that gave a record
pub record_read : (a b : MemoryReader) (fields : Fields) → a.config ≡ default_config → IsSome (bytes_left a)
    → ReadRecord bytes a b true fields
    → IsSome (bytes_left b) × (records_left a ≡ fields ∷ records_left b)
unfolding Reached
record_read a b fields config known r = by (bytes_left a) refl known
  where
    by : (o : Option (List ℕ)) → bytes_left a ≡ o → IsSome o → IsSome (bytes_left b) × (records_left a ≡ fields ∷ records_left b)
    by None e k = cc
    by (Some xs) e k =
        let (z, at_z, (p, found, same, (state, rest))) =
        rows-more bytes a b fields default_config a.state xs xs [] config e (refl, refl) r in
        joined a b fields xs z p e at_z found same state rest

-- a read that found none
pub no_record_read : (a b : MemoryReader) (fields : Fields) → a.config ≡ default_config → IsSome (bytes_left a)
    → ReadRecord bytes a b false fields → records_left a ≡ []
no_record_read a b fields config known r = by (bytes_left a) refl known
  where
    by : (o : Option (List ℕ)) → bytes_left a ≡ o → IsSome o → records_left a ≡ []
    by None e k = cc
    by (Some xs) e k = rw e (left_none default_config a.state xs (rows-end bytes a b fields default_config xs config e r))

-- a read, by whether it found a record
pub read_step : (a b : MemoryReader) (found : Bool) (fields : Fields) → a.config ≡ default_config
    → IsSome (bytes_left a) → ReadRecord bytes a b found fields
    → (found ≡ true → IsSome (bytes_left b)) × MatchBool found (records_left a ≡ fields ∷ records_left b) (records_left a ≡ [])
read_step a b true fields config known r = let s = record_read a b fields config known r in ((λ _. s.0), s.1)
read_step a b false fields config known r = ((λ e. cc), no_record_read a b fields config known r)
