-- The first two bytes of the words; only proofs of bodies use these.
use Rattle.std.specs.Prelude.{ℕ, Bool, ◌&&◌, ◌||◌, ◌==◌, nat_eq, List, [], ◌∷◌, codes, slice_index}
use Rattle.std.specs.List.{list_any}
use Rattle.review_texts.specs.Words.{is_plus_or_caret, words}

-- the words that begin with a letter
abbrev pub letter_words : List (List ℕ)
letter_words = codes "list" ∷ codes "CWD" ∷ codes "TIMEOUT" ∷ codes "ROLE" ∷ codes "TYPE" ∷ codes "CHROOT" ∷ codes "NOTBEFORE"
    ∷ codes "NOTAFTER" ∷ codes "sha224:" ∷ codes "sha256:" ∷ codes "sha384:" ∷ codes "sha512:" ∷ codes "Defaults\\" ∷ []

-- a word begins with these two bytes
abbrev pub begins_as : ℕ → ℕ → List ℕ → Bool
begins_as first second word = nat_eq (slice_index word 0) first && nat_eq (slice_index word 1) second

-- one of the words does, or the first is a plus sign or a caret
abbrev pub begin_word : ℕ → ℕ → Bool
begin_word first second = list_any (begins_as first second) words || is_plus_or_caret first
