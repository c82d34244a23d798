-- A reader that fails at a call.
use Rattle.std.proofs.Common.{◌≡◌, ℕ, ◌+◌, Bool, true, List, length, take, drop, Some, None, refl}
use Rattle.std.proofs.lemmas.List.{drop-take}
use Rattle.audit_files.specs.Feeding.{failing, given_before_call}

pub cut_short : (call step at n : ℕ) (text : List ℕ) (fails : Bool)
    → Some n ≡ given_before_call call step (length (drop at text))
    → record { bytes = drop at (take (at + n) text); fails = true } ≡ failing call step (record { bytes = drop at text; fails = fails })
cut_short call step at n text fails e =
    rw (← e, drop-take at n text) refl

pub not_cut : (call step at : ℕ) (text : List ℕ) (fails : Bool)
    → None ≡ given_before_call call step (length (drop at text))
    → record { bytes = drop at text; fails = fails } ≡ failing call step (record { bytes = drop at text; fails = fails })
not_cut call step at text fails e =
    rw (← e) refl
