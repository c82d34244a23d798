-- From the bytes that are read to what they state.
use Rattle.std.proofs.Common.{◌≡◌, ℕ, suc, List, [], length, refl, arith, Option, None, Some, Result, Ok, Err, IfOk}
use Rattle.std.proofs.Common.{IfErr, true, false, Bool, cond}
use Rattle.audit_files.specs.Feeding.{Ahead}
use Rattle.std.proofs.Common.{◌≤◌, IfSome, nat_lt}
use Rattle.std.proofs.Math.ListN.{replicate}
use Rattle.std.proofs.lemmas.Bool.{le-ltb, lt-ltb}
use Rattle.std.proofs.lemmas.List.{length-replicate}
use Rattle.audit_files.specs.Whole.{whole_of}
use Rattle.audit_files.specs.declared.whole.ReadFault.TheVariants as why
use Rattle.audit_files.specs.Faults.{IsNotOutOfMemory}
use Rattle.audit_files.specs.Files.{IsRead, IsStatedBy, byte_limit, bytes_read, bytes_upto, itself, stated_in}
use Rattle.audit_files.specs.declared.fault.FileFault.{FileFault}
use Rattle.audit_files.specs.declared.fault.FileFault.TheVariants.{TooMany, Read}

-- the bytes that a reader specifies, or any bytes
known : (readable_bytes : Option Ahead) (any : Ahead) (r : Result (List ℕ) FileFault)
    → ((a : Ahead) → readable_bytes ≡ Some a → bytes_read a ≡ r) → bytes_read any ≡ r → IsRead itself readable_bytes r
known None any r some e = record { ahead = any; gives = tt; states = rw e (same r) }
  where
    same : (r : Result (List ℕ) FileFault) → stated_in itself r ≡ r
    same (Ok bytes) = refl
    same (Err f) = refl
known (Some a) any r some e = record { ahead = a; gives = refl; states = rw (some a refl) (same r) }
  where
    same : (r : Result (List ℕ) FileFault) → stated_in itself r ≡ r
    same (Ok bytes) = refl
    same (Err f) = refl

-- the whole text is the bytes that are read
whole_text : (a : Ahead) (text : List ℕ) → whole_of byte_limit a ≡ Ok text → bytes_read a ≡ Ok text
whole_text a text e = by (nat_lt byte_limit (length a.bytes)) a.fails e
  where
    by : (long fails : Bool) → cond long (Err why.TooLong) (cond fails (Err why.Failed) (Ok a.bytes)) ≡ Ok text
        → cond long (Err TooMany) (cond fails (Err Read) (Ok a.bytes)) ≡ Ok text
    by true fails h = cc
    by false true h = cc
    by false false h = let same : a.bytes ≡ text = cc in rw same refl

whole_long : (a : Ahead) → whole_of byte_limit a ≡ Err why.TooLong → bytes_read a ≡ Err TooMany
whole_long a e = by (nat_lt byte_limit (length a.bytes)) a.fails e
  where
    by : (long fails : Bool) → cond long (Err why.TooLong) (cond fails (Err why.Failed) (Ok a.bytes)) ≡ Err
        why.TooLong → cond long (Err TooMany) (cond fails (Err Read) (Ok a.bytes)) ≡ Err TooMany
    by true fails h = refl
    by false true h = cc
    by false false h = cc

whole_failed : (a : Ahead) → whole_of byte_limit a ≡ Err why.Failed → bytes_read a ≡ Err Read
whole_failed a e = by (nat_lt byte_limit (length a.bytes)) a.fails e
  where
    by : (long fails : Bool) → cond long (Err why.TooLong) (cond fails (Err why.Failed) (Ok a.bytes)) ≡ Err why.Failed
        → cond long (Err TooMany) (cond fails (Err Read) (Ok a.bytes)) ≡ Err Read
    by true fails h = cc
    by false true h = refl
    by false false h = cc

-- bytes up to the limit, and more than it
short_bytes : (limit : ℕ) (bytes : List ℕ) → length bytes ≤ limit → nat_lt limit (length bytes) ≡ false
short_bytes limit bytes within = le-ltb limit (length bytes) within

-- one byte more than the limit
unfoldable many : ℕ → Ahead
many limit = record { bytes = replicate {A = ℕ} (suc limit) 0; fails = false }

many_are_many : (limit : ℕ) → bytes_upto limit (many limit) ≡ Err TooMany
unfolding many
many_are_many limit =
    let long : nat_lt limit (length (replicate {A = ℕ} (suc limit) 0)) ≡ true =
    rw (length-replicate {A = ℕ} (suc limit) 0) (lt-ltb limit (suc limit) (omega arith)) in
    rw long refl

pub whole_is_read : (readable_bytes : Option Ahead) (text : List ℕ)
    → IfSome readable_bytes (λ a. whole_of byte_limit a ≡ Ok text) → length text ≤ byte_limit → IsRead itself readable_bytes (Ok text)
whole_is_read readable_bytes text e within = known readable_bytes (record { bytes = text; fails = false }) (Ok text)
    (given readable_bytes e) (rw (short_bytes byte_limit text within) refl)
  where
    given : (readable_bytes : Option Ahead) → IfSome readable_bytes (λ a. whole_of byte_limit a ≡ Ok text)
        → (a : Ahead) → readable_bytes ≡ Some a → bytes_read a ≡ Ok text
    given None e a h = cc
    given (Some b) e a h = let same : b ≡ a = cc in rw (← same) (whole_text b text e)

pub long_is_read : (readable_bytes : Option Ahead)
    → IfSome readable_bytes (λ a. whole_of byte_limit a ≡ Err why.TooLong) → IsRead itself readable_bytes (Err TooMany)
long_is_read readable_bytes e = known readable_bytes (many byte_limit) (Err TooMany) (given readable_bytes e) (many_are_many byte_limit)
  where
    given : (readable_bytes : Option Ahead) → IfSome readable_bytes (λ a. whole_of byte_limit a ≡ Err why.TooLong)
        → (a : Ahead) → readable_bytes ≡ Some a → bytes_read a ≡ Err TooMany
    given None e a h = cc
    given (Some b) e a h = let same : b ≡ a = cc in rw (← same) (whole_long b e)

pub failed_is_read : (readable_bytes : Option Ahead)
    → IfSome readable_bytes (λ a. whole_of byte_limit a ≡ Err why.Failed) → IsRead itself readable_bytes (Err Read)
failed_is_read readable_bytes e = known readable_bytes (record { bytes = []; fails = true }) (Err Read) (given readable_bytes e) refl
  where
    given : (readable_bytes : Option Ahead) → IfSome readable_bytes (λ a. whole_of byte_limit a ≡ Err why.Failed)
        → (a : Ahead) → readable_bytes ≡ Some a → bytes_read a ≡ Err Read
    given None e a h = cc
    given (Some b) e a h = let same : b ≡ a = cc in rw (← same) (whole_failed b e)

-- what a text states is what is read, where the text is
pub text-is-read : {T : Type 0} (meaning : List ℕ → Result T FileFault) (readable_bytes : Option Ahead)
    (text : List ℕ) (r : Result T FileFault)
    → IsRead itself readable_bytes (Ok text) → meaning text ≡ r → IsRead meaning readable_bytes r
text-is-read {T} meaning readable_bytes text r i e = record { ahead = i.ahead; gives = i.gives; states = by (bytes_read i.ahead) i.states }
  where
    by : (o : Result (List ℕ) FileFault) → stated_in itself o ≡ Ok text → stated_in meaning o ≡ r
    by (Ok bytes) h = let same : bytes ≡ text = cc in rw same e
    by (Err f) h = cc

-- a fault of reading is what is read, whatever the bytes would state
pub fault_is_read : {T : Type 0} (meaning : List ℕ → Result T FileFault) (readable_bytes : Option Ahead) (fault : FileFault)
    → IsRead itself readable_bytes (Err fault) → IsRead meaning readable_bytes (Err fault)
fault_is_read {T} meaning readable_bytes fault i = record { ahead = i.ahead; gives = i.gives; states = by (bytes_read i.ahead) i.states }
  where
    by : (o : Result (List ℕ) FileFault) → stated_in itself o ≡ Err fault → stated_in meaning o ≡ Err fault
    by (Ok bytes) h = cc
    by (Err f) h = let same : f ≡ fault = cc in rw same refl

pub text-states : {T : Type 0} (meaning : List ℕ → Result T FileFault) (readable_bytes : Option Ahead) (text : List ℕ)
    (r : Result T FileFault)
    → IsRead itself readable_bytes (Ok text) → IfOk r (λ x. meaning text ≡ Ok x)
    → IfErr r (λ e. IsNotOutOfMemory e → meaning text ≡ Err e) → IsStatedBy meaning readable_bytes r
text-states meaning readable_bytes text (Ok x) i ok err = text-is-read meaning readable_bytes text (Ok x) i ok
text-states meaning readable_bytes text (Err e) i ok err = λ no_memory. text-is-read meaning readable_bytes text (Err e) i (err no_memory)
