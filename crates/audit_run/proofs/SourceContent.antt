-- The content of sources: numbers that rise, and owners in the roster.
use Rattle.std.proofs.Common.{◌≡◌, ◌⊎◌, ℕ, suc, ◌+◌, ◌<◌, Bool, true, false, cond, not, List, [], ◌∷◌, length, map}
use Rattle.std.proofs.Common.{Option, Result, Ok, Err, All, sym, ap, ◌∙◌, refl, inl, inr, arith, bytes_eq}
use Rattle.std.specs.List.{zip}
use Rattle.std.proofs.lemmas.List.Elements.{All-cons, All-nil}
use Rattle.std.proofs.lemmas.Slice.Eq.{bytes_eq-Decides}
use Rattle.audit_collect.proofs.Members.{Among}
use Rattle.audit_files.specs.Feeding.{Ahead}
use Rattle.audit_files.specs.Files.{IsStatedBy, bytes_read, stated_in}
use Rattle.audit_files.specs.Requests.{AreRising, requests_of_file}
use Rattle.audit_files.specs.declared.fault.FileFault.{FileFault}
use Rattle.audit_files.specs.declared.requests.Requests.{Requests}
use Rattle.audit_files.proofs.RisingNumbers.{sent_rises}
use Rattle.audit_run.specs.Asked.{requests_stated}
use Rattle.audit_run.specs.Parts.{AreRead, Stated, parts_by_owner}
use Rattle.audit_run.specs.Roster.{owners, index_in, roster, without}
use Rattle.audit_run.proofs.Refusals.{IsOwned}
use Rattle.audit_run.proofs.Twice.{Rises}

-- what is read rises, whatever the bytes
read_rises : (bytes : Result (List ℕ) FileFault) (requests : Requests)
    → stated_in requests_of_file bytes ≡ Ok requests → AreRising requests.list
read_rises (Ok text) requests e = sent_rises text requests e
read_rises (Err fault) requests e = absurd (cc)

state-rises : (readable_bytes : Option Ahead) (state : Stated) → IsStatedBy requests_of_file readable_bytes state
    → AreRising (requests_stated state)
state-rises readable_bytes (Ok requests) states = read_rises (bytes_read states.ahead) requests states.states
state-rises readable_bytes (Err fault) states = tt

rise_zip : (os : List ℕ) (readable_bytes : List (Option Ahead)) (states : List Stated) → AreRead readable_bytes states
    → All Rises (zip os states)
rise_zip [] readable_bytes states read = All-nil Rises
rise_zip (o ∷ os) [] [] read = All-nil Rises
rise_zip (o ∷ os) [] (s ∷ states) read = absurd read
rise_zip (o ∷ os) (t ∷ readable_bytes) [] read = absurd read
rise_zip (o ∷ os) (t ∷ readable_bytes) (s ∷ states) read =
    All-cons Rises (o, s) (zip os states) (state-rises t s read.0) (rise_zip os readable_bytes states read.1)

-- the numbers of each source rise
pub all_rise : (sources : List (List ℕ)) (readable_bytes : List (Option Ahead)) (states : List Stated)
    → AreRead readable_bytes states → All Rises (parts_by_owner sources states)
all_rise sources readable_bytes states read = rise_zip (owners sources) readable_bytes states read

-- a name that stands is found before the end
place_within : (name : List ℕ) (names : List (List ℕ)) → Among name names → index_in name names < length names
place_within name [] m = absurd m
place_within name (other ∷ names) m = by (bytes_eq other name) refl m (place_within name names)
  where
    by : (b : Bool) → bytes_eq other name ≡ b → (other ≡ name) ⊎ Among name names
        → (Among name names → index_in name names < length names) → cond b 0 (1 + index_in name names) < suc (length names)
    by true e m rest = omega arith
    by false e (inl same) rest = let yes_equal : bytes_eq other name ≡ true = (bytes_eq-Decides other name).1 same in absurd (cc)
    by false e (inr m) rest = let within = rest m in omega (arith, within)

-- and a name that is another's stays where that is taken away
among_without : (gone name : List ℕ) (names : List (List ℕ)) → bytes_eq gone name ≡ false → Among name names
    → Among name (without gone names)
among_without gone name [] other m = absurd m
among_without gone name (n ∷ names) other m = by (bytes_eq gone n) refl m (among_without gone name names other)
  where
    by : (b : Bool) → bytes_eq gone n ≡ b → (n ≡ name) ⊎ Among name names
        → (Among name names → Among name (without gone names)) → Among name (cond (not b) (n ∷ without gone names) (without gone names))
    by true e (inl same) rest = let both : true ≡ false = sym e ∙ ap (bytes_eq gone) same ∙ other in absurd (cc)
    by true e (inr m) rest = rest m
    by false e (inl same) rest = inl same
    by false e (inr m) rest = inr (rest m)

-- each name stands in the roster
pub among_roster : (name : List ℕ) (names : List (List ℕ)) → Among name names → Among name (roster names)
among_roster name [] m = absurd m
among_roster name (n ∷ names) (inl same) = inl same
among_roster name (n ∷ names) (inr m) = by (bytes_eq n name) refl (among_roster name names m)
  where
    by : (b : Bool) → bytes_eq n name ≡ b → Among name (roster names) → Among name (n ∷ without n (roster names))
    by true e later = inl ((bytes_eq-Decides n name).0 e)
    by false e later = inr (among_without n name (roster names) e later)

own_zip : (senders : ℕ) (all : List (List ℕ)) (names : List (List ℕ)) (states : List Stated)
    → ((name : List ℕ) → Among name names → index_in name all < senders)
    → All (IsOwned senders) (zip (map (λ name. index_in name all) names) states)
own_zip senders all [] states within = All-nil (IsOwned senders)
own_zip senders all (n ∷ names) [] within = All-nil (IsOwned senders)
own_zip senders all (n ∷ names) (s ∷ states) within =
    All-cons (IsOwned senders) (index_in n all, s) (zip (map (λ name. index_in name all) names) states)
    (within n (inl refl)) (own_zip senders all names states (λ name m. within name (inr m)))

-- each source's owner is in the roster
pub all_owned : (sources : List (List ℕ)) (states : List Stated) → All (IsOwned (length (roster sources))) (parts_by_owner sources states)
all_owned sources states = own_zip (length (roster sources)) (roster sources) sources states
    (λ name m. place_within name (roster sources) (among_roster name sources m))
