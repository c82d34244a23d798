-- Words that are read, and files of senders that are opened, one by one.
use Rattle.std.proofs.Common.{◌≡◌, ◌<◌, ◌+◌, ℕ, List, [], ◌∷◌, ◌++◌, length, get_or, take, drop, map, suc, refl, sym, ap, ◌∙◌, arith, subst}
use Rattle.std.specs.Prelude.{All}
use Rattle.std.proofs.lemmas.List.{drop_more, map-append, map_push, take-append-drop}
use Rattle.std.proofs.lemmas.List.Elements.{All-cons, All-nil, All-push}
use Rattle.std.proofs.lemmas.Slice.Zip.{all_zipped_more}
use lib.Seq.{take-suc}
use Rattle.audit_run.specs.declared.source.Source.{Source}
use Rattle.run_base.specs.Opening.{HasNoReader}
use Rattle.run_base.specs.declared.fault.OpenFault.{OpenFault}
use Rattle.run_base.specs.declared.fault.OpenFault.TheVariants as opens
use Rattle.run_base.specs.declared.obstacle.Obstacle.{Obstacle}
use Rattle.audit_commands.specs.Opening.{AreOpened, AreSenders, HasReader, IsFirstClosed, IsNamed}
use Rattle.audit_commands.specs.Body.Opening.{HaveNoReaders}
use Rattle.audit_commands.specs.Opening.{IsNotOpened, IsUnopened, Pair, paths_of, word_of}
use Rattle.audit_commands.specs.declared.fault.SourcesFault.TheVariants as faults

take-more : {A : Type 0} (xs : List A) (i : ℕ) (d : A) → i < length xs → take (i + 1) xs ≡ take i xs ++ get_or xs i d ∷ []
take-more xs i d within =
    let on : i + 1 ≡ suc i = omega arith in
    ap (λ n. take n xs) on ∙ take-suc xs i d within

-- One more word is a sender's.
pub senders_more : (words : List (List ℕ)) (pairs : List Pair) (at : ℕ) (pair : Pair) → AreSenders (take at words) pairs → at < length words
    → get_or words at [] ≡ word_of pair → IsNamed pair → AreSenders (take (at + 1) words) (pairs ++ pair ∷ [])
senders_more words pairs at pair are within is named = record {
  spelled =
      map_push word_of pairs pair ∙ ap (λ l. l ++ word_of pair ∷ []) are.spelled
      ∙ ap (λ w. take at words ++ w ∷ []) (sym is) ∙ sym (take-more words at [] within);
  named = All-push IsNamed pairs pair are.named named;
}

-- One more file is opened.
pub opened_more : {R : Type 0} (Opens : List ℕ → R → Type 0) (pairs : List Pair) (sources : List (Source R)) (at : ℕ)
    (pair : Pair) (source : Source R) → AreOpened Opens (take at pairs) sources
    → at < length pairs → get_or pairs at pair ≡ pair → source.name ≡ pair.0 → Opens pair.1 source.reader
    → AreOpened Opens (take (at + 1) pairs) (sources ++ source ∷ [])
opened_more Opens pairs sources at pair source are within is name opens =
    subst (λ l. AreOpened Opens l (sources ++ source ∷ [])) (sym (take-more pairs at pair within ∙ ap (λ p. take at pairs ++ p ∷ []) is))
    (all_zipped_more (λ pair source. (source.name ≡ pair.0) × Opens pair.1 source.reader) (take at pairs) sources pair
    source are (name, opens))

-- What is opened has readers.
readers : {R : Type 0} (Opens : List ℕ → R → Type 0) (pairs : List Pair) (sources : List (Source R)) → AreOpened Opens pairs sources
    → All (HasReader Opens) (map (λ p. p.1) pairs)
readers Opens [] sources are = All-nil (HasReader Opens)
readers Opens (pair ∷ pairs) [] are = absurd are
readers Opens (pair ∷ pairs) (source ∷ sources) are = All-cons (HasReader Opens) pair.1 (map (λ p. p.1) pairs)
    (source.reader, are.0.1) (readers Opens pairs sources are.1)

-- The next file has no reader.
first_closed : {R : Type 0} (Opens : List ℕ → R → Type 0) (Closed : List ℕ → Obstacle → Type 0) (pairs : List Pair)
    (sources : List (Source R)) (at : ℕ) (pair : Pair) (why_not : Obstacle)
    → AreOpened Opens (take at pairs) sources → at < length pairs → get_or pairs at pair ≡ pair → Closed pair.1 why_not
    → IsFirstClosed Opens Closed (map (λ p. p.1) pairs) pair.1 why_not
first_closed Opens Closed pairs sources at pair why_not are within is closed = record {
  earlier = map (λ p. p.1) (take at pairs);
  later = map (λ p. p.1) (drop (at + 1) pairs);
  order =
      ap (map (λ p. p.1)) (sym (take-append-drop at pairs)
      ∙ ap (λ l. take at pairs ++ l) (drop_more pairs at pair within ∙ ap (λ p. p ∷ drop (at + 1) pairs) is))
      ∙ map-append (λ p. p.1) (take at pairs) (pair ∷ drop (at + 1) pairs);
  opened = readers Opens (take at pairs) sources are;
  closed = closed;
}

pub no_source : {R : Type 0} (Opens : List ℕ → R → Type 0) (Closed : List ℕ → Obstacle → Type 0) (pairs : List Pair)
    (sources : List (Source R)) (at : ℕ) (pair : Pair) (fault : OpenFault)
    → AreOpened Opens (take at pairs) sources → at < length pairs → get_or pairs at pair ≡ pair → HasNoReader Closed pair.1 fault
    → HaveNoReaders Opens Closed (map (λ p. p.1) pairs) fault
no_source Opens Closed pairs sources at pair (opens.CannotRead path why_not) are within is why =
    subst (λ p. IsFirstClosed Opens Closed (map (λ q. q.1) pairs) p why_not) (sym why.0)
    (first_closed Opens Closed pairs sources at pair why_not are within is why.1)
no_source Opens Closed pairs sources at pair opens.Memory are within is why = tt

unopened : {R : Type 0} (Opens : List ℕ → R → Type 0) (Closed : List ℕ → Obstacle → Type 0) (users hosts : List ℕ)
    (words : List (List ℕ)) (pairs : List Pair) (path at : List ℕ) (why_not : Obstacle)
    → AreSenders words pairs → path ≡ at → IsFirstClosed Opens Closed (paths_of users hosts pairs) at why_not
    → IsUnopened Opens Closed users hosts words path why_not
unopened Opens Closed users hosts words pairs path at why_not are is first =
    subst (λ p. IsUnopened Opens Closed users hosts words p why_not) (sym is) (pairs, are, first)

-- The users have no reader.
pub no_users : {R : Type 0} (Opens : List ℕ → R → Type 0) (Closed : List ℕ → Obstacle → Type 0) (users hosts : List ℕ)
    (words : List (List ℕ)) (pairs : List Pair) (fault : OpenFault)
    → AreSenders words pairs → HasNoReader Closed users fault → IsNotOpened Opens Closed users hosts words (faults.Unopened fault)
no_users Opens Closed users hosts words pairs (opens.CannotRead path why_not) are why =
    unopened Opens Closed users hosts words pairs path users why_not are why.0
    (record { earlier = []; later = hosts ∷ map (λ p. p.1) pairs; order = refl; opened = All-nil (HasReader Opens); closed = why.1 })
no_users Opens Closed users hosts words pairs opens.Memory are why = tt

-- The users have one, and the hosts have none.
pub no_hosts : {R : Type 0} (Opens : List ℕ → R → Type 0) (Closed : List ℕ → Obstacle → Type 0) (users hosts : List ℕ)
    (words : List (List ℕ)) (pairs : List Pair) (reader : R) (fault : OpenFault)
    → AreSenders words pairs → Opens users reader → HasNoReader Closed hosts fault
    → IsNotOpened Opens Closed users hosts words (faults.Unopened fault)
no_hosts Opens Closed users hosts words pairs reader (opens.CannotRead path why_not) are there why =
    unopened Opens Closed users hosts words pairs path hosts why_not are why.0
    (record {
      earlier = users ∷ [];
      later = map (λ p. p.1) pairs;
      order = refl;
      opened = All-cons (HasReader Opens) users [] (reader, there) (All-nil (HasReader Opens));
      closed = why.1;
    })
no_hosts Opens Closed users hosts words pairs reader opens.Memory are there why = tt

-- Both have one, and a requests file has none.
pub no_sources : {R : Type 0} (Opens : List ℕ → R → Type 0) (Closed : List ℕ → Obstacle → Type 0) (users hosts : List ℕ)
    (words : List (List ℕ)) (pairs : List Pair) (first second : R) (fault : OpenFault)
    → AreSenders words pairs → Opens users first → Opens hosts second
    → HaveNoReaders Opens Closed (map (λ p. p.1) pairs) fault → IsNotOpened Opens Closed users hosts words (faults.Unopened fault)
no_sources Opens Closed users hosts words pairs first second (opens.CannotRead path why_not) are there there_too closed =
    unopened Opens Closed users hosts words pairs path path why_not are refl (record {
      earlier = users ∷ hosts ∷ closed.earlier;
      later = closed.later;
      order = ap (λ l. users ∷ hosts ∷ l) closed.order;
      opened = All-cons (HasReader Opens) users (hosts ∷ closed.earlier) (first, there)
          (All-cons (HasReader Opens) hosts closed.earlier (second, there_too) closed.opened);
      closed = closed.closed;
    })
no_sources Opens Closed users hosts words pairs first second opens.Memory are there there_too closed = tt
