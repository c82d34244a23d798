-- Listed names, one further.
use Rattle.std.proofs.Common.{◌≡◌, ℕ, List, ◌∷◌, ◌++◌, refl, sym, ◌∙◌, ap, subst, append_assoc}
use Rattle.review_files.specs.declared.tree.Entry.{Entry}
use Rattle.review_files.specs.Reading.{AreListed, IsListing}

-- the names before one, it, and those after it
pub listed_on : (shows : List ℕ → Entry → Type 0) (folder path : List ℕ) (names : List (List ℕ)) (rest after : List (List ℕ))
    (name : List ℕ) (old new listing more : List (List ℕ)) → rest ≡ name ∷ after
    → IsListing shows folder path name listing → new ≡ old ++ listing
    → ((more : List (List ℕ)) → AreListed shows folder path rest more → AreListed shows folder path names (old ++ more))
    → AreListed shows folder path after more → AreListed shows folder path names (new ++ more)
listed_on shows folder path names rest after name old new listing more at is grown before behind =
    let here : AreListed shows folder path rest (listing ++ more) =
    subst (λ xs. AreListed shows folder path xs (listing ++ more)) (sym at) (listing, more, is, behind, refl) in
    subst (λ xs. AreListed shows folder path names xs) (sym (ap (λ xs. xs ++ more) grown ∙ append_assoc old listing more))
    (before (listing ++ more) here)
