-- The invariant of a policy, for a state of loading; only the proof of a body needs these definitions.
use Rattle.std.specs.Prelude.{◌≡◌, ℕ, Bool, true, not, nat_lt, List, length}
use Rattle.std.specs.List.{list_all}
use Rattle.sudo_grammar.specs.declared.policy.Entry.{Entry}
use Rattle.sudo_grammar.specs.Body.Includes.{is_include_entry}
use Rattle.sudo_load.specs.declared.loading.LoadState.{LoadState}

abbrev pub placed_in : ℕ → List Entry → Bool
placed_in n entries = list_all (λ e. nat_lt e.place.file n) entries

abbrev pub followed_all : List Entry → Bool
followed_all entries = list_all (λ e. not (is_include_entry e.body)) entries

-- the loaded entries belong to the files that were read, and none is an include line
pub record IsConsistent (loaded : LoadState) : Type 0 where
  pub placed : placed_in (length loaded.files) loaded.entries ≡ true
  pub unfolded : followed_all loaded.entries ≡ true
