-- The class of a name, as a search among the classes finds it.
use Rattle.std.proofs.Common.{◌≡◌, ℕ, List, Option, Some, refl, sym, ◌∙◌, ap}
use Rattle.std.specs.Prelude.{find}
use Rattle.std.specs.Str.{bytes_eq}
use Rattle.sudo_base.proofs.Lists.{find-holds}
use Rattle.sudo_base.proofs.IndexLemmas.{bytes_eq-is}
use Rattle.review_cautions.specs.declared.class.CautionClass.{CautionClass}
use Rattle.review_cautions.specs.declared.class.CautionClass.TheVariants.{Return, BlankAfterBackslash, Join, TornMark}
use Rattle.review_cautions.specs.declared.class.CautionClass.TheVariants.{IncludeEscape, IncludeIndent, Comment, EmptyGroup}
use Rattle.review_cautions.specs.declared.class.CautionClass.TheVariants.{Caret, Escape, Case, QuotedHost, QuotedEscape, Linked, Defaults}
use Rattle.review_cautions.specs.declared.class.CautionClass.TheVariants.{UnknownParameter, Sudoedit, Network, Bracket}
use Rattle.review_cautions.specs.declared.class.CautionClass.TheVariants.{Setenv, GroupForm, Reserved, Arguments, Depends}
use Rattle.review_cautions.specs.Classes.{classes, class_name}

-- the class is the first of its own name
own_name : (class : CautionClass) → find (λ c. bytes_eq (class_name c) (class_name class)) classes ≡ Some class
own_name Return = refl
own_name BlankAfterBackslash = refl
own_name Join = refl
own_name TornMark = refl
own_name IncludeEscape = refl
own_name IncludeIndent = refl
own_name Comment = refl
own_name EmptyGroup = refl
own_name Caret = refl
own_name Escape = refl
own_name Case = refl
own_name QuotedHost = refl
own_name QuotedEscape = refl
own_name Linked = refl
own_name Defaults = refl
own_name UnknownParameter = refl
own_name Sudoedit = refl
own_name Network = refl
own_name Bracket = refl
own_name Setenv = refl
own_name GroupForm = refl
own_name Reserved = refl
own_name Arguments = refl
own_name Depends = refl

-- what the search finds for a name is a class exactly if the name is that of the class
pub found_by_name : (name : List ℕ) (found : Option CautionClass) → found ≡ find (λ c. bytes_eq (class_name c) name) classes
    → (class : CautionClass) → (found ≡ Some class → name ≡ class_name class) × (name ≡ class_name class → found ≡ Some class)
found_by_name name found is class = (
  λ some. sym (bytes_eq-is (class_name class) name (find-holds (λ c. bytes_eq (class_name c) name) classes class (sym is ∙ some))),
  λ same. is ∙ ap (λ n. find (λ c. bytes_eq (class_name c) n) classes) same ∙ own_name class,
)
