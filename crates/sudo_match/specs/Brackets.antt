-- The characters that write a bracket, as in glob(7) and sudoers(5), "Wildcards": lists of characters cut into pieces,
-- one for each item. The laws of patterns cite these definitions.
use Rattle.std.specs.Prelude.{◌≡◌, ℕ, Bool, true, false, not, ◌&&◌, List, [], ◌∷◌, ◌++◌, length, slice_get, Some, None}
use Rattle.sudo_text.specs.declared.token.Ch.{Ch}
use Rattle.sudo_match.specs.Pattern.{is_plain, has, begins, class_form, class_at, Item, InClass, Range, Single}

-- the characters begin with an unescaped `-`, followed by a character other than an unescaped `]`
abbrev pub goes_to : List Ch → Bool
goes_to cs = begins (is_plain 45 ∷ (λ c. not (is_plain 93 c)) ∷ []) cs

-- three characters `a-b`
pub record IsRange (low high : ℕ) (w : List Ch) : Type 0 where
  pub first : Ch
  pub dash : Ch
  pub last : Ch
  pub written : w ≡ first ∷ dash ∷ last ∷ []
  pub low_is : first.byte ≡ low
  pub high_is : last.byte ≡ high
  pub dash_is : is_plain 45 dash ≡ true
  pub is_open : is_plain 93 last ≡ false

-- the characters w, followed by `after`, write the item: a class if they begin one, otherwise a range if they begin
-- one, otherwise one byte
abbrev pub WritesItem : Item → List Ch → List Ch → Type 0
WritesItem (InClass k) w after = (class_at (w ++ after) ≡ Some k) × (length w ≡ length (class_form k))
WritesItem (Range low high) w after = (class_at (w ++ after) ≡ None) × IsRange low high w
WritesItem (Single b) w after = (class_at (w ++ after) ≡ None) × (goes_to after ≡ false) × (c : Ch) × (w ≡ c ∷ []) × (c.byte ≡ b)

-- the characters w, followed by `after`, write the items one after the other; none but the very first begins with an
-- unescaped `]`
abbrev pub WritesItems : Bool → List Item → List Ch → List Ch → Type 0
WritesItems is_first [] w after = (is_first ≡ false) × (w ≡ [])
WritesItems is_first (i ∷ is) w after =
    (v : List Ch) × (u : List Ch) × (w ≡ v ++ u) × WritesItem i v (u ++ after)
    × ((not is_first && has (is_plain 93) (slice_get (w ++ after) 0)) ≡ false)
    × WritesItems false is u after

-- an unescaped `!` for the complement; without it the items do not begin with an unescaped `!`
abbrev pub WritesSign : Bool → List Ch → List Ch → Type 0
WritesSign true sign body = (c : Ch) × (sign ≡ c ∷ []) × (is_plain 33 c ≡ true)
WritesSign false sign body = (sign ≡ []) × (has (is_plain 33) (slice_get body 0) ≡ false)

-- after its `[` the characters are those of a bracket: the sign, one or more items, an unescaped `]`, and then the rest
pub record WritesBracket (complement : Bool) (items : List Item) (cs rest : List Ch) : Type 0 where
  pub sign : List Ch
  pub body : List Ch
  pub close : Ch
  pub written : cs ≡ sign ++ (body ++ close ∷ rest)
  pub sign_is : WritesSign complement sign (body ++ close ∷ rest)
  pub items_are : WritesItems true items body (close ∷ rest)
  pub closes : is_plain 93 close ≡ true
