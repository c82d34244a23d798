-- Lemmas on unclosed brackets.
use Rattle.std.proofs.Common.{◌≡◌, ℕ, ◌+◌, Bool, true, false, ◌&&◌, not, List, ◌∷◌, drop, refl, ap, sym, ◌∙◌, subst}
use Rattle.std.proofs.Common.{Some, None, Option, arith}
use Rattle.std.specs.Prelude.{slice_get, option_map}
use Rattle.sudo_text.specs.declared.token.Ch.{Ch}
use Rattle.sudo_match.specs.Pattern.{Item, is_plain, has, items_after, bracket_after, Bracket}
use Rattle.sudo_match.specs.Body.Pattern.{item_of}
use Rattle.sudo_match.specs.declared.unclosed.Unclosed.{Unclosed}
use Rattle.sudo_match.specs.Body.Closing.{NeverCloses, Knows}
use Rattle.sudo_match.proofs.ItemLemmas.{items_after-none, items_after-close, items_after-next}
use Rattle.sudo_match.proofs.PartLemmas.{bracket_after-complement, bracket_after-plain}

pub mapped-none : {A B : Type 0} (f : A → B) (o : Option A) → option_map f o ≡ None → o ≡ None
mapped-none f None e = refl
mapped-none f (Some x) e = cc

not_close : (cs : List Ch) (n : ℕ) → NeverCloses cs n → has (is_plain 93) (slice_get cs n) ≡ false
unfolding NeverCloses
not_close cs n e = go (has (is_plain 93) (slice_get cs n)) refl
  where
    go : (b : Bool) → has (is_plain 93) (slice_get cs n) ≡ b → b ≡ false
    go false f = refl
    go true f = let closed = items_after-close false n cs f in cc

pub never-next :
    (cs : List Ch) (n : ℕ) (i : Item) (more : ℕ) → NeverCloses cs n → item_of (drop n cs) ≡ Some (i, more) → NeverCloses cs (n + 1 + more)
unfolding NeverCloses
never-next cs n i more e f =
    mapped-none (λ (q : List Item × ℕ). (i ∷ q.0, q.1 + (more + 1))) (items_after 0 false (drop (n + 1 + more) cs))
    (sym (items_after-next false n cs i more f (not_close cs n e)) ∙ e)

pub never-first : (is_first : Bool) (cs : List Ch) (n : ℕ) → NeverCloses cs n → items_after 0 is_first (drop n cs) ≡ None
unfolding NeverCloses
never-first is_first cs n e = go (item_of (drop n cs)) refl
  where
    shut : (b : Bool) → (b && has (is_plain 93) (slice_get cs n)) ≡ false
    shut true = not_close cs n e
    shut false = refl

    go : (o : Option (Item × ℕ)) → item_of (drop n cs) ≡ o → items_after 0 is_first (drop n cs) ≡ None
    go None f = items_after-none is_first n cs f
    go (Some r) f =
        items_after-next is_first n cs r.0 r.1 f (shut (not is_first))
        ∙ ap (option_map (λ q. (r.0 ∷ q.0, q.1 + (r.1 + 1)))) (never-next cs n r.0 r.1 e f)

pub first-never : (cs : List Ch) (n : ℕ) → items_after 0 true (drop n cs) ≡ None
    → has (is_plain 93) (slice_get cs n) ≡ false → NeverCloses cs n
unfolding NeverCloses
first-never cs n e shut = go (item_of (drop n cs)) refl
  where
    go : (o : Option (Item × ℕ)) → item_of (drop n cs) ≡ o → items_after 0 false (drop n cs) ≡ None
    go None f = items_after-none false n cs f
    go (Some r) f =
        items_after-next false n cs r.0 r.1 f shut
        ∙ ap (option_map (λ q. (r.0 ∷ q.0, q.1 + (r.1 + 1))))
        (mapped-none (λ (q : List Item × ℕ). (r.0 ∷ q.0, q.1 + (r.1 + 1))) (items_after 0 false (drop (n + 1 + r.1) cs))
        (sym (items_after-next true n cs r.0 r.1 f refl) ∙ e))

pub open_complement : (cs : List Ch) (n : ℕ) → has (is_plain 33) (slice_get cs n) ≡ true
    → bracket_after (drop n cs) ≡ None → items_after 0 true (drop (n + 1) cs) ≡ None
open_complement cs n e f =
    mapped-none (λ (r : List Item × ℕ). (Bracket true r.0, r.1 + 1)) (items_after 0 true (drop (n + 1) cs))
    (sym (bracket_after-complement n cs e) ∙ f)

pub open_plain : (cs : List Ch) (n : ℕ) → has (is_plain 33) (slice_get cs n) ≡ false
    → bracket_after (drop n cs) ≡ None → items_after 0 true (drop n cs) ≡ None
open_plain cs n e f =
    mapped-none (λ (r : List Item × ℕ). (Bracket false r.0, r.1)) (items_after 0 true (drop n cs)) (sym (bracket_after-plain n cs e) ∙ f)

-- ---- Three indices

same-index : (cs : List Ch) (m n : ℕ) → m ≡ n → NeverCloses cs m → NeverCloses cs n
same-index cs m n e = subst (NeverCloses cs) e

pub knows-next : (cs : List Ch) (u : Unclosed) → Knows cs u
    → Knows cs (record { at = u.at + 1; first = u.second; second = u.third; third = false })
knows-next cs u k = record {
  first = k.second;
  second = λ e. let same : u.at + 2 ≡ u.at + 1 + 1 = omega arith in same-index cs (u.at + 2) (u.at + 1 + 1) same (k.third e);
  third = λ e. cc;
}

pub knows-first : (cs : List Ch) (u : Unclosed) → Knows cs u → NeverCloses cs u.at
    → Knows cs (record { at = u.at; first = true; second = u.second; third = u.third })
knows-first cs u k e = record { first = λ f. e; second = k.second; third = k.third }

pub knows-third : (cs : List Ch) (u : Unclosed) → Knows cs u → NeverCloses cs (u.at + 2)
    → Knows cs (record { at = u.at; first = u.first; second = u.second; third = true })
knows-third cs u k e = record { first = k.first; second = k.second; third = λ f. e }

-- the item at the first index leads on to an index
pub led_on :
    (cs : List Ch) (u : Unclosed) (i : Item) (more to : ℕ) → Knows cs u → u.first ≡ true → item_of (drop u.at cs) ≡ Some (i, more) →
    u.at + 1 + more ≡ to → NeverCloses cs to
led_on cs u i more to k e f same = same-index cs (u.at + 1 + more) to same (never-next cs u.at i more (k.first e) f)
