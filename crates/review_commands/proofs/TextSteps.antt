-- Texts that are written one after the other.
use Rattle.std.proofs.Common.{◌≡◌, ◌∙◌, ℕ, List, ◌++◌, ap, append_assoc}

pub three_texts : (old a b c one two new : List ℕ) → one ≡ old ++ a → two ≡ one ++ b → new ≡ two ++ c → new ≡ old ++ (a ++ (b ++ c))
three_texts old a b c one two new first second end =
    end ∙ ap (λ (t : List ℕ). t ++ c) (second ∙ ap (λ (t : List ℕ). t ++ b) first)
    ∙ append_assoc (old ++ a) b c ∙ append_assoc old a (b ++ c)
