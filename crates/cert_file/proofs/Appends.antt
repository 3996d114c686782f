-- Texts that grew piece by piece.
use Rattle.std.proofs.Common.{◌≡◌, ℕ, List, ◌++◌, ap, ◌∙◌, append_assoc}

pub grew2 : (o s t : List ℕ) (a b : List ℕ) → s ≡ o ++ a → t ≡ s ++ b → t ≡ o ++ (a ++ b)
grew2 o s t a b e f = f ∙ ap (λ (bytes : List ℕ). bytes ++ b) e ∙ append_assoc o a b

pub grew3 : (o s t u : List ℕ) (a b c : List ℕ) → s ≡ o ++ a → t ≡ s ++ b → u ≡ t ++ c → u ≡ o ++ (a ++ (b ++ c))
grew3 o s t u a b c e f g = grew2 o s u a (b ++ c) e (grew2 s t u b c f g)

pub grew4 : (o s t u v : List ℕ) (a b c d : List ℕ) → s ≡ o ++ a → t ≡ s ++ b → u ≡ t ++ c → v ≡ u ++ d → v ≡ o ++ (a ++ (b ++ (c ++ d)))
grew4 o s t u v a b c d e f g h = grew2 o s v a (b ++ (c ++ d)) e (grew3 s t u v b c d f g h)
