-- Texts that grew piece by piece.
use Rattle.std.proofs.Common.{◌≡◌, ℕ, List, ◌++◌, ap, ◌∙◌, append_assoc}

pub grew2 : (o s t : List ℕ) (a b : List ℕ) → s ≡ o ++ a → t ≡ s ++ b → t ≡ o ++ (a ++ b)
grew2 o s t a b e f = f ∙ ap (λ (bytes : List ℕ). bytes ++ b) e ∙ append_assoc o a b

pub grew3 : (o s t u : List ℕ) (a b c : List ℕ) → s ≡ o ++ a → t ≡ s ++ b → u ≡ t ++ c → u ≡ o ++ (a ++ (b ++ c))
grew3 o s t u a b c e f g = grew2 o s u a (b ++ c) e (grew2 s t u b c f g)

pub grew4 : (o s t u v : List ℕ) (a b c d : List ℕ) → s ≡ o ++ a → t ≡ s ++ b → u ≡ t ++ c → v ≡ u ++ d → v ≡ o ++ (a ++ (b ++ (c ++ d)))
grew4 o s t u v a b c d e f g h = grew2 o s v a (b ++ (c ++ d)) e (grew3 s t u v b c d f g h)

pub grew5 : (o s t u v w : List ℕ) (a b c d x : List ℕ) → s ≡ o ++ a → t ≡ s ++ b → u ≡ t ++ c → v ≡ u ++ d → w ≡ v ++ x → w ≡ o ++ (a ++ (b ++ (c ++ (d ++ x))))
grew5 o s t u v w a b c d x e f g h i = grew2 o s w a (b ++ (c ++ (d ++ x))) e (grew4 s t u v w b c d x f g h i)

pub grew6 : (o s t u v w x : List ℕ) (a b c d y z : List ℕ) → s ≡ o ++ a → t ≡ s ++ b → u ≡ t ++ c → v ≡ u ++ d → w ≡ v ++ y → x ≡ w ++ z → x ≡ o ++ (a ++ (b ++ (c ++ (d ++ (y ++ z)))))
grew6 o s t u v w x a b c d y z e f g h i j = grew2 o s x a (b ++ (c ++ (d ++ (y ++ z)))) e (grew5 s t u v w x b c d y z f g h i j)
