-- What stands at a node stays right from step to step.
use Rattle.std.proofs.Common.{◌≡◌, ◌≢◌, ℕ, ◌<◌, List, [], ◌∷◌, ◌++◌, length, replicate, get_or, set, refl, sym, ◌∙◌, ap, subst, arith, ◌⊎◌, inl, inr, get_or-set_same, get_or-set_other, Some, None}
use Rattle.std.specs.Prelude.{ℤ}
use Rattle.std.specs.List.{All}
use Rattle.std.proofs.lemmas.Bool.{cases_eq}
use Rattle.std.proofs.lemmas.List.{get_or_default, length-set, length-replicate, get_or-replicate}
use Rattle.std.proofs.lemmas.List.Elements.{All-nil, All-push, All-pop}
use Rattle.dual_bound.specs.declared.settled.SettledPair.{SettledPair}
use Rattle.dual_check.specs.declared.asked.Asked.{Asked}
use Rattle.dual_check.specs.declared.node.KnownShare.{KnownShare}
use Rattle.dual_check.specs.declared.node.KnownShare.TheVariants.{Unknown, NoOrder, Least}
use Rattle.dual_check.specs.declared.node.Node.{Node}
use Rattle.dual_check.specs.Settling.{IsPairOn}
use Rattle.dual_check.specs.Nodes.{IsSo, known_at, share_at, IsNode, ArePrices, Forgets, IsForgotten, ArePricedOff}
use Rattle.dual_check.proofs.Known.{AreSo, so_settled, so_taken_back, so_priced}

-- What is read.

at_node : (asked : Asked) (node : Node) (k : ℕ) (x y : KnownShare) → IsNode asked node → k < length asked.part.now → x ≡ get_or node.shares.items k x → x ≡ y
    → IsSo y (share_at asked node.settled.items node.prices.items k)
at_node asked node k x y is below here same =
    let each = is.each in
    let there : known_at node.shares.items k ≡ y = get_or_default node.shares.items k Unknown x (omega (arith, below, each)) ∙ (sym here ∙ same) in
    subst (λ z. IsSo z (share_at asked node.settled.items node.prices.items k)) there (is.known k below)

pub known_none : (asked : Asked) (node : Node) (k : ℕ) (x : KnownShare) → IsNode asked node → k < length asked.part.now → x ≡ get_or node.shares.items k x → x ≡ NoOrder
    → None ≡ share_at asked node.settled.items node.prices.items k
known_none asked node k x is below here same = sym (at_node asked node k x NoOrder is below here same)

pub known_some : (asked : Asked) (node : Node) (k : ℕ) (x : KnownShare) (v : ℤ) → IsNode asked node → k < length asked.part.now → x ≡ get_or node.shares.items k x → x ≡ Least v
    → Some v ≡ share_at asked node.settled.items node.prices.items k
known_some asked node k x v is below here same = sym (at_node asked node k x (Least v) is below here same)

-- A node from its parts.

node_of : (asked : Asked) (node : Node) (settled : List SettledPair) (prices : List (ℕ × ℤ)) (shares : List KnownShare) → node.settled.items ≡ settled → node.prices.items ≡ prices → node.shares.items ≡ shares
    → All (IsPairOn asked.problem.now.segs) settled → ArePrices asked prices → length shares ≡ length asked.part.now → AreSo asked settled prices shares → IsNode asked node
node_of asked node settled prices shares e f g pairs allowed each so = record {
  pairs = subst (All (IsPairOn asked.problem.now.segs)) (sym e) pairs;
  prices = subst (ArePrices asked) (sym f) allowed;
  each = ap length g ∙ each;
  known = λ k below.
      subst (λ (l : List SettledPair). IsSo (known_at node.shares.items k) (share_at asked l node.prices.items k)) (sym e)
      (subst (λ (p : List (ℕ × ℤ)). IsSo (known_at node.shares.items k) (share_at asked settled p k)) (sym f)
      (subst (λ (s : List KnownShare). IsSo (known_at s k) (share_at asked settled prices k)) (sym g) (so k below)));
}

no_prices : (asked : Asked) → ArePrices asked []
no_prices asked = record { rising = tt; small = λ k. omega arith; known = All-nil (λ (q : ℕ × ℤ). q.0 < length asked.problem.now.terms) }

-- the root
pub root_is : (asked : Asked) (node : Node) (count : ℕ) → length asked.part.now ≡ count → node.settled.items ≡ [] → node.prices.items ≡ [] → node.shares.items ≡ replicate count Unknown → IsNode asked node
root_is asked node count e none no_price unknown =
    node_of asked node [] [] (replicate count Unknown) none no_price unknown (All-nil (IsPairOn asked.problem.now.segs)) (no_prices asked) (length-replicate count Unknown ∙ sym e)
    (λ k below. subst (λ x. IsSo x (share_at asked [] [] k)) (sym (get_or-replicate count k Unknown Unknown (omega (arith, below, e)))) tt)

-- one pair more
pub node_settled : (asked : Asked) (old new : Node) (pair : SettledPair) (shares : List KnownShare) → IsNode asked old → IsPairOn asked.problem.now.segs pair
    → Forgets old.shares.items shares → IsForgotten asked.part.now pair.seg shares → length shares ≡ length old.shares.items
    → new.settled.items ≡ old.settled.items ++ pair ∷ [] → new.prices.items ≡ old.prices.items → new.shares.items ≡ shares → IsNode asked new
node_settled asked old new pair shares is on fewer gone each e f g =
    node_of asked new (old.settled.items ++ pair ∷ []) old.prices.items shares e f g (All-push (IsPairOn asked.problem.now.segs) old.settled.items pair is.pairs on) is.prices (each ∙ is.each)
    (so_settled asked old.settled.items pair old.prices.items old.shares.items shares fewer gone is.known)

-- the last pair less
pub node_taken_back : (asked : Asked) (old new : Node) (pair : SettledPair) (shares : List KnownShare) → IsNode asked old
    → Forgets old.shares.items shares → IsForgotten asked.part.now pair.seg shares → length shares ≡ length old.shares.items
    → old.settled.items ≡ new.settled.items ++ pair ∷ [] → new.prices.items ≡ old.prices.items → new.shares.items ≡ shares → IsNode asked new
node_taken_back asked old new pair shares is fewer gone each e f g =
    node_of asked new new.settled.items old.prices.items shares refl f g (All-pop (IsPairOn asked.problem.now.segs) old.settled.items new.settled.items (Some pair) e is.pairs).0 is.prices (each ∙ is.each)
    (so_taken_back asked new.settled.items pair old.prices.items old.shares.items shares fewer gone
    (subst (λ (l : List SettledPair). AreSo asked l old.prices.items old.shares.items) e is.known))

-- other prices
pub node_priced : (asked : Asked) (old new : Node) (prices : List (ℕ × ℤ)) (between shares : List KnownShare) → IsNode asked old → ArePrices asked prices
    → Forgets old.shares.items between → ArePricedOff asked old.prices.items between → Forgets between shares → ArePricedOff asked prices shares → length shares ≡ length old.shares.items
    → new.settled.items ≡ old.settled.items → new.prices.items ≡ prices → new.shares.items ≡ shares → IsNode asked new
node_priced asked old new prices between shares is allowed one off two off_too each e f g =
    node_of asked new old.settled.items prices shares e f g is.pairs allowed (each ∙ is.each)
    (so_priced asked old.settled.items old.prices.items prices old.shares.items between shares one off two off_too is.known)

-- one share more is known
pub node_kept : (asked : Asked) (old new : Node) (k : ℕ) (x : KnownShare) → IsNode asked old → k < length asked.part.now → IsSo x (share_at asked old.settled.items old.prices.items k)
    → new.settled.items ≡ old.settled.items → new.prices.items ≡ old.prices.items → new.shares.items ≡ set old.shares.items k x → IsNode asked new
node_kept asked old new k x is below so e f g =
    node_of asked new old.settled.items old.prices.items (set old.shares.items k x) e f g is.pairs is.prices (length-set old.shares.items k x ∙ is.each) (λ j low. by_place j low (cases_eq j k))
  where
    room : k < length old.shares.items
    room = let each = is.each in omega (arith, below, each)

    by_place : (j : ℕ) → j < length asked.part.now → (j ≡ k) ⊎ (j ≢ k) → IsSo (known_at (set old.shares.items k x) j) (share_at asked old.settled.items old.prices.items j)
    by_place j low (inl same) =
        subst (λ i. IsSo (known_at (set old.shares.items k x) i) (share_at asked old.settled.items old.prices.items i)) (sym same)
        (subst (λ y. IsSo y (share_at asked old.settled.items old.prices.items k)) (sym (get_or-set_same old.shares.items k x Unknown room)) so)
    by_place j low (inr apart) = subst (λ y. IsSo y (share_at asked old.settled.items old.prices.items j)) (sym (get_or-set_other old.shares.items k j x Unknown apart)) (is.known j low)
