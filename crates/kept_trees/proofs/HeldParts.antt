-- Parts that are held are the same exactly where they are equal, with how they were searched, and are found by a test of
-- keys.
use Rattle.std.proofs.Common.{◌≡◌, ℕ, ◌==◌, ◌&&◌, ◌||◌, Bool, true, false, cond, List, [], ◌∷◌, ◌++◌, refl, sym, ◌∙◌, ap, subst, None, Some, eqb-true, eq-eqb, true≢false}
use Rattle.std.specs.Prelude.{MatchOption, Vec, map, Option}
use Rattle.std.specs.Option.{option_copied, option_eq}
use Rattle.std.specs.Borrow.{Bor}
use Rattle.std.specs.Global.{Global}
use Rattle.std.specs.Map.{lookup}
use Rattle.std.specs.Cmp.Lexicographic.{pointwise, pointwise_decides}
use Rattle.std.proofs.lemmas.Bool.{and_parts, and_from, or_parts}
use Rattle.map_base.specs.declared.ids.LineId.{LineId}
use Rattle.map_method.specs.declared.search.Search.{Search}
use Rattle.map_method.specs.declared.search.Search.TheVariants.{Live, Dual}
use Rattle.map_method.specs.contracts.search.SearchPartialEq.TheImpl as searches
use Rattle.order_model.specs.declared.term.Term.{Term}
use Rattle.order_model.specs.declared.term.Term.TheVariants.{Side, Link, Apart}
use Rattle.order_model.specs.declared.problem.ProblemParts.{ProblemParts}
use Rattle.order_model.specs.Costs.{same_answer}
use Rattle.order_model.specs.contracts.term.TermPartialEq.TheImpl as terms
use Rattle.kept_trees.specs.contracts.part_key.PartKeyPartialEq.TheImpl as keys
use Rattle.kept_trees.specs.declared.part_key.PartKey.{PartKey}
use Rattle.kept_trees.specs.declared.found_part.FoundPart.{FoundPart}
use Rattle.kept_trees.specs.Keeping.{are_same_lines, are_same_segs, is_same_term, are_same_terms, is_same_part, is_same_search, is_same_held, is_held}
use Rattle.kept_trees.specs.OwnTrees.{HeldPart, IsOwnResult, held_by, parts_held, AreOwnResults}

line_decides : (a b : LineId) → ((a.0 == b.0) ≡ true → a ≡ b) × (a ≡ b → (a.0 == b.0) ≡ true)
line_decides a b =
    let made : ℕ → LineId = λ n. record { 0 = n } in
    (λ e. ap made (eqb-true a.0 b.0 e), λ e. eq-eqb a.0 b.0 (ap (λ (x : LineId). x.0) e))

segs_decide : (xs ys : List (List LineId))
    → (are_same_segs xs ys ≡ true → xs ≡ ys) × (xs ≡ ys → are_same_segs xs ys ≡ true)
segs_decide = pointwise_decides (pointwise_decides line_decides)

answer_is : (f g : Bool) → same_answer f g ≡ true → f ≡ g
answer_is true true h = refl
answer_is true false h = absurd (true≢false (sym h))
answer_is false true h = absurd (true≢false (sym h))
answer_is false false h = refl

answer_same : (f : Bool) → same_answer f f ≡ true
answer_same true = refl
answer_same false = refl

-- two terms with the same numbers
pair_is : (s t o p a c b d w v : ℕ) → (s == t && (o == p && (a == c && (b == d && w == v)))) ≡ true
    → (s ≡ t) × (o ≡ p) × (a ≡ c) × (b ≡ d) × (w ≡ v)
pair_is s t o p a c b d w v h =
    let one = and_parts (s == t) (o == p && (a == c && (b == d && w == v))) h in
    let two = and_parts (o == p) (a == c && (b == d && w == v)) one.1 in
    let three = and_parts (a == c) (b == d && w == v) two.1 in
    let four = and_parts (b == d) (w == v) three.1 in
    (eqb-true s t one.0, eqb-true o p two.0, eqb-true a c three.0, eqb-true b d four.0, eqb-true w v four.1)

own_number : (n : ℕ) → (n == n) ≡ true
own_number n = eq-eqb n n refl

term_is : (t u : Term) → is_same_term t u ≡ true → t ≡ u
term_is (Side s a b w) (Side t c d v) h =
    let one = and_parts (s.0 == t.0) (a.0 == c.0 && (b.0 == d.0 && w == v)) h in
    let two = and_parts (a.0 == c.0) (b.0 == d.0 && w == v) one.1 in
    let three = and_parts (b.0 == d.0) (w == v) two.1 in
    λ i. Side (record { 0 = eqb-true s.0 t.0 one.0 i }) (record { 0 = eqb-true a.0 c.0 two.0 i }) (record { 0 = eqb-true b.0 d.0 three.0 i }) (eqb-true w v three.1 i)
term_is (Link s o f a b w) (Link t p g c d v) h =
    let one = and_parts (s.0 == t.0) (o.0 == p.0 && (same_answer f g && (a.0 == c.0 && (b.0 == d.0 && w == v)))) h in
    let two = and_parts (o.0 == p.0) (same_answer f g && (a.0 == c.0 && (b.0 == d.0 && w == v))) one.1 in
    let three = and_parts (same_answer f g) (a.0 == c.0 && (b.0 == d.0 && w == v)) two.1 in
    let four = and_parts (a.0 == c.0) (b.0 == d.0 && w == v) three.1 in
    let five = and_parts (b.0 == d.0) (w == v) four.1 in
    λ i. Link (record { 0 = eqb-true s.0 t.0 one.0 i }) (record { 0 = eqb-true o.0 p.0 two.0 i }) (answer_is f g three.0 i) (record { 0 = eqb-true a.0 c.0 four.0 i })
    (record { 0 = eqb-true b.0 d.0 five.0 i }) (eqb-true w v five.1 i)
term_is (Apart s o a b w) (Apart t p c d v) h =
    let same = pair_is s.0 t.0 o.0 p.0 a.0 c.0 b.0 d.0 w v h in
    λ i. Apart (record { 0 = same.0 i }) (record { 0 = same.1 i }) (record { 0 = same.2 i }) (record { 0 = same.3 i }) (same.4 i)
term_is (Side s a b w) (Link t p g c d v) h = absurd (true≢false (sym h))
term_is (Side s a b w) (Apart t p c d v) h = absurd (true≢false (sym h))
term_is (Link s o f a b w) (Side t c d v) h = absurd (true≢false (sym h))
term_is (Link s o f a b w) (Apart t p c d v) h = absurd (true≢false (sym h))
term_is (Apart s o a b w) (Side t c d v) h = absurd (true≢false (sym h))
term_is (Apart s o a b w) (Link t p g c d v) h = absurd (true≢false (sym h))

term_same : (t : Term) → is_same_term t t ≡ true
term_same (Side s a b w) = simp own_number
term_same (Link s o f a b w) = simp (own_number, answer_same)
term_same (Apart s o a b w) = simp own_number

term_decides : (t u : Term) → (is_same_term t u ≡ true → t ≡ u) × (t ≡ u → is_same_term t u ≡ true)
term_decides t u = (term_is t u, λ e. subst (λ (x : Term). is_same_term t x ≡ true) e (term_same t))

terms_decide : (xs ys : List Term) → (are_same_terms xs ys ≡ true → xs ≡ ys) × (xs ≡ ys → are_same_terms xs ys ≡ true)
terms_decide = pointwise_decides term_decides

part_is : (p q : ProblemParts) → is_same_part p q ≡ true → p ≡ q
part_is p q h =
    let both = and_parts (are_same_segs p.segs q.segs) (are_same_terms p.terms q.terms) h in
    λ i. record { segs = (segs_decide p.segs q.segs).0 both.0 i; terms = (terms_decide p.terms q.terms).0 both.1 i }

part_same : (p : ProblemParts) → is_same_part p p ≡ true
part_same p = and_from (are_same_segs p.segs p.segs) (are_same_terms p.terms p.terms) ((segs_decide p.segs p.segs).1 refl) ((terms_decide p.terms p.terms).1 refl)

search_is : (x y : Search) → is_same_search x y ≡ true → x ≡ y
search_is Live Live h = refl
search_is Live Dual h = absurd (true≢false (sym h))
search_is Dual Live h = absurd (true≢false (sym h))
search_is Dual Dual h = refl

search_same : (x : Search) → is_same_search x x ≡ true
search_same Live = refl
search_same Dual = refl

budget_is : (x y : Option ℕ) → option_eq ◌==◌ x y ≡ true → x ≡ y
budget_is None None h = refl
budget_is None (Some c) h = absurd (true≢false (sym h))
budget_is (Some b) None h = absurd (true≢false (sym h))
budget_is (Some b) (Some c) h = ap (λ n. Some n) (eqb-true b c h)

budget_same : (x : Option ℕ) → option_eq ◌==◌ x x ≡ true
budget_same None = refl
budget_same (Some b) = own_number b

pub held_is : (h g : HeldPart) → is_same_held h g ≡ true → h ≡ g
held_is h g e =
    let both = and_parts (is_same_search h.how g.how) (option_eq ◌==◌ h.spent g.spent && is_same_part h.part g.part) e in
    let rest = and_parts (option_eq ◌==◌ h.spent g.spent) (is_same_part h.part g.part) both.1 in
    λ i. record {
      how = search_is h.how g.how both.0 i;
      spent = budget_is h.spent g.spent rest.0 i;
      part = part_is h.part g.part rest.1 i;
    }

pub held_same : (h : HeldPart) → is_same_held h h ≡ true
held_same h =
    and_from (is_same_search h.how h.how) (option_eq ◌==◌ h.spent h.spent && is_same_part h.part h.part) (search_same h.how)
    (and_from (option_eq ◌==◌ h.spent h.spent) (is_same_part h.part h.part) (budget_same h.spent) (part_same h.part))

-- What is held, found by a test of keys that is one of their parts.
module _ (test : PartKey → Bool) (key : PartKey) (same : (k : PartKey) → test k ≡ is_same_held (held_by key) (held_by k)) where
  abbrev IsHere : List (PartKey × FoundPart) → Bool → Type 0
  IsHere entries b = is_held (parts_held entries) (held_by key) ≡ b

  pub held_by_key : (entries : List (PartKey × FoundPart)) → AreOwnResults entries
      → MatchOption (lookup test entries) (IsHere entries false) (λ (f : FoundPart). IsHere entries true × IsOwnResult (held_by key) f)
  held_by_key [] own = refl
  held_by_key (e ∷ entries) own = by_test (test e.0) refl (held_by_key entries own.1)
    where
      rest : Bool
      rest = is_held (parts_held entries) (held_by key)

      by_test : (b : Bool) → test e.0 ≡ b
          → MatchOption (lookup test entries) (rest ≡ false) (λ (f : FoundPart). (rest ≡ true) × IsOwnResult (held_by key) f)
          → MatchOption (cond b (Some e.1) (lookup test entries)) (IsHere (e ∷ entries) false) (λ (f : FoundPart). IsHere (e ∷ entries) true × IsOwnResult (held_by key) f)
      by_test true h later =
          let here : is_same_held (held_by key) (held_by e.0) ≡ true = sym (same e.0) ∙ h in
          (ap (λ b. b || rest) here, subst (λ (h : HeldPart). IsOwnResult h e.1) (sym (held_is (held_by key) (held_by e.0) here)) own.0)
      by_test false h later =
          subst (λ (b : Bool). MatchOption (lookup test entries) ((b || rest) ≡ false) (λ (f : FoundPart). ((b || rest) ≡ true) × IsOwnResult (held_by key) f))
          (sym (sym (same e.0) ∙ h)) later

  pub absent_by_key : (entries : List (PartKey × FoundPart)) → IsHere entries false → lookup test entries ≡ None
  absent_by_key [] none = refl
  absent_by_key (e ∷ entries) none =
      let both = or_parts (is_same_held (held_by key) (held_by e.0)) (is_held (parts_held entries) (held_by key)) none in
      ap (λ b. cond b (Some e.1) (lookup test entries)) (same e.0 ∙ both.0) ∙ absent_by_key entries both.1

-- Keys compare as their parts do.

held_lists : (E : List LineId → List LineId → Bool) (F : Vec LineId Global → Vec LineId Global → Bool)
    → ((v w : Vec LineId Global) → F v w ≡ E v.items w.items)
    → (vs ws : List (Vec LineId Global))
    → pointwise F vs ws ≡ pointwise E (map (λ (v : Vec LineId Global). v.items) vs) (map (λ (v : Vec LineId Global). v.items) ws)
held_lists E F same [] [] = refl
held_lists E F same [] (w ∷ ws) = refl
held_lists E F same (v ∷ vs) [] = refl
held_lists E F same (v ∷ vs) (w ∷ ws) =
    ap (λ b. b && pointwise F vs ws) (same v w) ∙ ap (λ b. E v.items w.items && b) (held_lists E F same vs ws)

held_terms : (F : Term → Term → Bool) → ((t u : Term) → F t u ≡ is_same_term t u) → (ts us : List Term)
    → pointwise F ts us ≡ are_same_terms ts us
held_terms F same [] [] = refl
held_terms F same [] (u ∷ us) = refl
held_terms F same (t ∷ ts) [] = refl
held_terms F same (t ∷ ts) (u ∷ us) = ap (λ b. b && pointwise F ts us) (same t u) ∙ ap (λ b. is_same_term t u && b) (held_terms F same ts us)

-- a match of what is lent is that of what it is
pub lent_match : {X : Type 0} (P : Type 0) (Q : X → Type 0) (r : Option (Bor X)) → MatchOption (option_copied r) P Q
    → MatchOption r P (λ x. Q x.now)
lent_match P Q None h = h
lent_match P Q (Some x) h = h

pub own_push : (entries : List (PartKey × FoundPart)) (key : PartKey) (f : FoundPart) → AreOwnResults entries
    → IsOwnResult (held_by key) f → AreOwnResults (entries ++ (key, f) ∷ [])
own_push [] key f own here = (here, tt)
own_push (e ∷ entries) key f own here = (own.0, own_push entries key f own.1 here)

terms_as : (t u : Term) → (terms.ghosts).eq t u ≡ is_same_term t u
terms_as (Side s a b w) (Side t c d v) = refl
terms_as (Side s a b w) (Link t p g c d v) = refl
terms_as (Side s a b w) (Apart t p c d v) = refl
terms_as (Link s o f a b w) (Side t c d v) = refl
terms_as (Link s o true a b w) (Link t p true c d v) = refl
terms_as (Link s o true a b w) (Link t p false c d v) = refl
terms_as (Link s o false a b w) (Link t p true c d v) = refl
terms_as (Link s o false a b w) (Link t p false c d v) = refl
terms_as (Link s o f a b w) (Apart t p c d v) = refl
terms_as (Apart s o a b w) (Side t c d v) = refl
terms_as (Apart s o a b w) (Link t p g c d v) = refl
terms_as (Apart s o a b w) (Apart t p c d v) = refl

searches_as : (x y : Search) → (searches.ghosts).eq x y ≡ is_same_search x y
searches_as Live Live = refl
searches_as Live Dual = refl
searches_as Dual Live = refl
searches_as Dual Dual = refl

pub same_key : (key k : PartKey) → (keys.ghosts).eq key k ≡ is_same_held (held_by key) (held_by k)
same_key key k =
    let how = searches_as key.how k.how in
    let lists = held_lists are_same_lines _ (λ v w. refl) key.lists.items k.lists.items in
    let terms = held_terms _ terms_as key.terms.items k.terms.items in
    λ i. how i && (option_eq ◌==◌ key.spent k.spent && (lists i && terms i))
