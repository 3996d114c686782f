-- Importance, walks and orders, line by line.
use Rattle.std.proofs.Common.{◌≡◌, ℕ, suc, ℤ, ◌+◌, ◌-◌, ◌<◌, Bool, cond, List, [], ◌∷◌, ◌++◌, codes, length, Some, None, Ok, Err, refl, ap, subst, sym, ◌∙◌, append_assoc, length-append, arith}
use Rattle.std.specs.List.{AllByRecursion}
use Rattle.std.proofs.lemmas.Bool.{eq-eqb, ne_eqb}
use Rattle.std.proofs.lemmas.List.{append-nil}
use Rattle.map_base.specs.declared.ids.LineId.{LineId}
use Rattle.octi_grid.specs.Walks.{PlainWalk, IsWalk}
use Rattle.decimal_text.specs.Lines.{front, numbers_text}
use Rattle.decimal_text.specs.Reading.{reading}
use Rattle.decimal_text.proofs.LineLemmas.{front_map}
use Rattle.decimal_text.proofs.Steps.{goes_on, stops, reading_nothing}
use Rattle.cert_file.specs.Forms.{importance_of, order_of, spoken_front, walk_in, importance_in, orders_in}
use Rattle.cert_file.specs.Text.{version_of, importance_text, walk_text, walks_text, order_text, orders_text, pair_numbers}
use Rattle.cert_file.specs.Ranges.{IsOrder}
use Rattle.cert_file.specs.Reading.{Due, Importance, AWalk, AnOrder, after, importance_due, walks_due, orders_due}
use Rattle.cert_file.specs.Readers.{AreImportanceOf, AreWalksOf, AreOrdersOf}
use Rattle.cert_file.proofs.FormLemmas.{spoken_is, spoken_text, importance_is, order_of_is}
use Rattle.cert_file.proofs.WalkLemmas.{walk_line}

-- ---- importance

due_two : (version : ℕ) → version ≡ 2 → importance_due version ≡ Importance ∷ []
due_two version is = ap (λ (b : Bool). cond b (Importance ∷ []) []) (eq-eqb version 2 is)

due_one : (version : ℕ) → (version ≡ 2 → ⊥) → importance_due version ≡ []
due_one version not = ap (λ (b : Bool). cond b (Importance ∷ []) []) (ne_eqb version 2 not)

pub importance_stops : (version : ℕ) (text : List ℕ) → version ≡ 2 → spoken_front (codes "importance") importance_of text ≡ None → reading after (importance_due version) text ≡ Err text
importance_stops version text is none = ap (λ (due : List Due). reading after due text) (due_two version is)
    ∙ stops after (λ (_ : List (LineId × ℕ)). []) importance_in Importance [] text (front_map (λ (_ : List (LineId × ℕ)). []) importance_in text) (spoken_is (codes "importance") importance_of text ∙ none)

pub importance_goes_on : (version : ℕ) (text : List ℕ) (ps : List (LineId × ℕ)) (rest : List ℕ) → version ≡ 2 → spoken_front (codes "importance") importance_of text ≡ Some (ps, rest) → reading after (importance_due version) text ≡ Ok rest
importance_goes_on version text ps rest is there = ap (λ (due : List Due). reading after due text) (due_two version is)
    ∙ goes_on after (λ (_ : List (LineId × ℕ)). []) importance_in Importance [] text ps rest (front_map (λ (_ : List (LineId × ℕ)). []) importance_in text) (spoken_is (codes "importance") importance_of text ∙ there)
    ∙ reading_nothing after rest

pub importance_none : (version : ℕ) (text : List ℕ) → (version ≡ 2 → ⊥) → reading after (importance_due version) text ≡ Ok text
importance_none version text not = ap (λ (due : List Due). reading after due text) (due_one version not) ∙ reading_nothing after text

pub importance_read : (version : ℕ) (text : List ℕ) (ps : List (LineId × ℕ)) (rest : List ℕ) → version ≡ 2 → spoken_front (codes "importance") importance_of text ≡ Some (ps, rest) → AreImportanceOf version ps text rest
importance_read version text ps rest is there =
    let s = spoken_text (codes "importance") importance_of text ps rest there in
    let i = importance_is s.numbers ps s.says in
    record {
      version_is = i.2 ∙ sym is;
      range = i.1;
      front = s.text_is ∙ ap (λ (zs : List ℤ). (codes "importance" ++ numbers_text zs) ++ rest) i.0 ∙ ap (λ (bytes : List ℕ). bytes ++ rest) (written ps i.2);
    }
  where
    written : (ps : List (LineId × ℕ)) → version_of ps ≡ 2 → codes "importance" ++ numbers_text (pair_numbers ps) ≡ importance_text ps
    written [] e = absurd (omega arith)
    written (p ∷ ps) e = refl

-- ---- walks

walks_text-append : (s : ℕ) (ws : List PlainWalk) (w : PlainWalk) → walks_text s (ws ++ w ∷ []) ≡ walks_text s ws ++ walk_text (s + length ws) w
walks_text-append s [] w = let same : s ≡ s + 0 = omega arith in append-nil (walk_text s w) ∙ ap (λ (k : ℕ). walk_text k w) same
walks_text-append s (x ∷ ws) w =
    let same : suc s + length ws ≡ s + suc (length ws) = omega arith in
    ap (λ (bytes : List ℕ). walk_text s x ++ bytes) (walks_text-append (suc s) ws w ∙ ap (λ (k : ℕ). walks_text (suc s) ws ++ walk_text k w) same)
    ∙ sym (append_assoc (walk_text s x) (walks_text (suc s) ws) (walk_text (s + suc (length ws)) w))

pub all-append : {A : Type 0} (P : A → Type 0) (xs ys : List A) → AllByRecursion P xs → AllByRecursion P ys → AllByRecursion P (xs ++ ys)
all-append P [] ys a b = b
all-append P (x ∷ xs) ys a b = (a.0, all-append P xs ys a.1 b)

-- the walks so far, and what is due behind them
pub record AreWalksSoFar (count done : ℕ) (walks : List PlainWalk) (text rest : List ℕ) : Type 0 where
  pub left : reading after (walks_due done (count - done)) rest ≡ reading after (walks_due 0 count) text
  pub so_far : AreWalksOf done walks text rest

pub walks_begin : (count : ℕ) (text : List ℕ) → AreWalksSoFar count 0 [] text text
walks_begin count text = record { left = ap (λ (n : ℕ). reading after (walks_due 0 n) text) (omega arith); so_far = record { counted = refl; range = tt; front = refl } }

walks_next : (count done : ℕ) → done < count → walks_due done (count - done) ≡ AWalk done (count - (done + 1)) ∷ []
walks_next count done below = let next : count - done ≡ suc (count - (done + 1)) = omega arith in ap (walks_due done) next

pub walk_taken : (count done : ℕ) (walks new : List PlainWalk) (text rest behind : List ℕ) (w : PlainWalk) → done < count → AreWalksSoFar count done walks text rest
    → front (walk_in done) rest ≡ Some (w, behind) → new ≡ walks ++ w ∷ [] → AreWalksSoFar count (done + 1) new text behind
walk_taken count done walks new text rest behind w below before there pushed =
    let more = count - (done + 1) in
    let after_it : suc done ≡ done + 1 = omega arith in
    let step : reading after (walks_due done (count - done)) rest ≡ reading after (walks_due (done + 1) more) behind =
    ap (λ (due : List Due). reading after due rest) (walks_next count done below)
    ∙ goes_on after (λ (_ : PlainWalk). walks_due (suc done) more) (walk_in done) (AWalk done more) [] rest w behind (front_map (λ (_ : PlainWalk). walks_due (suc done) more) (walk_in done) rest) there
    ∙ ap (λ (due : List Due). reading after due behind) (append-nil (walks_due (suc done) more) ∙ ap (λ (k : ℕ). walks_due k more) after_it) in
    let line = walk_line done rest w behind there in
    let at : done ≡ 0 + length walks = omega (arith, before.so_far.counted) in
    let whole : text ≡ walks_text 0 (walks ++ w ∷ []) ++ behind =
    before.so_far.front ∙ ap (λ (bytes : List ℕ). walks_text 0 walks ++ bytes) line.0
    ∙ ap (λ (k : ℕ). walks_text 0 walks ++ (walk_text k w ++ behind)) at
    ∙ sym (append_assoc (walks_text 0 walks) (walk_text (0 + length walks) w) behind)
    ∙ ap (λ (bytes : List ℕ). bytes ++ behind) (sym (walks_text-append 0 walks w)) in
    subst (λ (ws : List PlainWalk). AreWalksSoFar count (done + 1) ws text behind) (sym pushed) (record {
      left = sym step ∙ before.left;
      so_far = record {
        counted = omega (arith, before.so_far.counted, length-append walks (w ∷ []));
        range = all-append IsWalk walks (w ∷ []) before.so_far.range (line.1, tt);
        front = whole;
      };
    })

pub walk_stops : (count done : ℕ) (walks : List PlainWalk) (text rest : List ℕ) → done < count → AreWalksSoFar count done walks text rest → front (walk_in done) rest ≡ None → reading after (walks_due 0 count) text ≡ Err rest
walk_stops count done walks text rest below before none =
    let more = count - (done + 1) in
    sym before.left ∙ ap (λ (due : List Due). reading after due rest) (walks_next count done below)
    ∙ stops after (λ (_ : PlainWalk). walks_due (suc done) more) (walk_in done) (AWalk done more) [] rest (front_map (λ (_ : PlainWalk). walks_due (suc done) more) (walk_in done) rest) none

pub walks_end : (count done : ℕ) (walks : List PlainWalk) (text rest : List ℕ) → count ≡ done → AreWalksSoFar count done walks text rest → reading after (walks_due 0 count) text ≡ Ok rest
walks_end count done walks text rest is before =
    let nothing : count - done ≡ 0 = omega arith in
    sym before.left ∙ ap (λ (n : ℕ). reading after (walks_due done n) rest) nothing ∙ reading_nothing after rest

-- ---- orders

orders_text-append : (s : ℕ) (os : List (List LineId)) (o : List LineId) → orders_text s (os ++ o ∷ []) ≡ orders_text s os ++ order_text (s + length os) o
orders_text-append s [] o = let same : s ≡ s + 0 = omega arith in append-nil (order_text s o) ∙ ap (λ (k : ℕ). order_text k o) same
orders_text-append s (x ∷ os) o =
    let same : suc s + length os ≡ s + suc (length os) = omega arith in
    ap (λ (bytes : List ℕ). order_text s x ++ bytes) (orders_text-append (suc s) os o ∙ ap (λ (k : ℕ). orders_text (suc s) os ++ order_text k o) same)
    ∙ sym (append_assoc (order_text s x) (orders_text (suc s) os) (order_text (s + suc (length os)) o))

-- the orders so far, and what is due behind them
pub record AreOrdersSoFar (count done : ℕ) (orders : List (List LineId)) (text rest : List ℕ) : Type 0 where
  pub left : reading after (orders_due done (count - done)) rest ≡ reading after (orders_due 0 count) text
  pub so_far : AreOrdersOf done orders text rest

pub orders_begin : (count : ℕ) (text : List ℕ) → AreOrdersSoFar count 0 [] text text
orders_begin count text = record { left = ap (λ (n : ℕ). reading after (orders_due 0 n) text) (omega arith); so_far = record { counted = refl; range = tt; front = refl } }

orders_next : (count done : ℕ) → done < count → orders_due done (count - done) ≡ AnOrder done (count - (done + 1)) ∷ []
orders_next count done below = let next : count - done ≡ suc (count - (done + 1)) = omega arith in ap (orders_due done) next

pub order_taken : (count done : ℕ) (orders new : List (List LineId)) (text rest behind : List ℕ) (o : List LineId) → done < count → AreOrdersSoFar count done orders text rest
    → spoken_front (codes "order") (order_of done) rest ≡ Some (o, behind) → new ≡ orders ++ o ∷ [] → AreOrdersSoFar count (done + 1) new text behind
order_taken count done orders new text rest behind o below before there pushed =
    let more = count - (done + 1) in
    let after_it : suc done ≡ done + 1 = omega arith in
    let step : reading after (orders_due done (count - done)) rest ≡ reading after (orders_due (done + 1) more) behind =
    ap (λ (due : List Due). reading after due rest) (orders_next count done below)
    ∙ goes_on after (λ (_ : List LineId). orders_due (suc done) more) (orders_in done) (AnOrder done more) [] rest o behind (front_map (λ (_ : List LineId). orders_due (suc done) more) (orders_in done) rest)
    (spoken_is (codes "order") (order_of done) rest ∙ there)
    ∙ ap (λ (due : List Due). reading after due behind) (append-nil (orders_due (suc done) more) ∙ ap (λ (k : ℕ). orders_due k more) after_it) in
    let said = spoken_text (codes "order") (order_of done) rest o behind there in
    let is = order_of_is done said.numbers o said.says in
    let at : done ≡ 0 + length orders = omega (arith, before.so_far.counted) in
    let whole : text ≡ orders_text 0 (orders ++ o ∷ []) ++ behind =
    before.so_far.front ∙ ap (λ (bytes : List ℕ). orders_text 0 orders ++ bytes) (said.text_is ∙ ap (λ (zs : List ℤ). (codes "order" ++ numbers_text zs) ++ behind) is.0)
    ∙ ap (λ (k : ℕ). orders_text 0 orders ++ (order_text k o ++ behind)) at
    ∙ sym (append_assoc (orders_text 0 orders) (order_text (0 + length orders) o) behind)
    ∙ ap (λ (bytes : List ℕ). bytes ++ behind) (sym (orders_text-append 0 orders o)) in
    subst (λ (os : List (List LineId)). AreOrdersSoFar count (done + 1) os text behind) (sym pushed) (record {
      left = sym step ∙ before.left;
      so_far = record {
        counted = omega (arith, before.so_far.counted, length-append orders (o ∷ []));
        range = all-append IsOrder orders (o ∷ []) before.so_far.range (is.1, tt);
        front = whole;
      };
    })

pub order_stops : (count done : ℕ) (orders : List (List LineId)) (text rest : List ℕ) → done < count → AreOrdersSoFar count done orders text rest → spoken_front (codes "order") (order_of done) rest ≡ None
    → reading after (orders_due 0 count) text ≡ Err rest
order_stops count done orders text rest below before none =
    let more = count - (done + 1) in
    sym before.left ∙ ap (λ (due : List Due). reading after due rest) (orders_next count done below)
    ∙ stops after (λ (_ : List LineId). orders_due (suc done) more) (orders_in done) (AnOrder done more) [] rest (front_map (λ (_ : List LineId). orders_due (suc done) more) (orders_in done) rest)
    (spoken_is (codes "order") (order_of done) rest ∙ none)

pub orders_end : (count done : ℕ) (orders : List (List LineId)) (text rest : List ℕ) → count ≡ done → AreOrdersSoFar count done orders text rest → reading after (orders_due 0 count) text ≡ Ok rest
orders_end count done orders text rest is before =
    let nothing : count - done ≡ 0 = omega arith in
    sym before.left ∙ ap (λ (n : ℕ). reading after (orders_due done n) rest) nothing ∙ reading_nothing after rest
