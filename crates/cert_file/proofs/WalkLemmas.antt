-- What the line of a walk says, and that it is the line which is written of it.
use Rattle.std.proofs.Common.{◌≡◌, ℕ, ℤ, pos, Bool, true, false, cond, ◌&&◌, ltb, List, [], ◌∷◌, ◌++◌, codes, length, take, drop, Option, Some, None, refl, ap, subst, sym, ◌∙◌}
use Rattle.std.specs.Option.{option_and_then}
use Rattle.std.specs.List.{list_all}
use Rattle.std.specs.Str.{bytes_eq}
use Rattle.std.specs.Fmt.{decimal, signed_decimal}
use Rattle.std.proofs.lemmas.Bool.{and_parts, ltb-true}
use Rattle.std.proofs.lemmas.List.{take-append-drop}
use Rattle.std.proofs.lemmas.Slice.Eq.{bytes_eq-Decides}
use Rattle.octi_grid.specs.declared.dir.Dir.{Dir}
use Rattle.octi_grid.specs.declared.dir.Dir.TheVariants as dir
use Rattle.octi_grid.specs.declared.point.GridPoint.{GridPoint}
use Rattle.octi_grid.specs.declared.walk.Run.{Run}
use Rattle.octi_grid.specs.Ways.{is_within, points_from}
use Rattle.octi_grid.specs.Runs.{are_runs, steps_of}
use Rattle.octi_grid.specs.Walks.{PlainWalk, IsWalk, walk_of as grid_walk, points_of, fits, walk_by}
use Rattle.octi_grid.proofs.WayLemmas.{All-from_test}
use Rattle.octi_grid.proofs.RunLemmas.{steps_of-some}
use Rattle.decimal_text.specs.Numbers.{from_to, number_of}
use Rattle.decimal_text.specs.Lines.{front, words_text}
use Rattle.decimal_text.proofs.NumberLemmas.{number_is}
use Rattle.decimal_text.proofs.RangeLemmas.{from_to_is}
use Rattle.decimal_text.proofs.LineLemmas.{front_text}
use Rattle.cert_file.specs.RunWords.{dir_text, run_word, run_words, dir_of, most_steps, run_with, name_end, run_of, run_before, runs_in}
use Rattle.cert_file.specs.Forms.{is_number, walk_with, walk_of, walk_in}
use Rattle.cert_file.specs.Text.{walk_words, walk_text}
use Rattle.cert_file.proofs.Runs.{runs_again}
use Rattle.cert_file.proofs.FormLemmas.{and_then_is, number_is_this, some, some_is}

-- ---- runs

this_dir : (text : List ℕ) (this : Dir) (others : Option Dir) (d : Dir) → (others ≡ Some d → text ≡ dir_text d) → cond (bytes_eq text (dir_text this)) (Some this) others ≡ Some d → text ≡ dir_text d
this_dir text this others d later e = by (bytes_eq text (dir_text this)) refl e
  where
    by : (b : Bool) → bytes_eq text (dir_text this) ≡ b → cond b (Some this) others ≡ some d → text ≡ dir_text d
    by true same e = (bytes_eq-Decides text (dir_text this)).0 same ∙ ap dir_text (some_is this d e)
    by false same e = later e

dir_is : (text : List ℕ) (d : Dir) → dir_of text ≡ Some d → text ≡ dir_text d
dir_is text d = this_dir text dir.N _ d (this_dir text dir.NE _ d (this_dir text dir.E _ d (this_dir text dir.SE _ d (this_dir text dir.S _ d (this_dir text dir.SW _ d (this_dir text dir.W _ d (this_dir text dir.NW None d (λ (e : none ≡ some d). absurd cc))))))))
  where
    none : Option Dir
    none = None

run_parts : (a : Option Dir) (b : Option ℕ) (r : Run) → run_with a b ≡ Some r → (a ≡ Some r.dir) × (b ≡ Some r.count)
run_parts (Some d) (Some n) r e =
    let is : record { dir = d; count = n } ≡ r = some_is (record { dir = d; count = n }) r e in
    (ap (λ (q : Run). some q.dir) is, ap (λ (q : Run). some q.count) is)
run_parts a b r e = absurd cc

-- a word that writes a run is written of it
run_is : (word : List ℕ) (r : Run) → run_of word ≡ Some r → word ≡ run_word r
run_is word r e =
    let k = name_end word in
    let p = run_parts (dir_of (take k word)) (option_and_then (from_to 1 most_steps) (number_of (drop k word))) r e in
    let n = and_then_is (from_to 1 most_steps) (number_of (drop k word)) r.count p.1 in
    let z = from_to_is 1 most_steps n.0 r.count n.2 in
    let digits : drop k word ≡ decimal r.count = (number_is (drop k word) n.0 n.1).0 ∙ ap signed_decimal z.0 in
    sym (take-append-drop k word) ∙ ap (λ (bytes : List ℕ). bytes ++ drop k word) (dir_is (take k word) r.dir p.0) ∙ ap (λ (bytes : List ℕ). dir_text r.dir ++ bytes) digits

before_is : (o : Option Run) (more : Option (List Run)) (rs : List Run) → run_before o more ≡ Some rs → (r : Run) × (rest : List Run) × (o ≡ Some r) × (more ≡ Some rest) × (r ∷ rest ≡ rs)
before_is (Some r) (Some rest) rs e = (r, rest, refl, refl, some_is (r ∷ rest) rs e)
before_is o more rs e = absurd cc

runs_are : (ws : List (List ℕ)) (rs : List Run) → runs_in ws ≡ Some rs → ws ≡ run_words rs
runs_are [] rs e = ap run_words (some_is [] rs e)
runs_are (w ∷ ws) rs e =
    let p = before_is (run_of w) (runs_in ws) rs e in
    ap (λ (x : List ℕ). x ∷ ws) (run_is w p.0 p.2) ∙ ap (λ (xs : List (List ℕ)). run_word p.0 ∷ xs) (runs_are ws p.1 p.3) ∙ ap run_words p.4

-- ---- walks

-- a walk of runs that fit is a walk, and its steps are these runs
record IsFitting (start : GridPoint) (rs : List Run) (w : PlainWalk) : Type 0 where
  walk_is : grid_walk start rs ≡ w
  is_walk : IsWalk (grid_walk start rs)
  runs : are_runs rs ≡ true

fitting : (start : GridPoint) (rs : List Run) (w : PlainWalk) → walk_by start rs ≡ Some w → IsFitting start rs w
fitting start rs w e = by (fits start rs) refl e
  where
    by : (b : Bool) → fits start rs ≡ b → cond b (some (grid_walk start rs)) None ≡ some w → IsFitting start rs w
    by true fit e =
        let outer = and_parts (ltb 0 (length rs) && are_runs rs) (list_all is_within (points_of (grid_walk start rs))) fit in
        let inner = and_parts (ltb 0 (length rs)) (are_runs rs) outer.0 in
        record {
          walk_is = some_is (grid_walk start rs) w e;
          is_walk = record {
            some = steps_of-some rs inner.1 (ltb-true 0 (length rs) inner.0);
            within = All-from_test (points_from start (steps_of rs)) outer.1;
          };
          runs = inner.1;
        }
    by false fit e = absurd cc

-- where all parts of a walk are there
record IsAll (s : ℕ) (n x y : Option ℤ) (runs : Option (List Run)) (w : PlainWalk) : Type 0 where
  z_x : ℤ
  z_y : ℤ
  rs : List Run
  n_is : n ≡ Some (pos s)
  x_is : x ≡ Some z_x
  y_is : y ≡ Some z_y
  runs_is : runs ≡ Some rs
  walk_is : walk_by (record { x = z_x; y = z_y }) rs ≡ Some w

all_there : (s : ℕ) (n x y : Option ℤ) (runs : Option (List Run)) (w : PlainWalk) → walk_with s n x y runs ≡ Some w → IsAll s n x y runs w
all_there s (Some n) (Some x) (Some y) (Some rs) w e = by (is_number s n) refl e
  where
    by : (b : Bool) → is_number s n ≡ b → cond b (walk_by (record { x = x; y = y }) rs) None ≡ some w → IsAll s (Some n) (Some x) (Some y) (Some rs) w
    by true this e = record { z_x = x; z_y = y; rs = rs; n_is = ap some (number_is_this s n this); x_is = refl; y_is = refl; runs_is = refl; walk_is = e }
    by false this e = absurd cc
all_there s n x y runs w e = absurd cc

words_are : (s : ℕ) (ws : List (List ℕ)) (w : PlainWalk) → walk_of s ws ≡ Some w → (ws ≡ walk_words s w) × IsWalk w
words_are s (n ∷ x ∷ y ∷ runs) w e =
    let a = all_there s (number_of n) (number_of x) (number_of y) (runs_in runs) w e in
    let start : GridPoint = record { x = a.z_x; y = a.z_y } in
    let f = fitting start a.rs w a.walk_is in
    let made : walk_words s (grid_walk start a.rs) ≡ decimal s ∷ signed_decimal a.z_x ∷ signed_decimal a.z_y ∷ run_words a.rs =
    ap (λ (rs : List Run). decimal s ∷ signed_decimal a.z_x ∷ signed_decimal a.z_y ∷ run_words rs) (runs_again a.rs f.runs) in (
      ap (λ (u : List ℕ). u ∷ x ∷ y ∷ runs) (number_is n (pos s) a.n_is).0
          ∙ ap (λ (u : List ℕ). decimal s ∷ u ∷ y ∷ runs) (number_is x a.z_x a.x_is).0
          ∙ ap (λ (u : List ℕ). decimal s ∷ signed_decimal a.z_x ∷ u ∷ runs) (number_is y a.z_y a.y_is).0
          ∙ ap (λ (us : List (List ℕ)). decimal s ∷ signed_decimal a.z_x ∷ signed_decimal a.z_y ∷ us) (runs_are runs a.rs a.runs_is)
          ∙ sym made
          ∙ ap (walk_words s) f.walk_is,
      subst IsWalk f.walk_is f.is_walk,
    )
words_are s ws w e = absurd cc

word_is : (first : List ℕ) (others : List (List ℕ)) (s : ℕ) (w : PlainWalk) → walk_in s (first ∷ others) ≡ Some w → (first ≡ codes "walk") × (walk_of s others ≡ Some w)
word_is first others s w e = by (bytes_eq first (codes "walk")) refl e
  where
    by : (b : Bool) → bytes_eq first (codes "walk") ≡ b → cond b (walk_of s others) None ≡ some w → (first ≡ codes "walk") × (walk_of s others ≡ Some w)
    by true same e = ((bytes_eq-Decides first (codes "walk")).0 same, e)
    by false same e = absurd cc

-- the line of a walk at the front of a text is written so, and the rest stands behind it
pub walk_line : (s : ℕ) (text : List ℕ) (w : PlainWalk) (rest : List ℕ) → front (walk_in s) text ≡ Some (w, rest) → (text ≡ walk_text s w ++ rest) × IsWalk w
walk_line s text w rest e =
    let l = front_text (walk_in s) text w rest e in
    let word = word_is l.first l.others s w l.says in
    let are = words_are s l.others w word.1 in (
      l.text_is ∙ ap (λ (bytes : List ℕ). (bytes ++ words_text l.others) ++ rest) word.0
          ∙ ap (λ (ws : List (List ℕ)). (codes "walk" ++ words_text ws) ++ rest) are.0,
      are.1,
    )
