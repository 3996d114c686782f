-- What one more term adds to the weights of two lines.
use Rattle.std.proofs.Common.{◌≡◌, ℕ, ◌+◌, ◌<◌, Bool, true, false, not, ◌&&◌, List, length, get_or, take, refl, sym, ap, ◌∙◌, arith, true≢false, nat_le}
use Rattle.std.specs.Prelude.{if◌then◌else◌}
use Rattle.std.specs.List.{sum_by}
use Rattle.std.proofs.lemmas.List.Sums.{sum_by_more}
use Rattle.map_base.specs.declared.ids.SegId.{SegId}
use Rattle.map_base.specs.declared.ids.LineId.{LineId}
use Rattle.order_model.specs.declared.term.Term.{Term}
use Rattle.order_model.specs.declared.term.Term.TheVariants.{Side, Link, Apart}
use Rattle.order_model.specs.Costs.{weight_of}
use Rattle.order_model.specs.Parts.{is_between}
use Rattle.order_rules.specs.PairWeights.{is_link, is_apart, is_on, is_of_lines}
use Rattle.order_rules.specs.declared.merges.MergeWeights.{MergeWeights}
use Rattle.order_rules.specs.Merging.{is_joining, is_beside, link_weight, weight_beside, aparts_beside, outweighs}
use Rattle.order_rules.specs.MergeWeights.{HaveWeights, with_term, with_of}

-- the weights grow by these
record Gain (links aparts beside next_aparts : ℕ) (old new : MergeWeights) : Type 0 where
  pub more_links : new.links ≡ old.links + links
  pub more_aparts : new.aparts ≡ old.aparts + aparts
  pub more_beside : new.beside ≡ old.beside + beside
  pub more_next : new.aparts_beside ≡ old.aparts_beside + next_aparts

side_gain : (on ours : Bool) (ws : MergeWeights) (w : ℕ) → ours ≡ true
    → Gain 0 0 (if (on && true) && ours then w else 0) 0 ws (if on then record ws { beside = ws.beside + w } else ws)
side_gain true true ws w h = record { more_links = omega arith; more_aparts = omega arith; more_beside = refl; more_next = omega arith }
side_gain false true ws w h = record { more_links = omega arith; more_aparts = omega arith; more_beside = omega arith; more_next = omega arith }
side_gain on false ws w h = absurd (true≢false (sym h))

link_gain : (bt on ours : Bool) (ws : MergeWeights) (w : ℕ) → ours ≡ true
    → Gain (if bt && ours then w else 0) 0 (if (on && not bt) && ours then w else 0) 0 ws
    (if bt then record ws { links = ws.links + w } else (if on then record ws { beside = ws.beside + w } else ws))
link_gain true true true ws w h = record { more_links = refl; more_aparts = omega arith; more_beside = omega arith; more_next = omega arith }
link_gain true false true ws w h = record { more_links = refl; more_aparts = omega arith; more_beside = omega arith; more_next = omega arith }
link_gain false true true ws w h = record { more_links = omega arith; more_aparts = omega arith; more_beside = refl; more_next = omega arith }
link_gain false false true ws w h = record { more_links = omega arith; more_aparts = omega arith; more_beside = omega arith; more_next = omega arith }
link_gain bt on false ws w h = absurd (true≢false (sym h))

apart_gain : (bt on ours : Bool) (ws : MergeWeights) (w : ℕ) → ours ≡ true
    → Gain 0 (if bt && ours then w else 0) 0 (if (on && not bt) && ours then w else 0) ws
    (if bt then record ws { aparts = ws.aparts + w } else (if on then record ws { aparts_beside = ws.aparts_beside + w } else ws))
apart_gain true true true ws w h = record { more_links = omega arith; more_aparts = refl; more_beside = omega arith; more_next = omega arith }
apart_gain true false true ws w h = record { more_links = omega arith; more_aparts = refl; more_beside = omega arith; more_next = omega arith }
apart_gain false true true ws w h = record { more_links = omega arith; more_aparts = omega arith; more_beside = omega arith; more_next = refl }
apart_gain false false true ws w h = record { more_links = omega arith; more_aparts = omega arith; more_beside = omega arith; more_next = omega arith }
apart_gain bt on false ws w h = absurd (true≢false (sym h))

-- what a term adds to each of the four weights
abbrev link_part : SegId → SegId → LineId → LineId → Term → ℕ
link_part e f a b t = if is_link t && is_joining e f a b t then weight_of t else 0

abbrev apart_part : SegId → SegId → LineId → LineId → Term → ℕ
apart_part e f a b t = if is_apart t && is_joining e f a b t then weight_of t else 0

abbrev beside_part : SegId → SegId → LineId → LineId → Term → ℕ
beside_part e f a b t = if not (is_apart t) && is_beside e f a b t then weight_of t else 0

abbrev next_part : SegId → SegId → LineId → LineId → Term → ℕ
next_part e f a b t = if is_apart t && is_beside e f a b t then weight_of t else 0

abbrev Grows : SegId → SegId → LineId → LineId → Term → MergeWeights → MergeWeights → Type 0
Grows e f a b t old new = Gain (link_part e f a b t) (apart_part e f a b t) (beside_part e f a b t) (next_part e f a b t) old new

gains : (e f : SegId) (a b : LineId) (t : Term) (ws : MergeWeights) → is_of_lines a b t ≡ true → Grows e f a b t ws (with_term ws e f t)
gains e f a b (Side seg first second w) ws h =
    side_gain (is_on f (Side seg first second w)) (is_of_lines a b (Side seg first second w)) ws w h
gains e f a b (Link seg other flip x y w) ws h =
    link_gain (is_between (Link seg other flip x y w) e.0 f.0) (is_on f (Link seg other flip x y w)) (is_of_lines a b (Link seg other flip x y w)) ws w h
gains e f a b (Apart seg other x y w) ws h =
    apart_gain (is_between (Apart seg other x y w) e.0 f.0) (is_on f (Apart seg other x y w)) (is_of_lines a b (Apart seg other x y w)) ws w h

-- a term of other lines adds nothing
no_part : (x y ours : Bool) (w n : ℕ) → ours ≡ false → n ≡ n + (if x && (y && ours) then w else 0)
no_part true true true w n h = absurd (true≢false h)
no_part true true false w n h = omega arith
no_part true false ours w n h = omega arith
no_part false y ours w n h = omega arith

none_gained : (e f : SegId) (a b : LineId) (t : Term) (ws : MergeWeights) → is_of_lines a b t ≡ false → Grows e f a b t ws ws
none_gained e f a b t ws h = record {
  more_links = no_part (is_link t) (is_between t e.0 f.0) (is_of_lines a b t) (weight_of t) ws.links h;
  more_aparts = no_part (is_apart t) (is_between t e.0 f.0) (is_of_lines a b t) (weight_of t) ws.aparts h;
  more_beside = no_part (not (is_apart t)) (is_on f t && not (is_between t e.0 f.0)) (is_of_lines a b t) (weight_of t) ws.beside h;
  more_next = no_part (is_apart t) (is_on f t && not (is_between t e.0 f.0)) (is_of_lines a b t) (weight_of t) ws.aparts_beside h;
}

grows : (e f : SegId) (a b : LineId) (t : Term) (ws : MergeWeights) → Grows e f a b t ws (with_of ws e f a b t)
grows e f a b t ws = by_test (is_of_lines a b t) refl
  where
    by_test : (ours : Bool) → is_of_lines a b t ≡ ours → Grows e f a b t ws (if ours then with_term ws e f t else ws)
    by_test true h = gains e f a b t ws h
    by_test false h = none_gained e f a b t ws h

added : (g : Term → ℕ) (terms : List Term) (i : ℕ) (d : Term) (n m : ℕ) → i < length terms
    → n ≡ sum_by g (take i terms) → m ≡ n + g (get_or terms i d) → m ≡ sum_by g (take (i + 1) terms)
added g terms i d n m h has more = more ∙ (ap (λ (k : ℕ). k + g (get_or terms i d)) has ∙ sym (sum_by_more g terms i d h))

-- the weights of one term more
pub weights_more : (e f : SegId) (a b : LineId) (terms : List Term) (i : ℕ) (d : Term) (ws : MergeWeights) → i < length terms
    → HaveWeights e f (take i terms) a b ws → HaveWeights e f (take (i + 1) terms) a b (with_of ws e f a b (get_or terms i d))
weights_more e f a b terms i d ws h have =
    let new : MergeWeights = with_of ws e f a b (get_or terms i d) in
    let more = grows e f a b (get_or terms i d) ws in
    record {
      links = added (link_part e f a b) terms i d ws.links new.links h have.links more.more_links;
      aparts = added (apart_part e f a b) terms i d ws.aparts new.aparts h have.aparts more.more_aparts;
      beside = added (beside_part e f a b) terms i d ws.beside new.beside h have.beside more.more_beside;
      aparts_beside = added (next_part e f a b) terms i d ws.aparts_beside new.aparts_beside h have.aparts_beside more.more_next;
    }

-- the test by the weights
pub outweighs_by : (e f : SegId) (terms : List Term) (a b : LineId) (ws : MergeWeights) → HaveWeights e f terms a b ws
    → (nat_le ws.beside ws.links && nat_le ws.aparts_beside ws.aparts) ≡ outweighs e f terms a b
outweighs_by e f terms a b ws have =
    ap (λ (n : ℕ). nat_le n ws.links && nat_le ws.aparts_beside ws.aparts) have.beside
    ∙ (ap (λ (n : ℕ). nat_le (weight_beside e f terms a b) n && nat_le ws.aparts_beside ws.aparts) have.links
    ∙ (ap (λ (n : ℕ). nat_le (weight_beside e f terms a b) (link_weight e f terms a b) && nat_le n ws.aparts) have.aparts_beside
    ∙ ap (λ (n : ℕ). nat_le (weight_beside e f terms a b) (link_weight e f terms a b) && nat_le (aparts_beside e f terms a b) n) have.aparts))
