-- The edits that stand at a draw are those of the lines before it.
use Rattle.std.proofs.Common.{◌≡◌, refl, ◌∙◌, ap, ℕ, zero, suc, Bool, true, false, cond, List, [], ◌∷◌, map, slice_get, codes, bytes_eq, option_map, Option, Some, None, Result, Ok}
use Rattle.std.specs.Str.Lines.{lines}
use Rattle.map_base.specs.Settings.{Choices}
use Rattle.map_method.specs.Methods.{MethodChoices}
use Rattle.transit_feed.specs.Feeds.{Feed}
use Rattle.map_edits.specs.declared.edit.Edit.{Edit}
use Rattle.map_edits.specs.declared.reading.ScriptLine.{ScriptLine}
use Rattle.map_edits.specs.declared.reading.ScriptLine.TheVariants as script
use Rattle.map_edits.specs.Effects.{choices_after, feed_after}
use Rattle.map_edits.specs.Grammar.{edit_in, script_line_in}
use Rattle.map_edits.specs.Standing.{after_edit, after_line, edits_from, edits_in, is_due, named_in, unless_bad, Named}
use Rattle.map_faults.specs.declared.fault.MakeFault.{MakeFault}
use Rattle.graph_maps.specs.Making.{MapBytes}
use Rattle.map_engine.specs.Making.{make_outcome}
use Rattle.edit_session.specs.Scripts.{draw_with, draws_in, followed_by, followed_from, followed_in}
use Rattle.session_laws.specs.Before.{behind_draw, draws, edits_before}

-- a line of a script that says an edit is one of a file of edits
edit_same : (line : List ℕ) (e : Edit) → script_line_in line ≡ Some (script.Edit e) → edit_in line ≡ Some e
edit_same line e h = by (bytes_eq line (codes "draw")) h
  where
    of_edit : (o : Option Edit) → option_map (λ x. script.Edit x) o ≡ Some (script.Edit e) → o ≡ Some e
    of_edit None f = cc
    of_edit (Some x) f = cc

    by : (b : Bool) → cond b (Some script.Draw) (option_map (λ x. script.Edit x) (edit_in line)) ≡ Some (script.Edit e) → edit_in line ≡ Some e
    by true f = cc
    by false f = of_edit (edit_in line) f

nothing_there : {X : Type 0} (k : ℕ) (x : X) → (let none : List X = [] in slice_get none k) ≡ Some x → ⊥
nothing_there zero x e = cc
nothing_there (suc k) x e = cc

standing_at : (named : Named) (done other : ℕ) (before : List Edit) (ls : List (List ℕ)) (k : ℕ) (standing : List Edit)
    → slice_get (followed_from named done before ls).draws k ≡ Some standing → edits_from named other before (edits_before k ls) ≡ Ok standing
standing_at named done other before [] k standing e = absurd (nothing_there k standing e)
standing_at named done other before (line ∷ rest) k standing e =
    by (script_line_in line) refl e (λ i next f. standing_at named (suc done) other next rest i standing f) (λ next f. standing_at named (suc done) (suc other) next rest k standing f)
  where
    of_draw : (i : ℕ) → ((i : ℕ) → slice_get (followed_from named (suc done) before rest).draws i ≡ Some standing → edits_from named other before (edits_before i rest) ≡ Ok standing)
        → slice_get (before ∷ (followed_from named (suc done) before rest).draws) i ≡ Some standing → edits_from named other before (behind_draw i (λ j. edits_before j rest)) ≡ Ok standing
    of_draw zero behind f = let same : before ≡ standing = cc in ap (λ (s : List Edit). Ok s) same
    of_draw (suc i) behind f = behind i f

    of_edit : (edit : Edit) → edit_in line ≡ Some edit → (due : Bool) → is_due named before edit ≡ due
        → (slice_get (followed_from named (suc done) (after_edit before edit) rest).draws k ≡ Some standing → edits_from named (suc other) (after_edit before edit) (edits_before k rest) ≡ Ok standing)
        → slice_get (cond due (followed_from named (suc done) (after_edit before edit) rest) (record { draws = []; bad = Some (suc done) })).draws k ≡ Some standing
        → edits_from named other before (line ∷ edits_before k rest) ≡ Ok standing
    of_edit edit says false is behind f = absurd (nothing_there k standing f)
    of_edit edit says true is behind f =
        ap (λ (o : Option Edit). unless_bad (suc other) (after_line named before o) (λ next. edits_from named (suc other) next (edits_before k rest))) says
        ∙ ap (λ (b : Bool). unless_bad (suc other) (cond b (Some (after_edit before edit)) None) (λ next. edits_from named (suc other) next (edits_before k rest))) is
        ∙ behind f

    by : (o : Option ScriptLine) → script_line_in line ≡ o
        → slice_get (followed_by named done before o (λ next. followed_from named (suc done) next rest)).draws k ≡ Some standing
        → ((i : ℕ) (next : List Edit) → slice_get (followed_from named (suc done) next rest).draws i ≡ Some standing → edits_from named other next (edits_before i rest) ≡ Ok standing)
        → ((next : List Edit) → slice_get (followed_from named (suc done) next rest).draws k ≡ Some standing → edits_from named (suc other) next (edits_before k rest) ≡ Ok standing)
        → edits_from named other before (edits_before k (line ∷ rest)) ≡ Ok standing
    by None is f drawn edited = absurd (nothing_there k standing f)
    by (Some script.Draw) is f drawn edited =
        ap (λ (o : Option ScriptLine). edits_from named other before (cond (draws o) (behind_draw k (λ j. edits_before j rest)) (line ∷ edits_before k rest))) is ∙ of_draw k (λ i g. drawn i before g) f
    by (Some (script.Edit edit)) is f drawn edited =
        ap (λ (o : Option ScriptLine). edits_from named other before (cond (draws o) (behind_draw k (λ j. edits_before j rest)) (line ∷ edits_before k rest))) is
        ∙ of_edit edit (edit_same line edit is) (is_due named before edit) refl (λ g. edited (after_edit before edit) g) f

pub edits_at : (feed : Feed) (text file : List ℕ) (k : ℕ) (standing : List Edit) → slice_get (followed_in feed text).draws k ≡ Some standing → lines file ≡ edits_before k (lines text)
    → edits_in feed file ≡ Ok standing
edits_at feed text file k standing e same = ap (edits_from (named_in feed) 0 []) same ∙ standing_at (named_in feed) 0 0 [] (lines text) k standing e

mapped : {X Y : Type 0} (f : X → Y) (xs : List X) (k : ℕ) (y : Y) → slice_get (map f xs) k ≡ Some y → (x : X) × (slice_get xs k ≡ Some x) × (y ≡ f x)
mapped f [] k y e = absurd (nothing_there k y e)
mapped f (x ∷ xs) zero y e = (x, refl, cc)
mapped f (x ∷ xs) (suc k) y e = mapped f xs k y e

pub made_at : (feed : Feed) (choices : Choices) (method : MethodChoices) (text file : List ℕ) (k : ℕ) (made : Result MapBytes MakeFault) → slice_get (draws_in feed choices method text) k ≡ Some made
    → lines file ≡ edits_before k (lines text) → (edits : List Edit) × (edits_in feed file ≡ Ok edits) × (made ≡ make_outcome (feed_after edits feed) (choices_after edits choices) method)
made_at feed choices method text file k made e same =
    let draw = mapped (draw_with feed choices method) (followed_in feed text).draws k made e in
    (draw.0, edits_at feed text file k draw.0 draw.1 same, draw.2)
