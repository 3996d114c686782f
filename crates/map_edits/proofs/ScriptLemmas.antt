-- A script's lines, one at a time.
use Rattle.std.proofs.Common.{◌≡◌, ℕ, suc, ◌+◌, ◌-◌, Bool, true, false, List, [], ◌∷◌, ◌++◌, length, All, take, Option, Some, None, Result, Err, refl, sym, ap, subst, ◌∙◌, arith, if◌then◌else◌}
use Rattle.std.specs.Str.Lines.{lines}
use Rattle.std.proofs.lemmas.List.Elements.{All-take, All-push}
use Rattle.std.proofs.lemmas.Option.{same_Some, none-some}
use Rattle.map_edits.specs.declared.edit.Edit.{Edit}
use Rattle.map_edits.specs.Kinds.{is_undo}
use Rattle.map_edits.specs.Grammar.{edit_in}
use Rattle.map_edits.specs.Effects.{IsInRange}
use Rattle.map_edits.specs.declared.fault.EditsFault.{EditsFault}
use Rattle.map_edits.specs.declared.fault.EditStop.{EditStop}
use Rattle.map_edits.specs.declared.fault.EditStop.TheVariants as stop
use Rattle.map_edits.specs.Standing.{Named, is_due, after_edit, after_line, unless_bad, edits_from, fault_at, AddsLine, ReadsEdits}
use Rattle.map_edits.proofs.LineRanges.{line_in_range}

-- what comes of the lines that are left, behind what stands after one of them
abbrev goes_on : Named → ℕ → List (List ℕ) → Option (List Edit) → Result (List Edit) ℕ
goes_on named done rest o = unless_bad (suc done) o (λ next. edits_from named (suc done) next rest)

-- a line says an edit that may come there
pub said_more : (named : Named) (done : ℕ) (standing next : List Edit) (rest line left : List ℕ) (all : Result (List Edit) ℕ) → lines rest ≡ line ∷ lines left
    → after_line named standing (edit_in line) ≡ Some next → edits_from named done standing (lines rest) ≡ all → edits_from named (done + 1) next (lines left) ≡ all
said_more named done standing next rest line left all cut here before =
    let count : done + 1 ≡ suc done = omega arith in
    ap (λ (n : ℕ). edits_from named n next (lines left)) count
    ∙ ap (goes_on named done (lines left)) (sym here)
    ∙ ap (edits_from named done standing) (sym cut) ∙ before

-- a line is bad
pub said_bad : (named : Named) (done : ℕ) (standing : List Edit) (rest line left : List ℕ) (all : Result (List Edit) ℕ) → lines rest ≡ line ∷ lines left
    → after_line named standing (edit_in line) ≡ None → edits_from named done standing (lines rest) ≡ all → all ≡ Err (done + 1)
said_bad named done standing rest line left all cut here before =
    let count : suc done ≡ done + 1 = omega arith in
    sym before ∙ ap (edits_from named done standing) cut ∙ ap (goes_on named done (lines left)) here ∙ ap (λ (n : ℕ). Err n) count

-- a line gives no edits
pub said_stop : {X : Type 0} (view : X → List Edit) (named : Named) (done : ℕ) (standing next : List Edit) (rest line left : List ℕ) (all : Result (List Edit) ℕ) (why : EditStop) (fault : EditsFault)
    → fault ≡ fault_at why (done + 1) → lines rest ≡ line ∷ lines left → AddsLine (Err why) next (after_line named standing (edit_in line)) → edits_from named done standing (lines rest) ≡ all
    → ReadsEdits view (Err fault) all
said_stop view named done standing next rest line left all stop.BadEdit fault is cut here before =
    subst (λ (f : EditsFault). ReadsEdits view (Err f) all) (sym is) (said_bad named done standing rest line left all cut here before)
said_stop view named done standing next rest line left all stop.NoMemory fault is cut here before = subst (λ (f : EditsFault). ReadsEdits view (Err f) all) (sym is) tt

stands_in_range : (standing : List Edit) (e : Edit) → IsInRange e → All IsInRange standing → All IsInRange (after_edit standing e)
stands_in_range standing e here before = by (is_undo e)
  where
    by : (b : Bool) → All IsInRange (if b then take (length standing - 1) standing else standing ++ e ∷ [])
    by true = All-take IsInRange (length standing - 1) standing before
    by false = All-push IsInRange standing e before here

after_in_range : (named : Named) (standing next : List Edit) (o : Option Edit) → ((e : Edit) → o ≡ Some e → IsInRange e) → after_line named standing o ≡ Some next → All IsInRange standing → All IsInRange next
after_in_range named standing next None range is before = absurd (none-some _ is)
after_in_range named standing next (Some e) range is before = by (is_due named standing e) is
  where
    by : (b : Bool) → (if b then Some (after_edit standing e) else None) ≡ Some next → All IsInRange next
    by true is = subst (All IsInRange) (same_Some _ _ is) (stands_in_range standing e (range e refl) before)
    by false is = absurd (none-some _ is)

-- the edits that stand behind a line are in range
pub range_more : (named : Named) (standing next : List Edit) (line : List ℕ) → after_line named standing (edit_in line) ≡ Some next → All IsInRange standing → All IsInRange next
range_more named standing next line is before = after_in_range named standing next (edit_in line) (line_in_range line) is before
