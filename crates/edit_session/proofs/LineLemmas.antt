-- A script, line by line.
use Rattle.std.proofs.Common.{◌≡◌, ◌∙◌, ap, sym, subst, refl, ℕ, suc, ◌+◌, ◌≤◌, true, false, List, [], ◌∷◌, ◌++◌, append_assoc, length, map, arith, Contains, Option, None, Some, Result, Err, IfOk, if◌then◌else◌}
use Rattle.std.specs.List.{All}
use Rattle.std.specs.Str.Lines.{lines}
use Rattle.std.proofs.lemmas.List.{append-nil, map-append, length-map}
use Rattle.std.proofs.lemmas.Grind.{flat_map-append}
use Rattle.std.proofs.lemmas.List.Elements.{All-nil, All-append, All-push, All-weaker, All-contains, All-same}
use Rattle.files_door.specs.declared.stop.Stop.{Stop}
use Rattle.files_door.specs.declared.target.Target.{Target}
use Rattle.files_door.specs.Targets.{Written}
use Rattle.files_door.specs.Acts.{Act, puts, Does}
use Rattle.files_door.proofs.Acts.{Does-append, Does-nil, puts-append}
use Rattle.command_run.specs.Pieces.{DoesUpTo}
use Rattle.command_run.proofs.PieceLemmas.{due_after}
use Rattle.map_base.specs.Settings.{Choices}
use Rattle.map_method.specs.Methods.{MethodChoices}
use Rattle.transit_feed.specs.Feeds.{Feed}
use Rattle.kept_trees.specs.OwnTrees.{HeldPart}
use Rattle.map_edits.specs.declared.edit.Edit.{Edit}
use Rattle.map_edits.specs.declared.reading.ScriptLine.{ScriptLine}
use Rattle.map_edits.specs.declared.reading.ScriptLine.TheVariants as script
use Rattle.map_edits.specs.Grammar.{script_line_in}
use Rattle.map_edits.specs.Effects.{feed_after, choices_after}
use Rattle.map_edits.specs.Standing.{named_in, is_due, after_edit}
use Rattle.map_faults.specs.declared.fault.MakeFault.{MakeFault}
use Rattle.graph_maps.specs.Making.{MapBytes}
use Rattle.map_engine.specs.Promises.{IsMade}
use Rattle.edit_session.specs.Scripts.{Followed, ends_behind, followed_by, followed_from, followed_in, draw_with, draws_in, finished_with, branches_over, branches_to_follow}
use Rattle.edit_session.specs.Sessions.{SessionState, begun, with_edit, with_held, drawn_feed, drawn_choices, draw_outcome, draw_parts, branches_to_draw}
use Rattle.edit_session.proofs.ScriptLemmas.{fewer_left, finished_over, left_with, branches_more, branches_front}
use Rattle.edit_session.specs.DrawTexts.{draw_text, draws_text}
use Rattle.edit_session.specs.Promises.{KeepsPromise}
use Rattle.edit_session.specs.declared.following.LineEnd.{LineEnd}
use Rattle.edit_session.specs.Stages.{Stage, IsDrawn, IsFollowed, IsBadLine, branches_at, line_text}

-- draws behind others
draws_text-append : (number : ℕ) (draws later : List (Result MapBytes MakeFault)) → draws_text number (draws ++ later) ≡ draws_text number draws ++ draws_text (number + length draws) later
draws_text-append number [] later =
    let same : number ≡ number + 0 = omega arith in
    ap (λ (n : ℕ). draws_text n later) same
draws_text-append number (first ∷ draws) later =
    let next : number + 1 + length draws ≡ number + suc (length draws) = omega arith in
    ap (λ (text : List ℕ). draw_text number first ++ text) (draws_text-append (number + 1) draws later)
    ∙ sym (append_assoc (draw_text number first) (draws_text (number + 1) draws) (draws_text (number + 1 + length draws) later))
    ∙ ap (λ (n : ℕ). draws_text number (first ∷ draws) ++ draws_text n later) next

-- one draw more behind others
texts_more : (number : ℕ) (draws : List (Result MapBytes MakeFault)) (draw : Result MapBytes MakeFault)
    → draws_text number (draws ++ draw ∷ []) ≡ draws_text number draws ++ draw_text (number + length draws) draw
texts_more number draws draw =
    draws_text-append number draws (draw ∷ []) ∙ ap (λ (text : List ℕ). draws_text number draws ++ text) (append-nil (draw_text (number + length draws) draw))

-- to put nothing is no act
puts_nothing : (current : Option Target) → puts current [] ≡ []
puts_nothing None = refl
puts_nothing (Some to) = refl

-- what is refused leaves what is due by that
pub refused_due : (acts : List Act) (old new : Option Written) (stop : Stop) (result : Result (Option ℕ) Stop) → (given : Stop) × (result ≡ Err given) × (given ≡ stop)
    → DoesUpTo {T = Option ℕ} acts old new (Err stop) → DoesUpTo acts old new result
refused_due acts old new stop result is does =
    let answer : Stop → Result (Option ℕ) Stop = λ s. Err s in
    subst (λ (r : Result (Option ℕ) Stop). DoesUpTo acts old new r) (sym (is.1 ∙ ap answer is.2)) does

-- draws before those of what follows
abbrev pub after_draws : List (List Edit) → Followed → Followed
after_draws drawn later = record { draws = drawn ++ later.draws; bad = later.bad }

module _ (feed : Feed) (choices : Choices) (method : MethodChoices) (bytes : List ℕ) (before : ℕ) where
  -- a session over these tables and settings
  abbrev pub state_with : List Edit → List HeldPart → SessionState
  state_with standing held = record { feed = feed; choices = choices; method = method; standing = standing; held = held }

  -- what the lines that are left come to behind these edits, after so many lines
  abbrev pub left_from : ℕ → List Edit → List (List ℕ) → Followed
  left_from done standing rest = followed_from (named_in feed) done standing rest

  -- A script is followed up to these lines, with this text and these steps so far: what was drawn is the draws of the script
  -- before them, and each part that was finished is held.
  pub record IsUnderWay (stage : Stage) (text : List ℕ) (done : ℕ) (rest : List (List ℕ)) (now : ℕ) : Type 0 where
    pub drawn : List (List Edit)
    pub session : stage.session ≡ state_with stage.session.standing stage.session.held
    pub follows : followed_in feed bytes ≡ after_draws drawn (left_from done stage.session.standing rest)
    pub counted : stage.count ≡ length drawn
    pub wrote : text ≡ draws_text 1 (map (draw_with feed choices method) drawn)
    pub held : All (Contains stage.session.held) (finished_over feed choices method drawn)
    pub kept : All (KeepsPromise feed choices method) drawn
    pub steps : now ≤ before + branches_over feed choices method [] drawn

  -- nothing of a script is followed yet
  just_begun : (stage : Stage) → stage.session ≡ begun feed choices method → stage.count ≡ 0 → IsUnderWay stage [] 0 (lines bytes) before
  just_begun stage session count = record {
    drawn = [];
    session = session ∙ ap (λ (s : SessionState). state_with s.standing s.held) (sym session);
    follows = ap (λ (s : SessionState). after_draws [] (left_from 0 s.standing (lines bytes))) (sym session);
    counted = count;
    wrote = refl;
    held = All-nil (Contains stage.session.held);
    kept = All-nil (KeepsPromise feed choices method);
    steps = omega arith;
  }

  -- a line draws
  follows_draw : (drawn : List (List Edit)) (done : ℕ) (standing : List Edit) (line : List ℕ) (left : List (List ℕ)) → script_line_in line ≡ Some script.Draw
      → followed_in feed bytes ≡ after_draws drawn (left_from done standing (line ∷ left)) → followed_in feed bytes ≡ after_draws (drawn ++ standing ∷ []) (left_from (done + 1) standing left)
  follows_draw drawn done standing line left says follows =
      let next : List Edit → Followed = λ (edits : List Edit). left_from (suc done) edits left in
      let count : suc done ≡ done + 1 = omega arith in
      follows
      ∙ ap (λ (o : Option ScriptLine). after_draws drawn (followed_by (named_in feed) done standing o next)) says
      ∙ ap (λ (draws : List (List Edit)). record { draws = draws; bad = (next standing).bad }) (sym (append_assoc drawn (standing ∷ []) (next standing).draws))
      ∙ ap (λ (n : ℕ). after_draws (drawn ++ standing ∷ []) (left_from n standing left)) count

  -- a line edits
  follows_edit : (drawn : List (List Edit)) (done : ℕ) (standing : List Edit) (line : List ℕ) (left : List (List ℕ)) (edit : Edit) → script_line_in line ≡ Some (script.Edit edit)
      → is_due (named_in feed) standing edit ≡ true → followed_in feed bytes ≡ after_draws drawn (left_from done standing (line ∷ left))
      → followed_in feed bytes ≡ after_draws drawn (left_from (done + 1) (after_edit standing edit) left)
  follows_edit drawn done standing line left edit says due follows =
      let next : List Edit → Followed = λ (edits : List Edit). left_from (suc done) edits left in
      let count : suc done ≡ done + 1 = omega arith in
      follows
      ∙ ap (λ (o : Option ScriptLine). after_draws drawn (followed_by (named_in feed) done standing o next)) says
      ∙ ap (λ b. after_draws drawn (if b then next (after_edit standing edit) else ends_behind done)) due
      ∙ ap (λ (n : ℕ). after_draws drawn (left_from n (after_edit standing edit) left)) count

  -- a draw searches no more than what is left behind all draws before it
  steps_draw : (drawn : List (List Edit)) (session : SessionState) (now next : ℕ) → session ≡ state_with session.standing session.held → All (Contains session.held) (finished_over feed choices method drawn)
      → now ≤ before + branches_over feed choices method [] drawn → next ≤ now + branches_to_draw session → next ≤ before + branches_over feed choices method [] (drawn ++ session.standing ∷ [])
  steps_draw drawn session now next is held few more =
      let same : branches_to_draw session ≡ left_with feed choices method session.held session.standing = ap branches_to_draw is in
      let fewer : left_with feed choices method session.held session.standing ≤ left_with feed choices method (finished_over feed choices method drawn) session.standing =
      fewer_left (finished_over feed choices method drawn) session.held (feed_after session.standing feed) (choices_after session.standing choices) method held in
      let all : branches_over feed choices method [] (drawn ++ session.standing ∷ []) ≡ branches_over feed choices method [] drawn + left_with feed choices method (finished_over feed choices method drawn) session.standing =
      branches_more feed choices method [] drawn session.standing in
      omega (arith, same, fewer, all, few, more)

  -- the draws so far search no more than all draws of the script
  steps_within : (drawn : List (List Edit)) (later : Followed) (now : ℕ) → followed_in feed bytes ≡ after_draws drawn later → now ≤ before + branches_over feed choices method [] drawn
      → now ≤ before + branches_to_follow feed choices method bytes
  steps_within drawn later now follows few =
      let all : branches_to_follow feed choices method bytes ≡ branches_over feed choices method [] (drawn ++ later.draws) = ap (λ (f : Followed). branches_over feed choices method [] f.draws) follows in
      omega (arith, all, few, branches_front feed choices method [] drawn later.draws)

  -- the text behind one draw more
  text_with_draw : (old : Stage) (text : List ℕ) (done : ℕ) (rest : List (List ℕ)) (now : ℕ) → (way : IsUnderWay old text done rest now)
      → text ++ line_text old (Some script.Draw) ≡ draws_text 1 (map (draw_with feed choices method) (way.drawn ++ old.session.standing ∷ []))
  text_with_draw old text done rest now way =
      let draw : List Edit → Result MapBytes MakeFault = draw_with feed choices method in
      let drawn : List (List Edit) = way.drawn in
      let standing : List Edit = old.session.standing in
      let outcome : draw_outcome old.session ≡ draw standing = ap draw_outcome way.session in
      let number : old.count + 1 ≡ 1 + length (map draw drawn) = (let counted : old.count ≡ length drawn = way.counted in omega (arith, counted, length-map drawn draw)) in
      ap (λ (t : List ℕ). t ++ draw_text (old.count + 1) (draw_outcome old.session)) way.wrote
      ∙ ap (λ (n : ℕ). draws_text 1 (map draw drawn) ++ draw_text n (draw_outcome old.session)) number
      ∙ ap (λ (d : Result MapBytes MakeFault). draws_text 1 (map draw drawn) ++ draw_text (1 + length (map draw drawn)) d) outcome
      ∙ sym (texts_more 1 (map draw drawn) (draw standing))
      ∙ ap (draws_text 1) (sym (map-append draw drawn (standing ∷ [])))

  -- one draw more
  draw_more : (old new : Stage) (text : List ℕ) (done : ℕ) (line : List ℕ) (left : List (List ℕ)) (now next : ℕ) → script_line_in line ≡ Some script.Draw → IsDrawn old new → next ≤ now + branches_to_draw old.session
      → IsUnderWay old text done (line ∷ left) now → IsUnderWay new (text ++ line_text old (Some script.Draw)) (done + 1) left next
  draw_more old new text done line left now next says draws more way =
      let standing : List Edit = old.session.standing in
      let drawn : List (List Edit) = way.drawn in
      let stay : new.session.standing ≡ standing = ap (λ (s : SessionState). s.standing) draws.redrawn.session in
      record {
        drawn = drawn ++ standing ∷ [];
        session =
            draws.redrawn.session
            ∙ ap (λ (s : SessionState). with_held s new.session.held) way.session
            ∙ ap (λ (edits : List Edit). state_with edits new.session.held) (sym stay);
        follows =
            follows_draw drawn done standing line left says way.follows
            ∙ ap (λ (edits : List Edit). after_draws (drawn ++ standing ∷ []) (left_from (done + 1) edits left)) (sym stay);
        counted = draws.count ∙ (let counted : old.count ≡ length drawn = way.counted in omega (arith, counted, length-append_one drawn standing));
        wrote = text_with_draw old text done (line ∷ left) now way;
        held =
            All-same (Contains new.session.held) (finished_over feed choices method (drawn ++ standing ∷ [])) (finished_over feed choices method drawn ++ finished_with feed choices method standing)
            (flat_map-append (finished_with feed choices method) drawn (standing ∷ []) ∙ ap (λ (ps : List HeldPart). finished_over feed choices method drawn ++ ps) (append-nil (finished_with feed choices method standing)))
            (All-append (Contains new.session.held) (finished_over feed choices method drawn) (finished_with feed choices method standing)
            (All-weaker (Contains old.session.held) (Contains new.session.held) (λ p there. All-contains (Contains new.session.held) old.session.held p draws.redrawn.kept there) (finished_over feed choices method drawn) way.held)
            (All-same (Contains new.session.held) (finished_with feed choices method standing) (draw_parts old.session) (sym (ap draw_parts way.session)) draws.redrawn.finished));
        kept =
            All-push (KeepsPromise feed choices method) drawn standing way.kept
            (subst (λ (s : SessionState). IfOk (draw_outcome s) (IsMade (drawn_feed s) (drawn_choices s) s.method.claim)) way.session draws.redrawn.made);
        steps = steps_draw drawn old.session now next way.session way.held way.steps more;
      }
    where
      length-append_one : (xs : List (List Edit)) (x : List Edit) → length (xs ++ x ∷ []) ≡ length xs + 1
      length-append_one [] x = refl
      length-append_one (y ∷ ys) x = omega (arith, length-append_one ys x)

  -- one edit more
  edit_more : (old : Stage) (text : List ℕ) (done : ℕ) (line : List ℕ) (left : List (List ℕ)) (edit : Edit) (now next : ℕ) → script_line_in line ≡ Some (script.Edit edit) → is_due (named_in old.session.feed) old.session.standing edit ≡ true
      → next ≤ now → IsUnderWay old text done (line ∷ left) now → IsUnderWay (record old { session = with_edit old.session edit }) (text ++ []) (done + 1) left next
  edit_more old text done line left edit now next says due more way =
      let here : is_due (named_in feed) old.session.standing edit ≡ true = ap (λ (s : SessionState). is_due (named_in s.feed) old.session.standing edit) (sym way.session) ∙ due in
      record {
        drawn = way.drawn;
        session = ap (λ (s : SessionState). with_edit s edit) way.session;
        follows = follows_edit way.drawn done old.session.standing line left edit says here way.follows;
        counted = way.counted;
        wrote = append-nil text ∙ way.wrote;
        held = way.held;
        kept = way.kept;
        steps = omega (arith, way.steps, more);
      }

  -- one line more
  line_more : (old new : Stage) (text : List ℕ) (done : ℕ) (rest line left : List ℕ) (now next : ℕ) → lines rest ≡ line ∷ lines left → IsFollowed old (script_line_in line) new
      → next ≤ now + branches_at old.session (script_line_in line) → IsUnderWay old text done (lines rest) now → IsUnderWay new (text ++ line_text old (script_line_in line)) (done + 1) (lines left) next
  line_more old new text done rest line left now next cut is more way =
      by_line (script_line_in line) refl is more (subst (λ (ls : List (List ℕ)). IsUnderWay old text done ls now) cut way)
    where
      by_line : (o : Option ScriptLine) → script_line_in line ≡ o → IsFollowed old o new → next ≤ now + branches_at old.session o → IsUnderWay old text done (line ∷ lines left) now → IsUnderWay new (text ++ line_text old o) (done + 1) (lines left) next
      by_line None says is more way = absurd is
      by_line (Some script.Draw) says is more way = draw_more old new text done line (lines left) now next says is more way
      by_line (Some (script.Edit edit)) says is more way =
          subst (λ (s : Stage). IsUnderWay s (text ++ []) (done + 1) (lines left) next) (sym is.1) (edit_more old text done line (lines left) edit now next says is.0 (omega (arith, more)) way)

  -- what is drawn of a script, and what is left of it
  text_cut : (drawn : List (List Edit)) (later : Followed) → followed_in feed bytes ≡ after_draws drawn later
      → draws_text 1 (draws_in feed choices method bytes) ≡ draws_text 1 (map (draw_with feed choices method) drawn) ++ draws_text (1 + length (map (draw_with feed choices method) drawn)) (map (draw_with feed choices method) later.draws)
  text_cut drawn later follows =
      let draw : List Edit → Result MapBytes MakeFault = draw_with feed choices method in
      ap (λ (f : Followed). draws_text 1 (map draw f.draws)) follows ∙ ap (draws_text 1) (map-append draw drawn later.draws) ∙ draws_text-append 1 (map draw drawn) (map draw later.draws)

  -- what a line appends stands behind the text so far
  line_due : (old : Stage) (text : List ℕ) (done : ℕ) (rest line left : List ℕ) (now : ℕ) → lines rest ≡ line ∷ lines left → IsUnderWay old text done (lines rest) now
      → (more : List ℕ) × (draws_text 1 (draws_in feed choices method bytes) ≡ text ++ (line_text old (script_line_in line) ++ more))
  line_due old text done rest line left now cut way =
      by_line (script_line_in line) refl (subst (λ (ls : List (List ℕ)). IsUnderWay old text done ls now) cut way)
    where
      draw : List Edit → Result MapBytes MakeFault
      draw = draw_with feed choices method

      nothing : IsUnderWay old text done (line ∷ lines left) now → (more : List ℕ) × (draws_text 1 (draws_in feed choices method bytes) ≡ text ++ ([] ++ more))
      nothing way =
          let later : Followed = left_from done old.session.standing (line ∷ lines left) in
          let more : List ℕ = draws_text (1 + length (map draw way.drawn)) (map draw later.draws) in
          (more, text_cut way.drawn later way.follows ∙ ap (λ (t : List ℕ). t ++ more) (sym way.wrote))

      by_line : (o : Option ScriptLine) → script_line_in line ≡ o → IsUnderWay old text done (line ∷ lines left) now → (more : List ℕ) × (draws_text 1 (draws_in feed choices method bytes) ≡ text ++ (line_text old o ++ more))
      by_line None says way = nothing way
      by_line (Some (script.Edit edit)) says way = nothing way
      by_line (Some script.Draw) says way =
          let standing : List Edit = old.session.standing in
          let drawn : List (List Edit) = way.drawn in
          let later : Followed = left_from (done + 1) standing (lines left) in
          let follows : followed_in feed bytes ≡ after_draws (drawn ++ standing ∷ []) later = follows_draw drawn done standing line (lines left) says way.follows in
          let more : List ℕ = draws_text (1 + length (map draw (drawn ++ standing ∷ []))) (map draw later.draws) in
          let here : draws_text 1 (map draw (drawn ++ standing ∷ [])) ≡ text ++ line_text old (Some script.Draw) =
          sym (text_with_draw old text done (line ∷ lines left) now way) in
          (more, text_cut (drawn ++ standing ∷ []) later follows ∙ ap (λ (t : List ℕ). t ++ more) here ∙ append_assoc text (line_text old (Some script.Draw)) more)

  -- memory runs out at a line
  line_unfinished : (old : Stage) (text : List ℕ) (done : ℕ) (rest line left : List ℕ) (now next : ℕ) → lines rest ≡ line ∷ lines left → next ≤ now + branches_at old.session (script_line_in line)
      → IsUnderWay old text done (lines rest) now → next ≤ before + branches_to_follow feed choices method bytes
  line_unfinished old text done rest line left now next cut more way =
      by_line (script_line_in line) refl more (subst (λ (ls : List (List ℕ)). IsUnderWay old text done ls now) cut way)
    where
      by_line : (o : Option ScriptLine) → script_line_in line ≡ o → next ≤ now + branches_at old.session o → IsUnderWay old text done (line ∷ lines left) now → next ≤ before + branches_to_follow feed choices method bytes
      by_line None says more way = steps_within way.drawn (left_from done old.session.standing (line ∷ lines left)) next way.follows (omega (arith, more, way.steps))
      by_line (Some script.Draw) says more way =
          steps_within (way.drawn ++ old.session.standing ∷ []) (left_from (done + 1) old.session.standing (lines left)) next
          (follows_draw way.drawn done old.session.standing line (lines left) says way.follows) (steps_draw way.drawn old.session now next way.session way.held way.steps more)
      by_line (Some (script.Edit edit)) says more way = steps_within way.drawn (left_from done old.session.standing (line ∷ lines left)) next way.follows (omega (arith, more, way.steps))

  -- A script is followed to its end: this text was drawn, and this is its first bad line, if it has one.
  pub record IsPlayed (text : List ℕ) (end : Option ℕ) (now : ℕ) : Type 0 where
    pub drawn : text ≡ draws_text 1 (draws_in feed choices method bytes)
    pub bad : end ≡ (followed_in feed bytes).bad
    pub kept : All (KeepsPromise feed choices method) (followed_in feed bytes).draws
    pub steps : now ≤ before + branches_to_follow feed choices method bytes

  ends_with : (stage : Stage) (text : List ℕ) (done : ℕ) (rest : List (List ℕ)) (end : Option ℕ) (now : ℕ) → left_from done stage.session.standing rest ≡ record { draws = []; bad = end } → IsUnderWay stage text done rest now → IsPlayed text end now
  ends_with stage text done rest end now ends way =
      let whole : followed_in feed bytes ≡ record { draws = way.drawn; bad = end } =
      way.follows ∙ ap (after_draws way.drawn) ends ∙ ap (λ (draws : List (List Edit)). record { draws = draws; bad = end }) (append-nil way.drawn) in
      record {
        drawn = way.wrote ∙ ap (λ (f : Followed). draws_text 1 (map (draw_with feed choices method) f.draws)) (sym whole);
        bad = ap (λ (f : Followed). f.bad) (sym whole);
        kept = subst (λ (f : Followed). All (KeepsPromise feed choices method) f.draws) (sym whole) way.kept;
        steps = steps_within way.drawn (left_from done stage.session.standing rest) now way.follows way.steps;
      }

  -- no line is left
  ends_whole : (stage : Stage) (text : List ℕ) (done : ℕ) (rest : List ℕ) (now : ℕ) → lines rest ≡ [] → IsUnderWay stage text done (lines rest) now → IsPlayed text None now
  ends_whole stage text done rest now cut way = ends_with stage text done [] None now refl (subst (λ (ls : List (List ℕ)). IsUnderWay stage text done ls now) cut way)

  -- a line is bad
  ends_bad : (old : Stage) (text : List ℕ) (done : ℕ) (rest line left : List ℕ) (now next : ℕ) → lines rest ≡ line ∷ lines left → IsBadLine old.session (script_line_in line)
      → next ≤ now + branches_at old.session (script_line_in line) → IsUnderWay old text done (lines rest) now → IsPlayed (text ++ line_text old (script_line_in line)) (Some (done + 1)) next
  ends_bad old text done rest line left now next cut is more way =
      by_line (script_line_in line) refl is more (subst (λ (ls : List (List ℕ)). IsUnderWay old text done ls now) cut way)
    where
      later : IsUnderWay old text done (line ∷ lines left) now → next ≤ now → IsUnderWay old (text ++ []) done (line ∷ lines left) next
      later way few = record { drawn = way.drawn; session = way.session; follows = way.follows; counted = way.counted; wrote = append-nil text ∙ way.wrote; held = way.held; kept = way.kept; steps = omega (arith, way.steps, few) }

      ends : List Edit → Followed
      ends edits = left_from (suc done) edits (lines left)

      count : ends_behind done ≡ record { draws = []; bad = Some (done + 1) }
      count = ap (λ (n : ℕ). record { draws = []; bad = Some n }) (omega arith)

      by_line : (o : Option ScriptLine) → script_line_in line ≡ o → IsBadLine old.session o → next ≤ now + branches_at old.session o → IsUnderWay old text done (line ∷ lines left) now → IsPlayed (text ++ line_text old o) (Some (done + 1)) next
      by_line None says is more way =
          ends_with old (text ++ []) done (line ∷ lines left) (Some (done + 1)) next
          (ap (λ (o : Option ScriptLine). followed_by (named_in feed) done old.session.standing o ends) says ∙ count) (later way (omega (arith, more)))
      by_line (Some script.Draw) says is more way = absurd is
      by_line (Some (script.Edit edit)) says is more way =
          let here : is_due (named_in feed) old.session.standing edit ≡ false = ap (λ (s : SessionState). is_due (named_in s.feed) old.session.standing edit) (sym way.session) ∙ is in
          ends_with old (text ++ []) done (line ∷ lines left) (Some (done + 1)) next
          (ap (λ (o : Option ScriptLine). followed_by (named_in feed) done old.session.standing o ends) says
          ∙ ap (λ b. if b then ends (after_edit old.session.standing edit) else ends_behind done) here ∙ count) (later way (omega (arith, more)))

  -- Draws that are written as they are made.
  module _ (current : Option Target) (start : Option Written) where
    -- what was drawn so far stands in the current target
    pub record IsWritten (stage : Stage) (done : ℕ) (rest : List (List ℕ)) (now : ℕ) (new : Option Written) : Type 0 where
      pub text : List ℕ
      pub way : IsUnderWay stage text done rest now
      pub does : Does (puts current text) start new

    pub written_begun : (stage : Stage) → stage.session ≡ begun feed choices method → stage.count ≡ 0 → IsWritten stage 0 (lines bytes) before start
    written_begun stage session count = record { text = []; way = just_begun stage session count; does = subst (λ (a : List Act). Does a start start) (sym (puts_nothing current)) (Does-nil start) }

    -- one line more
    pub written_more : (old new : Stage) (done : ℕ) (rest line left : List ℕ) (now next : ℕ) (mid after : Option Written) → lines rest ≡ line ∷ lines left → IsFollowed old (script_line_in line) new
        → next ≤ now + branches_at old.session (script_line_in line) → IsWritten old done (lines rest) now mid → Does (puts current (line_text old (script_line_in line))) mid after → IsWritten new (done + 1) (lines left) next after
    written_more old new done rest line left now next mid after cut is more so_far does = record {
      text = so_far.text ++ line_text old (script_line_in line);
      way = line_more old new so_far.text done rest line left now next cut is more so_far.way;
      does =
          subst (λ (a : List Act). Does a start after) (sym (puts-append current so_far.text (line_text old (script_line_in line))))
          (Does-append (puts current so_far.text) (puts current (line_text old (script_line_in line))) start mid after so_far.does does);
    }

    -- a line is left off
    pub written_left : (stage : Stage) (done : ℕ) (rest line left : List ℕ) (now : ℕ) (mid after : Option Written) (stop : Stop) → lines rest ≡ line ∷ lines left → IsWritten stage done (lines rest) now mid
        → DoesUpTo {T = LineEnd} (puts current (line_text stage (script_line_in line))) mid after (Err stop) → DoesUpTo {T = Option ℕ} (puts current (draws_text 1 (draws_in feed choices method bytes))) start after (Err stop)
    written_left stage done rest line left now mid after stop cut so_far does =
        let here : List ℕ = line_text stage (script_line_in line) in
        let due = line_due stage so_far.text done rest line left now cut so_far.way in
        let all : puts current (draws_text 1 (draws_in feed choices method bytes)) ≡ puts current so_far.text ++ (puts current here ++ puts current due.0) =
        ap (puts current) due.1 ∙ puts-append current so_far.text (here ++ due.0) ∙ ap (λ (a : List Act). puts current so_far.text ++ a) (puts-append current here due.0) in
        subst (λ (a : List Act). DoesUpTo {T = Option ℕ} a start after (Err stop)) (sym all)
        (due_after LineEnd (Option ℕ) (puts current so_far.text) (puts current here) (puts current due.0) start mid after stop so_far.does does)

    pub steps_left : (stage : Stage) (done : ℕ) (rest line left : List ℕ) (now next : ℕ) (mid : Option Written) → lines rest ≡ line ∷ lines left → next ≤ now + branches_at stage.session (script_line_in line)
        → IsWritten stage done (lines rest) now mid → next ≤ before + branches_to_follow feed choices method bytes
    steps_left stage done rest line left now next mid cut more so_far = line_unfinished stage so_far.text done rest line left now next cut more so_far.way

    -- A script is followed to its end, or to a bad line, and all its draws are written.
    pub record IsWrittenOut (end : Option ℕ) (now : ℕ) (new : Option Written) : Type 0 where
      pub does : Does (puts current (draws_text 1 (draws_in feed choices method bytes))) start new
      pub bad : end ≡ (followed_in feed bytes).bad
      pub kept : All (KeepsPromise feed choices method) (followed_in feed bytes).draws
      pub steps : now ≤ before + branches_to_follow feed choices method bytes

    out_of : (text : List ℕ) (end : Option ℕ) (now : ℕ) (new : Option Written) → IsPlayed text end now → Does (puts current text) start new → IsWrittenOut end now new
    out_of text end now new played does = record {
      does = subst (λ (t : List ℕ). Does (puts current t) start new) played.drawn does;
      bad = played.bad;
      kept = played.kept;
      steps = played.steps;
    }

    pub written_whole : (stage : Stage) (done : ℕ) (rest : List ℕ) (now : ℕ) (new : Option Written) → lines rest ≡ [] → IsWritten stage done (lines rest) now new → IsWrittenOut None now new
    written_whole stage done rest now new cut so_far = out_of so_far.text None now new (ends_whole stage so_far.text done rest now cut so_far.way) so_far.does

    pub written_to_bad : (stage : Stage) (done : ℕ) (rest line left : List ℕ) (now next : ℕ) (mid after : Option Written) → lines rest ≡ line ∷ lines left → IsBadLine stage.session (script_line_in line)
        → next ≤ now + branches_at stage.session (script_line_in line) → IsWritten stage done (lines rest) now mid → Does (puts current (line_text stage (script_line_in line))) mid after → IsWrittenOut (Some (done + 1)) next after
    written_to_bad stage done rest line left now next mid after cut is more so_far does =
        out_of (so_far.text ++ line_text stage (script_line_in line)) (Some (done + 1)) next after (ends_bad stage so_far.text done rest line left now next cut is more so_far.way)
        (subst (λ (a : List Act). Does a start after) (sym (puts-append current so_far.text (line_text stage (script_line_in line))))
        (Does-append (puts current so_far.text) (puts current (line_text stage (script_line_in line))) start mid after so_far.does does))
