-- The definitions at worked scripts.
use Rattle.std.proofs.Common.{◌≡◌, [], ◌∷◌, Some, None, true, false, refl}
use Rattle.std.specs.Prelude.{codes}
use Rattle.std.specs.Str.{is_utf8, chars}
use lib.Utf8.{encode}
use Rattle.table_rows.specs.Values.{number_of}
use Rattle.map_base.specs.Settings.{Choices}
use Rattle.map_method.specs.Methods.{MethodChoices}
use Rattle.transit_feed.specs.Feeds.{Feed}
use Rattle.transit_feed.specs.declared.line.Line.{Line}
use Rattle.map_edits.specs.declared.edit.Edit.TheVariants.{Hide, Weight}
use Rattle.map_engine.specs.Making.{make_outcome}
use Rattle.edit_session.specs.Scripts.{followed_in, draws_in, branches_to_follow}

-- the line A
line : Line
line = record { id = codes "A"; name = codes "A"; colour = []; hidden = false }

-- a feed with this line alone
feed : Feed
feed = record { stations = []; lines = line ∷ []; patterns = []; shapes = [] }

no_script : (f : Feed) → followed_in f [] ≡ record { draws = []; bad = None }
no_script f = refl

one_draw : (f : Feed) → followed_in f (codes "draw\r\n") ≡ record { draws = [] ∷ []; bad = None }
one_draw f = refl

no_line_end : (f : Feed) → followed_in f (codes "draw\ndraw") ≡ record { draws = [] ∷ [] ∷ []; bad = None }
no_line_end f = refl

empty_line : (f : Feed) → followed_in f (codes "draw\n\ndraw\n") ≡ record { draws = [] ∷ []; bad = Some 2 }
empty_line f = refl

nothing_left : (f : Feed) → followed_in f (codes "undo\ndraw\n") ≡ record { draws = []; bad = Some 1 }
nothing_left f = refl

-- a line is hidden, shown again by an undo, and a second undo has nothing left
hidden_and_undone : followed_in feed (codes "draw\nhide\tA\ndraw\nundo\ndraw\nundo\n") ≡ record { draws = [] ∷ (Hide (codes "A") ∷ []) ∷ [] ∷ []; bad = Some 6 }
unfolding line feed is_utf8 chars encode
hidden_and_undone = refl

-- weights at stations are set between two draws
weights_set : (f : Feed) → followed_in f (codes "draw\nweight\tstation\t7\t5\t0\ndraw\n") ≡ record { draws = [] ∷ (Weight true (record { link = 7; split = 5; sep = 0 }) ∷ []) ∷ []; bad = None }
unfolding number_of
weights_set f = refl

-- a line that is not there
other_line : followed_in feed (codes "draw\nhide\tB\n") ≡ record { draws = [] ∷ []; bad = Some 2 }
unfolding line feed is_utf8 chars encode
other_line = refl

-- a draw of a feed without edits is that of the feed
plain_draw : (f : Feed) (choices : Choices) (method : MethodChoices) → draws_in f choices method (codes "draw\n") ≡ make_outcome f choices method ∷ []
plain_draw f choices method = refl

-- a hidden line
hidden_draw : (choices : Choices) (method : MethodChoices) → draws_in feed choices method (codes "hide\tA\ndraw\n") ≡ make_outcome (record feed { lines = record line { hidden = true } ∷ [] }) choices method ∷ []
unfolding line feed is_utf8 chars encode
hidden_draw choices method = refl

-- a script without draws searches nothing
no_draw : (choices : Choices) (method : MethodChoices) → branches_to_follow feed choices method (codes "hide\tA\nundo\n") ≡ 0
unfolding line feed is_utf8 chars encode
no_draw choices method = refl
