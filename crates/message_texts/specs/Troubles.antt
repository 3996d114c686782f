-- What is wrong with a line that is refused as an edit.
use Rattle.std.specs.Prelude.{◌≡◌, ℕ, List, None, Some}
use Rattle.map_edits.specs.Grammar.{edit_in}
use Rattle.message_texts.specs.declared.trouble.Trouble.{Trouble}
use Rattle.message_texts.specs.declared.trouble.Trouble.TheVariants as trouble

-- the edit is told that a line is; and any other trouble only where it is none
abbrev pub Tells : List ℕ → Trouble → Type 0
Tells line (trouble.Reads edit) = edit_in line ≡ Some edit
Tells line trouble.Empty = edit_in line ≡ None
Tells line (trouble.Spaces word) = edit_in line ≡ None
Tells line trouble.Unknown = edit_in line ≡ None
Tells line (trouble.Count word count) = edit_in line ≡ None
Tells line (trouble.Value word) = edit_in line ≡ None
