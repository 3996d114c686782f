-- What the path seems to be that should name the folder of a feed.
use Rattle.std.specs.Prelude.{ℕ, ◌||◌, nat_le, Bool, true, false, List, [], ◌∷◌, length, take, codes, if◌then◌else◌}
use Rattle.std.specs.Str.{str_eq_ignore_ascii_case}
use Rattle.message_texts.specs.declared.seeming.Found.{Found}
use Rattle.message_texts.specs.declared.seeming.Found.TheVariants as found
use Rattle.message_texts.specs.declared.seeming.Seeming.{Seeming}
use Rattle.message_texts.specs.declared.seeming.Seeming.TheVariants as seems

-- a text begins with these letters, be they small or capitals
abbrev pub begins_so : List ℕ → List ℕ → Bool
begins_so path letters =
    if nat_le (length letters) (length path) then str_eq_ignore_ascii_case (take (length letters) path) letters else false

-- an address of the web
abbrev pub is_of_web : List ℕ → Bool
is_of_web path = begins_so path (codes "http://") || begins_so path (codes "https://")

-- an address of the web, of a server of files, or of a file
abbrev pub is_address : List ℕ → Bool
is_address path = is_of_web path || (begins_so path (codes "ftp://") || begins_so path (codes "file://"))

-- where nothing lies: no path, an address, or the path of nothing
abbrev pub of_nothing : List ℕ → Seeming
of_nothing [] = seems.Empty
of_nothing (byte ∷ more) = if is_address (byte ∷ more) then seems.Address else seems.Nothing

-- a folder: of a feed, round the folder of a feed, with a packed feed in it, or of other things
abbrev pub of_folder : Bool → Bool → Bool → Seeming
of_folder true has_inner has_packed = seems.Feed
of_folder false true has_packed = seems.Outer
of_folder false false true = seems.HoldsPacked
of_folder false false false = seems.Other

-- what a path seems to be, by what lies there
abbrev pub seeming_of : List ℕ → Found → Seeming
seeming_of path found.Nothing = of_nothing path
seeming_of path (found.File true) = seems.Packed
seeming_of path (found.File false) = seems.File
seeming_of path (found.Folder has_table has_inner has_packed) = of_folder has_table has_inner has_packed
