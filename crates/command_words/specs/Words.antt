-- What the words of the command line ask for.
use Rattle.std.specs.Prelude.{◌≡◌, ℕ, ◌^◌, ◌&&◌, ◌||◌, Bool, not, take_while, List, [], ◌∷◌, map, codes, if◌then◌else◌, Option, None, Some, option_and_then, nat_lt, Result, Ok, Err, ⊤, String, string_bytes, false}
use Rattle.std.specs.declared.alloc.Global.{Global}
use Rattle.std.specs.List.{list_any}
use Rattle.std.specs.Str.{bytes_eq}
use Rattle.std.specs.Str.Parse.{digits_value, without_leading_plus}
use Rattle.clap.specs.Walk.{Row, Text, first_of, one_of}
use Rattle.clap.specs.Simple.{subcommand_of, subcommand_rows_of}
use Rattle.clap.specs.Kinds.{Kinds}
use Rattle.clap.specs.declared.parser.matches.ArgMatches.{ArgMatches}
use Rattle.clap.specs.Faults.{fault_of}
use Rattle.clap.specs.ValueTests.{is_numeral}
use Rattle.map_method.specs.declared.defaults.Defaults.{Defaults}
use Rattle.map_method.specs.declared.defaults.Defaults.TheVariants.{Make, Map}
use Rattle.command_words.specs.declared.command.Command.{Command}
use Rattle.command_words.specs.declared.fault.WordsFault.{WordsFault}
use Rattle.command_words.specs.declared.fault.WordsFault.TheVariants as fault
use Rattle.command_paths.specs.Paths.{Chosen, MapPaths, NewPaths}
use Rattle.command_paths.specs.Sets.{sets_in}
use Rattle.command_paths.specs.declared.picture.Picture.{Picture}
use Rattle.command_paths.specs.declared.picture.Picture.TheVariants.{Labelled, Geographic, Poster}
use Rattle.command_words.specs.Asked.{Asked, asked_by, stations, graph, export, imported, make, improve, check, depict, session, trial, page}
use Rattle.command_words.specs.Program.{octimap_app}

-- one choice after another: none where the first is none
infixl 10 ◌>>=◌
abbrev pub ◌>>=◌ : {A B : Type 0} → Option A → (A → Option B) → Option B
first >>= next = option_and_then next first

-- the file of settings, if it is named, over these settings, and what is set in place of it; and no file of edits
unfoldable pub settings_in : Defaults → List Text → List Row → Chosen
settings_in defaults sets rows = record { defaults = defaults; settings = first_of (codes "settings") rows; edits = None; sets = sets }

-- the file of edits too, if it is named
unfoldable pub options_in : Defaults → List Text → List Row → Chosen
options_in defaults sets rows = record (settings_in defaults sets rows) { edits = first_of (codes "edits") rows }

-- where the map and its certificate lie
unfoldable pub paths_in : List Row → Option MapPaths
paths_in rows = do
  picture ← first_of (codes "SVG") rows
  certificate ← first_of (codes "CERT") rows
  Some (record { picture = picture; certificate = certificate })

-- the number of 32 bits that decimal digits spell; a `+` may stand before them
abbrev pub number_spelt : Text → Option ℕ
number_spelt text =
    let digits = without_leading_plus text in
    if is_numeral digits && nat_lt (digits_value 10 digits) (2 ^ 32) then Some (digits_value 10 digits) else None

-- the number that an argument's value spells
abbrev pub number_in : Text → List Row → Option ℕ
number_in name rows = option_and_then number_spelt (one_of name rows)

unfoldable pub stations_in : List Row → Option Asked
stations_in rows = do
  feed ← first_of (codes "FEED") rows
  Some (stations feed)

unfoldable pub graph_in : List Text → List Row → Option Asked
graph_in sets rows = do
  feed ← first_of (codes "FEED") rows
  Some (graph feed (options_in Make sets rows))

unfoldable pub export_in : List Text → List Row → Option Asked
export_in sets rows = do
  feed ← first_of (codes "FEED") rows
  out ← first_of (codes "OUT") rows
  Some (export feed out (options_in Make sets rows))

-- two paths, and not one
abbrev pub apart : MapPaths → Option MapPaths
apart paths = if bytes_eq paths.picture paths.certificate then None else Some paths

-- where a map and its certificate are to lie
unfoldable pub two_paths_in : List Row → Option MapPaths
two_paths_in rows = do
  paths ← paths_in rows
  apart paths

-- the settings of a graph file's map are those of `make`
unfoldable pub import_in : List Text → List Row → Option Asked
import_in sets rows = do
  json ← first_of (codes "JSON") rows
  paths ← two_paths_in rows
  Some (imported json paths (settings_in Make sets rows))

-- a page at a path of its own
abbrev pub page_apart : Option (List ℕ) → MapPaths → Option NewPaths
page_apart None paths = Some (record { map = paths; page = None })
page_apart (Some path) paths =
    if bytes_eq path paths.picture || bytes_eq path paths.certificate then None else Some (record { map = paths; page = Some path })

-- where a new map, its certificate and, if it is named, its page are to lie
unfoldable pub new_paths_in : List Row → Option NewPaths
new_paths_in rows = do
  paths ← two_paths_in rows
  page_apart (first_of (codes "page") rows) paths

-- by these settings where the user sets none
unfoldable pub make_in : Defaults → List Text → List Row → Option Asked
make_in defaults sets rows = do
  feed ← first_of (codes "FEED") rows
  paths ← new_paths_in rows
  Some (make feed paths (options_in defaults sets rows))

unfoldable pub improve_in : List Text → List Row → Option Asked
improve_in sets rows = do
  feed ← first_of (codes "FEED") rows
  paths ← two_paths_in rows
  moves ← number_in (codes "MOVES") rows
  Some (improve feed paths moves (options_in Make sets rows))

unfoldable pub check_in : List Text → List Row → Option Asked
check_in sets rows = do
  feed ← first_of (codes "FEED") rows
  paths ← paths_in rows
  Some (check feed paths (options_in Make sets rows))

unfoldable pub picture_in : Picture → List Text → List Row → Option Asked
picture_in kind sets rows = do
  feed ← first_of (codes "FEED") rows
  certificate ← first_of (codes "CERT") rows
  out ← first_of (codes "OUT") rows
  Some (depict kind feed certificate out (options_in Make sets rows))

unfoldable pub session_in : List Text → List Row → Option Asked
session_in sets rows = do
  feed ← first_of (codes "FEED") rows
  script ← first_of (codes "SCRIPT") rows
  out ← first_of (codes "OUT") rows
  Some (session feed script out (settings_in Make sets rows))

unfoldable pub trial_in : List Row → Option Asked
trial_in rows = do
  number ← number_in (codes "N") rows
  Some (trial number)

-- a page is made at another path than that of its map
abbrev pub page_at : List ℕ → List ℕ → Option Asked
page_at map html = if bytes_eq map html then None else Some (page map html)

unfoldable pub page_in : List Row → Option Asked
page_in rows = do
  map ← first_of (codes "SVG") rows
  html ← first_of (codes "HTML") rows
  page_at map html

-- what the matches of the command of this name ask for, with what is set: the commands that neither make nor check the
-- map of a feed
unfoldable pub asked_else : List Text → Text → List Row → Option Asked
asked_else sets name rows =
    if bytes_eq name (codes "graph") then graph_in sets rows
    else if bytes_eq name (codes "export") then export_in sets rows
    else if bytes_eq name (codes "import") then import_in sets rows
    else if bytes_eq name (codes "stations") then stations_in rows
    else if bytes_eq name (codes "page") then page_in rows
    else if bytes_eq name (codes "trial") then trial_in rows
    else None

-- what the matches of the command of this name ask for, with what is set
unfoldable pub asked_as : List Text → Text → List Row → Option Asked
asked_as sets name rows =
    if bytes_eq name (codes "map") then make_in Map sets rows
    else if bytes_eq name (codes "make") then make_in Make sets rows
    else if bytes_eq name (codes "improve") then improve_in sets rows
    else if bytes_eq name (codes "check") then check_in sets rows
    else if bytes_eq name (codes "labels") then picture_in Labelled sets rows
    else if bytes_eq name (codes "geo") then picture_in Geographic sets rows
    else if bytes_eq name (codes "poster") then picture_in Poster sets rows
    else if bytes_eq name (codes "session") then session_in sets rows
    else asked_else sets name rows

-- what a command that was met asks for
abbrev pub named_in : List Text → Option (Text × List Row) → Option Asked
named_in sets met = option_and_then (λ command. asked_as sets command.0 command.1) met

-- the faults that `clap` finds in the words, requests for help among them, by the definition of the program
unfoldable pub faults : List Text → Kinds
faults words = fault_of octimap_app words

-- the command that `clap` meets in the words, with its matches
unfoldable pub met : List Text → Option (Text × List Row)
met words = subcommand_of octimap_app words

-- nothing is asked for where there is a fault
abbrev pub unless : Kinds → Option Asked → Option Asked
unless [] read = read
unless (fault ∷ more) read = None

-- The words after the program's name ask for the command that `clap` reads in them by the definition of the program.
-- Where `clap` finds a fault in them, requests for help among them, they ask for none; nor where a map and its
-- certificate, or a page and its map or certificate, are to be one file.
unfoldable pub asked : List Text → Option Asked
asked words = unless (faults words) (named_in (sets_in words) (met words))

abbrev pub asked_in : List (String Global) → Option Asked
asked_in words = asked (map string_bytes words)

-- what the matches of words give: what the words ask for, or where they ask for nothing the text for the user; or
-- memory ran out
abbrev pub Matches : List Text → Option Asked → Result ArgMatches WordsFault → Type 0
Matches sets asked (Ok matches) = asked ≡ named_in sets (subcommand_rows_of matches)
Matches sets asked (Err (fault.Usage text)) = asked ≡ None
Matches sets asked (Err fault.NoMemory) = ⊤

-- what reading words gives: the command that they ask for, or where they ask for none the text for the user; or memory
-- ran out
abbrev pub Reads : Option Asked → Result Command WordsFault → Type 0
Reads asked (Ok command) = asked ≡ Some (asked_by command)
Reads asked (Err (fault.Usage text)) = asked ≡ None
Reads asked (Err fault.NoMemory) = ⊤

-- the flag that leaves out the lines on standard error
abbrev pub is_quiet_flag : String Global → Bool
is_quiet_flag word = bytes_eq (string_bytes word) (codes "--quiet") || bytes_eq (string_bytes word) (codes "-q")

-- whether it stands among the words, before any `--`
abbrev pub is_quiet_in : List (String Global) → Bool
is_quiet_in words = list_any is_quiet_flag (take_while (λ word. not (bytes_eq (string_bytes word) (codes "--"))) words)

-- the first word asks for the version of the program
abbrev pub asks_version : List (String Global) → Bool
asks_version [] = false
asks_version (word ∷ more) = bytes_eq (string_bytes word) (codes "--version") || bytes_eq (string_bytes word) (codes "-V")
