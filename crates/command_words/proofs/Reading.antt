-- From what `clap` says of the words to what they ask for.
use Rattle.std.proofs.Common.{◌≡◌, inl, inr, true, List, [], ◌∷◌, Option, None, Result, Ok, Err, refl, sym, ap, ◌∙◌, subst}
use Rattle.clap.specs.Walk.{Text}
use Rattle.clap.specs.Simple.{App, HasMatchesOf, is_simple, subcommand_of, subcommand_rows_of}
use Rattle.clap.specs.Faults.{fault_of, is_simple_and_free}
use Rattle.clap.specs.Kinds.{FailsBy, HasKind, IsAmong, Kinds}
use Rattle.clap.specs.Values.{kind_of}
use Rattle.clap.specs.declared.error.Error.{Error}
use Rattle.clap.specs.declared.error.kind.ErrorKind.{ErrorKind}
use Rattle.clap.specs.declared.error.kind.ErrorKind.TheVariants as kind
use Rattle.clap.specs.declared.parser.matches.ArgMatches.{ArgMatches}
use Rattle.command_words.specs.declared.command.Command.{Command}
use Rattle.command_words.specs.declared.fault.WordsFault.{WordsFault}
use Rattle.command_words.specs.declared.fault.WordsFault.TheVariants as fault
use Rattle.command_paths.specs.Sets.{sets_in}
use Rattle.command_words.specs.Asked.{Asked}
use Rattle.command_words.specs.Program.{octimap_app}
use Rattle.command_words.proofs.OnLiterals.{octimap_written_out}
use Rattle.command_words.specs.Words.{Matches, Reads, asked, faults, met, named_in, unless}

-- `clap` says exactly what such a command takes, and which faults it finds
program_is_simple : is_simple octimap_app ≡ true
unfolding octimap_written_out
program_is_simple = refl

program_is_free : is_simple_and_free octimap_app ≡ true
unfolding octimap_written_out
program_is_free = refl

-- words without a fault ask for what is met in them
asked_without : (words : List Text) → faults words ≡ [] → asked words ≡ named_in (sets_in words) (met words)
unfolding asked
asked_without words none = ap (λ (kinds : Kinds). unless kinds (named_in (sets_in words) (met words))) none

-- words with a fault ask for nothing
asked_with : (words : List Text) (k : ErrorKind) → IsAmong k (faults words) → asked words ≡ None
unfolding asked
asked_with words k among = by (faults words) among
  where
    by : (kinds : Kinds) → IsAmong k kinds → unless kinds (named_in (sets_in words) (met words)) ≡ None
    by [] among = absurd among
    by (x ∷ more) among = refl

-- nothing is asked for, whatever the fault
pub unmatched : (sets : List Text) (a : Option Asked) (f : WordsFault) → a ≡ None → Matches sets a (Err f)
unmatched sets a (fault.Usage text) none = none
unmatched sets a fault.NoMemory none = tt

pub unread : (a : Option Asked) (f : WordsFault) → a ≡ None → Reads a (Err f)
unread a (fault.Usage text) none = none
unread a fault.NoMemory none = tt

pub unread_as : (sets : List Text) (a : Option Asked) (f : WordsFault) → Matches sets a (Err f) → Reads a (Err f)
unread_as sets a (fault.Usage text) none = none
unread_as sets a fault.NoMemory none = tt

module _ (app : App) (is : app ≡ octimap_app) (words : List Text) where
  -- a parse that gives matches
  pub matched : (m : ArgMatches) → HasMatchesOf app words m → (is_simple_and_free app ≡ true → FailsBy (fault_of app words) (Ok m)) → Matches (sets_in words) (asked words) (Ok m)
  unfolding faults met
  matched m has fails =
      let none : faults words ≡ [] = sym (ap (λ (a : App). fault_of a words) is) ∙ fails (ap is_simple_and_free is ∙ program_is_free) in
      let rows : subcommand_rows_of m ≡ met words = (has (ap is_simple is ∙ program_is_simple)).1 ∙ ap (λ (a : App). subcommand_of a words) is in
      asked_without words none ∙ ap (named_in (sets_in words)) (sym rows)

  -- a parse that is refused
  pub refused_parse : (e : Error) (f : WordsFault) → (is_simple_and_free app ≡ true → FailsBy {T = ArgMatches} (fault_of app words) (Err e))
      → (kind_of e ≡ kind.OutOfMemory → f ≡ fault.NoMemory) → Matches (sets_in words) (asked words) (Err f)
  unfolding faults
  refused_parse e f fails memory = by (fails (ap is_simple_and_free is ∙ program_is_free))
    where
      by : HasKind (fault_of app words) e → Matches (sets_in words) (asked words) (Err f)
      by (inl out) = subst (λ (g : WordsFault). Matches (sets_in words) (asked words) (Err g)) (sym (memory out)) tt
      by (inr among) =
          let here : IsAmong (kind_of e) (faults words) = subst (λ (a : App). IsAmong (kind_of e) (fault_of a words)) is among in
          unmatched (sets_in words) (asked words) f (asked_with words (kind_of e) here)

-- what is asked for, by another name
pub reads_as : (a b : Option Asked) (r : Result Command WordsFault) → a ≡ b → Reads b r → Reads a r
reads_as a b r is reads = subst (λ (o : Option Asked). Reads o r) (sym is) reads
