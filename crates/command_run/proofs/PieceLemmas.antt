-- Acts that are done as they come due, put together.
use Rattle.std.proofs.Common.{◌≡◌, ℕ, ◌+◌, ◌<◌, ◌≤◌, ◌⊎◌, inl, inr, List, [], ◌++◌, length, take, Option, None, Some, IsSome, IsErrOf, Result, Ok, Err, refl, sym, ap, ◌∙◌, subst, arith}
use Rattle.std.proofs.Math.Seq.{take-append-add, take-length}
use Rattle.std.proofs.lemmas.Bool.{cases_lt}
use Rattle.std.proofs.lemmas.List.{append-nil, take-append-le, take-map, take_all, length-map}
use Rattle.files_door.specs.declared.stop.Stop.{Stop}
use Rattle.files_door.specs.declared.stop.Stop.TheVariants.{Failed, NoMemory}
use Rattle.files_door.specs.declared.target.Target.{Target}
use Rattle.files_door.specs.Targets.{Written}
use Rattle.files_door.specs.Acts.{Act, put, puts, Does}
use Rattle.files_door.proofs.Acts.{Does-append, Does-nil}
use Rattle.command_run.specs.declared.output.Output.{Output}
use Rattle.command_run.specs.declared.delivery.Ending.TheVariants.{CutShort, OutOfMemory}
use Rattle.command_run.specs.Delivered.{outputs_acts, line_acts, no_memory_line, IsDelivered}
use Rattle.command_run.specs.Writing.{DoesSome}
use Rattle.command_run.proofs.ActLemmas.{front_after}
use Rattle.command_run.specs.Pieces.{DoesUpTo}

-- a beginning of a piece
pub piece_front : (current : Option Target) (piece : List ℕ) (n : ℕ) (old new : Option Written) → IsSome current → n < length piece → Does (puts current (take n piece)) old new → (m : ℕ) × (m < length (puts current piece)) × Does (take m (puts current piece)) old new
piece_front None piece n old new is fewer does = absurd (cc)
piece_front (Some to) piece n old new is fewer does = (
  n,
  omega (arith, fewer, length-map piece (put to)),
  subst (λ (a : List Act). Does a old new) (sym (take-map (put to) n piece)) does,
)

-- a call that does some of its acts does them as they come due
pub some_due : {T : Type 0} (acts : List Act) (old new : Option Written) (result : Result T Stop) → DoesSome acts old new result → DoesUpTo acts old new result
some_due acts old new (Ok done) whole = whole
some_due acts old new (Err stop) (n, fewer, front) = (n, λ failed. fewer, front)

-- no act is done before memory runs out
pub none_due : {T : Type 0} (acts : List Act) (old new : Option Written) (result : Result T Stop) → IsErrOf result NoMemory → new ≡ old → DoesUpTo acts old new result
none_due acts old new (Ok done) is same = absurd (cc)
none_due acts old new (Err stop) is same = (0, λ failed. absurd (cc), same ∙ Does-nil old)

-- what is refused leaves a beginning of all that was due, behind what was done before
pub due_after : (T U : Type 0) (done acts rest : List Act) (old mid new : Option Written) (stop : Stop) → Does done old mid → DoesUpTo {T = T} acts mid new (Err stop) → DoesUpTo {T = U} (done ++ (acts ++ rest)) old new (Err stop)
due_after T U done acts rest old mid new stop first (n, fewer, front) = by_place (cases_lt n (length acts))
  where
    by_place : (n < length acts) ⊎ (length acts ≤ n) → (m : ℕ) × (stop ≡ Failed → m < length (done ++ (acts ++ rest))) × Does (take m (done ++ (acts ++ rest))) old new
    by_place (inl less) = let found = front_after done acts rest n old mid new less first front in (found.0, λ failed. found.1, found.2)
    by_place (inr past) =
        let whole : take (length done + length acts) (done ++ (acts ++ rest)) ≡ done ++ acts = take-append-add done (acts ++ rest) (length acts) ∙ ap (λ (a : List Act). done ++ a) (take-append-le (length acts) acts rest (omega arith) ∙ take-length acts) in (
          length done + length acts,
          λ failed. absurd (let less : n < length acts = fewer failed in omega (arith, less, past)),
          subst (λ (a : List Act). Does a old new) (sym whole) (Does-append done acts old mid new first (subst (λ (a : List Act). Does a mid new) (take_all n acts past) front)),
        )

-- acts that were due are those of outputs: writing failed, and a beginning stands
pub delivered_failed : (T : Type 0) (outputs : List Output) (rose : Type 0) (old new : Option Written) → rose → DoesUpTo {T = T} (outputs_acts outputs) old new (Err Failed) → IsDelivered outputs [] rose old new CutShort
delivered_failed T outputs rose old new cause (n, fewer, front) = (n, cause, fewer refl, front)

-- memory ran out, and its line follows a beginning
pub delivered_left : (T : Type 0) (outputs : List Output) (rose : Type 0) (m : ℕ) (old mid new : Option Written) → DoesUpTo {T = T} (outputs_acts outputs) old mid (Err NoMemory) → Does (take m (line_acts no_memory_line)) mid new → IsDelivered outputs [] rose old new OutOfMemory
delivered_left T outputs rose m old mid new (n, fewer, front) last = (
  n,
  m,
  subst (λ (a : List Act). Does (take n a ++ take m (line_acts no_memory_line)) old new) (sym (append-nil (outputs_acts outputs)))
      (Does-append (take n (outputs_acts outputs)) (take m (line_acts no_memory_line)) old mid new front last),
)
