-- Acts that are done up to a place, put together.
use Rattle.std.proofs.Common.{append_assoc, ◌≡◌, ℕ, suc, ◌+◌, ◌<◌, List, [], ◌∷◌, ◌++◌, length, take, drop, map, get_or, Option, Some, Result, Ok, Err, sym, ap, ◌∙◌, subst, arith}
use Rattle.std.proofs.Math.Seq.{take-append-add, take-length, drop-cons}
use Rattle.std.proofs.lemmas.List.{append-nil, take-append-le, take-append-drop, take-map, take_more, length-append, length-map}
use Rattle.std.proofs.lemmas.Grind.{flat_map-append}
use Rattle.files_door.specs.declared.target.Target.{Target}
use Rattle.files_door.specs.Targets.{Written}
use Rattle.files_door.specs.Acts.{Act, begun, put, puts, Does}
use Rattle.files_door.proofs.Acts.{Does-append, Does-nil}
use Rattle.command_run.specs.declared.output.Output.{Output}
use Rattle.command_run.specs.declared.delivery.Ending.{Ending}
use Rattle.command_run.specs.declared.delivery.Ending.TheVariants.{Whole, CutShort, OutOfMemory}
use Rattle.command_run.specs.Delivered.{target_acts, output_acts, outputs_acts, line_acts, no_memory_line, IsSaid, IsDelivered}
use Rattle.command_run.specs.Writing.{DoesSome}

-- some of the acts are done, all of them counting as some
pub some_done : {T E : Type 0} (acts : List Act) (old new : Option Written) (result : Result T E) → DoesSome acts old new result → (n : ℕ) × Does (take n acts) old new
some_done acts old new (Ok done) all = (length acts, subst (λ (a : List Act). Does a old new) (sym (take-length acts)) all)
some_done acts old new (Err stop) front = (front.0, front.2)

-- no act is a beginning of acts of which there are some
pub none_done : (acts : List Act) (old new : Option Written) → 0 < length acts → new ≡ old → (n : ℕ) × (n < length acts) × Does (take n acts) old new
none_done acts old new some same = (0, some, same ∙ Does-nil old)

-- after acts that are done whole, a beginning of the acts that follow
pub front_after : (done acts rest : List Act) (n : ℕ) (old mid new : Option Written) → n < length acts → Does done old mid → Does (take n acts) mid new → (m : ℕ) × (m < length (done ++ (acts ++ rest))) × Does (take m (done ++ (acts ++ rest))) old new
front_after done acts rest n old mid new fewer first second =
    let front : take n (acts ++ rest) ≡ take n acts = take-append-le n acts rest (omega (arith, fewer)) in
    let whole : take (length done + n) (done ++ (acts ++ rest)) ≡ done ++ take n acts = take-append-add done (acts ++ rest) n ∙ ap (λ (a : List Act). done ++ a) front in (
      length done + n,
      omega (arith, fewer, length-append done (acts ++ rest), length-append acts rest),
      subst (λ (a : List Act). Does a old new) (sym whole) (Does-append done (take n acts) old mid new first second),
    )

-- a target is begun, and gets a beginning of its bytes
pub target_front : (to : Target) (current : Option Target) (bytes : List ℕ) (n : ℕ) (old mid new : Option Written) → current ≡ Some to → n < length bytes → Does (begun to ∷ []) old mid → Does (puts current (take n bytes)) mid new → (m : ℕ) × (m < length (target_acts to bytes)) × Does (take m (target_acts to bytes)) old new
target_front to current bytes n old mid new is fewer first second =
    let puts_to : Does (map (put to) (take n bytes)) mid new = subst (λ (c : Option Target). Does (puts c (take n bytes)) mid new) is second in
    let front : take n (map (put to) bytes) ≡ map (put to) (take n bytes) = take-map (put to) n bytes in (
      suc n,
      omega (arith, fewer, length-map bytes (put to)),
      subst (λ (a : List Act). Does (begun to ∷ a) old new) (sym front) (Does-append (begun to ∷ []) (map (put to) (take n bytes)) old mid new first puts_to),
    )

-- a target is begun, and gets all its bytes
pub target_whole : (to : Target) (current : Option Target) (bytes : List ℕ) (old mid new : Option Written) → current ≡ Some to → Does (begun to ∷ []) old mid → Does (puts current bytes) mid new → Does (target_acts to bytes) old new
target_whole to current bytes old mid new is first second =
    Does-append (begun to ∷ []) (map (put to) bytes) old mid new first (subst (λ (c : Option Target). Does (puts c bytes) mid new) is second)

-- the acts of outputs, split at one of them
pub outputs_split : (outputs : List Output) (i : ℕ) (output : Output) → i < length outputs → output ≡ get_or outputs i output → outputs_acts outputs ≡ outputs_acts (take i outputs) ++ (output_acts output ++ outputs_acts (drop (suc i) outputs))
outputs_split outputs i output within is =
    ap outputs_acts (sym (take-append-drop i outputs)) ∙ flat_map-append output_acts (take i outputs) (drop i outputs)
    ∙ ap (λ (os : List Output). outputs_acts (take i outputs) ++ outputs_acts os) (drop-cons outputs i output within ∙ ap (λ (o : Output). o ∷ drop (suc i) outputs) (sym is))

-- outputs are written up to one of them, of which a beginning is
pub outputs_front : (outputs : List Output) (i : ℕ) (output : Output) (n : ℕ) (old mid new : Option Written) → output ≡ get_or outputs i output → i < length outputs → n < length (output_acts output) → Does (outputs_acts (take i outputs)) old mid → Does (take n (output_acts output)) mid new → (m : ℕ) × (m < length (outputs_acts outputs)) × Does (take m (outputs_acts outputs)) old new
outputs_front outputs i output n old mid new is within fewer first second =
    let P : List Act → Type 0 = λ acts. (m : ℕ) × (m < length acts) × Does (take m acts) old new in
    subst P (sym (outputs_split outputs i output within is))
    (front_after (outputs_acts (take i outputs)) (output_acts output) (outputs_acts (drop (suc i) outputs)) n old mid new fewer first second)

-- one output more is written
pub outputs_more : (outputs : List Output) (i : ℕ) (output : Output) (old mid new : Option Written) → output ≡ get_or outputs i output → i < length outputs → Does (outputs_acts (take i outputs)) old mid → Does (output_acts output) mid new → Does (outputs_acts (take (i + 1) outputs)) old new
outputs_more outputs i output old mid new is within first second =
    let acts : List Act = output_acts output in
    let taken : take (i + 1) outputs ≡ take i outputs ++ output ∷ [] = take_more outputs i output within ∙ ap (λ (o : Output). take i outputs ++ o ∷ []) (sym is) in
    let split : outputs_acts (take (i + 1) outputs) ≡ outputs_acts (take i outputs) ++ acts =
    ap outputs_acts taken ∙ flat_map-append output_acts (take i outputs) (output ∷ []) ∙ ap (λ (a : List Act). outputs_acts (take i outputs) ++ a) (append-nil acts) in
    subst (λ (a : List Act). Does a old new) (sym split) (Does-append (outputs_acts (take i outputs)) acts old mid new first second)

-- a line is whole
pub said_whole : (line : List ℕ) (rose : Type 0) (old new : Option Written) → Does (line_acts line) old new → IsSaid line rose old new Whole
said_whole line rose old new does = (
  length (line_acts line),
  λ less. absurd (omega (arith, less)),
  subst (λ (a : List Act). Does a old new) (sym (take-length (line_acts line))) does,
)

-- memory runs out while a line is written
pub said_out : (line : List ℕ) (rose : Type 0) (n m : ℕ) (old mid new : Option Written) (ending : Ending) → ending ≡ OutOfMemory → Does (take n (line_acts line)) old mid → Does (take m (line_acts no_memory_line)) mid new → IsSaid line rose old new ending
said_out line rose n m old mid new ending out first second =
    subst (λ (e : Ending). IsSaid line rose old new e) (sym out) (n, m, Does-append (take n (line_acts line)) (take m (line_acts no_memory_line)) old mid new first second)

-- outputs are whole, and then a line follows
pub delivered_whole : (outputs : List Output) (line : List ℕ) (rose_first rose : Type 0) (old mid new : Option Written) (ending : Ending) → (rose_first → rose) → Does (outputs_acts outputs) old mid → IsSaid line rose_first mid new ending → IsDelivered outputs line rose old new ending
delivered_whole outputs line rose_first rose old mid new Whole widen first said =
    (said.0, λ less. widen (said.1 less), Does-append (outputs_acts outputs) (take said.0 (line_acts line)) old mid new first said.2)
delivered_whole outputs line rose_first rose old mid new CutShort widen first said = absurd said
delivered_whole outputs line rose_first rose old mid new OutOfMemory widen first said =
    let outs : List Act = outputs_acts outputs in
    let acts : List Act = take said.0 (line_acts line) in
    let last : List Act = take said.1 (line_acts no_memory_line) in
    let whole : take (length outs + said.0) (outs ++ line_acts line) ≡ outs ++ acts = take-append-add outs (line_acts line) said.0 in
    let order : take (length outs + said.0) (outs ++ line_acts line) ++ last ≡ outs ++ (acts ++ last) = ap (λ (a : List Act). a ++ last) whole ∙ append_assoc outs acts last in
    (length outs + said.0, said.1, subst (λ (a : List Act). Does a old new) (sym order) (Does-append outs (acts ++ last) old mid new first said.2))

-- memory runs out while outputs are written
pub delivered_out : (outputs : List Output) (line : List ℕ) (rose : Type 0) (n m : ℕ) (old mid new : Option Written) (ending : Ending) → ending ≡ OutOfMemory → n < length (outputs_acts outputs) → Does (take n (outputs_acts outputs)) old mid → Does (take m (line_acts no_memory_line)) mid new → IsDelivered outputs line rose old new ending
delivered_out outputs line rose n m old mid new ending out fewer first second =
    let outs : List Act = outputs_acts outputs in
    let front : take n (outs ++ line_acts line) ≡ take n outs = take-append-le n outs (line_acts line) (omega (arith, fewer)) in
    subst (λ (e : Ending). IsDelivered outputs line rose old new e) (sym out) (
      n,
      m,
      subst (λ (a : List Act). Does (a ++ take m (line_acts no_memory_line)) old new) (sym front) (Does-append (take n outs) (take m (line_acts no_memory_line)) old mid new first second),
    )

-- memory ran out before anything was written
pub delivered_nothing : (outputs : List Output) (line : List ℕ) (rose : Type 0) (m : ℕ) (old new : Option Written) → Does (take m (line_acts no_memory_line)) old new → IsDelivered outputs line rose old new OutOfMemory
delivered_nothing outputs line rose m old new does = (0, m, does)
