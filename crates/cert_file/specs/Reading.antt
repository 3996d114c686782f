-- Reading a certificate line by line: what is due next, and the first line that has not the form due.
use Rattle.std.specs.Prelude.{ℕ, zero, suc, ◌+◌, ◌-◌, ◌==◌, List, [], ◌∷◌, ◌++◌, length, Option, option_map, Result, Ok, Err, if◌then◌else◌}
use Rattle.decimal_text.specs.Reading.{reading}
use Rattle.order_proof.specs.Reading.{proof_end}
use Rattle.cert_file.specs.Forms.{version_in, counts_in, importance_in, walk_in, orders_in, cost_in}

-- What may be due before the proof: the version; the counts of a version; the importance of lines; the walk of segment
-- s, and those of so many more; the order of segment s, and those of so many more; the cost.
pub data Due : Type 0 where
  Version : Due
  AllCounts : (version : ℕ) → Due
  Importance : Due
  AWalk : (s more : ℕ) → Due
  AnOrder : (s more : ℕ) → Due
  Cost : Due

-- the importance of lines is due in version 2 alone
abbrev pub importance_due : ℕ → List Due
importance_due version = if version == 2 then Importance ∷ [] else []

-- so many walks, and orders, from segment s on
abbrev pub walks_due : ℕ → ℕ → List Due
walks_due s zero = []
walks_due s (suc more) = AWalk s more ∷ []

abbrev pub orders_due : ℕ → ℕ → List Due
orders_due s zero = []
orders_due s (suc more) = AnOrder s more ∷ []

-- what is due after the counts
abbrev pub rest_due : ℕ → ℕ → List Due
rest_due version segs = importance_due version ++ (walks_due 0 segs ++ (orders_due 0 segs ++ Cost ∷ []))

-- what is due in place of something after a line, none where the line has not the form due
abbrev pub after : Due → List (List ℕ) → Option (List Due)
after Version words = option_map (λ version. AllCounts version ∷ []) (version_in words)
after (AllCounts version) words = option_map (λ counts. rest_due version counts.segs) (counts_in words)
after Importance words = option_map (λ _. []) (importance_in words)
after (AWalk s more) words = option_map (λ _. walks_due (suc s) more) (walk_in s words)
after (AnOrder s more) words = option_map (λ _. orders_due (suc s) more) (orders_in s words)
after Cost words = option_map (λ _. []) (cost_in words)

-- What is left of a text behind a certificate's lines before its proof; or, with Err, what is left from the start of
-- the first line on that has not the form due there.
abbrev pub head_end : List ℕ → Result (List ℕ) (List ℕ)
head_end text = reading after (Version ∷ []) text

-- where a proof ends, or stops, that begins at a place and may have nothing behind it: so many bytes are left there
abbrev pub proof_place : ℕ → ℕ → Result ℕ ℕ → Result ℕ ℕ
proof_place at left (Ok used) = if used == left then Ok (at + used) else Err (at + used)
proof_place at left (Err stop) = Err (at + stop)

abbrev pub whole_end : List ℕ → Result (List ℕ) (List ℕ) → Result ℕ ℕ
whole_end text (Ok rest) = proof_place (length text - length rest) (length rest) (proof_end rest)
whole_end text (Err rest) = Err (length text - length rest)

-- The length of a text that is a certificate's; or, with Err, where the first line begins that has not the form due
-- there: behind the certificate where more follows, and at the end of the text where a line is missing.
abbrev pub certificate_end : List ℕ → Result ℕ ℕ
certificate_end text = whole_end text (head_end text)
