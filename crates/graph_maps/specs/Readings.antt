-- What a certificate's text is read as.
use Rattle.std.specs.Prelude.{ℕ, ◌==◌, List, [], codes, Option, Some, None, Result, Ok, Err, if◌then◌else◌}
use Rattle.map_base.specs.declared.ids.LineId.{LineId}
use Rattle.decimal_text.specs.Lines.{front}
use Rattle.cert_file.specs.Plain.{PlainCertificate}
use Rattle.cert_file.specs.Forms.{spoken_front, version_of, counts_of, importance_of, walk_in, order_of, cost_of}
use Rattle.cert_file.specs.Readers.{certificate_with}
use Rattle.cert_file.specs.Reading.{certificate_end}
use Rattle.graph_maps.specs.FrontReadings.{and_then, all_at, proof_at}

-- the importance of lines, which version 2 alone has
abbrev pub importance_at : ℕ → List ℕ → Option (List (LineId × ℕ) × List ℕ)
importance_at version text = if version == 2 then spoken_front (codes "importance") importance_of text else Some
    ([], text)

-- a certificate at the front of a text, line by line: the version, the counts, the importance of lines, the walks, the
-- orders, the cost, the proof
unfoldable pub certificate_at : List ℕ → Option (PlainCertificate × List ℕ)
certificate_at text =
    and_then (spoken_front (codes "octimap") version_of text)
    (λ version at_counts. and_then (spoken_front (codes "graph") counts_of at_counts)
    (λ counts at_importance. and_then (importance_at version at_importance)
    (λ importance at_walks. and_then (all_at (λ s. front (walk_in s)) 0 counts.segs at_walks)
    (λ walks at_orders. and_then (all_at (λ s. spoken_front (codes "order") (order_of s)) 0 counts.segs at_orders)
    (λ orders at_cost. and_then (spoken_front (codes "cost") cost_of at_cost)
    (λ cost at_proof. and_then (proof_at at_proof)
    (λ proof rest. Some (certificate_with counts importance walks orders cost proof, rest))))))))

-- what the lines say, where each has the form due, or else where the first begins that has not
abbrev pub unless_wrong : Result ℕ ℕ → Option (PlainCertificate × List ℕ) → Result PlainCertificate ℕ
unless_wrong (Err at) found = Err at
unless_wrong (Ok used) None = Err used
unless_wrong (Ok used) (Some x) = Ok x.0

-- The certificate whose text these bytes are; or, with Err, where the first line begins that has not the form due
-- there.
unfoldable pub certificate_in : List ℕ → Result PlainCertificate ℕ
certificate_in bytes = unless_wrong (certificate_end bytes) (certificate_at bytes)
