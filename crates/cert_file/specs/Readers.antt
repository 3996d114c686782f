-- What readers of parts of a certificate answer.
use Rattle.std.specs.Prelude.{◌≡◌, ℕ, ◌≤◌, List, ◌++◌, length}
use Rattle.std.specs.List.{AllByRecursion}
use Rattle.map_base.specs.declared.ids.LineId.{LineId}
use Rattle.octi_grid.specs.Walks.{PlainWalk, IsWalk}
use Rattle.cert_file.specs.declared.counts.Counts.{Counts}
use Rattle.cert_file.specs.Forms.{most_nodes, most_segs, most_lines, most_cost}
use Rattle.cert_file.specs.Text.{version_of, version_text, counts_text, importance_text, walks_text, orders_text, cost_text, certificate_text}
use Rattle.order_proof.specs.Plain.{PlainProof}
use Rattle.order_proof.specs.Text.{proof_text}
use Rattle.order_proof.specs.Ranges as proofs
use Rattle.cert_file.specs.Plain.{PlainCertificate}
use Rattle.cert_file.specs.Ranges.{ArePairs, IsOrder, IsInRange}

-- the importance that a version has stands at the front of a text, and the rest behind it
pub record AreImportanceOf (version : ℕ) (pairs : List (LineId × ℕ)) (text rest : List ℕ) : Type 0 where
  pub version_is : version_of pairs ≡ version
  pub range : ArePairs 0 pairs
  pub front : text ≡ importance_text pairs ++ rest

-- so many walks
pub record AreWalksOf (count : ℕ) (walks : List PlainWalk) (text rest : List ℕ) : Type 0 where
  pub counted : length walks ≡ count
  pub range : AllByRecursion IsWalk walks
  pub front : text ≡ walks_text 0 walks ++ rest

-- so many orders
pub record AreOrdersOf (count : ℕ) (orders : List (List LineId)) (text rest : List ℕ) : Type 0 where
  pub counted : length orders ≡ count
  pub range : AllByRecursion IsOrder orders
  pub front : text ≡ orders_text 0 orders ++ rest

-- what stands between the counts and the proof
pub record IsBodyOf (version segs : ℕ) (importance : List (LineId × ℕ)) (walks : List PlainWalk) (orders : List (List LineId)) (cost : ℕ) (text rest : List ℕ) : Type 0 where
  pub version_is : version_of importance ≡ version
  pub pairs : ArePairs 0 importance
  pub walks_each : length walks ≡ segs
  pub each_walk : AllByRecursion IsWalk walks
  pub orders_each : length orders ≡ segs
  pub each_order : AllByRecursion IsOrder orders
  pub small : cost ≤ most_cost
  pub front : text ≡ importance_text importance ++ (walks_text 0 walks ++ (orders_text 0 orders ++ (cost_text cost ++ rest)))

-- a version: 1 or 2
abbrev pub IsVersion : ℕ → Type 0
IsVersion version = (1 ≤ version) × (version ≤ 2)

-- what stands before the proof
pub record IsHeadOf (n : Counts) (importance : List (LineId × ℕ)) (walks : List PlainWalk) (orders : List (List LineId)) (cost : ℕ) (text rest : List ℕ) : Type 0 where
  pub few_nodes : n.nodes ≤ most_nodes
  pub few_segs : n.segs ≤ most_segs
  pub few_lines : n.lines ≤ most_lines
  pub pairs : ArePairs 0 importance
  pub walks_each : length walks ≡ n.segs
  pub each_walk : AllByRecursion IsWalk walks
  pub orders_each : length orders ≡ n.segs
  pub each_order : AllByRecursion IsOrder orders
  pub small : cost ≤ most_cost
  pub front : text ≡ version_text importance ++ (counts_text n.nodes n.segs n.lines ++ (importance_text importance ++ (walks_text 0 walks ++ (orders_text 0 orders ++ (cost_text cost ++ rest)))))

-- bytes are the text of a proof in range
pub record IsWholeProof (p : PlainProof) (bytes : List ℕ) : Type 0 where
  pub range : proofs.IsInRange p
  pub text : bytes ≡ proof_text p

-- bytes are the text of a certificate in range
pub record IsTextOf (c : PlainCertificate) (bytes : List ℕ) : Type 0 where
  pub range : IsInRange c
  pub text : bytes ≡ certificate_text c

-- the certificate of these parts
abbrev pub certificate_with : Counts → List (LineId × ℕ) → List PlainWalk → List (List LineId) → ℕ → PlainProof → PlainCertificate
certificate_with n importance walks orders cost proof = record {
  nodes = n.nodes;
  segs = n.segs;
  lines = n.lines;
  importance = importance;
  walks = walks;
  orders = orders;
  cost = cost;
  proof = proof;
}
