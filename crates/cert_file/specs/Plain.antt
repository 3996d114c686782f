-- Certificates without where they lie in memory.
use Rattle.std.specs.Prelude.{ℕ, List}
use Rattle.map_base.specs.declared.ids.LineId.{LineId}
use Rattle.octi_grid.specs.Walks.{PlainWalk}
use Rattle.order_proof.specs.Plain.{PlainProof, plain_proof}
use Rattle.cert_file.specs.declared.certificate.Certificate.{Certificate}

-- The numbers of nodes, segments and lines; the importance of lines, where it is above 1; the walk and the order of
-- each segment; what the orders cost; and the proof that none cost less.
pub record PlainCertificate : Type 0 where
  pub nodes : ℕ
  pub segs : ℕ
  pub lines : ℕ
  pub importance : List (LineId × ℕ)
  pub walks : List PlainWalk
  pub orders : List (List LineId)
  pub cost : ℕ
  pub proof : PlainProof

abbrev pub plain : Certificate → PlainCertificate
plain c = record {
  nodes = c.nodes;
  segs = c.segs;
  lines = c.lines;
  importance = c.importance;
  walks = c.walks;
  orders = c.orders.lists;
  cost = c.cost;
  proof = plain_proof c.proof;
}
