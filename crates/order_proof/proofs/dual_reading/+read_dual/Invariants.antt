use Rattle.order_proof.proofs.dual_reading.+read_dual.Given as goal

abbrev pub decreases-read_dual : goal.decreases-read_dual
decreases-read_dual l = l.room
