use Rattle.std.proofs.Common.{◌≡◌, refl, sym, ◌∙◌, ap, subst, ℕ, zero, suc, ◌+◌, ◌*◌, ◌/◌, ◌<◌, ◌≤◌, cond, eqb, arith}
use Rattle.drawing_search.proofs.Common.{attempt_by, ne_eqb, scale_of, IsFitting, IsSettled, Sketch, Tried}
use Rattle.drawing_search.proofs.Alikes.{alike_self}
use Rattle.drawing_search.proofs.TriedGroups.{all_tried, attempt_at, attempts_many, one_more}
use Rattle.drawing_search.proofs.trying.Search.try_group.Goals as goal

-- numbers of vectors and their steps
few_vectors : (n i : ℕ) → n ≤ 4 → i < cond (eqb n 0) 1 (8 * n) → i < 32
few_vectors zero i few h = omega (arith, h)
few_vectors (suc n) i few h = let more : i < 8 * suc n = subst (λ b. i < cond b 1 (8 * suc n)) (ne_eqb (suc n) 0 (λ e. absurd (omega (arith, e)))) h in omega (arith, few, more)

few_steps : (n i count : ℕ) → n ≤ 4 → i < cond (eqb n 0) 1 (8 * n) → count ≡ cond (eqb n 0) 0 (2 * (i / 8 + 1)) → count ≤ 8
few_steps zero i count few h is = omega (arith, is)
few_steps (suc n) i count few h is =
    let no = ne_eqb (suc n) 0 (λ e. absurd (omega (arith, e))) in
    let more : i < 8 * suc n = subst (λ b. i < cond b 1 (8 * suc n)) no h in
    let same : count ≡ 2 * (i / 8 + 1) = is ∙ ap (λ b. cond b 0 (2 * (i / 8 + 1))) no in
    omega (arith, few, more, same)

pub loop-i-init : goal.loop-i-init
loop-i-init c = record { whole = c.args.self.now.sketch; settled = c.requires.settled; lifted = c.in_ok-lifted.ensures; rest = refl; few = c.requires.most }

pub vector_of-vector-requires-clause-i : goal.vector_of-vector-requires-clause-i
vector_of-vector-requires-clause-i c = few_vectors c.args.group.now.lengths c.loop-i.i c.requires.lengths (omega (arith, c.loop-i-test.true, c.vectors_of-i-end.ensures))

pub try_vector-requires-clause-count : goal.try_vector-requires-clause-count
try_vector-requires-clause-count c =
    few_steps c.args.group.now.lengths c.loop-i.i c.vector_of-vector.result.count c.requires.lengths (omega (arith, c.loop-i-test.true, c.vectors_of-i-end.ensures)) c.vector_of-vector.ensures.count

pub try_vector-requires-clause-off : goal.try_vector-requires-clause-off
try_vector-requires-clause-off c =
    let g = c.args.group.now in
    let i = c.loop-i.i in
    let v = c.vector_of-vector.result in
    let t = c.loop-i.invariant in
    let below : i < cond (eqb g.lengths 0) 1 (8 * g.lengths) = omega (arith, c.loop-i-test.true, c.vectors_of-i-end.ensures) in
    let is = attempt_at g i (attempt_by g v) v below c.vector_of-vector.ensures.dir c.vector_of-vector.ensures.count in
    record {
      whole = t.whole;
      settled = t.settled;
      fitting = subst (IsFitting c.args.field.graph.now) is (c.requires.fitting i (attempt_by g v) (subst (λ n. i < n) (sym (attempts_many g)) below));
      lifted = t.lifted;
      apart = c.requires.apart;
    }

pub loop-i-preserved : goal.loop-i-preserved
loop-i-preserved c =
    let f = c.args.field in
    let g = c.args.group.now in
    let i = c.loop-i.i in
    let v = c.vector_of-vector.result in
    let t = c.loop-i.invariant in
    let s = c.loop-i.self in
    let new = c.try_vector.new.self in
    let below : i < cond (eqb g.lengths 0) 1 (8 * g.lengths) = omega (arith, c.loop-i-test.true, c.vectors_of-i-end.ensures) in
    let is = attempt_at g i (attempt_by g v) v below c.vector_of-vector.ensures.dir c.vector_of-vector.ensures.count in
    one_more (scale_of f.by) f.graph.now f.first.now g c.args.most (record { sketch = c.args.self.now.sketch; made = c.args.self.now.made }) i s.sketch s.weight s.made c.loop-i.lifted t v (subst (λ n. i < n) (sym (attempts_many g)) below) is
    new.sketch new.weight new.made c.in_ok-lifted-2.lifted (c.in_ok-lifted-2.ensures t.whole (record { settled = t.settled; lifted = t.lifted; few = t.few }))

pub put_back-requires : goal.put_back-requires
put_back-requires c = c.loop-i.invariant.lifted.can c.loop-i.self.sketch (alike_self c.loop-i.self.sketch)

pub returns : goal.returns
returns c =
    let f = c.args.field in
    let t = c.loop-i.invariant in
    let k = c.loop-i.self.sketch in
    let g = c.args.group.now in
    let s = c.loop-i.self in
    record {
      settled = subst (λ (j : Sketch). IsSettled (scale_of f.by) f.graph.now f.first.now j c.loop-i.self.weight) (sym (c.put_back.ensures ∙ t.lifted.back k (alike_self k))) t.settled;
      tried =
          ap (λ (j : Sketch). (let x : Tried = record { sketch = j; made = s.made } in x)) (c.put_back.ensures ∙ t.lifted.back s.sketch (alike_self s.sketch))
          ∙ all_tried (scale_of f.by) f.graph.now f.first.now g c.args.most (record { sketch = c.args.self.now.sketch; made = c.args.self.now.made }) c.loop-i.i s.sketch s.weight s.made c.loop-i.lifted t
          (omega (arith, attempts_many g, c.loop-i-test.false, c.vectors_of-i-end.ensures));
    }
