-- The faults of a function are those of its blocks' arguments and of its instructions, each at its point.
use Rattle.std.proofs.Common.{◌≡◌, ℕ, ◌+◌, List, subst, arith, ◌⊎◌, inl, inr, Some}
use Rattle.std.specs.Prelude.{slice_get}
use Rattle.sil_ast.specs.declared.function.Block.{Block}
use Rattle.sil_ast.specs.declared.function.Function.{Function}
use Rattle.sil_ast.specs.declared.inst.Inst.{Inst}
use Rattle.numbered_form.specs.Insts.{insts_of}
use Rattle.numbered_form.specs.PointChecks.Points.{IsAt}
use Rattle.numbered_form.specs.PointChecks.inner.Faults.{block_faults, faults_of, numbered}
use Rattle.numbered_form.specs.declared.point_checks.fault.PointFault.{PointFault}
use Rattle.numbered_form.proofs.PointChecks.Among.{Among, IsNumberedAt, among_either, among_left, among_numbered, among_right, numbered_among}

module _ (f : Function) (args_faults : ℕ → Block → List PointFault) (inst_faults : ℕ → ℕ → Inst → List PointFault) where
  -- where a fault is found
  pub data IsFound (y : PointFault) : Type 0 where
    at_args : (n : ℕ) (b : Block) → slice_get f.blocks n ≡ Some b → Among y (args_faults n b) → IsFound y
    at_inst : (n k : ℕ) (i : Inst) → IsAt f n k i → Among y (inst_faults n k i) → IsFound y

  found_in_block : (y : PointFault) (n : ℕ) (b : Block) → slice_get f.blocks n ≡ Some b → Among y (block_faults args_faults inst_faults n b) → IsFound y
  found_in_block y n b at h = by (among_either y (args_faults n b) (numbered (inst_faults n) 0 (insts_of b)) h)
    where
      insts : IsNumberedAt (inst_faults n) y (insts_of b) 0 → IsFound y
      insts r =
          let same : r.place ≡ r.number = (let e : r.number ≡ 0 + r.place = r.counts in omega arith) in
          at_inst n r.number r.element (record { within = b; is_block = at; is_inst = subst (λ k. slice_get (insts_of b) k ≡ Some r.element) same r.at }) r.among

      by : Among y (args_faults n b) ⊎ Among y (numbered (inst_faults n) 0 (insts_of b)) → IsFound y
      by (inl a) = at_args n b at a
      by (inr a) = insts (numbered_among (inst_faults n) y (insts_of b) 0 a)

  pub found : (y : PointFault) → Among y (faults_of args_faults inst_faults f) → IsFound y
  found y h = at (numbered_among (block_faults args_faults inst_faults) y f.blocks 0 h)
    where
      at : IsNumberedAt (block_faults args_faults inst_faults) y f.blocks 0 → IsFound y
      at r =
          let same : r.place ≡ r.number = (let e : r.number ≡ 0 + r.place = r.counts in omega arith) in
          found_in_block y r.number r.element (subst (λ n. slice_get f.blocks n ≡ Some r.element) same r.at) r.among

  in_faults : (y : PointFault) (n : ℕ) (b : Block) → slice_get f.blocks n ≡ Some b → Among y (block_faults args_faults inst_faults n b) → Among y (faults_of args_faults inst_faults f)
  in_faults y n b at a = among_numbered (block_faults args_faults inst_faults) y f.blocks 0 n n b at (omega arith) a

  pub args_in_faults : (y : PointFault) (n : ℕ) (b : Block) → slice_get f.blocks n ≡ Some b → Among y (args_faults n b) → Among y (faults_of args_faults inst_faults f)
  args_in_faults y n b at a = in_faults y n b at (among_left y (args_faults n b) (numbered (inst_faults n) 0 (insts_of b)) a)

  pub inst_in_faults : (y : PointFault) (n k : ℕ) (i : Inst) → IsAt f n k i → Among y (inst_faults n k i) → Among y (faults_of args_faults inst_faults f)
  inst_in_faults y n k i at a =
      in_faults y n at.within at.is_block
      (among_right y (args_faults n at.within) (numbered (inst_faults n) 0 (insts_of at.within))
      (among_numbered (inst_faults n) y (insts_of at.within) 0 k k i at.is_inst (omega arith) a))
